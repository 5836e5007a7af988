-- What is lent for a check: what of it stays, what room it has, and what is entered.
use denote.Ref.{MutBor}
use Rattle.std.specs.Prelude.{◌≡◌, List, ℕ, ◌+◌, ◌*◌, ◌≤◌, length, set}
use Rattle.ground.specs.Parts.{splice}
use Rattle.names.specs.Index.{definition_width, last_column}
use Rattle.names.specs.Chains.{keys}
use Rattle.names.specs.Rows.{definition_row}
use Rattle.names.specs.declared.NewDefinition.{NewDefinition}
use Rattle.members.specs.Members.{attribute_width}
use Rattle.members.specs.Rows.{member_row}
use Rattle.members.specs.declared.NewAttribute.{NewAttribute}
use Rattle.tables.specs.Tables.{TablesFor}
use Rattle.state.specs.declared.State.{State}
use Rattle.state.specs.declared.desk.Desk.{Desk}

-- ---- what stays: all but one slice, which has other numbers
abbrev pub holding : MutBor (List ℕ) → List ℕ → MutBor (List ℕ)
holding m v = record { ref_ptr = m.ref_ptr; ghost_name = m.ghost_name; now = v }

abbrev desk_of : Desk → MutBor (List ℕ) → MutBor (List ℕ) → MutBor (List ℕ) → MutBor (List ℕ) → MutBor (List ℕ)
    → MutBor (List ℕ) → Desk
desk_of d book index rows chains hand tables = record {
  text = d.text;
  book = book;
  index = index;
  rows = rows;
  chains = chains;
  hand = hand;
  scratch = d.scratch;
  tables = tables;
}

abbrev pub with_book : Desk → List ℕ → Desk
with_book d v = desk_of d (holding d.book v) d.index d.rows d.chains d.hand d.tables

abbrev pub with_index : Desk → List ℕ → Desk
with_index d v = desk_of d d.book (holding d.index v) d.rows d.chains d.hand d.tables

abbrev pub with_rows : Desk → List ℕ → Desk
with_rows d v = desk_of d d.book d.index (holding d.rows v) d.chains d.hand d.tables

abbrev pub with_chains : Desk → List ℕ → Desk
with_chains d v = desk_of d d.book d.index d.rows (holding d.chains v) d.hand d.tables

abbrev pub with_hand : Desk → List ℕ → Desk
with_hand d v = desk_of d d.book d.index d.rows d.chains (holding d.hand v) d.tables

abbrev pub with_tables : Desk → List ℕ → Desk
with_tables d v = desk_of d d.book d.index d.rows d.chains d.hand (holding d.tables v)

-- the desk a, with what b has where a definition is written: in the book, the index and the chains
abbrev pub with_definition : Desk → Desk → Desk
with_definition a b = with_chains (with_index (with_book a b.book.now) b.index.now) b.chains.now

-- the same slices are lent, as long as they were
abbrev pub Lends : MutBor (List ℕ) → MutBor (List ℕ) → Type 0
Lends a b = (b ≡ holding a b.now) × (length b.now ≡ length a.now)

abbrev pub Stays : Desk → Desk → Type 0
Stays a b =
    (b.text ≡ a.text) × Lends a.book b.book × Lends a.index b.index × Lends a.rows b.rows × Lends a.chains b.chains
    × Lends a.hand b.hand × Lends a.scratch b.scratch × Lends a.tables b.tables

-- ---- what is written: the row of a new definition d or attribute a behind the last, and the last
-- attribute of the open class
abbrev pub with_row : State → List ℕ → NewDefinition → List ℕ
with_row st x d = splice x ((st.listing.count + 1) * definition_width) (definition_row d)

abbrev pub with_attribute_row : State → List ℕ → NewAttribute → List ℕ
with_attribute_row st y a = splice y ((st.listing.total + 1) * attribute_width) (member_row a)

abbrev pub with_last : State → List ℕ → List ℕ
with_last st x = set x ((st.listing.count + 1) * definition_width + last_column) st.listing.total

-- ---- room for the definitions and attributes of a state, and for one more of each, by the lengths of what is lent
pub record Room (index rows chains : ℕ) (st : State) : Type 0 where
  pub definitions : (st.listing.count + 3) * definition_width ≤ index
  pub attributes : (st.listing.total + 2) * attribute_width ≤ rows
  pub links : keys + keys + st.listing.count + 3 ≤ chains

abbrev pub Roomy : Desk → State → Type 0
Roomy d st = Room (length d.index.now) (length d.rows.now) (length d.chains.now) st

-- what is lent beside suffices
pub record Lengths (text book scratch tables : ℕ) : Type 0 where
  pub text_short : text ≤ 65535
  pub book_short : book ≤ 65535
  pub scratch_wide : 3 * text ≤ scratch
  pub scratch_short : scratch ≤ 262144
  pub tables_wide : TablesFor scratch book tables

abbrev pub Loan : Desk → Type 0
Loan d = Lengths (length d.text.now) (length d.book.now) (length d.scratch.now) (length d.tables.now)
