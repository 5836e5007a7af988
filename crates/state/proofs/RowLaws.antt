-- The row that the code writes of a new definition.
use mathlib.Core.Path.{◌≡◌, sym, ap, ◌∙◌}
use mathlib.Core.Bool.{false}
use mathlib.Core.List.{List, []}
use Prim.Native.Nat.{ℕ, ◌≤◌, ◌<◌}
use native.Mathlib.Omega.{arith}
use lib.ListN.{length, drop}
use lib.Seq.{drop-length}
use Rattle.rules.specs.Names.{Name}
use Rattle.rules.specs.Declarations.{Attribute, Def, attributes_of, name_count, sort_number}
use Rattle.rules.specs.Book.{flags}
use Rattle.rules.specs.Judge.{or_no_def, bases_of}
use Rattle.enumerations.specs.Standing.{InText}
use Rattle.ground.specs.declared.Name as code
use Rattle.names.specs.declared.NewDefinition.{NewDefinition}
use Rattle.names.specs.Index.{entry, home_number, Named, Says, Based}
use Rattle.names.specs.Rows.{definition_row}
use Rattle.members.specs.Members.{Unlike}
use Rattle.members.specs.Held.{heading, DefRow, OpenRow}
use Rattle.readers.specs.Reads.{name_cut}
use Rattle.book.specs.Places.{Stands}

pub in-text-named : (t : List ℕ) (n : Name) → InText t n → Named t n
in-text-named t n h = record { within = h.fits; same_bytes = h.there }

-- what w has of the definition d, whose position is p; no attribute of its own is there yet
pub record Tells (t : List ℕ) (ks : List Def) (ms : List Attribute) (p : ℕ) (d : Def) (w : NewDefinition) : Type 0 where
  pub in_text : InText t d.name
  pub named : w.name ≡ name_cut d.name
  pub home : w.home ≡ home_number d.home
  pub number : w.number ≡ d.number
  pub sort : w.sort ≡ sort_number d.sort
  pub flagged : w.flags ≡ flags d.abstract d.final false d.mandatory
  pub before : w.base < p
  pub bases : bases_of (entry ks w.base) ≡ d.bases
  pub inherits : attributes_of (or_no_def (entry ks w.base)) ≡ d.inherited
  pub first : w.first ≡ length ms
  pub own : d.own ≡ []
  pub few : name_count (attributes_of d) ≤ 256

module _ (t b : List ℕ) (ks : List Def) (ms : List Attribute) (p : ℕ) (d : Def) (w : NewDefinition)
    (h : Tells t ks ms p d w) (st : Stands b w.place (heading d.sort d)) where
  says : Says t d (definition_row w)
  says = record {
    named = in-text-named t d.name h.in_text;
    offset = ap (λ (n : code.Name). n.offset) h.named;
    size = ap (λ (n : code.Name). n.len) h.named;
    home = h.home;
    number = h.number;
    sort = h.sort;
    flagged = h.flagged;
  }

  based : Based ks p d (definition_row w)
  based = record { before = h.before; bases = h.bases; inherits = h.inherits }

  no_more : drop w.first ms ≡ d.own
  no_more = ap (λ (i : ℕ). drop i ms) h.first ∙ drop-length ms ∙ sym h.own

  no_own : Unlike d.own
  no_own = rw h.own tt

  -- a topic, a domain or a unit
  pub def_row : DefRow t b ks ms p d (definition_row w)
  def_row = record {
    says = says;
    based = based;
    owns = record {
      last = let e = ap length h.own in omega arith;
      within = let e = h.first in omega arith;
      more = [];
      own = no_more ∙ rw h.own;
      unlike = no_own;
      few = h.few;
    };
    stands = st;
  }

  -- a class that opens
  pub open_row : OpenRow t b ks ms p d (definition_row w)
  open_row = record {
    says = says;
    based = based;
    within = let e = h.first in omega arith;
    own = no_more;
    unlike = no_own;
    few = h.few;
    stands = st;
  }
