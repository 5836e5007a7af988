-- What is lent has room for one more of each kind.
use Rattle.std.proofs.Common.{◌≡◌, ℕ, ◌+◌, ◌≤◌}
use native.Mathlib.Omega.{arith}
use Rattle.names.specs.Index.{Rows}
use Rattle.names.specs.Chains.{Links}
use Rattle.members.specs.Members.{AttributeRows}
use Rattle.state.specs.declared.State.{State}
use Rattle.state.specs.declared.desk.Desk.{Desk}
use Rattle.state.specs.Desks.{Roomy}

module _ (d : Desk) (st : State) (h : Roomy d st) where
  pub definition-rows : (p : ℕ) → p ≤ st.listing.count + 2 → Rows d.index.now p
  definition-rows p v = let r = h.definitions in omega arith

  pub attribute_rows : (q : ℕ) → q ≤ st.listing.total + 1 → AttributeRows d.rows.now q
  attribute_rows q v = let a = h.attributes in omega arith

  pub links : (p : ℕ) → p ≤ st.listing.count + 2 → Links d.chains.now p
  links p v = let b = h.links in omega arith
