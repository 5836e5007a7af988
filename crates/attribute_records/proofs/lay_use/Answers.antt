use mathlib.Core.Path.{sym}
use Rattle.std.proofs.lemmas.Result.{err_from_is_err_and}
use Prim.Native.Nat.{◌+◌}
use lib.Seq.{length-take-le}
use Rattle.rules.specs.Declarations.{ty_of}
use Rattle.rules.specs.Judge.{or_no_attribute}
use Rattle.book.specs.Sizes.{head_size}
use Rattle.names.specs.Index.{entry}
use Rattle.state.proofs.RoomLaws.{definition-rows}
use Rattle.attribute_records.proofs.LayLaws.{lays-there, based-is, base-fair, any-base, typed-naming}
use Rattle.attribute_records.proofs.LayLaws.{lay-broken, lay-reference, in-place-here, kept_there, lay-kept}
use Rattle.attribute_records.proofs.LayLaws.{based-none, valued-own, keeps-own, lay-in-place}
use native.Mathlib.Omega.{arith}
use Rattle.attribute_records.proofs.lay_use.Goals as goal

pub returns-in_err-descent_ruling-clause-value : goal.returns-in_err-descent_ruling-clause-value
returns-in_err-descent_ruling-clause-value c =
    let z = c.if-u-gt0.true in
    let i = err_from_is_err_and c.from_residual.result c.from_residual.ensures.1 in
    rw (i.1, i.2) (λ ks ms y total p v l.
    let (d, e, m) = lays-there l z in
    lay-broken l z d e (c.args.st.extent.used + head_size) c.args.desk.now.book.now c.args.desk.now.book.now _
    (c.in_err-descent_ruling.ensures ks ms y total d (entry ms c.args.u.base) l.ready e m (based-is l) (any-base l)
    l.used (typed-naming l z d e) l.typed))

pub returns-then-u-gt0-clause-value : goal.returns-then-u-gt0-clause-value
returns-then-u-gt0-clause-value c =
    let z = c.if-u-gt0.true in
    λ ks ms y total p v l.
    let (d, e, m) = lays-there l z in
    lay-reference l z d e (c.args.st.extent.used + head_size) c.args.desk.now.book.now _
    (c.in_ok-descent_ruling.ensures ks ms y total d (entry ms c.args.u.base) l.ready e m (based-is l) (any-base l)
    l.used (typed-naming l z d e) l.typed)
    c.lay_named.result (c.lay_named.ensures _ _ ks ms c.args.st.listing.count y total d l.ready.held e)

pub returns-then-k-gt0-clause-value : goal.returns-then-k-gt0-clause-value
returns-then-k-gt0-clause-value c =
    let z = c.if-u-gt0.false in
    λ ks ms y total p v l.
    let eu = c.use_at-k.ensures.v_value ks v (or_no_attribute (entry ms c.args.u.base)).use_of p l.meant
    l.names l.refers l.used in
    let (d, e) = kept_there l z c.use_at-k.result eu c.if-k-gt0.true
    (c.use_at-k.ensures.by_index c.args.st.listing.count c.requires.sized.2 c.requires.sized.3) in
    lay-kept l z c.use_at-k.result eu d e (c.args.st.extent.used + head_size)
    c.args.desk.now.book.now _ c.lay_named-then-k-gt0.result
    (c.lay_named-then-k-gt0.ensures _ _ ks ms c.args.st.listing.count y total d l.ready.held e)

pub returns-clause-value : goal.returns-clause-value
returns-clause-value c =
    let z = c.if-u-gt0.false in
    λ ks ms y total p v l.
    let base = (or_no_attribute (entry ms c.args.u.base)).use_of in
    let eu = c.use_at-k.ensures.v_value ks v base p l.meant l.names l.refers l.used in
    lay-in-place l z c.use_at-k.result eu c.if-k-gt0.false (c.args.st.extent.used + head_size)
    c.args.desk.now.book.now _ c.lay_written.result
    (c.lay_written.ensures v (entry ks p) (ty_of base) l.meant (in-place-here l z c.use_at-k.result eu)
    l.begins l.scratched l.once (base-fair l) (based-none l z c.use_at-k.result eu)
    (valued-own l z c.use_at-k.result eu) l.typed (keeps-own l z c.use_at-k.result eu))
