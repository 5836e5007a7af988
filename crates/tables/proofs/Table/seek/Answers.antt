use Rattle.std.proofs.Common.{◌≡◌, sym, ap, ◌∙◌, arith, rules}
use Rattle.tables.specs.Tables.{number_of}
use Rattle.tables.proofs.TableLaws.{earlier, earlier-all, earlier-low, behind-none, behind-hit, behind-on, behind-up}
use Rattle.tables.proofs.Table.seek.Goals as goal

pub overflow_add-result : goal.overflow_add-result
overflow_add-result c = omega (arith, ap number_of c.in-Some.is, c.loop-at.invariant.0)

pub returns-then-is_hit : goal.returns-then-is_hit
returns-then-is_hit c =
    let t = c.args.self.now in
    λ es p F. behind-hit t.text.now t.s.now t.grid t.numbers.now c.args.list c.args.name es (number_of c.loop-at.at)
    (c.loop-at.invariant.1 es p F) c.in-Some.p (ap number_of c.in-Some.is) (sym c.is_hit.ensures ∙ c.if-is_hit.true)

pub loop-at-preserved : goal.loop-at-preserved
loop-at-preserved c =
    let t = c.args.self.now in
    let e : c.filter-at.result ≡ earlier c.in-Some.p c.cell.result = search rules in (
      rw e (omega (arith, earlier-low c.in-Some.p c.cell.result, c.cell.ensures.1)),
      λ es p F.
          let B = c.loop-at.invariant.1 es p F in
          let n = ap number_of c.in-Some.is in
          let u = behind-up t.text.now t.s.now t.grid t.numbers.now c.args.list c.args.name es
          (number_of c.loop-at.at) B c.in-Some.p n (number_of c.cell.result) c.cell.ensures.0 in
          rw (e, earlier-all c.in-Some.p c.cell.result u)
          (behind-on t.text.now t.s.now t.grid t.numbers.now c.args.list c.args.name es (number_of c.loop-at.at) B
          c.in-Some.p n (sym c.is_hit.ensures ∙ c.if-is_hit.false) (number_of c.cell.result) c.cell.ensures.0),
    )

pub returns : goal.returns
returns c =
    let t = c.args.self.now in
    λ es p F. behind-none t.text.now t.s.now t.grid t.numbers.now c.args.list c.args.name es (number_of c.loop-at.at)
    (c.loop-at.invariant.1 es p F) (ap number_of c.in_default.is)
