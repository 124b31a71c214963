use Rattle.std.proofs.Common.{◌≡◌, ◌-◌, [], ◌∷◌, length, arith, sym, ap, subst, length-append}
use Rattle.nodes.proofs.GrowthLemmas.{Builds, grows_none, builds_first, builds_more, builds_last}
use Rattle.rows.specs.Rows.{constant_bits}
use Rattle.row_nodes.proofs.MoveLemmas.{constant_more, constant_past}
use Rattle.row_nodes.proofs.constants.constant.Goals as goal

pub loop-init : goal.loop-init
loop-init c =
    let old = c.args.table.now in
    let whole = constant_bits c.args.width c.args.number in
    let e : c.args.width - 0 ≡ c.args.width = omega arith in
    record {
      sized = ap length c.new-row.ensures.items;
      builds = subst (λ w. Builds old old c.new-row.result.items (constant_bits w c.args.number) whole) (sym e) (builds_first old old c.new-row.result.items whole (grows_none old) c.new-row.ensures.items);
    }

pub loop-preserved : goal.loop-preserved
loop-preserved c = record {
  sized = omega (arith, ap length c.in_ok-push.ensures.items, length-append c.loop.row.items (c.in_ok-constant.field-0 ∷ []), c.loop.invariant.sized);
  builds = builds_more c.args.table.now c.loop.table c.constant.new.self c.loop.row.items c.push.new.self.items c.in_ok-constant.field-0 _ _ _ _ c.loop.invariant.builds (constant_more c.args.width c.loop.counter c.loop.rest c.loop-test.true) c.constant.ensures.grows c.in_ok-constant.ensures.within c.in_ok-constant.ensures.bit c.in_ok-push.ensures.items;
}

pub returns-clause-bits : goal.returns-clause-bits
returns-clause-bits c =
    builds_last c.args.table.now c.loop.table c.loop.row.items _ _ c.loop.invariant.builds (constant_past c.args.width c.loop.counter c.loop.rest c.loop-test.false)

pub returns-clause-within : goal.returns-clause-within
returns-clause-within c =
    c.loop.invariant.builds.within

pub returns-clause-grows : goal.returns-clause-grows
returns-clause-grows c =
    c.loop.invariant.builds.grows
