use Rattle.std.proofs.Common.{false, arith}
use Rattle.tree_types.specs.Met.{is_behind}
use Rattle.tree_types.proofs.Meeting.{table_more, table_all, nothing_met}
use Rattle.tree_types.proofs.recursion.none_met.Goals as goal

pub each-preserved : goal.each-preserved
each-preserved c = λ x.
    table_more (λ d. is_behind 0 c.args.types.now x d.name.text) c.args.types.now c.each.definition-index c.definition-item.result c.each.met.items c.push.new.self.items false c.each-test.true c.definition-item.is
    c.in_ok-push.ensures.items (nothing_met c.args.types.now x c.definition-item.result.name.text) (c.each.invariant x)

pub returns : goal.returns
returns c = λ x. table_all (λ d. is_behind 0 c.args.types.now x d.name.text) c.args.types.now c.each.definition-index c.each.met.items (omega (arith, c.each-test.false)) (c.each.invariant x)
