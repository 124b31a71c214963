use Rattle.std.proofs.Common.{Option, subst}
use Rattle.flow.specs.declared.undefined.Undefined.{Undefined}
use Rattle.checks.specs.Steps.{Tells}
use Rattle.checks.proofs.Firsts.{none_here, first_here}
use Rattle.checks.proofs.checking.undefined_at.Goals as goal

pub returns-then-first-node : goal.returns-then-first-node
returns-then-first-node c = λ f tells below.
    first_here f c.in-Some.first c.args.node (subst (λ (told : Option Undefined). Tells f told) c.in-Some.is tells) c.if-first-node.true

pub returns-else-first-node : goal.returns-else-first-node
returns-else-first-node c = λ f tells below.
    none_here f c.args.told c.args.node tells below (λ u e same. c.if-first-node.false (cc (e, same, c.in-Some.is)))

pub returns-in-None : goal.returns-in-None
returns-in-None c = λ f tells below. none_here f c.args.told c.args.node tells below (λ u e same. cc (e, c.in-None.is))
