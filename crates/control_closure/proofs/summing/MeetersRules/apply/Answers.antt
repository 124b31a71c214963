use Rattle.least.specs.Sets.{has}
use Rattle.control_closure.proofs.SumsUp.{held_only, tells_true}
use Rattle.control_closure.proofs.summing.MeetersRules.apply.Goals as goal

pub returns-then-holds-clause-only : goal.returns-then-holds-clause-only
returns-then-holds-clause-only c =
    held_only c.args.self.now.graph.now.succ (has c.args.self.now.retained.now) c.args.self.now.target _ c.args.set.now c.add.new.set
    c.args.self.now.kept c.requires.only (tells_true _ c.holds.result c.holds.ensures c.if-holds.true) c.add.ensures.only
