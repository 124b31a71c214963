use Rattle.least.specs.Sets.{has}
use Rattle.control_closure.proofs.SumsUp.{skipped_below}
use Rattle.control_closure.proofs.summing.count_target.Goals as goal

pub returns-else-retained-target-clause-below : goal.returns-else-retained-target-clause-below
returns-else-retained-target-clause-below c =
    skipped_below c.args.graph.now.succ (has c.args.retained.now) c.args.target c.args.mets.now c.if-retained-target.false c.requires.below
