use Rattle.control_closure.proofs.ClosedSets.{not_both}
use Rattle.least.specs.Sets.{has}
use Rattle.control_closure.proofs.SumsUp.{tells_iff}
use Rattle.control_closure.proofs.closing.is_added.Goals as goal

pub returns : goal.returns
returns c = tells_iff _ _ c.parts.result (λ e. not_both (has c.args.retained.now c.args.node) e c.if-retained-node.false) (c.parts.ensures (has c.args.retained.now) c.requires.sums)
