use Rattle.std.proofs.Common.{arith}
use Rattle.tree_types.proofs.Heads.{head_next, head_last}
use Rattle.tree_types.proofs.names.head_of.Goals as goal

pub names-preserved : goal.names-preserved
names-preserved c = head_next c.args.types.now c.names.place c.names.head.now c.behind_name-head.result.now c.args.kind.now c.behind_name-head.ensures c.names.invariant

pub returns : goal.returns
returns c = head_last c.args.types.now c.names.place c.names.head.now c.args.kind.now (omega (arith, c.names-test.false, c.names.auto)) c.names.invariant
