use Rattle.std.specs.List.{AllByRecursion as Each}
use Rattle.std.proofs.Common.{arith, subst}
use Rattle.std.proofs.lemmas.List.{take_all}
use Rattle.sym_machine.specs.Numbers.{NumbersFit}
use Rattle.sym_machine.proofs.Walked.{nodes-all}
use Rattle.sym_machine.proofs.fitting.nodes_fit.Goals as goal

pub returns : goal.returns
returns c = nodes-all c.args.nodes.now (subst (Each NumbersFit) (take_all c.loop-node.node-index c.args.nodes.now (omega (arith, c.loop-node-test.false))) c.loop-node.invariant)
