use Rattle.std.specs.Prelude.{take}
use Rattle.std.specs.List.{AllByRecursion as Each}
use Rattle.sym_machine.specs.Numbers.{NumbersFit}
use Rattle.sym_machine.proofs.fitting.nodes_fit.Given as goal

abbrev pub invariant-loop-node : goal.invariant-loop-node
invariant-loop-node l = Each NumbersFit (take l.node-index l.nodes)
