use Rattle.sym_machine.proofs.Placed.{found-fits}
use Rattle.sym_machine.proofs.advancing.executes_here.Goals as goal

pub executes-requires-clause-node : goal.executes-requires-clause-node
executes-requires-clause-node g c κs within = found-fits c.args.machine.now.scope.program.now c.func.result c.node-node.result c.in-Some.node.now c.in-Some.ensures c.requires.program
