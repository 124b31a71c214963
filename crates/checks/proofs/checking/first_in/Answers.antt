use Rattle.std.proofs.Common.{arith}
use Rattle.checks.proofs.Firsts.{clean_more, clean_func}
use Rattle.checks.proofs.checking.first_in.Goals as goal

pub returns-in-Some : goal.returns-in-Some
returns-in-Some c = record { node = c.loop-node.node; fails = c.in-Some.ensures; lowest = c.loop-node.invariant }

pub loop-node-preserved : goal.loop-node-preserved
loop-node-preserved c = clean_more c.args.funcs.now c.args.func.now c.loop-node.node c.loop-node.invariant c.in-None.ensures

pub returns : goal.returns
returns c = clean_func c.args.funcs.now c.args.func.now c.requires (λ m lt. c.loop-node.invariant m (omega arith))
