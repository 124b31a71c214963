use Rattle.std.proofs.Common.{arith}
use Rattle.sym_states.specs.Attempts.{frees_of_node}
use Rattle.call_steps.specs.Frees.{with_frees}
use Rattle.call_steps.proofs.Freed.{freed-more}
use Rattle.call_steps.proofs.frees.free_all_of.Goals as goal

pub counts-preserved : goal.counts-preserved
counts-preserved g c =
    freed-more c.args.frame.now c.args.node.0 c.args.count c.counts.before c.in_ok-made.made c.free.result c.counts.memory c.append.new.memory
    (with_frees (frees_of_node c.args.frame.now c.args.node.0 c.args.count 1) c.args.memory.now)
    (omega arith) c.in_ok-made.ensures c.free.ensures c.in_ok-append.ensures.ok c.counts.invariant
