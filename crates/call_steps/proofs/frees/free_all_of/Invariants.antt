use Rattle.std.proofs.Common.{◌≡◌, ◌+◌, ◌-◌}
use Rattle.sym_states.specs.Attempts.{frees_of_node}
use Rattle.call_steps.specs.Frees.{with_frees}
use Rattle.call_steps.proofs.frees.free_all_of.Given as goal

abbrev pub invariant-counts : goal.invariant-counts
invariant-counts g l = with_frees (frees_of_node l.frame l.node.0 (l.count - l.before) (l.before + 1)) l.memory ≡ with_frees (frees_of_node l.frame l.node.0 l.count 1) l.initial.memory
