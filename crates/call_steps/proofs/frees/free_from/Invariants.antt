use Rattle.std.proofs.Common.{◌≡◌, drop}
use Rattle.sym_states.specs.Attempts.{frees_from}
use Rattle.call_steps.specs.Frees.{with_frees}
use Rattle.call_steps.proofs.frees.free_from.Given as goal

abbrev pub invariant-nodes : goal.invariant-nodes
invariant-nodes g l = record {
  counted : l.place ≡ l.node-index;
  freed : with_frees (frees_from l.frame l.place (drop l.node-index l.nodes)) l.memory ≡ with_frees (frees_from l.frame 0 l.nodes) l.initial.memory;
}
