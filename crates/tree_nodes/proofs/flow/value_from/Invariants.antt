use Rattle.std.proofs.Common.{◌≡◌, drop}
use Rattle.ir_programs.specs.Flow.{value_from}
use Rattle.tree_nodes.proofs.flow.value_from.Given as goal

abbrev pub invariant-loop-value : goal.invariant-loop-value
invariant-loop-value l = value_from l.name l.incoming ≡ value_from l.name (drop l.value-index l.incoming)
