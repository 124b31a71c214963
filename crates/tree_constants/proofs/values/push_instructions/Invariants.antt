use Rattle.std.proofs.Common.{◌≡◌, ◌++◌, drop}
use Rattle.std.specs.List.{flat_map}
use Rattle.tree_constants.specs.Values.{lent, values_of_instruction}
use Rattle.tree_constants.proofs.values.push_instructions.Given as goal

abbrev pub invariant-loop-instruction : goal.invariant-loop-instruction
invariant-loop-instruction l = lent l.values.items ++ flat_map values_of_instruction (drop l.instruction-index l.instructions) ≡ lent l.initial.values.items ++ flat_map values_of_instruction l.instructions
