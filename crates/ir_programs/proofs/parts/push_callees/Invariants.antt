use Rattle.std.proofs.Common.{◌≡◌, ◌++◌, drop}
use Rattle.std.specs.List.{flat_map}
use Rattle.ir_programs.specs.Parts as spec
use Rattle.ir_programs.proofs.parts.push_callees.Given as goal

abbrev pub invariant-loop-instruction : goal.invariant-loop-instruction
invariant-loop-instruction l = l.names.items ++ flat_map spec.instruction_callees (drop l.instruction-index l.instructions) ≡ l.initial.names.items ++ flat_map spec.instruction_callees l.instructions
