use Rattle.std.proofs.Common.{◌≡◌, ◌++◌, drop}
use Rattle.std.specs.List.{flat_map}
use Rattle.ir_programs.specs.Locals as spec
use Rattle.ir_programs.proofs.locals.push_results.Given as goal

abbrev pub invariant-loop-instruction : goal.invariant-loop-instruction
invariant-loop-instruction l = l.locals.items ++ flat_map spec.instruction_locals (drop l.instruction-index l.instructions) ≡ l.initial.locals.items ++ flat_map spec.instruction_locals l.instructions
