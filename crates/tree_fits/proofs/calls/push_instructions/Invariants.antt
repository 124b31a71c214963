use Rattle.std.proofs.Common.{◌≡◌, ◌++◌, drop, map}
use Rattle.ir_programs.specs.Fits as spec
use Rattle.tree_fits.proofs.calls.push_instructions.Given as goal

abbrev pub invariant-each : goal.invariant-each
invariant-each l = l.tests.items ++ map (spec.instruction_fits l.place.tree.now l.place.function.now) (drop l.instruction-index l.instructions) ≡ l.initial.tests.items ++ map (spec.instruction_fits l.place.tree.now l.place.function.now) l.instructions
