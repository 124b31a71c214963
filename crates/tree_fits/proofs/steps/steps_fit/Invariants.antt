use Rattle.std.proofs.Common.{◌≡◌, drop, map}
use Rattle.ir_programs.specs.Addresses as spec
use Rattle.ir_programs.specs.Operands.{step_of}
use Rattle.tree_fits.proofs.steps.steps_fit.Given as goal

abbrev pub invariant-each : goal.invariant-each
invariant-each l = spec.steps_fit l.place.tree.now.types l.source (map (step_of l.place.tree.now l.place.function.now) l.indices) ≡ spec.steps_fit l.place.tree.now.types l.kind (map (step_of l.place.tree.now l.place.function.now) (drop l.index-index l.indices))
