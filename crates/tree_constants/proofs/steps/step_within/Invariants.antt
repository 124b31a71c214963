use Rattle.std.proofs.Common.{◌≡◌, drop}
use Rattle.ir_programs.specs.Constants as spec
use Rattle.tree_constants.proofs.steps.step_within.Given as goal

abbrev pub invariant-steps : goal.invariant-steps
invariant-steps l = spec.bad_steps l.types l.part (drop l.index-index l.indices) ≡ spec.bad_steps l.types l.kind l.indices
