use Rattle.std.proofs.Common.{◌≡◌, ◌++◌, drop}
use Rattle.std.specs.List.{flat_map}
use Rattle.ir_programs.specs.Locals as spec
use Rattle.ir_programs.proofs.locals.locals_of.Given as goal

abbrev pub invariant-loop-block : goal.invariant-loop-block
invariant-loop-block l = l.locals.items ++ flat_map spec.block_locals (drop l.block-index l.blocks) ≡ spec.locals_of l.fn.function
