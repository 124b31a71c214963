use Rattle.std.proofs.Common.{◌≡◌, ◌++◌, drop}
use Rattle.std.specs.List.{flat_map}
use Rattle.ir_programs.specs.Parts as spec
use Rattle.ir_programs.proofs.parts.function_labels.Given as goal

abbrev pub invariant-loop-block : goal.invariant-loop-block
invariant-loop-block l = l.names.items ++ flat_map spec.block_labels (drop l.block-index l.blocks) ≡ spec.function_labels l.fn.function
