use Rattle.std.proofs.Common.{◌≡◌, ◌++◌, drop}
use Rattle.std.specs.List.{flat_map}
use Rattle.ir_programs.specs.Parts as spec
use Rattle.ir_programs.proofs.parts.function_callees.Given as goal

abbrev pub invariant-loop-block : goal.invariant-loop-block
invariant-loop-block l = l.names.items ++ flat_map spec.block_callees (drop l.block-index l.blocks) ≡ spec.function_callees l.fn.function
