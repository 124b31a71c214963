use Rattle.std.proofs.Common.{◌≡◌, ◌++◌, drop, map}
use Rattle.ir_programs.specs.Locals.{label_of, labels_of}
use Rattle.ir_programs.proofs.parts.labels_of.Given as goal

abbrev pub invariant-loop-block : goal.invariant-loop-block
invariant-loop-block l = l.labels.items ++ map label_of (drop l.block-index l.blocks) ≡ labels_of l.fn.function
