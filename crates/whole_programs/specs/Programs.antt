-- The program of a tree without refusals is whole.
use Rattle.std.specs.Prelude.{◌≡◌, true, None}
use Rattle.flat_ir.specs.Whole.{IsWhole}
use Rattle.ir_tree.specs.declared.module.IrTree.{IrTree}
use Rattle.ir_programs.specs.Readable.{is_readable}
use Rattle.ir_programs.specs.Refusals.{first}
use Rattle.ir_programs.specs.Answers.{refusals, has_main}
use Rattle.ir_programs.specs.Programs.{program_of}
use Rattle.whole_programs.specs.Few.{IsFew}

abbrev pub ProgramIsWhole : Type 0
ProgramIsWhole = (t : IrTree) → is_readable t ≡ true → first (refusals t) ≡ None → has_main t ≡ true → IsFew (program_of t) → IsWhole (program_of t)
