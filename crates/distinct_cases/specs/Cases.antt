-- The program of a tree has switches whose numbers are distinct.
use Rattle.std.specs.Prelude.{◌≡◌}
use Rattle.flat_ir.specs.declared.program.ProgramData.{ProgramData}
use Rattle.ir_tree.specs.declared.module.IrTree.{IrTree}
use Rattle.ir_programs.specs.Answers.{Resolved, answer}
use Rattle.agreement.specs.Premises.{HasDistinctCases}

abbrev pub CasesAreDistinct : Type 0
CasesAreDistinct = (t : IrTree) (p : ProgramData) → answer t ≡ Resolved p → HasDistinctCases p
