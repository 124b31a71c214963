-- The report of a program of which no call is skipped.
use Rattle.std.specs.Prelude.{◌≡◌, ℕ, List, []}
use Rattle.flat_ir.specs.declared.program.ProgramData.{ProgramData}
use Rattle.agreement.specs.Premises.{HasDistinctCases}
use Rattle.leaves.specs.declared.options.Options.{Options}
use Rattle.leaves.specs.Events.{Leaf}
use Rattle.leaf_lines.specs.Report.{report_of}
use Rattle.right_leaves.specs.Right.{AreRight}
use Rattle.sym_machine.specs.Explored.{AreLeaves}

-- a text tells leaves of the program's exploration
abbrev pub Tells : ProgramData → Options → List ℕ → Type 0
Tells p o written = (leaves : List Leaf) × AreLeaves p o leaves × (written ≡ report_of p o [] leaves)

-- A text is the report of a program: it tells the leaves of the program's exploration. Where no switch of the program names a number
-- twice, these split the inputs, each is sound, and an input that is kept is the least that meets its leaf's condition.
pub record IsReport (p : ProgramData) (o : Options) (written : List ℕ) : Type 0 where
  pub leaves : List Leaf
  pub explores : AreLeaves p o leaves
  pub right : HasDistinctCases p → AreRight p o.input leaves
  pub report : written ≡ report_of p o [] leaves
