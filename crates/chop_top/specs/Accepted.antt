-- The text of a program.
use Rattle.std.specs.Prelude.{◌≡◌, ℕ, List}
use Rattle.flat_ir.specs.declared.program.ProgramData.{ProgramData}
use Rattle.checks.specs.Errors.{IsChecked}
use Rattle.ir_tree.specs.declared.module.IrTree.{IrTree}
use Rattle.ir_reader.specs.Reading.{IsReadAs}
use Rattle.ir_programs.specs.Answers.{Resolved, answer}

-- The bytes are the text of the program, and this is their tree: they part into tokens, which the grammar derives from it; no condition on
-- its names, numbers and types fails, so that it resolves to the program; and none fails at any node of the program.
pub record IsTextOf (bytes : List ℕ) (tree : IrTree) (p : ProgramData) : Type 0 where
  pub read : IsReadAs bytes tree
  pub resolves : answer tree ≡ Resolved p
  pub checked : IsChecked p.funcs

-- the bytes are the text of the program
abbrev pub Reads : List ℕ → ProgramData → Type 0
Reads bytes p = (tree : IrTree) × IsTextOf bytes tree p

-- a text is that of one program at most
abbrev pub HasOneProgram : Type 0
HasOneProgram = (bytes : List ℕ) (p q : ProgramData) → Reads bytes p → Reads bytes q → p ≡ q
