-- What is answered of a program is one thing.
use Rattle.std.specs.Prelude.{◌≡◌, List}
use Rattle.flat_ir.specs.declared.check.CheckError.{CheckError}
use Rattle.flat_ir.specs.declared.program.Func.{Func}
use Rattle.checks.specs.Errors.{IsChecked, IsFirstOf}

-- at most one place is the first
abbrev pub FirstIsOne : Type 0
FirstIsOne = (funcs : List Func) (a b : CheckError) → IsFirstOf funcs a → IsFirstOf funcs b → a ≡ b

-- a program that meets all conditions has no such place
abbrev pub NotBoth : Type 0
NotBoth = (funcs : List Func) (e : CheckError) → IsChecked funcs → IsFirstOf funcs e → ⊥
