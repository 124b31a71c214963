-- What a text tells of a program that passed its checks is right.
use Rattle.std.proofs.Common.{◌≡◌, ℕ, ◌≤◌, List, refl}
use Rattle.flat_ir.specs.declared.program.ProgramData.{ProgramData}
use Rattle.flat_ir.specs.Whole.{IsWhole}
use Rattle.checks.specs.Errors.{IsChecked}
use Rattle.typed_runs.specs.FittingRuns.{NumbersFit}
use Rattle.leaves.specs.declared.options.Options.{Options}
use Rattle.state_laws.specs.Kept.{ProgramFits}
use Rattle.sym_machine.specs.Explored.{setting_of}
use Rattle.right_leaves.proofs.Right.{decided-leaves-right}
use Rattle.report.specs.Reports.{Tells, IsReport}

pub reported : (p : ProgramData) (o : Options) (written : List ℕ) → o.input ≤ 64 → IsWhole p → IsChecked p.funcs → NumbersFit p → ProgramFits p → Tells p o written → IsReport p o written
reported p o written most whole checked numbers fits tells = record {
  leaves = tells.0;
  explores = tells.1;
  right = λ distinct. decided-leaves-right (setting_of p o) o.leaves tells.0 tells.1.0
      (record { whole = whole; checked = checked; numbers = numbers; fits = fits; distinct = distinct }) refl most refl tells.1.1;
  report = tells.2;
}
