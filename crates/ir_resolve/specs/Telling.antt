-- What is told of one cause.
use Rattle.std.specs.Prelude.{ℕ, List, Option}
use Rattle.ir_tree.specs.declared.instructions.Case.{Case}
use Rattle.ir_programs.specs.declared.refusals.Cause.{Cause}
use Rattle.ir_programs.specs.declared.refusals.Cause.TheVariants.{DuplicateName}
use Rattle.ir_programs.specs.declared.refusals.Refusal.{Refusal}
use Rattle.ir_programs.specs.Causes.{repeated_cases}
use Rattle.ir_programs.specs.Refusals.{merged, first, refused}

-- what is told once a cause is found at these places
abbrev pub told_of : Cause → Option Refusal → List ℕ → Option Refusal
told_of cause told places = merged told (first (refused cause places))

-- the same of cases that stand twice, behind those
abbrev pub cases_left : Option Refusal → List Case → List Case → Option Refusal
cases_left told seen cases = told_of DuplicateName told (repeated_cases seen cases)
