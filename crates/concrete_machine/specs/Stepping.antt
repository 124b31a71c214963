-- Where a machine stands within a run.
use Rattle.std.specs.Prelude.{◌≡◌, ℕ, ◌+◌, ◌<◌, ◌^◌, List}
use Rattle.checks.specs.Errors.{IsChecked}
use Rattle.flat_ir.specs.declared.program.ProgramData.{ProgramData}
use Rattle.flat_ir.specs.Machine as run
use Rattle.flat_ir.specs.Machine.{State}
use Rattle.flat_ir.specs.Run.{run as run_of, step}
use Rattle.flat_ir.specs.Whole.{IsWhole}
use Rattle.concrete_machine.specs.declared.machine.Led.{Led}
use Rattle.concrete_machine.specs.declared.machine.Machine.{Machine}
use Rattle.concrete_machine.specs.Standing.{StandsAt, Leads}

-- after so many steps the run goes on from a state, and the machine stands there
pub record IsAt (p : ProgramData) (input : List ℕ) (done : ℕ) (m : Machine) : Type 0 where
  pub state : State
  pub goes_on : run_of p input done ≡ run.On state
  pub stands : StandsAt p input m state

-- the program passed its checks, and the machine stands in its run on the input, after fewer steps than 64 bits number
pub record IsRunning (p : ProgramData) (input : List ℕ) (m : Machine) : Type 0 where
  pub whole : IsWhole p
  pub checked : IsChecked p.funcs
  pub done : ℕ
  pub few : done + 1 < 2 ^ 64
  pub at : IsAt p input done m

-- the machine makes the step that the run does, from each state at which it stood
abbrev pub StepsAs : ProgramData → List ℕ → Machine → Machine → Led → Type 0
StepsAs p input old new led = (s : State) → StandsAt p input old s → Leads p input new led (step p input s)
