-- What the end of a run of the machine says of the program's run on the input.
use Rattle.std.specs.Prelude.{◌≡◌, ℕ, ◌+◌, ◌≤◌, List}
use Rattle.flat_ir.specs.declared.program.ProgramData.{ProgramData}
use Rattle.flat_ir.specs.History.{output}
use Rattle.flat_ir.specs.Machine.{State, End, Exited, Faulted, On, Over}
use Rattle.flat_ir.specs.Run.{run}
use Rattle.concrete_machine.specs.declared.running.Outcome.{Outcome}
use Rattle.concrete_machine.specs.declared.running.Outcome.TheVariants as outcome
use Rattle.concrete_machine.specs.declared.running.RunEnd.{RunEnd}
use Rattle.concrete_machine.specs.declared.running.RunEnd.TheVariants as ended

-- how a run ended, with what it wrote
abbrev pub outcome_of : End → List ℕ → Outcome
outcome_of (Exited status) written = outcome.Exit status written
outcome_of (Faulted kind func node) written = outcome.Fault kind func node written

-- the run goes on for all but the last of n attempts, and with that it is over, and shows this
pub record EndsIn (p : ProgramData) (input : List ℕ) (n : ℕ) (shown : Outcome) : Type 0 where
  pub done : ℕ
  pub last : n ≡ done + 1
  pub before : State
  pub goes_on : run p input done ≡ On before
  pub end : End
  pub left : State
  pub over : run p input n ≡ Over end left
  pub shows : shown ≡ outcome_of end (output left.history)

-- the run goes on after n attempts, and has written this
pub record IsSpent (p : ProgramData) (input : List ℕ) (n : ℕ) (written : List ℕ) : Type 0 where
  pub state : State
  pub goes_on : run p input n ≡ On state
  pub wrote : written ≡ output state.history

-- This is the end of the program's run on the input, of which no more than so many nodes are attempted: its outcome with the
-- number of attempts, or what it had written when all of them were spent.
abbrev pub IsRunOf : ProgramData → List ℕ → ℕ → RunEnd → Type 0
IsRunOf p input steps (ended.Ended shown n) = (n ≤ steps) × EndsIn p input n shown
IsRunOf p input steps (ended.Spent written) = IsSpent p input steps written
