-- The steps of a call, and what they add to the history.
use Rattle.std.specs.Prelude.{◌≡◌, ◌≤◌, ℕ, List, ◌++◌, length}
use Rattle.std.specs.List.{AllByRecursion as Each}
use Rattle.flat_ir.specs.declared.names.FuncId.{FuncId}
use Rattle.flat_ir.specs.declared.program.ProgramData.{ProgramData}
use Rattle.flat_ir.specs.History.{History, Change}
use Rattle.flat_ir.specs.Machine.{State, On, state_of}
use Rattle.flat_ir.specs.Run.{step}
use Rattle.flat_ir.specs.Whole.{IsWhole}
use Rattle.points_to.specs.Within.{IsWithin}
use Rattle.flat_ir.specs.Locations.{location_of}
use Rattle.mod_ref.specs.Changes.{Changes}

-- steps that lead from one state to another, each of which is made while at least so many frames wait
pub data Leads (p : ProgramData) (input : List ℕ) (depth : ℕ) (s : State) : State → Type 0 where
  none : Leads p input depth s s
  more : (t u : State) → Leads p input depth s t → depth ≤ length t.callers → step p input t ≡ On u → Leads p input depth s u

-- what was added to a history lies in the changes of a function
pub record Adds (p : ProgramData) (f : FuncId) (old new : History) : Type 0 where
  pub added : List Change
  pub whole : new ≡ added ++ old
  pub changes : Each (λ c. Changes p f (location_of c)) added

-- a step's own changes, whether the run goes on or is over
abbrev pub StepsChangeOwn : Type 0
StepsChangeOwn = (p : ProgramData) (input : List ℕ) (s : State) → IsWhole p → IsWithin p s → Adds p s.frame.func s.history (state_of (step p input s)).history

-- each change that is made in a call, up to the end of its frame, lies in the changes of the function that was called
abbrev pub CallsChangeOwn : Type 0
CallsChangeOwn = (p : ProgramData) (input : List ℕ) (s t : State) → IsWhole p → IsWithin p s → Leads p input (length s.callers) s t → Adds p s.frame.func s.history t.history
