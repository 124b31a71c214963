-- A slice simulates its call.
use Rattle.std.specs.Prelude.{◌≡◌, ℕ, true, List, ◌++◌, Option}
use Rattle.std.specs.List.{filter}
use Rattle.flat_ir.specs.declared.names.CallStep.{CallStep}
use Rattle.flat_ir.specs.declared.names.FuncId.{FuncId}
use Rattle.flat_ir.specs.declared.names.Location.{Location}
use Rattle.flat_ir.specs.declared.names.Location.TheVariants as location
use Rattle.flat_ir.specs.declared.names.ObjectName.{ObjectName}
use Rattle.flat_ir.specs.declared.program.ProgramData.{ProgramData}
use Rattle.flat_ir.specs.declared.values.ConcreteValue.{ConcreteValue}
use Rattle.flat_ir.specs.History.{History, Change, site_of, size_of, byte_at, position}
use Rattle.flat_ir.specs.Locations.{lies_in}
use Rattle.flat_ir.specs.Orderly.{is_made, is_freed}
use Rattle.flat_ir.specs.Machine.{State}
use Rattle.flat_ir.specs.Whole.{IsWhole}
use Rattle.points_to.specs.Within.{IsWithin}
use Rattle.slices.specs.Slice.{Items, Need, IsSlice}
use Rattle.slices.specs.Nexts.{Ways, AreNexts}
use Rattle.slice_laws.specs.ResidualRun.{whole, CallRun, Runs, Ends, Breaks, called, call_run}

-- two histories agree on a location: on each byte of the site's objects; on which of them were made, with which sizes, and
-- which ended; on the place in the input. What was written out, and the result, nothing reads.
abbrev pub Agree : ProgramData → Location → History → History → Type 0
Agree p (location.Cells s) h h' = (x : ObjectName) (k : ℕ) → site_of x ≡ s → byte_at p h x k ≡ byte_at p h' x k
Agree p (location.Life s) h h' = (x : ObjectName) → site_of x ≡ s → (is_made x h ≡ is_made x h') × (is_freed x h ≡ is_freed x h') × (size_of p x h ≡ size_of p x h')
Agree p location.Input h h' = position h ≡ position h'
Agree p location.Output h h' = Unit {0}
Agree p location.Result h h' = Unit {0}

-- a call that ended after some steps, with what it added to the history
pub record Ended (p : ProgramData) (input : List ℕ) (ways : Ways) (from : State) (v : Option ConcreteValue) (added : History) : Type 0 where
  pub steps : ℕ
  pub end : State
  pub ran : call_run p input ways from steps ≡ Ends v end
  pub history : end.history ≡ added ++ from.history

-- the run isn't over within the call: no fault, no exit, and no next that is Never
abbrev pub IsUnbroken : CallRun → Type 0
IsUnbroken (Runs s) = Unit {0}
IsUnbroken (Ends v s) = Unit {0}
IsUnbroken (Breaks e s) = ⊥

-- the residual call ends and is never broken, with the call's changes in the location and, where that is asked, its result
pub record IsSimulated (p : ProgramData) (input : List ℕ) (ways : Ways) (at' : Location) (from : State) (v : Option ConcreteValue) (added : History) : Type 0 where
  pub result : Option ConcreteValue
  pub changes : History
  pub ends : Ended p input ways from result changes
  pub unbroken : (n : ℕ) → IsUnbroken (call_run p input ways from n)
  pub same_changes : filter (lies_in at') changes ≡ filter (lies_in at') added
  pub same_result : at' ≡ location.Result → result ≡ v

-- A call of f from a history, within the points-to sets, that ends; then so does the residual call with the same arguments and
-- the same frame name, from any history that agrees on what the slice needs.
abbrev pub SlicesSimulate : Type 0
SlicesSimulate =
    (p : ProgramData) (f : FuncId) (at' : Location) (items : Items) (ways : Ways) → IsWhole p → IsSlice p f at' items → AreNexts p items ways →
    (input : List ℕ) (args : List ConcreteValue) (name : List CallStep) (h h' : History) → IsWithin p (called p f args name h) →
    ((l : Location) → items (Need l) ≡ true → Agree p l h h') →
    (v : Option ConcreteValue) (added : History) → Ended p input whole (called p f args name h) v added →
    IsSimulated p input ways at' (called p f args name h') v added
