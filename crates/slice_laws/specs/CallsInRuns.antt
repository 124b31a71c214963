-- Calls that runs make.
use Rattle.std.specs.Prelude.{◌≡◌, ◌<◌, ℕ, true, List, ◌∷◌, ◌++◌, length, Option}
use Rattle.flat_ir.specs.declared.names.CallStep.{CallStep}
use Rattle.flat_ir.specs.declared.names.FuncId.{FuncId}
use Rattle.flat_ir.specs.declared.names.Location.{Location}
use Rattle.flat_ir.specs.declared.program.ProgramData.{ProgramData}
use Rattle.flat_ir.specs.declared.values.ConcreteValue.{ConcreteValue}
use Rattle.flat_ir.specs.History.{History}
use Rattle.flat_ir.specs.Machine.{Frame, State, node_at, entered}
use Rattle.flat_ir.specs.Steps.{resumed}
use Rattle.flat_ir.specs.Whole.{IsWhole}
use Rattle.points_to.specs.Within.{IsWithin}
use Rattle.mod_ref.specs.Calls.{Leads}
use Rattle.slices.specs.Slice.{Items, Need, IsSlice}
use Rattle.slices.specs.Nexts.{Ways, AreNexts}
use Rattle.slice_laws.specs.ResidualRun.{whole, called}
use Rattle.slice_laws.specs.Simulation.{Agree, Ended, IsSimulated}

-- a call in a run: its first state, with a frame that has just been entered, and a later one, in which it has returned
pub record IsCall (p : ProgramData) (input : List ℕ) (f : FuncId) (args : List ConcreteValue) (name : List CallStep) (s u : State) : Type 0 where
  pub caller : Frame
  pub rest : List Frame
  pub entry : s.frame ≡ entered p f args name
  pub callers : s.callers ≡ caller ∷ rest
  pub leads : Leads p input (length s.callers) s u
  pub left : length u.callers < length s.callers

-- what a call has given and added, once it has returned to its caller
pub record HasReturned (p : ProgramData) (caller : Frame) (rest : List Frame) (s u : State) (v : Option ConcreteValue) (added : History) : Type 0 where
  pub history : u.history ≡ added ++ s.history
  pub frame : u.frame ≡ resumed (node_at p caller.func caller.node) v caller
  pub callers : u.callers ≡ rest

-- the call alone ends, with what it has given and added in the run
pub record EndsAlone (p : ProgramData) (input : List ℕ) (f : FuncId) (args : List ConcreteValue) (name : List CallStep) (s u : State) (caller : Frame) (rest : List Frame) : Type 0 where
  pub result : Option ConcreteValue
  pub added : History
  pub returned : HasReturned p caller rest s u result added
  pub ends : Ended p input whole (called p f args name s.history) result added

-- whoever waits for a call, and whatever was shown before, makes no difference to it
abbrev pub CallsStandAlone : Type 0
CallsStandAlone =
    (p : ProgramData) (input : List ℕ) (f : FuncId) (args : List ConcreteValue) (name : List CallStep) (s u : State) → (call : IsCall p input f args name s u) →
    EndsAlone p input f args name s u call.caller call.rest

-- what a call has given and added in a run, its slice simulates
pub record IsSimulatedInRun (p : ProgramData) (input : List ℕ) (ways : Ways) (at' : Location) (from s u : State) (caller : Frame) (rest : List Frame) : Type 0 where
  pub result : Option ConcreteValue
  pub added : History
  pub returned : HasReturned p caller rest s u result added
  pub simulated : IsSimulated p input ways at' from result added

-- a call in a run within the points-to sets, and its residual call from any history that agrees on what the slice needs
abbrev pub SlicesSimulateInRuns : Type 0
SlicesSimulateInRuns =
    (p : ProgramData) (f : FuncId) (at' : Location) (items : Items) (ways : Ways) → IsWhole p → IsSlice p f at' items → AreNexts p items ways →
    (input : List ℕ) (args : List ConcreteValue) (name : List CallStep) (s u : State) (h' : History) → IsWithin p s → (call : IsCall p input f args name s u) →
    ((l : Location) → items (Need l) ≡ true → Agree p l s.history h') → IsSimulatedInRun p input ways at' (called p f args name h') s u call.caller call.rest
