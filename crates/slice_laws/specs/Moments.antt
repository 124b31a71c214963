-- Moments of a call and of its residual call.
use Rattle.std.specs.Prelude.{◌≡◌, ℕ, true, false, List, [], ◌∷◌, Option, slice_get}
use Rattle.flat_ir.specs.declared.names.CallStep.{CallStep}
use Rattle.flat_ir.specs.declared.names.FuncId.{FuncId}
use Rattle.flat_ir.specs.declared.names.NodeId.{NodeId}
use Rattle.flat_ir.specs.declared.names.RegId.{RegId}
use Rattle.flat_ir.specs.declared.names.Location.{Location}
use Rattle.flat_ir.specs.declared.program.ProgramData.{ProgramData}
use Rattle.flat_ir.specs.declared.values.ConcreteValue.{ConcreteValue}
use Rattle.flat_ir.specs.History.{History}
use Rattle.flat_ir.specs.Machine.{Frame, State}
use Rattle.flat_ir.specs.Whole.{IsWhole}
use Rattle.points_to.specs.Within.{IsWithin}
use Rattle.slices.specs.Nodes.{Reads}
use Rattle.slices.specs.Slice.{Items, Keep, Need, IsSlice}
use Rattle.slices.specs.Nexts.{Ways, AreNexts}
use Rattle.slice_laws.specs.ResidualRun.{whole, Runs, called, call_run}
use Rattle.slice_laws.specs.Simulation.{Agree, Ended}

-- a retained node reads the register
abbrev pub IsRead : ProgramData → Items → FuncId → RegId → Type 0
IsRead p items g r = (n : NodeId) × (items (Keep g n) ≡ true) × Reads p g n r

-- no node of the function is retained
abbrev pub IsQuiet : Items → FuncId → Type 0
IsQuiet items g = (n : NodeId) → items (Keep g n) ≡ false

-- two frames of one function and name agree on the registers that retained nodes read, and on the counts of retained nodes
pub record FramesAgree (p : ProgramData) (items : Items) (frame frame' : Frame) : Type 0 where
  pub func : frame'.func ≡ frame.func
  pub name : frame'.name ≡ frame.name
  pub regs : (r : RegId) → IsRead p items frame.func r → slice_get frame'.regs r.0 ≡ slice_get frame.regs r.0
  pub counts : (n : NodeId) → items (Keep frame.func n) ≡ true → slice_get frame'.counts n.0 ≡ slice_get frame.counts n.0

-- the residual run has the frames of the whole run, but those of functions without a retained node
pub data StacksAgree (p : ProgramData) (items : Items) : List Frame → List Frame → Type 0 where
  none : StacksAgree p items [] []
  both : (frame frame' : Frame) (rest rest' : List Frame) → FramesAgree p items frame frame' → StacksAgree p items rest rest' → StacksAgree p items (frame ∷ rest) (frame' ∷ rest')
  hidden : (frame : Frame) (rest rest' : List Frame) → IsQuiet items frame.func → StacksAgree p items rest rest' → StacksAgree p items (frame ∷ rest) rest'

-- two states agree on their frames, and on each location that is needed
pub record StatesAgree (p : ProgramData) (items : Items) (s s' : State) : Type 0 where
  pub frames : StacksAgree p items (s.frame ∷ s.callers) (s'.frame ∷ s'.callers)
  pub needed : (l : Location) → items (Need l) ≡ true → Agree p l s.history s'.history

-- a moment of the whole call, at which a state of the residual one agrees with it
pub record HasMoment (p : ProgramData) (items : Items) (input : List ℕ) (from s' : State) : Type 0 where
  pub steps : ℕ
  pub state : State
  pub ran : call_run p input whole from steps ≡ Runs state
  pub agree : StatesAgree p items state s'

-- each state of the residual call agrees with the call at some moment
abbrev pub ResidualStatesAgree : Type 0
ResidualStatesAgree =
    (p : ProgramData) (f : FuncId) (at' : Location) (items : Items) (ways : Ways) → IsWhole p → IsSlice p f at' items → AreNexts p items ways →
    (input : List ℕ) (args : List ConcreteValue) (name : List CallStep) (h h' : History) → IsWithin p (called p f args name h) →
    ((l : Location) → items (Need l) ≡ true → Agree p l h h') →
    (v : Option ConcreteValue) (added : History) → Ended p input whole (called p f args name h) v added →
    (m : ℕ) (s' : State) → call_run p input ways (called p f args name h') m ≡ Runs s' → HasMoment p items input (called p f args name h) s'
