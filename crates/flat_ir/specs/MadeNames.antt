-- Names of objects in a run: what a node makes has a new name, what the Alloca nodes of live frames made is alive, and a
-- pointer that stands anywhere points into a global of the program or into an object that was made.
use Rattle.std.specs.Prelude.{◌≡◌, ℕ, ◌<◌, ◌≤◌, Bool, true, false, List, [], ◌∷◌, ◌++◌, length, Option, Some, None, slice_get, unwrap_or}
use Rattle.std.specs.List.{AllByRecursion as Each}
use Rattle.flat_ir.specs.declared.names.NodeId.{NodeId}
use Rattle.flat_ir.specs.declared.names.CallStep.{CallStep}
use Rattle.flat_ir.specs.declared.names.ObjectName.{ObjectName}
use Rattle.flat_ir.specs.declared.names.ObjectName.TheVariants.{Made}
use Rattle.flat_ir.specs.declared.nodes.Node.{Node}
use Rattle.flat_ir.specs.declared.nodes.Node.TheVariants as node
use Rattle.flat_ir.specs.declared.program.Func.{Func}
use Rattle.flat_ir.specs.declared.program.ProgramData.{ProgramData}
use Rattle.flat_ir.specs.declared.values.ConcreteByte.{ConcreteByte}
use Rattle.flat_ir.specs.declared.values.ConcreteByte.TheVariants as byte
use Rattle.flat_ir.specs.declared.values.ConcreteValue.{ConcreteValue}
use Rattle.flat_ir.specs.declared.values.ConcreteValue.TheVariants.{Int, Ptr}
use Rattle.flat_ir.specs.History.{History, Write, Alloc, Free, Get, Put, is_alive}
use Rattle.flat_ir.specs.Orderly.{IsOrderly, is_made, is_named}
use Rattle.flat_ir.specs.Machine.{Frame, State, func_at, node_at, step_here}

-- how often a frame has executed a node
abbrev pub count_at : Frame → NodeId → ℕ
count_at f n = unwrap_or (slice_get f.counts n.0) 0

-- the node makes an object that ends with its frame
abbrev pub is_alloca : Node → Bool
is_alloca (node.Alloca size result next) = true
is_alloca _ = false

-- what a frame's node made when it was executed for the k-th time
abbrev pub object_of : Frame → NodeId → ℕ → ObjectName
object_of f n k = Made f.name (record { func = f.func; node = n; count = k })

-- a frame stands at a node of its function, and keeps a count for each node
pub record IsFrameOf (p : ProgramData) (f : Frame) : Type 0 where
  pub func : Func
  pub there : func_at p f.func ≡ Some func
  pub node : f.node.0 < length func.nodes
  pub counts : length f.counts ≡ length func.nodes

-- a frame's name is the call that made it, behind its caller's name; main's first frame has none
abbrev pub AreCalled : Frame → List Frame → Type 0
AreCalled f [] = f.name ≡ []
AreCalled f (g ∷ gs) = (f.name ≡ step_here g ∷ g.name) × AreCalled g gs

-- where the name of an object goes through a frame, it goes on from there by an execution that the frame has counted
abbrev pub HasCounted : History → Frame → Type 0
HasCounted h f = (above : List CallStep) (step : CallStep) (frame : List CallStep) (made : CallStep)
    → is_made (Made frame made) h ≡ true → made ∷ frame ≡ above ++ step ∷ f.name → step.count ≤ count_at f step.node

-- what the frame's Alloca nodes made is alive
abbrev pub HoldsObjects : ProgramData → History → Frame → Type 0
HoldsObjects p h f = (n : NodeId) (k : ℕ)
    → is_alloca (node_at p f.func n) ≡ true → 1 ≤ k → k ≤ count_at f n → is_alive (object_of f n k) h ≡ true

-- a global of the program, or an object that was made, or none
abbrev pub IsKnownBase : ProgramData → History → Option ObjectName → Type 0
IsKnownBase p h None = Unit {0}
IsKnownBase p h (Some x) = is_named p x h ≡ true

abbrev pub IsKnownValue : ProgramData → History → ConcreteValue → Type 0
IsKnownValue p h (Int n) = Unit {0}
IsKnownValue p h (Ptr a) = IsKnownBase p h a.base

abbrev pub IsKnownByte : ProgramData → History → ConcreteByte → Type 0
IsKnownByte p h (byte.Int b) = Unit {0}
IsKnownByte p h (byte.PtrByte a j) = IsKnownBase p h a.base

-- each register of the frame holds such a value
abbrev pub HoldsKnown : ProgramData → History → Frame → Type 0
HoldsKnown p h f = Each (IsKnownValue p h) f.regs

-- each byte that was written is of such a value
abbrev pub HasKnownBytes : ProgramData → History → Type 0
HasKnownBytes p [] = Unit {0}
HasKnownBytes p (Write x k b ∷ h) = IsKnownByte p h b × HasKnownBytes p h
HasKnownBytes p (Alloc x size ∷ h) = HasKnownBytes p h
HasKnownBytes p (Free x ∷ h) = HasKnownBytes p h
HasKnownBytes p (Get ∷ h) = HasKnownBytes p h
HasKnownBytes p (Put b ∷ h) = HasKnownBytes p h

-- so it is with a frame, those that called it, and the history
pub record KeepsNames (p : ProgramData) (f : Frame) (fs : List Frame) (h : History) : Type 0 where
  pub orderly : IsOrderly h
  pub called : AreCalled f fs
  pub frame : IsFrameOf p f
  pub frames : Each (IsFrameOf p) fs
  pub counts : HasCounted h f
  pub caller_counts : Each (HasCounted h) fs
  pub objects : HoldsObjects p h f
  pub caller_objects : Each (HoldsObjects p h) fs
  pub values : HoldsKnown p h f
  pub caller_values : Each (HoldsKnown p h) fs
  pub bytes : HasKnownBytes p h

-- Names are kept in a state. Each state of each run has this, and a step from any state that has it leads to one
-- (proofs/MadeRuns).
abbrev pub NamesAreKept : ProgramData → State → Type 0
NamesAreKept p s = KeepsNames p s.frame s.callers s.history
