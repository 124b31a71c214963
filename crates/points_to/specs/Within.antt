-- A state within the points-to sets: each pointer in a register, or in a byte of an object, points to an object whose site is in
-- the set of the register, or of the object's site.
use Rattle.std.specs.Prelude.{◌≡◌, ◌<◌, ℕ, List, [], ◌∷◌, length, Option, None, Some, slice_get, unwrap_or}
use Rattle.std.specs.List.{AllByRecursion as Each}
use Rattle.flat_ir.specs.declared.names.FuncId.{FuncId}
use Rattle.flat_ir.specs.declared.names.ObjectName.{ObjectName}
use Rattle.flat_ir.specs.declared.nodes.Node.{Node}
use Rattle.flat_ir.specs.declared.nodes.Node.TheVariants as node
use Rattle.flat_ir.specs.declared.program.ProgramData.{ProgramData}
use Rattle.flat_ir.specs.declared.values.ConcreteByte.{ConcreteByte}
use Rattle.flat_ir.specs.declared.values.ConcreteByte.TheVariants as byte
use Rattle.flat_ir.specs.declared.values.ConcreteValue.{ConcreteValue}
use Rattle.flat_ir.specs.declared.values.ConcreteValue.TheVariants.{Int, Ptr}
use Rattle.flat_ir.specs.History.{History, Write, Alloc, Free, Get, Put, site_of}
use Rattle.flat_ir.specs.Registers.{null}
use Rattle.flat_ir.specs.Machine.{Frame, State, Run, On, Over, func_at, regs_of, node_at}
use Rattle.flat_ir.specs.Run.{step, run}
use Rattle.flat_ir.specs.Whole.{IsWhole}
use Rattle.points_to.specs.declared.holders.Holder.{Holder}
use Rattle.points_to.specs.declared.holders.Holder.TheVariants.{Register, Bytes}
use Rattle.points_to.specs.Points.{PointsTo}

-- no object, or one whose site is in the holder's set
abbrev pub BaseWithin : ProgramData → Holder → Option ObjectName → Type 0
BaseWithin p h None = Unit {0}
BaseWithin p h (Some x) = PointsTo p h (site_of x)

-- no pointer, or one that points so
abbrev pub PointsWithin : ProgramData → Holder → ConcreteValue → Type 0
PointsWithin p h (Int n) = Unit {0}
PointsWithin p h (Ptr a) = BaseWithin p h a.base

abbrev pub ByteWithin : ProgramData → Holder → ConcreteByte → Type 0
ByteWithin p h (byte.Int b) = Unit {0}
ByteWithin p h (byte.PtrByte a j) = BaseWithin p h a.base

-- the value is within the set of the function's register of that number
abbrev pub RegisterWithin : ProgramData → FuncId → ℕ → ConcreteValue → Type 0
RegisterWithin p f k v = k < length (regs_of (func_at p f)) → PointsWithin p (Register f (record { 0 = k })) v

-- so is each register of a frame
abbrev pub RegistersWithin : ProgramData → FuncId → List ConcreteValue → Type 0
RegistersWithin p f regs = (k : ℕ) → RegisterWithin p f k (unwrap_or (slice_get regs k) (Ptr null))

abbrev pub FrameWithin : ProgramData → Frame → Type 0
FrameWithin p g = RegistersWithin p g.func g.regs

-- so is each byte that was written
abbrev pub BytesWithin : ProgramData → History → Type 0
BytesWithin p [] = Unit {0}
BytesWithin p (Write x k b ∷ h) = ByteWithin p (Bytes (site_of x)) b × BytesWithin p h
BytesWithin p (Alloc x size ∷ h) = BytesWithin p h
BytesWithin p (Free x ∷ h) = BytesWithin p h
BytesWithin p (Get ∷ h) = BytesWithin p h
BytesWithin p (Put b ∷ h) = BytesWithin p h

-- the function that a node calls
abbrev pub callee_of : Node → Option FuncId
callee_of (node.Call callee args result next) = Some callee
callee_of _ = None

-- each frame that waits stands at a call of the function of the frame above it
abbrev pub AreCalls : ProgramData → FuncId → List Frame → Type 0
AreCalls p f [] = Unit {0}
AreCalls p f (g ∷ gs) = (callee_of (node_at p g.func g.node) ≡ Some f) × AreCalls p g.func gs

-- a function with these registers, the frames that called it, and a history
pub record Within (p : ProgramData) (f : FuncId) (regs : List ConcreteValue) (callers : List Frame) (h : History) : Type 0 where
  pub registers : RegistersWithin p f regs
  pub waiting : Each (FrameWithin p) callers
  pub called : AreCalls p f callers
  pub bytes : BytesWithin p h

abbrev pub IsWithin : ProgramData → State → Type 0
IsWithin p s = Within p s.frame.func s.frame.regs s.callers s.history

-- what a run that goes on keeps
abbrev pub RunWithin : ProgramData → Run → Type 0
RunWithin p (On s) = IsWithin p s
RunWithin p (Over e s) = Unit {0}

-- a step from any state within the sets leads to one
abbrev pub StepsStayWithin : Type 0
StepsStayWithin = (p : ProgramData) (input : List ℕ) (s : State) → IsWhole p → IsWithin p s → RunWithin p (step p input s)

-- so each state of each run is within the sets
abbrev pub RunsStayWithin : Type 0
RunsStayWithin = (p : ProgramData) (input : List ℕ) (n : ℕ) → IsWhole p → RunWithin p (run p input n)
