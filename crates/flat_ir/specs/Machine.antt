-- A concrete state: the history, the frames and the events so far. All is total: a register that isn't set is null, a node
-- that isn't there is Unreachable, and a count that isn't kept is 0; a program that was checked meets none of these.
use Rattle.std.specs.Prelude.{ℕ, ◌+◌, List, [], ◌++◌, length, map, drop, Option, None, Some, slice_get, slice_set, unwrap_or}
use Rattle.flat_ir.specs.declared.names.FuncId.{FuncId}
use Rattle.flat_ir.specs.declared.names.NodeId.{NodeId}
use Rattle.flat_ir.specs.declared.names.RegId.{RegId}
use Rattle.flat_ir.specs.declared.names.CallStep.{CallStep}
use Rattle.flat_ir.specs.declared.names.ObjectName.{ObjectName}
use Rattle.flat_ir.specs.declared.names.ObjectName.TheVariants as object
use Rattle.flat_ir.specs.declared.nodes.Node.{Node}
use Rattle.flat_ir.specs.declared.nodes.Node.TheVariants as node
use Rattle.flat_ir.specs.declared.nodes.Operand.{Operand}
use Rattle.flat_ir.specs.declared.nodes.Operand.TheVariants as operand
use Rattle.flat_ir.specs.declared.nodes.RegType.{RegType}
use Rattle.flat_ir.specs.declared.nodes.RegType.TheVariants as type
use Rattle.flat_ir.specs.declared.program.Func.{Func}
use Rattle.flat_ir.specs.declared.program.ProgramData.{ProgramData}
use Rattle.flat_ir.specs.declared.values.ConcreteValue.{ConcreteValue}
use Rattle.flat_ir.specs.declared.values.ConcreteValue.TheVariants.{Int, Ptr}
use Rattle.flat_ir.specs.declared.values.FaultKind.{FaultKind}
use Rattle.flat_ir.specs.History.{History}
use Rattle.flat_ir.specs.Registers.{null, zero_of}

-- what a run shows of itself: the side that a function's node took, numbered as its successors are; the value that
-- a node loaded; a call, by the calling function and its node, of a callee; a return, with the value if there is one
pub data Event : Type 0 where
  Branched : (func : FuncId) (node : NodeId) (side : ℕ) → Event
  Loaded : (func : FuncId) (node : NodeId) (value : ConcreteValue) → Event
  Entered : (caller : FuncId) (node : NodeId) (callee : FuncId) → Event
  Returned : (value : Option ConcreteValue) → Event

-- a function at a node, its registers, its name, the newest call first, and how often it has executed each node
pub record Frame : Type 0 where
  pub func : FuncId
  pub node : NodeId
  pub regs : List ConcreteValue
  pub name : List CallStep
  pub counts : List ℕ

-- the newest frame, those that called it, the changes so far, the newest first, and the events, the oldest first
pub record State : Type 0 where
  pub frame : Frame
  pub callers : List Frame
  pub history : History
  pub events : List Event

-- how a run ends
pub data End : Type 0 where
  Exited : ℕ → End
  Faulted : FaultKind → FuncId → NodeId → End

-- a run goes on, or it is over and what it left stays
pub data Run : Type 0 where
  On : State → Run
  Over : End → State → Run

abbrev pub state_of : Run → State
state_of (On s) = s
state_of (Over e s) = s

abbrev pub nodes_of : Option Func → List Node
nodes_of None = []
nodes_of (Some f) = f.nodes

abbrev pub regs_of : Option Func → List RegType
regs_of None = []
regs_of (Some f) = f.regs

-- the function with a number
abbrev pub func_at : ProgramData → FuncId → Option Func
func_at p f = slice_get p.funcs f.0

-- the node of a function; a program names none that isn't there
abbrev pub node_at : ProgramData → FuncId → NodeId → Node
node_at p f n = unwrap_or (slice_get (nodes_of (func_at p f)) n.0) node.Unreachable

-- the type of a function's register
abbrev pub type_at : ProgramData → FuncId → RegId → RegType
type_at p f r = unwrap_or (slice_get (regs_of (func_at p f)) r.0) type.Ptr

-- the value of an operand in a frame
abbrev pub value_in : Frame → Operand → ConcreteValue
value_in frame (operand.Reg r) = unwrap_or (slice_get frame.regs r.0) (Ptr null)
value_in frame (operand.Int n) = Int n
value_in frame operand.Null = Ptr null
value_in frame (operand.Global g offset) = Ptr (record { base = Some (object.Global g); offset = offset })

-- how often the frame has executed its node, from 1
abbrev pub count_here : Frame → ℕ
count_here frame = unwrap_or (slice_get frame.counts frame.node.0) 0

-- the execution of its node that the frame is in
abbrev pub step_here : Frame → CallStep
step_here frame = record { func = frame.func; node = frame.node; count = count_here frame }

-- the object that the frame's node makes now
abbrev pub made_here : Frame → ObjectName
made_here frame = object.Made frame.name (step_here frame)

-- with its node counted once more
abbrev pub counted : Frame → Frame
counted frame = record frame { counts = slice_set frame.counts frame.node.0 (count_here frame + 1) }

-- with a register set
abbrev pub set : RegId → ConcreteValue → Frame → Frame
set r v frame = record frame { regs = slice_set frame.regs r.0 v }

abbrev pub set_if : Option RegId → ConcreteValue → Frame → Frame
set_if None v frame = frame
set_if (Some r) v frame = set r v frame

abbrev pub at_node : NodeId → Frame → Frame
at_node n frame = record frame { node = n }

-- the frame that a call makes: its parameters are the first registers
abbrev pub entered : ProgramData → FuncId → List ConcreteValue → List CallStep → Frame
entered p f args name = record {
  func = f;
  node = record { 0 = 0 };
  regs = args ++ map zero_of (drop (length args) (regs_of (func_at p f)));
  name = name;
  counts = map (λ n. 0) (nodes_of (func_at p f));
}

-- main begins with nothing done
abbrev pub start : ProgramData → State
start p = record { frame = entered p p.main [] []; callers = []; history = []; events = [] }
