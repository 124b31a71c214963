-- Runs of one call: the whole one, and the residual one, which executes retained nodes alone.
use Rattle.std.specs.Prelude.{ℕ, zero, suc, List, [], ◌∷◌, Option, None}
use Rattle.std.specs.Option.{option_map}
use Rattle.flat_ir.specs.declared.names.CallStep.{CallStep}
use Rattle.flat_ir.specs.declared.names.FuncId.{FuncId}
use Rattle.flat_ir.specs.declared.nodes.Node.{Node}
use Rattle.flat_ir.specs.declared.nodes.Node.TheVariants as node
use Rattle.flat_ir.specs.declared.program.ProgramData.{ProgramData}
use Rattle.flat_ir.specs.declared.residual.Next.{Next}
use Rattle.flat_ir.specs.declared.residual.Next.TheVariants as next
use Rattle.flat_ir.specs.declared.values.ConcreteValue.{ConcreteValue}
use Rattle.flat_ir.specs.declared.values.FaultKind.TheVariants as fault
use Rattle.flat_ir.specs.History.{History}
use Rattle.flat_ir.specs.Machine.{Frame, State, End, Faulted, Run, On, Over, node_at, value_in, at_node, counted, entered}
use Rattle.flat_ir.specs.Steps.{attempt, with_frame, ended, returns}
use Rattle.slices.specs.Nexts.{Ways}

-- the whole run goes on at the node itself
abbrev pub whole : Ways
whole f n = next.Node n

-- a call goes on, has ended with its result, or the run is over within it
pub data CallRun : Type 0 where
  Runs : State → CallRun
  Ends : Option ConcreteValue → State → CallRun
  Breaks : End → State → CallRun

abbrev pub lifted : Run → CallRun
lifted (On s) = Runs s
lifted (Over e s) = Breaks e s

-- a frame that ends returns to its caller; the call's own frame ends the call
abbrev pub returns_to : ProgramData → Option ConcreteValue → List Frame → State → CallRun
returns_to p v [] s = Ends v s
returns_to p v (caller ∷ callers) s = lifted (returns p v (caller ∷ callers) s)

-- the newest frame ends, and what its Alloca nodes made ends with it
abbrev pub frame_ends : ProgramData → Option ConcreteValue → State → CallRun
frame_ends p v s = returns_to p v s.callers (ended p s)

-- a node is executed
abbrev pub executes : ProgramData → List ℕ → Node → State → CallRun
executes p input (node.Ret value) s = frame_ends p (option_map (value_in s.frame) value) s
executes p input n s = lifted (attempt p input n s)

-- the newest frame goes on at a node, or it ends without a result, or it has nowhere to go
abbrev pub goes_to : ProgramData → List ℕ → Next → State → CallRun
goes_to p input (next.Node n) s = executes p input (node_at p s.frame.func n) (with_frame (counted (at_node n s.frame)) s)
goes_to p input next.End s = frame_ends p None s
goes_to p input next.Never s = Breaks (Faulted fault.NoReturn s.frame.func s.frame.node) s

abbrev pub call_step : ProgramData → List ℕ → Ways → State → CallRun
call_step p input ways s = goes_to p input (ways s.frame.func s.frame.node) s

-- one step more, unless the call has ended or the run is over
abbrev pub call_goes_on : ProgramData → List ℕ → Ways → CallRun → CallRun
call_goes_on p input ways (Runs s) = call_step p input ways s
call_goes_on p input ways (Ends v s) = Ends v s
call_goes_on p input ways (Breaks e s) = Breaks e s

-- a call after at most n steps
abbrev pub call_run : ProgramData → List ℕ → Ways → State → ℕ → CallRun
call_run p input ways s zero = Runs s
call_run p input ways s (suc n) = call_goes_on p input ways (call_run p input ways s n)

-- a call of f begins, from a history, with its arguments and its frame's name
abbrev pub called : ProgramData → FuncId → List ConcreteValue → List CallStep → History → State
called p f args name h = record { frame = entered p f args name; callers = []; history = h; events = [] }
