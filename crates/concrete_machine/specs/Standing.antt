-- The machine stands at a state of the run, and what a step of it says of the run.
use Rattle.std.specs.Prelude.{◌≡◌, ℕ, min, List, length}
use Rattle.flat_ir.specs.declared.nodes.Node.{Node}
use Rattle.flat_ir.specs.declared.program.ProgramData.{ProgramData}
use Rattle.flat_ir.specs.History.{History, position, output}
use Rattle.flat_ir.specs.Machine as run
use Rattle.flat_ir.specs.Machine.{State, Run, Event}
use Rattle.flat_ir.specs.Steps.{attempt}
use Rattle.concrete_memory.specs.Standing.{StandsFor}
use Rattle.concrete_machine.specs.declared.machine.Machine.{Machine}
use Rattle.concrete_machine.specs.declared.machine.Led.{Led}
use Rattle.concrete_machine.specs.declared.machine.Led.TheVariants.{On, Exited, Faulted}
use Rattle.concrete_machine.specs.Frames.{frame_of, callers_of, state_at}

-- memory, the input that is left and what was written out are as the history has them
pub record Remembers (p : ProgramData) (input : List ℕ) (m : Machine) (h : History) : Type 0 where
  pub memory : StandsFor p m.store h
  pub position : m.position ≡ min (position h) (length input)
  pub output : m.output ≡ output h

-- the machine has the state's frames, and the rest by its history
pub record StandsAt (p : ProgramData) (input : List ℕ) (m : Machine) (s : State) : Type 0 where
  pub frame : frame_of m.frame ≡ s.frame
  pub callers : callers_of m ≡ s.callers
  pub remembers : Remembers p input m s.history

-- what the machine answered is what the run does, and there it stands, or this it has written
abbrev pub Leads : ProgramData → List ℕ → Machine → Led → Run → Type 0
Leads p input m On (run.On s) = StandsAt p input m s
Leads p input m On (run.Over e s) = ⊥
Leads p input m (Exited status) (run.On s) = ⊥
Leads p input m (Exited status) (run.Over e s) = (run.Exited status ≡ e) × (m.output ≡ output s.history)
Leads p input m (Faulted kind) (run.On s) = ⊥
Leads p input m (Faulted kind) (run.Over e s) = (run.Faulted kind m.frame.func m.frame.node ≡ e) × (m.output ≡ output s.history)

-- the machine attempts the node as the run does, from each state at which it stands
abbrev pub Attempts : ProgramData → List ℕ → Node → Machine → Machine → Led → Type 0
Attempts p input n old new led =
    (h : History) (events : List Event) → Remembers p input old h → Leads p input new led (attempt p input n (state_at old h events))

-- so it is in any program, on any input
abbrev pub AttemptsAnywhere : Node → Machine → Machine → Led → Type 0
AttemptsAnywhere n old new led = (p : ProgramData) (input : List ℕ) → Attempts p input n old new led
