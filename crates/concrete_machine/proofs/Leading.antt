-- What an attempt says where the machine goes on, or where a test fails.
use Rattle.std.specs.Prelude.{reverse, map}
use Rattle.std.specs.declared.alloc.Global.{Global}
use Rattle.std.proofs.Common.{◌≡◌, ℕ, List, Option, Some, None, Vec, sym, ◌∙◌, ap, subst}
use Rattle.flat_ir.specs.declared.program.ProgramData.{ProgramData}
use Rattle.flat_ir.specs.declared.values.FaultKind.{FaultKind}
use Rattle.flat_ir.specs.History.{History}
use Rattle.flat_ir.specs.Machine as run
use Rattle.flat_ir.specs.Machine.{Event, Run}
use Rattle.flat_ir.specs.Steps.{unless}
use Rattle.concrete_memory.specs.declared.objects.Store.{Store}
use Rattle.concrete_memory.specs.Standing.{StandsFor}
use Rattle.concrete_machine.specs.declared.machine.Frame.{Frame}
use Rattle.concrete_machine.specs.declared.machine.Machine.{Machine}
use Rattle.concrete_machine.specs.declared.machine.Led.{Led}
use Rattle.concrete_machine.specs.declared.machine.Led.TheVariants.{Faulted}
use Rattle.concrete_machine.specs.Frames.{frame_of, callers_of, state_at, TurnsTo}
use Rattle.concrete_machine.specs.Standing.{Remembers, StandsAt, Leads}

-- where the newest frame alone is another, the machine stands at the state with that frame
pub stands_turned : (p : ProgramData) (input : List ℕ) (m new : Machine) (f : run.Frame) (h : History) (events : List Event)
    → Remembers p input m h → TurnsTo m new f
    → StandsAt p input new (record { frame = f; callers = callers_of m; history = h; events = events })
stands_turned p input m new f h events remembers turns = record {
  frame = turns.frame;
  callers = ap (λ (c : Vec Frame Global). reverse (map frame_of c.items)) turns.callers;
  remembers = record {
    memory = subst (λ (s : Store). StandsFor p s h) (sym turns.store) remembers.memory;
    position = turns.position ∙ remembers.position;
    output = turns.output ∙ remembers.output;
  };
}

-- a test that holds
pub leads_past : (p : ProgramData) (input : List ℕ) (new : Machine) (led : Led) (test : Option FaultKind) (s : run.State) (r : Run)
    → test ≡ None → Leads p input new led r → Leads p input new led (unless test s r)
leads_past p input new led test s r passes leads = subst (λ (o : Option FaultKind). Leads p input new led (unless o s r)) (sym passes) leads

-- a test that fails ends the run
pub leads_fault : (p : ProgramData) (input : List ℕ) (old new : Machine) (test : Option FaultKind) (kind : FaultKind) (h : History) (events : List Event) (r : Run)
    → test ≡ Some kind → Remembers p input old h → new.frame ≡ old.frame → new.output ≡ old.output
    → Leads p input new (Faulted kind) (unless test (state_at old h events) r)
leads_fault p input old new test kind h events r fails remembers frame output =
    subst (λ (o : Option FaultKind). Leads p input new (Faulted kind) (unless o (state_at old h events) r)) (sym fails)
    (ap (λ (f : Frame). run.Faulted kind f.func f.node) frame, output ∙ remembers.output)

-- where more than the newest frame is another: what is remembered, and then the frame
pub stands_moved : (p : ProgramData) (input : List ℕ) (old m new : Machine) (f : run.Frame) (h : History) (events : List Event)
    → Remembers p input m h → m.callers ≡ old.callers → TurnsTo m new f
    → StandsAt p input new (record { frame = f; callers = callers_of old; history = h; events = events })
stands_moved p input old m new f h events remembers callers turns =
    let stands = stands_turned p input m new f h events remembers turns in
    record {
      frame = stands.frame;
      callers = stands.callers ∙ ap (λ (c : Vec Frame Global). reverse (map frame_of c.items)) callers;
      remembers = stands.remembers;
    }
