-- A step counts the node of the newest frame and attempts it.
use Rattle.std.proofs.Common.{◌≡◌, ℕ, List, Result, Ok, Err, IfOk, refl, ◌∙◌, ap, subst}
use Rattle.flat_ir.specs.declared.nodes.Node.{Node}
use Rattle.flat_ir.specs.declared.nodes.Node.TheVariants as node
use Rattle.flat_ir.specs.declared.program.ProgramData.{ProgramData}
use Rattle.flat_ir.specs.declared.values.FaultKind.TheVariants as fault
use Rattle.flat_ir.specs.Machine as run
use Rattle.flat_ir.specs.Machine.{State, counted, node_at}
use Rattle.flat_ir.specs.Run.{step-attempt}
use Rattle.flat_ir.specs.Steps.{attempt, with_frame}
use Rattle.concrete_machine.specs.declared.machine.Frame.{Frame}
use Rattle.concrete_machine.specs.declared.machine.Led.{Led}
use Rattle.concrete_machine.specs.declared.machine.Led.TheVariants.{Faulted}
use Rattle.concrete_machine.specs.declared.machine.Machine.{Machine}
use Rattle.concrete_machine.specs.Frames.{frame_of, state_at}
use Rattle.concrete_machine.specs.Standing.{Remembers, Leads, Attempts}
use Rattle.concrete_machine.specs.Stepping.{StepsAs}

pub if_ok_on : {T E : Type 0} (r : Result T E) (P Q : T → Type 0) → ((x : T) → P x → Q x) → IfOk r P → IfOk r Q
if_ok_on (Ok x) P Q f h = f x h
if_ok_on (Err e) P Q f h = tt

pub step_leads : (p : ProgramData) (input : List ℕ) (m new : Machine) (f : Frame) (kind : Node) (led : Led)
    → frame_of f ≡ counted (frame_of m.frame) → kind ≡ node_at p m.frame.func m.frame.node
    → Attempts p input kind (record m { frame = f }) new led → StepsAs p input m new led
step_leads p input m new f kind led counts is attempts s stands =
    let here : kind ≡ node_at p s.frame.func s.frame.node = is ∙ ap (λ (g : run.Frame). node_at p g.func g.node) stands.frame in
    let frame : frame_of f ≡ counted s.frame = counts ∙ ap counted stands.frame in
    let at : state_at (record m { frame = f }) s.history s.events ≡ with_frame (counted s.frame) s =
    λ i. record { frame = frame i; callers = stands.callers i; history = s.history; events = s.events } in
    let remembers : Remembers p input (record m { frame = f }) s.history =
    record { memory = stands.remembers.memory; position = stands.remembers.position; output = stands.remembers.output } in
    rw (step-attempt p input s)
    (subst (λ (n : Node). Leads p input new led (attempt p input n (with_frame (counted s.frame) s))) here
    (subst (λ (t : State). Leads p input new led (attempt p input kind t)) at (attempts s.history s.events remembers)))

-- a node that isn't there is Unreachable
pub missing_leads : (p : ProgramData) (input : List ℕ) (m : Machine) (f : Frame)
    → frame_of f ≡ counted (frame_of m.frame) → node.Unreachable ≡ node_at p m.frame.func m.frame.node
    → StepsAs p input m (record m { frame = f }) (Faulted fault.Unreachable)
missing_leads p input m f counts is =
    step_leads p input m (record m { frame = f }) f node.Unreachable (Faulted fault.Unreachable) counts is (λ h events remembers. (refl, remembers.output))
