-- The node at which a state that agrees with a moment stands: it is the run's, and its operands have values, which fit.
use Rattle.std.proofs.Common.{◌≡◌, ℕ, ◌+◌, List, [], unwrap_or, sym, ◌∙◌, subst, arith}
use Rattle.std.specs.Prelude.{slice_get}
use Rattle.std.specs.List.{AllByRecursion as Each}
use Rattle.flat_ir.specs.declared.names.ObjectName.TheVariants as object
use Rattle.flat_ir.specs.declared.nodes.Node.{Node}
use Rattle.flat_ir.specs.Machine as machine
use Rattle.flat_ir.specs.Machine.{node_at}
use Rattle.flat_ir.specs.MadeNames.{NamesAreKept}
use Rattle.flat_ir.specs.Whole.{operands_of}
use Rattle.flat_ir.proofs.MadeKept.{count_here_counted}
use Rattle.flat_ir.proofs.MadeRuns.{run_keeps}
use Rattle.flat_ir.proofs.MadeSteps.{RunKeeps}
use Rattle.sym_states.specs.States.{Frame, State, code_of, node_of, step_now, made_now}
use Rattle.state_laws.specs.Kept.{NodeFits}
use Rattle.state_laws.proofs.Programs.{code_of-fits}
use Rattle.agreement.specs.Agreement.{FrameAgrees}
use Rattle.agreement.proofs.Along.{Scene, IsHere, IsGiven, alike}
use Rattle.agreement.proofs.SetFrames.{are_given}

-- the state's node is the run's
pub code-here : (e : Scene) (k : ℕ) (m : machine.State) (s : State) (x : Node) → IsHere e k m s → node_at e.c.program m.frame.func m.frame.node ≡ x → code_of e.c.program s.frame ≡ x
code-here e k m s x h code =
    let a = alike e.input s m h.agrees in
    (λ j. node_at e.c.program (sym a.frame.func j) (node_of (a.frame.place j))) ∙ code

-- each operand of the node has a value
pub given-here : (e : Scene) (k : ℕ) (m : machine.State) (s : State) (x : Node) → IsHere e k m s → node_at e.c.program m.frame.func m.frame.node ≡ x → Each (IsGiven s) (operands_of x)
given-here e k m s x h code = are_given e.c.program s x h.state.set.frame e.plain.checked (code-here e k m s x h code)

-- and what the node names fits
pub fits-here : (e : Scene) (k : ℕ) (m : machine.State) (s : State) (x : Node) → IsHere e k m s → node_at e.c.program m.frame.func m.frame.node ≡ x → NodeFits e.c.program x
fits-here e k m s x h code = subst (NodeFits e.c.program) (code-here e k m s x h code) (code_of-fits e.c.program s.frame e.plain.program)

-- ---- names

-- names are kept at the moment
pub names-here : (e : Scene) (k : ℕ) (m : machine.State) (s : State) → IsHere e k m s → NamesAreKept e.c.program m
names-here e k m s h = subst (RunKeeps e.c.program) h.runs (run_keeps e.c.program e.input k e.plain.whole)

-- the execution of the node that is counted is the one that the frame makes now
pub step-here : (e : Scene) (k : ℕ) (m : machine.State) (s : State) → IsHere e k m s → machine.step_here (machine.counted m.frame) ≡ step_now s.frame
step-here e k m s h =
    let a = alike e.input s m h.agrees in
    let kept = names-here e k m s h in
    let counts : machine.count_here (machine.counted m.frame) ≡ machine.count_here m.frame + 1 = count_here_counted m.frame (omega (arith, kept.frame.node, kept.frame.counts)) in
    (λ j. record { func = m.frame.func; node = m.frame.node; count = counts j }) ∙ (λ j. at-frame a.frame j)
  where
    at-frame : {input : List ℕ} {f : Frame} {g : machine.Frame} → FrameAgrees input [] f g
        → record { func = g.func; node = g.node; count = machine.count_here g + 1 } ≡ step_now f
    at-frame h = λ j. record { func = h.func j; node = node_of (sym h.place j); count = unwrap_or (slice_get (h.counts j) (node_of (sym h.place j)).0) 0 + 1 }

-- so the node makes one object
pub made-here : (e : Scene) (k : ℕ) (m : machine.State) (s : State) → IsHere e k m s → machine.made_here (machine.counted m.frame) ≡ made_now s.frame
made-here e k m s h = let a = alike e.input s m h.agrees in λ j. object.Made (a.frame.name j) (step-here e k m s h j)
