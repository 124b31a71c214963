-- Retained nodes are executed by both runs.
use Rattle.std.specs.Prelude.{slice_get, slice_set, unwrap_or, map}
use Rattle.std.proofs.Common.{◌≡◌, ◌<◌, ◌≤◌, ◌∙◌, ◌+◌, ℕ, suc, true, List, [], ◌∷◌, Option, refl, sym, ap, subst}
use Rattle.std.specs.List.{AllByRecursion as Each}
use Rattle.control_closure.specs.Met.{here}
use Rattle.flat_ir.specs.declared.names.FuncId.{FuncId}
use Rattle.flat_ir.specs.declared.names.NodeId.{NodeId}
use Rattle.flat_ir.specs.declared.names.RegId.{RegId}
use Rattle.flat_ir.specs.declared.nodes.Node.TheVariants as node
use Rattle.flat_ir.specs.declared.nodes.Operand.{Operand}
use Rattle.flat_ir.specs.declared.residual.Next.{Next}
use Rattle.flat_ir.specs.declared.values.ConcreteValue.{ConcreteValue}
use Rattle.flat_ir.specs.History.{History}
use Rattle.flat_ir.specs.Machine.{Event, Frame, State, Run, On, Over, node_at, value_in, entered, step_here}
use Rattle.flat_ir.specs.Steps.{calls}
use Rattle.points_to.specs.Within.{RunWithin, callee_of}
use Rattle.slices.specs.Slice.{Keep, Looks, calls as looks_on, end_of}
use Rattle.slice_laws.specs.ResidualRun.{Runs, lifted, executes, goes_to, call_goes_on}
use Rattle.slice_laws.proofs.Histories.{Grew, grow}
use Rattle.slice_laws.proofs.Likewise.{SeesSame, likewise, RunsLikewise}
use Rattle.slice_laws.proofs.Frames.{Alike, twin, IsAhead, Waiting, both, Shows, level, is_retained}
use Rattle.slice_laws.proofs.Stages.{Stage, residual, Follows}

-- a frame of the whole run, counted, with the residual run's registers and counts
abbrev pub counted' : Frame → List ℕ → List ℕ
counted' frame counts' = slice_set counts' frame.node.0 (unwrap_or (slice_get counts' frame.node.0) 0 + 1)

-- the residual run executes the node at which the whole run stands
pub residual_executes : (c : Stage) (frame : Frame) (rest' : List Frame) (node' : NodeId) (regs' : List ConcreteValue) (counts' : List ℕ) (h' : History) (events' : List Event) (steps : ℕ) → Looks c.p c.f frame.func
    → c.items (Keep frame.func frame.node) ≡ true → frame.node.0 < end_of c.p frame.func → IsAhead c.p c.items frame.func frame.node node'
    → residual c steps ≡ Runs (record { frame = twin frame node' regs' counts'; callers = rest'; history = h'; events = events' })
    → residual c (suc steps) ≡ executes c.p c.input (node_at c.p frame.func frame.node) (record { frame = twin frame frame.node regs' (counted' frame counts'); callers = rest'; history = h'; events = events' })
residual_executes c frame rest' node' regs' counts' h' events' steps looks kept lt ahead ran =
    let s' : State = record { frame = twin frame node' regs' counts'; callers = rest'; history = h'; events = events' } in
    let met = ahead frame.node.0 (here (is_retained c.p c.items frame.func frame.node lt kept)) in
    ap (call_goes_on c.p c.input c.ways) ran ∙ ap (λ (place : Next). goes_to c.p c.input place s') (c.goes.node frame.func looks node' frame.node lt met)

-- ---- a node that is no call and no return

pub kept_follows : (c : Stage) (frame : Frame) (rest rest' : List Frame) (h : History) (events : List Event) (regs' : List ConcreteValue) (counts' : List ℕ) (h' : History) (events' : List Event) (steps : ℕ) (r r' : Run)
    → suc steps ≤ c.most → Looks c.p c.f frame.func → Alike c.p c.items frame regs' counts' → Waiting c.p c.f c.items frame.func rest rest' → Grew c.items c.h c.h' h h'
    → RunsLikewise (record { frame = frame; callers = rest; history = h; events = events }) (record { frame = twin frame frame.node regs' counts'; callers = rest'; history = h'; events = events' }) r r'
    → RunWithin c.p r → residual c (suc steps) ≡ lifted r' → Follows c (lifted r)
kept_follows c frame rest rest' h events regs' counts' h' events' steps (Over e t) r' room looks alike waiting grew like within ran = tt
kept_follows c frame rest rest' h events regs' counts' h' events' steps (On t) (Over e t') room looks alike waiting grew like within ran = absurd like
kept_follows c frame rest rest' h events regs' counts' h' events' steps (On _) (On _) room looks alike waiting grew (likewise new new' next added ev ev' same) within ran = record {
  steps = suc steps;
  few = room;
  state = _;
  ran = ran;
  shows = level (record frame { regs = new; node = next }) rest next new' counts' rest' looks (record { regs = λ r read. same r (alike.regs r read); counts = alike.counts }) (λ m met. met) waiting;
  grew = grow c.items c.h c.h' h h' added added grew refl;
  within = within;
}

-- ---- a call

entered_alike : (c : Stage) (s s' : State) (callee : FuncId) (args : List Operand) (result : Option RegId) (next : NodeId) → SeesSame c.p (node.Call callee args result next) s s'
    → entered c.p callee (map (value_in s'.frame) args) (step_here s'.frame ∷ s'.frame.name) ≡ entered c.p callee (map (value_in s.frame) args) (step_here s.frame ∷ s.frame.name)
entered_alike c s s' callee args result next same =
    λ i. entered c.p callee (values args same.values i) (record { func = same.func i; node = same.node i; count = same.count i } ∷ same.name i)
  where
    values : (as' : List Operand) → Each (λ a. value_in s'.frame a ≡ value_in s.frame a) as' → map (value_in s'.frame) as' ≡ map (value_in s.frame) as'
    values [] all = refl
    values (a ∷ as') all = λ i. all.0 i ∷ values as' all.1 i

pub kept_call : (c : Stage) (frame : Frame) (rest rest' : List Frame) (h : History) (events : List Event) (regs' : List ConcreteValue) (counts' : List ℕ) (h' : History) (events' : List Event) (steps : ℕ)
    (callee : FuncId) (args : List Operand) (result : Option RegId) (next : NodeId) → suc steps ≤ c.most → node_at c.p frame.func frame.node ≡ node.Call callee args result next → c.items (Keep frame.func frame.node) ≡ true
    → Looks c.p c.f frame.func → Alike c.p c.items frame regs' counts' → Waiting c.p c.f c.items frame.func rest rest' → Grew c.items c.h c.h' h h'
    → SeesSame c.p (node.Call callee args result next) (record { frame = frame; callers = rest; history = h; events = events }) (record { frame = twin frame frame.node regs' counts'; callers = rest'; history = h'; events = events' })
    → RunWithin c.p (calls c.p callee args (record { frame = frame; callers = rest; history = h; events = events }))
    → residual c (suc steps) ≡ lifted (calls c.p callee args (record { frame = twin frame frame.node regs' counts'; callers = rest'; history = h'; events = events' }))
    → Follows c (lifted (calls c.p callee args (record { frame = frame; callers = rest; history = h; events = events })))
kept_call c frame rest rest' h events regs' counts' h' events' steps callee args result next room at kept looks alike waiting grew same within ran =
    let s : State = record { frame = frame; callers = rest; history = h; events = events } in
    let s' : State = record { frame = twin frame frame.node regs' counts'; callers = rest'; history = h'; events = events' } in
    let new = entered c.p callee (map (value_in s.frame) args) (step_here s.frame ∷ s.frame.name) in
    let ahead : IsAhead c.p c.items callee new.node new.node = λ m met. met in
    record {
      steps = suc steps;
      few = room;
      state = _;
      ran = ran;
      shows = subst (λ (fr : Frame). Shows c.p c.f c.items new (frame ∷ rest) fr (s'.frame ∷ rest')) (sym (entered_alike c s s' callee args result next same))
          (level new (frame ∷ rest) new.node new.regs new.counts (s'.frame ∷ rest') (looks_on frame.func frame.node callee looks (ap callee_of at))
          (record { regs = λ r read. refl; counts = λ n k. refl }) ahead (both callee frame regs' counts' rest rest' looks alike kept waiting));
      grew = grew;
      within = within;
    }
