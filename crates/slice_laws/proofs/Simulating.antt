-- The residual run of a slice follows its call.
use Rattle.std.proofs.Common.{◌≡◌, ◌≤◌, ◌<◌, ◌∙◌, ⊎_elim, ℕ, suc, true, List, Option, refl, sym, ap, subst}
use Rattle.std.proofs.lemmas.Bool.{cases_lt, cases_Bool}
use Rattle.flat_ir.specs.declared.names.FuncId.{FuncId}
use Rattle.flat_ir.specs.declared.names.NodeId.{NodeId}
use Rattle.flat_ir.specs.declared.names.RegId.{RegId}
use Rattle.flat_ir.specs.declared.nodes.Node.{Node}
use Rattle.flat_ir.specs.declared.nodes.Node.TheVariants as node
use Rattle.flat_ir.specs.declared.nodes.Operand.{Operand}
use Rattle.flat_ir.specs.declared.program.ProgramData.{ProgramData}
use Rattle.flat_ir.specs.History.{History}
use Rattle.flat_ir.specs.Machine.{Event, Frame, State, Run, node_at, counted}
use Rattle.flat_ir.specs.Steps.{attempt, with_frame, calls}
use Rattle.flat_ir.specs.Run.{step-attempt}
use Rattle.points_to.specs.Within.{IsWithin, RunWithin, callee_of}
use Rattle.points_to.proofs.RunsWithin.{step_within}
use Rattle.slices.specs.Slice.{Keep, end_of}
use Rattle.slice_laws.specs.ResidualRun.{whole, Runs, lifted, executes, call_step}
use Rattle.slice_laws.proofs.Lists.{not_both}
use Rattle.slice_laws.proofs.Histories.{Grew}
use Rattle.slice_laws.proofs.Outcomes.{is_plain}
use Rattle.slice_laws.proofs.Likewise.{attempt_likewise}
use Rattle.slice_laws.proofs.Frames.{twin, Shows, level, hidden, below_at, past, shows_counted, alike_counted, shows_called}
use Rattle.slice_laws.proofs.Stages.{Stage, residual, Beside, Follows, silent, now_counted, sees_same}
use Rattle.slice_laws.proofs.Keeping.{counted', residual_executes, kept_follows, kept_call}
use Rattle.slice_laws.proofs.Returning.{silent_return, kept_return}

-- ---- one step of the whole call

-- the state of the whole run, as its parts
abbrev pub state : Frame → List Frame → History → List Event → State
state frame callers h events = record { frame = frame; callers = callers; history = h; events = events }

pub plain_executes : (p : ProgramData) (input : List ℕ) (y : Node) (t : State) → is_plain y ≡ true → executes p input y t ≡ lifted (attempt p input y t)
plain_executes p input (node.Ret value) t e = absurd (cc)
plain_executes p input _ t e = refl

kept_plain : (c : Stage) (frame frame' : Frame) (rest rest' : List Frame) (h : History) (events : List Event) (h' : History) (events' : List Event) (steps : ℕ) (x : Node) → suc steps ≤ c.most → Shows c.p c.f c.items frame rest frame' rest'
    → node_at c.p frame.func frame.node ≡ x → is_plain x ≡ true → c.items (Keep frame.func frame.node) ≡ true → frame.node.0 < end_of c.p frame.func → Grew c.items c.h c.h' h h' → IsWithin c.p (state frame rest h events)
    → residual c steps ≡ Runs (state frame' rest' h' events') → RunWithin c.p (attempt c.p c.input x (state (counted frame) rest h events)) → Follows c (lifted (attempt c.p c.input x (state (counted frame) rest h events)))
kept_plain c _ _ _ _ h events h' events' steps x room (hidden quiet frame frame' rest rest' looks is_quiet below shows) at plain kept lt grew inside ran within = not_both (c.items (Keep quiet.func quiet.node)) kept (is_quiet quiet.node)
kept_plain c _ _ _ _ h events h' events' steps x room (level frame rest node' regs' counts' rest' looks alike ahead waiting) at plain kept lt grew inside ran within =
    let s = state (counted frame) rest h events in
    let s' = state (twin frame frame.node regs' (counted' frame counts')) rest' h' events' in
    let alike2 = alike_counted c.p c.items frame regs' counts' alike kept in
    kept_follows c (counted frame) rest rest' h events regs' (counted' frame counts') h' events' steps (attempt c.p c.input x s) (attempt c.p c.input x s') room looks alike2 waiting grew
    (attempt_likewise c.p c.input x s s' plain (sees_same c s s' regs' (counted' frame counts') x at kept inside.registers alike2 refl grew)) within
    (residual_executes c frame rest' node' regs' counts' h' events' steps looks kept lt ahead ran ∙ ap (λ (y : Node). executes c.p c.input y s') at ∙ plain_executes c.p c.input x s' plain)

plain_follows : (c : Stage) (s : State) (x : Node) → node_at c.p s.frame.func s.frame.node ≡ x → is_plain x ≡ true → (b : Beside c s) → suc b.steps ≤ c.most → RunWithin c.p (attempt c.p c.input x (with_frame (counted s.frame) s))
    → Follows c (lifted (attempt c.p c.input x (with_frame (counted s.frame) s)))
plain_follows c s x at plain b room within =
    ⊎_elim (λ kept. ⊎_elim (λ lt. kept_plain c s.frame b.state.frame s.callers b.state.callers s.history s.events b.state.history b.state.events b.steps x room b.shows at plain kept lt b.grew b.within b.ran within)
    (λ far. subst (λ (y : Node). Follows c (lifted (attempt c.p c.input y (with_frame (counted s.frame) s)))) (sym (past c.p s.frame.func s.frame.node far) ∙ at) tt)
    (cases_lt s.frame.node.0 (end_of c.p s.frame.func)))
    (λ un. silent c (with_frame (counted s.frame) s) x at plain un (now_counted c s un b) within)
    (cases_Bool (c.items (Keep s.frame.func s.frame.node)))

call_kept : (c : Stage) (frame frame' : Frame) (rest rest' : List Frame) (h : History) (events : List Event) (h' : History) (events' : List Event) (steps : ℕ) (callee : FuncId) (args : List Operand) (result : Option RegId) (next : NodeId)
    → suc steps ≤ c.most → Shows c.p c.f c.items frame rest frame' rest' → node_at c.p frame.func frame.node ≡ node.Call callee args result next → c.items (Keep frame.func frame.node) ≡ true → Grew c.items c.h c.h' h h'
    → IsWithin c.p (state frame rest h events) → residual c steps ≡ Runs (state frame' rest' h' events') → RunWithin c.p (calls c.p callee args (state (counted frame) rest h events))
    → Follows c (lifted (calls c.p callee args (state (counted frame) rest h events)))
call_kept c _ _ _ _ h events h' events' steps callee args result next room (hidden quiet frame frame' rest rest' looks is_quiet below shows) at kept grew inside ran within = not_both (c.items (Keep quiet.func quiet.node)) kept (is_quiet quiet.node)
call_kept c _ _ _ _ h events h' events' steps callee args result next room (level frame rest node' regs' counts' rest' looks alike ahead waiting) at kept grew inside ran within =
    let x = node.Call callee args result next in
    let s = state (counted frame) rest h events in
    let s' = state (twin frame frame.node regs' (counted' frame counts')) rest' h' events' in
    let alike2 = alike_counted c.p c.items frame regs' counts' alike kept in
    let lt = below_at c.p frame.func frame.node (λ y. y ≡ x) at (λ e. cc) in
    kept_call c (counted frame) rest rest' h events regs' (counted' frame counts') h' events' steps callee args result next room at kept looks alike2 waiting grew
    (sees_same c s s' regs' (counted' frame counts') x at kept inside.registers alike2 refl grew) within
    (residual_executes c frame rest' node' regs' counts' h' events' steps looks kept lt ahead ran ∙ ap (λ (y : Node). executes c.p c.input y s') at)

call_follows : (c : Stage) (s : State) (callee : FuncId) (args : List Operand) (result : Option RegId) (next : NodeId) → node_at c.p s.frame.func s.frame.node ≡ node.Call callee args result next → (b : Beside c s)
    → suc b.steps ≤ c.most → RunWithin c.p (calls c.p callee args (with_frame (counted s.frame) s)) → Follows c (lifted (calls c.p callee args (with_frame (counted s.frame) s)))
call_follows c s callee args result next at b room within =
    ⊎_elim (λ kept. call_kept c s.frame b.state.frame s.callers b.state.callers s.history s.events b.state.history b.state.events b.steps callee args result next room b.shows at kept b.grew b.within b.ran within)
    (λ un. let b2 = now_counted c s un b in record {
      steps = b2.steps;
      few = b2.few;
      state = b2.state;
      ran = b2.ran;
      shows = shows_called c.p c.f c.at' c.items c.facts (counted s.frame) b2.state.frame s.callers b2.state.callers callee _ un (ap callee_of at) refl b2.shows;
      grew = b2.grew;
      within = within;
    })
    (cases_Bool (c.items (Keep s.frame.func s.frame.node)))

return_kept : (c : Stage) (frame frame' : Frame) (rest rest' : List Frame) (h : History) (events : List Event) (h' : History) (events' : List Event) (steps : ℕ) (value : Option Operand)
    → suc steps ≤ c.most → Shows c.p c.f c.items frame rest frame' rest' → node_at c.p frame.func frame.node ≡ node.Ret value → c.items (Keep frame.func frame.node) ≡ true → Grew c.items c.h c.h' h h'
    → IsWithin c.p (state frame rest h events) → residual c steps ≡ Runs (state frame' rest' h' events') → RunWithin c.p (attempt c.p c.input (node.Ret value) (state (counted frame) rest h events))
    → Follows c (executes c.p c.input (node.Ret value) (state (counted frame) rest h events))
return_kept c _ _ _ _ h events h' events' steps value room (hidden quiet frame frame' rest rest' looks is_quiet below shows) at kept grew inside ran within = not_both (c.items (Keep quiet.func quiet.node)) kept (is_quiet quiet.node)
return_kept c _ _ _ _ h events h' events' steps value room (level frame rest node' regs' counts' rest' looks alike ahead waiting) at kept grew inside ran within =
    let x = node.Ret value in
    let s = state (counted frame) rest h events in
    let s' = state (twin frame frame.node regs' (counted' frame counts')) rest' h' events' in
    let alike2 = alike_counted c.p c.items frame regs' counts' alike kept in
    let lt = below_at c.p frame.func frame.node (λ y. y ≡ x) at (λ e. cc) in
    kept_return c (counted frame) rest rest' h events regs' (counted' frame counts') h' events' steps value room looks alike2 waiting grew inside.called
    (sees_same c s s' regs' (counted' frame counts') x at kept inside.registers alike2 refl grew) within
    (residual_executes c frame rest' node' regs' counts' h' events' steps looks kept lt ahead ran ∙ ap (λ (y : Node). executes c.p c.input y s') at)

return_follows : (c : Stage) (s : State) (value : Option Operand) → node_at c.p s.frame.func s.frame.node ≡ node.Ret value → (b : Beside c s) → suc b.steps ≤ c.most → RunWithin c.p (attempt c.p c.input (node.Ret value) (with_frame (counted s.frame) s))
    → Follows c (executes c.p c.input (node.Ret value) (with_frame (counted s.frame) s))
return_follows c s value at b room within =
    ⊎_elim (λ kept. return_kept c s.frame b.state.frame s.callers b.state.callers s.history s.events b.state.history b.state.events b.steps value room b.shows at kept b.grew b.within b.ran within)
    (λ un. silent_return c (counted s.frame) b.state.frame s.callers b.state.callers s.history s.events b.state.history b.state.events b.steps value _ room
    (shows_counted c.p c.f c.items s.frame b.state.frame s.callers b.state.callers un b.shows) at un b.grew b.within.called within b.ran)
    (cases_Bool (c.items (Keep s.frame.func s.frame.node)))

node_follows : (c : Stage) (s : State) (x : Node) → node_at c.p s.frame.func s.frame.node ≡ x → (b : Beside c s) → suc b.steps ≤ c.most → RunWithin c.p (attempt c.p c.input x (with_frame (counted s.frame) s))
    → Follows c (executes c.p c.input x (with_frame (counted s.frame) s))
node_follows c s (node.Call callee args result next) at b room within = call_follows c s callee args result next at b room within
node_follows c s (node.Ret value) at b room within = return_follows c s value at b room within
node_follows c s x at b room within = plain_follows c s x at refl b room within

pub step_follows : (c : Stage) (s : State) → (b : Beside c s) → suc b.steps ≤ c.most → Follows c (call_step c.p c.input whole s)
step_follows c s b room =
    node_follows c s (node_at c.p s.frame.func s.frame.node) refl b room
    (subst (λ (r : Run). RunWithin c.p r) (step-attempt c.p c.input s) (step_within c.p c.input s c.program b.within))
