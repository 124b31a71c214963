-- Frames that end in both runs, or in the whole run alone.
use Rattle.points_to.proofs.Parts.{first}
use Rattle.std.specs.Prelude.{slice_get, slice_set, reverse}
use Rattle.std.specs.Option.{option_map}
use Rattle.std.proofs.Common.{◌≡◌, ◌≤◌, ◌∙◌, ◌⊎◌, ⊎_elim, inl, inr, ℕ, suc, true, false, List, [], ◌∷◌, Option, Some, None, refl, sym, ap, subst, arith}
use Rattle.std.specs.List.{Contains}
use Rattle.control_closure.specs.Met.{here, beyond}
use Rattle.flat_ir.specs.declared.names.FuncId.{FuncId}
use Rattle.flat_ir.specs.declared.names.NodeId.{NodeId}
use Rattle.flat_ir.specs.declared.names.RegId.{RegId}
use Rattle.flat_ir.specs.declared.names.Location.TheVariants as location
use Rattle.flat_ir.specs.declared.nodes.Node.{Node}
use Rattle.flat_ir.specs.declared.nodes.Node.TheVariants as node
use Rattle.flat_ir.specs.declared.nodes.Operand.{Operand}
use Rattle.flat_ir.specs.declared.residual.Next.{Next}
use Rattle.flat_ir.specs.declared.values.ConcreteValue.{ConcreteValue}
use Rattle.flat_ir.specs.History.{History}
use Rattle.flat_ir.specs.Machine.{Event, Frame, State, node_at, nodes_of, func_at, value_in, at_node}
use Rattle.flat_ir.specs.Steps.{call_result, call_next, set_result, resumed, returns, ended, frees_from}
use Rattle.flat_ir.specs.Whole.{results_of}
use Rattle.points_to.specs.Within.{AreCalls, RunWithin, callee_of}
use Rattle.slices.specs.Nodes.{is_return}
use Rattle.slices.specs.Slice.{Keep, Looks, end_of, leads_to}
use Rattle.slice_laws.specs.ResidualRun.{Runs, returns_to, frame_ends, goes_to, call_goes_on}
use Rattle.slice_laws.proofs.Lists.{not_both, set_apart, set_both}
use Rattle.slice_laws.proofs.Histories.{Grew, grow}
use Rattle.slice_laws.proofs.Likewise.{SeesSame}
use Rattle.slice_laws.specs.Moments.{IsRead}
use Rattle.slice_laws.proofs.Frames.{Alike, twin, MeetsIn, IsAhead, Waiting, none, both, Shows, level, hidden, edge_at, end_retained, not_retained, shows_moved}
use Rattle.slice_laws.proofs.Frees.{frees_alike, frees_quiet}
use Rattle.slice_laws.proofs.Stages.{Stage, residual, Follows, sets_unread}

-- ---- what a caller receives

abbrev result_regs : Option RegId → Option ConcreteValue → List ConcreteValue → List ConcreteValue
result_regs r None regs = regs
result_regs None (Some v) regs = regs
result_regs (Some x) (Some v) regs = slice_set regs x.0 v

set_result_is : (r : Option RegId) (v : Option ConcreteValue) (frame : Frame) → set_result r v frame ≡ record frame { regs = result_regs r v frame.regs }
set_result_is None None frame = refl
set_result_is (Some x) None frame = refl
set_result_is None (Some v) frame = refl
set_result_is (Some x) (Some v) frame = refl

resumed_is : (call : Node) (v : Option ConcreteValue) (frame : Frame) → resumed call v frame ≡ record frame { regs = result_regs (call_result call) v frame.regs; node = call_next call }
resumed_is call v frame = ap (at_node (call_next call)) (set_result_is (call_result call) v frame)

received_same : (r : Option RegId) (v : Option ConcreteValue) (regs regs' : List ConcreteValue) (k : ℕ) → slice_get regs' k ≡ slice_get regs k → slice_get (result_regs r v regs') k ≡ slice_get (result_regs r v regs) k
received_same None None regs regs' k e = e
received_same (Some x) None regs regs' k e = e
received_same None (Some v) regs regs' k e = e
received_same (Some x) (Some v) regs regs' k e = set_both regs regs' x.0 k v e

received_apart : (r : Option RegId) (v : Option ConcreteValue) (regs : List ConcreteValue) (k : ℕ) → ((x : RegId) → r ≡ Some x → x.0 ≡ k → ⊥) → slice_get (result_regs r v regs) k ≡ slice_get regs k
received_apart None None regs k apart = refl
received_apart (Some x) None regs k apart = refl
received_apart None (Some v) regs k apart = refl
received_apart (Some x) (Some v) regs k apart = set_apart regs x.0 k v (apart x refl)

received_none : (r : Option RegId) (regs : List ConcreteValue) → result_regs r None regs ≡ regs
received_none None regs = refl
received_none (Some x) regs = refl

-- no retained node reads what a call of the function gives
abbrev Unread : Stage → FuncId → Type 0
Unread c g = (m : FuncId) (n : NodeId) (x : RegId) → callee_of (node_at c.p m n) ≡ Some g → call_result (node_at c.p m n) ≡ Some x → IsRead c.p c.items m x → ⊥

-- both runs return the same, or the residual one nothing that is read
abbrev SameOrUnread : Stage → FuncId → Option ConcreteValue → Option ConcreteValue → Type 0
SameOrUnread c g v v' = (v' ≡ v) ⊎ ((v' ≡ None) × Unread c g)

received_alike : (c : Stage) (frame : Frame) (regs' : List ConcreteValue) (g : FuncId) (v v' : Option ConcreteValue) → SameOrUnread c g v v' → callee_of (node_at c.p frame.func frame.node) ≡ Some g → (r : RegId)
    → IsRead c.p c.items frame.func r → slice_get regs' r.0 ≡ slice_get frame.regs r.0
    → slice_get (result_regs (call_result (node_at c.p frame.func frame.node)) v' regs') r.0 ≡ slice_get (result_regs (call_result (node_at c.p frame.func frame.node)) v frame.regs) r.0
received_alike c frame regs' g v v' either calls r read e =
    let given = call_result (node_at c.p frame.func frame.node) in
    ⊎_elim (λ same. ap (λ (w : Option ConcreteValue). slice_get (result_regs given w regs') r.0) same ∙ received_same given v frame.regs regs' r.0 e)
    (λ un. ap (λ (w : Option ConcreteValue). slice_get (result_regs given w regs') r.0) un.0 ∙ ap (λ (xs : List ConcreteValue). slice_get xs r.0) (received_none given regs') ∙ e
    ∙ sym (received_apart given v frame.regs r.0
    (λ x gives same. un.1 frame.func frame.node x calls gives (subst (λ (k : ℕ). IsRead c.p c.items frame.func (record { 0 = k })) (sym same) read)))) either

-- ---- both frames end

returns_follow : (c : Stage) (g : FuncId) (rest rest' : List Frame) (v v' : Option ConcreteValue) (s s' : State) (steps : ℕ) → steps ≤ c.most → Waiting c.p c.f c.items g rest rest' → AreCalls c.p g rest
    → Grew c.items c.h c.h' s.history s'.history → SameOrUnread c g v v' → (g ≡ c.f → c.at' ≡ location.Result → v' ≡ v) → RunWithin c.p (returns c.p v rest s)
    → residual c steps ≡ returns_to c.p v' rest' s' → Follows c (returns_to c.p v rest s)
returns_follow c _ _ _ v v' s s' steps few none calls grew either only within ran = record { steps = steps; few = few; result = v'; state = s'; ran = ran; grew = grew; same = only refl }
returns_follow c _ _ _ v v' s s' steps few (both g frame regs' counts' rest rest' looks alike kept waiting) calls grew either only within ran =
    let call = node_at c.p frame.func frame.node in
    let there : Frame = record frame { regs = result_regs (call_result call) v frame.regs; node = call_next call } in
    record {
      steps = steps;
      few = few;
      state = _;
      ran = ran;
      shows = subst (λ (fr : Frame). Shows c.p c.f c.items fr rest (resumed call v' (twin frame frame.node regs' counts')) rest') (sym (resumed_is call v frame))
          (subst (λ (fr : Frame). Shows c.p c.f c.items there rest fr rest') (sym (resumed_is call v' (twin frame frame.node regs' counts')))
          (level there rest (call_next call) (result_regs (call_result call) v' regs') counts' rest' looks
          (record { regs = λ r read. received_alike c frame regs' g v v' either calls.0 r read (alike.regs r read); counts = alike.counts }) (λ m met. met) waiting));
      grew = grew;
      within = within;
    }

-- ---- a return that isn't retained

call_leads : (end : ℕ) (x : Node) (g : FuncId) → callee_of x ≡ Some g → Contains (leads_to end x) (call_next x).0
call_leads end (node.Call callee args result next) g e = first next.0 []
call_leads end _ g e = absurd (cc)

call_sets : (x : Node) (y : RegId) → call_result x ≡ Some y → Contains (results_of x) y
call_sets (node.Call callee args None next) y e = absurd (cc)
call_sets (node.Call callee args (Some r) next) y e = let same : r ≡ y = cc in subst (λ (z : RegId). Contains (z ∷ []) y) (sym same) (first y [])
call_sets _ y e = absurd (cc)

-- a frame that is hidden ends, and the one below it goes on from a call that isn't retained
hidden_return : (c : Stage) (frame frame' : Frame) (rest rest' : List Frame) (g : FuncId) (v : Option ConcreteValue) → callee_of (node_at c.p frame.func frame.node) ≡ Some g → c.items (Keep frame.func frame.node) ≡ false
    → Shows c.p c.f c.items frame rest frame' rest' → Shows c.p c.f c.items (resumed (node_at c.p frame.func frame.node) v frame) rest frame' rest'
hidden_return c frame frame' rest rest' g v calls un shows =
    let call = node_at c.p frame.func frame.node in
    let edge = edge_at c.p frame.func frame.node call (call_next call).0 refl (call_leads (end_of c.p frame.func) call g calls) in
    subst (λ (fr : Frame). Shows c.p c.f c.items fr rest frame' rest') (sym (resumed_is call v frame))
    (shows_moved c.p c.f c.items frame frame' rest rest' (result_regs (call_result call) v frame.regs) (call_next call) un
    (λ r read. received_apart (call_result call) v frame.regs r.0 (λ x gives same. sets_unread c frame.func frame.node call refl un r read
    (subst (λ (k : ℕ). Contains (results_of call) (record { 0 = k })) same (call_sets call x gives)))) edge.0 edge.1 shows)

-- the residual run comes to its frame's end
residual_ends : (c : Stage) (frame : Frame) (rest' : List Frame) (node' : NodeId) (regs' : List ConcreteValue) (counts' : List ℕ) (h' : History) (events' : List Event) (steps : ℕ) (value : Option Operand) → Looks c.p c.f frame.func
    → node_at c.p frame.func frame.node ≡ node.Ret value → c.items (Keep frame.func frame.node) ≡ false → IsAhead c.p c.items frame.func frame.node node'
    → residual c steps ≡ Runs (record { frame = twin frame node' regs' counts'; callers = rest'; history = h'; events = events' })
    → residual c (suc steps) ≡ frame_ends c.p None (record { frame = twin frame node' regs' counts'; callers = rest'; history = h'; events = events' })
residual_ends c frame rest' node' regs' counts' h' events' steps value looks at un ahead ran =
    let s' : State = record { frame = twin frame node' regs' counts'; callers = rest'; history = h'; events = events' } in
    let end = end_of c.p frame.func in
    let edge = edge_at c.p frame.func frame.node (node.Ret value) end at (first end []) in
    let met : MeetsIn c.p c.items frame.func frame.node.0 end =
    beyond end (not_retained c.p c.items frame.func frame.node edge.0 un) edge.1 (here (end_retained c.p c.items frame.func)) in
    ap (call_goes_on c.p c.input c.ways) ran ∙ ap (λ (place : Next). goes_to c.p c.input place s') (c.goes.end frame.func looks node' (ahead end met))

unread : (c : Stage) (g : FuncId) (k : NodeId) (value : Option Operand) → node_at c.p g k ≡ node.Ret value → c.items (Keep g k) ≡ false → Unread c g
unread c g k value at un =
    λ m n x calls gives read. not_both (c.items (Keep g k)) (c.facts.results m read.0 n g x k read.1 read.2 calls gives (ap is_return at)) un

pub silent_return : (c : Stage) (frame frame' : Frame) (rest rest' : List Frame) (h : History) (events : List Event) (h' : History) (events' : List Event) (steps : ℕ) (value : Option Operand) (v : Option ConcreteValue)
    → suc steps ≤ c.most → Shows c.p c.f c.items frame rest frame' rest' → node_at c.p frame.func frame.node ≡ node.Ret value → c.items (Keep frame.func frame.node) ≡ false → Grew c.items c.h c.h' h h' → AreCalls c.p frame.func rest
    → RunWithin c.p (returns c.p v rest (ended c.p (record { frame = frame; callers = rest; history = h; events = events })))
    → residual c steps ≡ Runs (record { frame = frame'; callers = rest'; history = h'; events = events' })
    → Follows c (returns_to c.p v rest (ended c.p (record { frame = frame; callers = rest; history = h; events = events })))
silent_return c _ _ _ _ h events h' events' steps value v room (level frame rest node' regs' counts' rest' looks alike ahead waiting) at un grew calls within ran =
    let nodes = nodes_of (func_at c.p frame.func) in
    returns_follow c frame.func rest rest' v None (ended c.p (record { frame = frame; callers = rest; history = h; events = events }))
    (ended c.p (record { frame = twin frame node' regs' counts'; callers = rest'; history = h'; events = events' })) (suc steps) room waiting calls
    (grow c.items c.h c.h' h h' (reverse (frees_from frame 0 nodes)) (reverse (frees_from (twin frame node' regs' counts') 0 nodes)) grew
    (frees_alike c.p c.f c.at' c.items c.facts frame node' regs' counts' looks alike))
    (inr (refl, unread c frame.func frame.node value at un))
    (λ mine asks. not_both (c.items (Keep frame.func frame.node))
    (subst (λ (g : FuncId). c.items (Keep g frame.node) ≡ true) (sym mine) (c.facts.returns frame.node asks (subst (λ (g : FuncId). is_return (node_at c.p g frame.node) ≡ true) mine (ap is_return at)))) un)
    within (residual_ends c frame rest' node' regs' counts' h' events' steps value looks at un ahead ran)
silent_return c _ _ _ _ h events h' events' steps value v room (hidden quiet frame frame' rest rest' looks is_quiet below shows) at un grew calls within ran = record {
  steps = steps;
  few = omega (arith, room);
  state = _;
  ran = ran;
  shows = hidden_return c frame frame' rest rest' quiet.func v calls.0 below shows;
  grew = grow c.items c.h c.h' h h' (reverse (frees_from quiet 0 (nodes_of (func_at c.p quiet.func)))) [] grew (sym (frees_quiet c.p c.f c.at' c.items c.facts quiet looks is_quiet));
  within = within;
}

-- ---- a return that is retained

value_same : (c : Stage) (s s' : State) (value : Option Operand) → SeesSame c.p (node.Ret value) s s' → option_map (value_in s'.frame) value ≡ option_map (value_in s.frame) value
value_same c s s' None same = refl
value_same c s s' (Some a) same = ap Some same.values.0

pub kept_return : (c : Stage) (frame : Frame) (rest rest' : List Frame) (h : History) (events : List Event) (regs' : List ConcreteValue) (counts' : List ℕ) (h' : History) (events' : List Event) (steps : ℕ) (value : Option Operand)
    → suc steps ≤ c.most → Looks c.p c.f frame.func → Alike c.p c.items frame regs' counts' → Waiting c.p c.f c.items frame.func rest rest' → Grew c.items c.h c.h' h h' → AreCalls c.p frame.func rest
    → SeesSame c.p (node.Ret value) (record { frame = frame; callers = rest; history = h; events = events }) (record { frame = twin frame frame.node regs' counts'; callers = rest'; history = h'; events = events' })
    → RunWithin c.p (returns c.p (option_map (value_in frame) value) rest (ended c.p (record { frame = frame; callers = rest; history = h; events = events })))
    → residual c (suc steps) ≡ frame_ends c.p (option_map (value_in (twin frame frame.node regs' counts')) value) (record { frame = twin frame frame.node regs' counts'; callers = rest'; history = h'; events = events' })
    → Follows c (frame_ends c.p (option_map (value_in frame) value) (record { frame = frame; callers = rest; history = h; events = events }))
kept_return c frame rest rest' h events regs' counts' h' events' steps value room looks alike waiting grew calls same within ran =
    let nodes = nodes_of (func_at c.p frame.func) in
    let s : State = record { frame = frame; callers = rest; history = h; events = events } in
    let s' : State = record { frame = twin frame frame.node regs' counts'; callers = rest'; history = h'; events = events' } in
    let v = option_map (value_in s.frame) value in
    let v' = option_map (value_in s'.frame) value in
    returns_follow c frame.func rest rest' v v' (ended c.p s) (ended c.p s') (suc steps) room waiting calls
    (grow c.items c.h c.h' h h' (reverse (frees_from frame 0 nodes)) (reverse (frees_from s'.frame 0 nodes)) grew
    (frees_alike c.p c.f c.at' c.items c.facts frame frame.node regs' counts' looks alike))
    (inl (value_same c s s' value same)) (λ mine asks. value_same c s s' value same) within ran
