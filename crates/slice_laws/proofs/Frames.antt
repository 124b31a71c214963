-- How the frames of a residual run stand to those of the whole run.
use Rattle.std.specs.Prelude.{slice_get, slice_set, unwrap_or, map}
use Rattle.std.proofs.Common.{◌≡◌, ◌<◌, ◌≤◌, ◌+◌, ◌∙◌, ◌==◌, ⊎_elim, ℕ, true, false, List, [], ◌∷◌, Option, Some, refl, sym, ap, subst, arith}
use Rattle.std.specs.List.{Contains}
use Rattle.std.proofs.lemmas.Bool.{cases_lt, eqb-true, eq-eqb, cases_Bool}
use Rattle.std.proofs.lemmas.Option.{slice_get_past}
use Rattle.control_closure.specs.Met.{HasEdge, Meets, beyond}
use Rattle.flat_ir.specs.declared.names.FuncId.{FuncId}
use Rattle.flat_ir.specs.declared.names.NodeId.{NodeId}
use Rattle.flat_ir.specs.declared.names.RegId.{RegId}
use Rattle.flat_ir.specs.declared.names.Location.{Location}
use Rattle.flat_ir.specs.declared.nodes.Node.{Node}
use Rattle.flat_ir.specs.declared.nodes.Node.TheVariants as node
use Rattle.flat_ir.specs.declared.program.ProgramData.{ProgramData}
use Rattle.flat_ir.specs.declared.values.ConcreteValue.{ConcreteValue}
use Rattle.flat_ir.specs.Machine.{Frame, nodes_of, func_at, node_at, count_here, counted}
use Rattle.flat_ir.specs.Whole.{successors_of}
use Rattle.points_to.specs.Within.{callee_of}
use Rattle.slices.specs.SliceFacts.{SliceFacts}
use Rattle.slices.specs.Slice.{Items, Keep, Looks, calls, end_of, leads_to, graph_of, retained}
use Rattle.slice_laws.specs.Moments.{IsRead, IsQuiet}
use Rattle.slice_laws.proofs.Lists.{not_both, set_apart, set_both, row_at, none_in, Contains-map}
use Rattle.slice_laws.proofs.Outcomes.{is_plain}

-- the registers that retained nodes read and the counts of retained nodes are a frame's
pub record Alike (p : ProgramData) (items : Items) (frame : Frame) (regs' : List ConcreteValue) (counts' : List ℕ) : Type 0 where
  pub regs : (r : RegId) → IsRead p items frame.func r → slice_get regs' r.0 ≡ slice_get frame.regs r.0
  pub counts : (n : NodeId) → items (Keep frame.func n) ≡ true → slice_get counts' n.0 ≡ slice_get frame.counts n.0

-- a frame of the same function and name
abbrev pub twin : Frame → NodeId → List ConcreteValue → List ℕ → Frame
twin frame node' regs' counts' = record { func = frame.func; node = node'; regs = regs'; name = frame.name; counts = counts' }

abbrev pub MeetsIn : ProgramData → Items → FuncId → ℕ → ℕ → Type 0
MeetsIn p items g n m = Meets (graph_of p g) (retained p g items) n m

-- what may be met first from one node may be so from the other
abbrev pub IsAhead : ProgramData → Items → FuncId → NodeId → NodeId → Type 0
IsAhead p items g n n' = (m : ℕ) → MeetsIn p items g n.0 m → MeetsIn p items g n'.0 m

-- the frames below one of a function, which wait for retained calls; the last of all is of the call's function
pub data Waiting (p : ProgramData) (f : FuncId) (items : Items) : FuncId → List Frame → List Frame → Type 0 where
  none : Waiting p f items f [] []
  both : (g : FuncId) (frame : Frame) (regs' : List ConcreteValue) (counts' : List ℕ) (rest rest' : List Frame) → Looks p f frame.func → Alike p items frame regs' counts' →
      items (Keep frame.func frame.node) ≡ true → Waiting p f items frame.func rest rest' → Waiting p f items g (frame ∷ rest) (twin frame frame.node regs' counts' ∷ rest')

-- the residual run has the frames of the whole run, but those within calls that aren't retained
pub data Shows (p : ProgramData) (f : FuncId) (items : Items) : Frame → List Frame → Frame → List Frame → Type 0 where
  level : (frame : Frame) (rest : List Frame) (node' : NodeId) (regs' : List ConcreteValue) (counts' : List ℕ) (rest' : List Frame) → Looks p f frame.func → Alike p items frame regs' counts' →
      IsAhead p items frame.func frame.node node' → Waiting p f items frame.func rest rest' → Shows p f items frame rest (twin frame node' regs' counts') rest'
  hidden : (quiet frame frame' : Frame) (rest rest' : List Frame) → Looks p f quiet.func → IsQuiet items quiet.func → items (Keep frame.func frame.node) ≡ false →
      Shows p f items frame rest frame' rest' → Shows p f items quiet (frame ∷ rest) frame' rest'

-- ---- edges

pub past : (p : ProgramData) (g : FuncId) (n : NodeId) → end_of p g ≤ n.0 → node_at p g n ≡ node.Unreachable
past p g n far = ap (λ (o : Option Node). unwrap_or o node.Unreachable) (slice_get_past (nodes_of (func_at p g)) n.0 far)

-- a node that is something else than what stands at no place is one of the function's
pub below_at : (p : ProgramData) (g : FuncId) (n : NodeId) (P : Node → Type 0) → P (node_at p g n) → (P node.Unreachable → ⊥) → n.0 < end_of p g
below_at p g n P is not = ⊎_elim (λ lt. lt) (λ far. absurd (not (subst P (past p g n far) is))) (cases_lt n.0 (end_of p g))

pub edge_at : (p : ProgramData) (g : FuncId) (n : NodeId) (x : Node) (k : ℕ) → node_at p g n ≡ x → Contains (leads_to (end_of p g) x) k → (n.0 < end_of p g) × HasEdge (graph_of p g) n.0 k
edge_at p g n x k at leads =
    let here' : Contains (leads_to (end_of p g) (node_at p g n)) k = subst (λ (y : Node). Contains (leads_to (end_of p g) y) k) (sym at) leads in
    let lt = below_at p g n (λ y. Contains (leads_to (end_of p g) y) k) here' (none_in k) in
    (lt, subst (λ (row : List ℕ). Contains row k) (sym (row_at (leads_to (end_of p g)) (nodes_of (func_at p g)) ([] ∷ []) n.0 node.Unreachable lt)) here')

plain_leads : (end : ℕ) (x : Node) → is_plain x ≡ true → leads_to end x ≡ map (λ (s : NodeId). s.0) (successors_of x)
plain_leads end (node.Ret value) plain = absurd (cc)
plain_leads end _ plain = refl

pub plain_edge : (p : ProgramData) (g : FuncId) (n : NodeId) (x : Node) (next : NodeId) → node_at p g n ≡ x → is_plain x ≡ true → Contains (successors_of x) next
    → (n.0 < end_of p g) × HasEdge (graph_of p g) n.0 next.0
plain_edge p g n x next at plain leads =
    edge_at p g n x next.0 at (subst (λ (ks : List ℕ). Contains ks next.0) (sym (plain_leads (end_of p g) x plain)) (Contains-map (λ (s : NodeId). s.0) (successors_of x) next leads))

pub apart_end : (n end : ℕ) → n < end → (n == end) ≡ false
apart_end n end lt = elim (n == end) as (λ t. n == end ≡ t → t ≡ false) [
  | true ↦ λ e. let same : n ≡ end = eqb-true n end e in absurd (omega (arith, lt))
  | false ↦ λ e. refl
] refl

pub not_retained : (p : ProgramData) (items : Items) (g : FuncId) (n : NodeId) → n.0 < end_of p g → items (Keep g n) ≡ false → retained p g items n.0 ≡ false
not_retained p items g n lt un = rw (apart_end n.0 (end_of p g) lt) un

pub is_retained : (p : ProgramData) (items : Items) (g : FuncId) (n : NodeId) → n.0 < end_of p g → items (Keep g n) ≡ true → retained p g items n.0 ≡ true
is_retained p items g n lt kept = rw (apart_end n.0 (end_of p g) lt) kept

pub end_retained : (p : ProgramData) (items : Items) (g : FuncId) → retained p g items (end_of p g) ≡ true
end_retained p items g = rw (eq-eqb (end_of p g) (end_of p g) refl) refl

-- ---- silent changes of the whole run's newest frame

pub shows_looks : (p : ProgramData) (f : FuncId) (items : Items) (frame frame' : Frame) (rest rest' : List Frame) → Shows p f items frame rest frame' rest' → Looks p f frame.func
shows_looks p f items _ _ _ _ (level frame rest node' regs' counts' rest' looks alike ahead waiting) = looks
shows_looks p f items _ _ _ _ (hidden quiet frame frame' rest rest' looks is_quiet un shows) = looks

-- it moves from a node that isn't retained, and sets no register that is read
pub shows_moved : (p : ProgramData) (f : FuncId) (items : Items) (frame frame' : Frame) (rest rest' : List Frame) (regs : List ConcreteValue) (next : NodeId) → items (Keep frame.func frame.node) ≡ false
    → ((r : RegId) → IsRead p items frame.func r → slice_get regs r.0 ≡ slice_get frame.regs r.0) → frame.node.0 < end_of p frame.func → HasEdge (graph_of p frame.func) frame.node.0 next.0
    → Shows p f items frame rest frame' rest' → Shows p f items (record frame { regs = regs; node = next }) rest frame' rest'
shows_moved p f items _ _ _ _ regs next un same lt edge (level frame rest node' regs' counts' rest' looks alike ahead waiting) =
    level (record frame { regs = regs; node = next }) rest node' regs' counts' rest' looks
    (record { regs = λ r read. alike.regs r read ∙ sym (same r read); counts = alike.counts })
    (λ m met. ahead m (beyond next.0 (not_retained p items frame.func frame.node lt un) edge met)) waiting
shows_moved p f items _ _ _ _ regs next un same lt edge (hidden quiet frame frame' rest rest' looks is_quiet below shows) =
    hidden (record quiet { regs = regs; node = next }) frame frame' rest rest' looks is_quiet below shows

-- it counts a node that isn't retained
pub shows_counted : (p : ProgramData) (f : FuncId) (items : Items) (frame frame' : Frame) (rest rest' : List Frame) → items (Keep frame.func frame.node) ≡ false
    → Shows p f items frame rest frame' rest' → Shows p f items (counted frame) rest frame' rest'
shows_counted p f items _ _ _ _ un (level frame rest node' regs' counts' rest' looks alike ahead waiting) =
    level (counted frame) rest node' regs' counts' rest' looks
    (record {
      regs = alike.regs;
      counts = λ n kept. alike.counts n kept ∙ sym (set_apart frame.counts frame.node.0 n.0 (count_here frame + 1)
          (λ e. not_both (items (Keep frame.func n)) kept (subst (λ (k : ℕ). items (Keep frame.func (record { 0 = k })) ≡ false) e un)));
    }) ahead waiting
shows_counted p f items _ _ _ _ un (hidden quiet frame frame' rest rest' looks is_quiet below shows) = hidden (counted quiet) frame frame' rest rest' looks is_quiet below shows

-- ---- the count of a retained node

pub alike_counted : (p : ProgramData) (items : Items) (frame : Frame) (regs' : List ConcreteValue) (counts' : List ℕ) → Alike p items frame regs' counts' → items (Keep frame.func frame.node) ≡ true
    → Alike p items (counted frame) regs' (slice_set counts' frame.node.0 (unwrap_or (slice_get counts' frame.node.0) 0 + 1))
alike_counted p items frame regs' counts' alike kept = record {
  regs = alike.regs;
  counts = λ n k.
      let e = alike.counts frame.node kept in
      ap (λ (o : Option ℕ). slice_get (slice_set counts' frame.node.0 (unwrap_or o 0 + 1)) n.0) e ∙ set_both frame.counts counts' frame.node.0 n.0 (count_here frame + 1) (alike.counts n k);
}

-- ---- a call that isn't retained

pub shows_called : (p : ProgramData) (f : FuncId) (at' : Location) (items : Items) → SliceFacts p f at' items → (frame frame' : Frame) (rest rest' : List Frame) (callee : FuncId) (new : Frame) → items (Keep frame.func frame.node) ≡ false
    → callee_of (node_at p frame.func frame.node) ≡ Some callee → new.func ≡ callee → Shows p f items frame rest frame' rest' → Shows p f items new (frame ∷ rest) frame' rest'
shows_called p f at' items facts frame frame' rest rest' callee new un called is shows =
    let looks : Looks p f frame.func = shows_looks p f items frame frame' rest rest' shows in
    let quiet : IsQuiet items callee = λ n. ⊎_elim (λ kept. not_both (items (Keep frame.func frame.node)) (facts.calls frame.func frame.node callee n looks called kept) un) (λ no'. no') (cases_Bool (items (Keep callee n))) in
    hidden new frame frame' rest rest' (subst (λ (g : FuncId). Looks p f g) (sym is) (calls frame.func frame.node callee looks called)) (subst (λ (g : FuncId). IsQuiet items g) (sym is) quiet) un shows
