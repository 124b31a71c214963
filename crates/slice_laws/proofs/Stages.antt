-- One call and its residual call, step by step.
use Rattle.points_to.proofs.Parts.{first}
use Rattle.std.specs.Prelude.{slice_get, unwrap_or}
use Rattle.std.proofs.Common.{◌≡◌, ◌≤◌, ◌∙◌, ◌&&◌, ℕ, true, false, not, List, [], ◌∷◌, Option, Some, None, refl, sym, ap, subst}
use Rattle.std.specs.List.{Contains, AllByRecursion as Each}
use Rattle.std.proofs.lemmas.List.Elements.{All-contains, All-from_recursion}
use Rattle.flat_ir.specs.declared.names.FuncId.{FuncId}
use Rattle.flat_ir.specs.declared.names.NodeId.{NodeId}
use Rattle.flat_ir.specs.declared.names.RegId.{RegId}
use Rattle.flat_ir.specs.declared.names.Location.{Location}
use Rattle.flat_ir.specs.declared.names.Location.TheVariants as location
use Rattle.flat_ir.specs.declared.names.ObjectName.{ObjectName}
use Rattle.flat_ir.specs.declared.names.ObjectName.TheVariants.{Global, Made}
use Rattle.flat_ir.specs.declared.nodes.Node.{Node}
use Rattle.flat_ir.specs.declared.nodes.Node.TheVariants as node
use Rattle.flat_ir.specs.declared.nodes.Operand.{Operand}
use Rattle.flat_ir.specs.declared.nodes.Operand.TheVariants as operand
use Rattle.flat_ir.specs.declared.program.ProgramData.{ProgramData}
use Rattle.flat_ir.specs.declared.values.ConcreteValue.{ConcreteValue}
use Rattle.flat_ir.specs.declared.values.ConcreteValue.TheVariants.{Ptr}
use Rattle.flat_ir.specs.History.{History, site_of, is_alive}
use Rattle.flat_ir.specs.Orderly.{is_made, is_freed}
use Rattle.flat_ir.specs.Registers.{null}
use Rattle.flat_ir.specs.Machine.{Frame, State, Run, On, Over, node_at, value_in, count_here, counted}
use Rattle.flat_ir.specs.Steps.{attempt, with_frame, address_in}
use Rattle.flat_ir.specs.Whole.{IsWhole, operands_of, results_of}
use Rattle.points_to.specs.Asked.{holder_in}
use Rattle.points_to.specs.Points.{PointsTo}
use Rattle.points_to.specs.Within.{BaseWithin, PointsWithin, FrameWithin, IsWithin, RunWithin}
use Rattle.points_to.proofs.Containing.{node_reads}
use Rattle.points_to.proofs.RunsWithin.{address_within, operands_within}
use Rattle.flat_ir.specs.Locations.{location_of}
use Rattle.mod_ref.specs.Changes.{ChangesAt}
use Rattle.slices.specs.Nodes.{read_through, used_alive, reads_input}
use Rattle.slices.specs.Slice.{Items, Keep, Need, Looks}
use Rattle.slices.specs.SliceFacts.{SliceFacts, GoesWhereMet}
use Rattle.slices.specs.Nexts.{Ways}
use Rattle.slice_laws.specs.ResidualRun.{CallRun, Runs, Ends, Breaks, lifted, call_run}
use Rattle.slice_laws.specs.Simulation.{Agree}
use Rattle.slice_laws.proofs.Lists.{not_both, filter_none, none_in, later, each_from}
use Rattle.slice_laws.proofs.Histories.{is_needed, Grew, grow, still_agree}
use Rattle.slice_laws.proofs.Outcomes.{Did, did, RunDid, is_plain, attempt_did}
use Rattle.slice_laws.proofs.Likewise.{SameLife, SameBytes, SeesSame}
use Rattle.slice_laws.specs.Moments.{IsRead}
use Rattle.slice_laws.proofs.Frames.{Alike, twin, Shows, plain_edge, shows_looks, shows_moved, shows_counted}
use Rattle.slice_laws.proofs.Frees.{not_needed}

-- a call of a function from a history, the residual one from another, and how many steps that may have made
pub record Stage : Type 0 where
  pub p : ProgramData
  pub f : FuncId
  pub at' : Location
  pub items : Items
  pub ways : Ways
  pub input : List ℕ
  pub h : History
  pub h' : History
  pub from' : State
  pub most : ℕ
  pub program : IsWhole p
  pub facts : SliceFacts p f at' items
  pub goes : GoesWhereMet p f items ways
  pub agree : (l : Location) → items (Need l) ≡ true → Agree p l h h'

-- the residual run after so many steps
abbrev pub residual : Stage → ℕ → CallRun
residual c n = call_run c.p c.input c.ways c.from' n

-- the residual run comes to a state that stands for one of the whole run
pub record Beside (c : Stage) (t : State) : Type 0 where
  pub steps : ℕ
  pub few : steps ≤ c.most
  pub state : State
  pub ran : residual c steps ≡ Runs state
  pub shows : Shows c.p c.f c.items t.frame t.callers state.frame state.callers
  pub grew : Grew c.items c.h c.h' t.history state.history
  pub within : IsWithin c.p t

-- it ends as the whole call does
pub record Finished (c : Stage) (v : Option ConcreteValue) (t : State) : Type 0 where
  pub steps : ℕ
  pub few : steps ≤ c.most
  pub result : Option ConcreteValue
  pub state : State
  pub ran : residual c steps ≡ Ends result state
  pub grew : Grew c.items c.h c.h' t.history state.history
  pub same : c.at' ≡ location.Result → result ≡ v

abbrev pub Follows : Stage → CallRun → Type 0
Follows c (Runs t) = Beside c t
Follows c (Ends v t) = Finished c v t
Follows c (Breaks e t) = Unit {0}

-- ---- what a node reads, as the whole run has it

reads_each : (p : ProgramData) (frame : Frame) (x : Node) → IsWhole p → FrameWithin p frame → node_at p frame.func frame.node ≡ x → Each (λ a. PointsWithin p (holder_in frame.func a) (value_in frame a)) (operands_of x)
reads_each p frame x program within at =
    subst (λ (y : Node). Each (λ a. PointsWithin p (holder_in frame.func a) (value_in frame a)) (operands_of y)) at
    (operands_within p frame (operands_of (node_at p frame.func frame.node)) within (node_reads p frame.func frame.node program))

-- ---- nodes that aren't retained

-- a register that is read isn't one that such a node sets
pub sets_unread : (c : Stage) (g : FuncId) (n : NodeId) (x : Node) → node_at c.p g n ≡ x → c.items (Keep g n) ≡ false → (r : RegId) → IsRead c.p c.items g r → Contains (results_of x) r → ⊥
sets_unread c g n x at un r read there =
    not_both (c.items (Keep g n)) (c.facts.defines g read.0 n r read.1 read.2 (subst (λ (y : Node). Contains (results_of y) r) (sym at) there)) un

unneeded : (c : Stage) (g : FuncId) (n : NodeId) → Looks c.p c.f g → c.items (Keep g n) ≡ false → (cs : History) → Each (λ d. ChangesAt c.p g n (location_of d)) cs → Each (λ d. is_needed c.items d ≡ false) cs
unneeded c g n looks un [] own = tt
unneeded c g n looks un (d ∷ cs) own = (not_needed c.p c.f c.at' c.items c.facts g n (location_of d) looks un own.0, unneeded c g n looks un cs own.1)

-- the whole run's state with its node counted
pub now_counted : (c : Stage) (s : State) → c.items (Keep s.frame.func s.frame.node) ≡ false → Beside c s → Beside c (with_frame (counted s.frame) s)
now_counted c s un b = record {
  steps = b.steps;
  few = b.few;
  state = b.state;
  ran = b.ran;
  shows = shows_counted c.p c.f c.items s.frame b.state.frame s.callers b.state.callers un b.shows;
  grew = b.grew;
  within = b.within;
}

moved_silently : (c : Stage) (s t : State) (x : Node) → node_at c.p s.frame.func s.frame.node ≡ x → is_plain x ≡ true → c.items (Keep s.frame.func s.frame.node) ≡ false → Beside c s → Did c.p x s t → IsWithin c.p t
    → Beside c t
moved_silently c s _ x at plain un b (did regs next added events keeps leads own) within =
    let edge = plain_edge c.p s.frame.func s.frame.node x next at plain leads in
    let looks = shows_looks c.p c.f c.items s.frame b.state.frame s.callers b.state.callers b.shows in
    record {
      steps = b.steps;
      few = b.few;
      state = b.state;
      ran = b.ran;
      shows = shows_moved c.p c.f c.items s.frame b.state.frame s.callers b.state.callers regs next un
          (λ r read. keeps r (sets_unread c s.frame.func s.frame.node x at un r read)) edge.0 edge.1 b.shows;
      grew = grow c.items c.h c.h' s.history b.state.history added [] b.grew
          (sym (filter_none (is_needed c.items) added (unneeded c s.frame.func s.frame.node looks un added own)));
      within = within;
    }

-- s has its node counted
pub silent : (c : Stage) (s : State) (x : Node) → node_at c.p s.frame.func s.frame.node ≡ x → is_plain x ≡ true → c.items (Keep s.frame.func s.frame.node) ≡ false → Beside c s
    → RunWithin c.p (attempt c.p c.input x s) → Follows c (lifted (attempt c.p c.input x s))
silent c s x at plain un b within =
    go (attempt c.p c.input x s) (attempt_did c.p c.input x s plain (record { reads = reads_each c.p s.frame x c.program b.within.registers at; at = at })) within
  where
    go : (r : Run) → RunDid c.p x s r → RunWithin c.p r → Follows c (lifted r)
    go (On t) done w = moved_silently c s t x at plain un b done w
    go (Over e t) done w = tt

-- ---- nodes that are retained

used_reads : (x : Node) (a : Operand) → Contains (used_alive x) a → Contains (operands_of x) a
used_reads (node.Load pointer result next) a there = there
used_reads (node.Store value pointer next) a there = later value a (pointer ∷ []) there
used_reads (node.Copy from to next) a there = there
used_reads (node.Free pointer next) a there = there
used_reads _ a there = absurd (none_in a there)

through_reads : (x : Node) (a : Operand) → read_through x ≡ Some a → Contains (operands_of x) a
through_reads (node.Load pointer result next) a e = let same : pointer ≡ a = cc in subst (λ (b : Operand). Contains (b ∷ []) a) (sym same) (first a [])
through_reads (node.Copy from to next) a e = let same : from ≡ a = cc in subst (λ (b : Operand). Contains (b ∷ to ∷ []) a) (sym same) (first a (to ∷ []))
through_reads _ a e = absurd (cc)

-- the value of an operand that a retained node reads
value_alike : (p : ProgramData) (items : Items) (frame frame' : Frame) → ((r : RegId) → IsRead p items frame.func r → slice_get frame'.regs r.0 ≡ slice_get frame.regs r.0) → (n : NodeId) → items (Keep frame.func n) ≡ true
    → (a : Operand) → Contains (operands_of (node_at p frame.func n)) a → value_in frame' a ≡ value_in frame a
value_alike p items frame frame' same n kept (operand.Reg r) there = ap (λ (o : Option ConcreteValue). unwrap_or o (Ptr null)) (same r (n, kept, there))
value_alike p items frame frame' same n kept _ there = refl

alive_same : (x : ObjectName) (h h' : History) → is_made x h ≡ is_made x h' → is_freed x h ≡ is_freed x h' → is_alive x h' ≡ is_alive x h
alive_same (Global g) h h' made freed = refl
alive_same (Made frame made) h h' is freed = λ i. sym is i && not (sym freed i)

life_same : (p : ProgramData) (holder : Operand) (g : FuncId) (b : Option ObjectName) (h h' : History) → BaseWithin p (holder_in g holder) b
    → ((y : ObjectName) → PointsTo p (holder_in g holder) (site_of y) → Agree p (location.Life (site_of y)) h h') → SameLife p b h h'
life_same p holder g None h h' w agree = tt
life_same p holder g (Some y) h h' w agree = let same = agree y w y refl in (alive_same y h h' same.0 same.1, sym same.2)

bytes_same : (p : ProgramData) (holder : Operand) (g : FuncId) (b : Option ObjectName) (h h' : History) → BaseWithin p (holder_in g holder) b
    → ((y : ObjectName) → PointsTo p (holder_in g holder) (site_of y) → Agree p (location.Cells (site_of y)) h h') → SameBytes p b h h'
bytes_same p holder g None h h' w agree = tt
bytes_same p holder g (Some y) h h' w agree = λ k. sym (agree y w y k refl)

-- a retained node sees the same in both states
pub sees_same : (c : Stage) (s s' : State) (regs' : List ConcreteValue) (counts' : List ℕ) (x : Node) → node_at c.p s.frame.func s.frame.node ≡ x → c.items (Keep s.frame.func s.frame.node) ≡ true
    → FrameWithin c.p s.frame → Alike c.p c.items s.frame regs' counts' → s'.frame ≡ twin s.frame s.frame.node regs' counts' → Grew c.items c.h c.h' s.history s'.history → SeesSame c.p x s s'
sees_same c s s' regs' counts' x at kept within alike is grew =
    let g = s.frame.func in
    let n = s.frame.node in
    let reads : Each (λ a. PointsWithin c.p (holder_in g a) (value_in s.frame a)) (operands_of x) = reads_each c.p s.frame x c.program within at in
    let base : (a : Operand) → Contains (operands_of x) a → BaseWithin c.p (holder_in g a) (address_in s a).base =
    λ a there. address_within c.p (holder_in g a) (value_in s.frame a)
    (All-contains (λ (b : Operand). PointsWithin c.p (holder_in g b) (value_in s.frame b)) (operands_of x) a (All-from_recursion (λ (b : Operand). PointsWithin c.p (holder_in g b) (value_in s.frame b)) (operands_of x) reads) there) in
    let agree = still_agree c.p c.items c.h c.h' s.history s'.history c.agree grew in
    record {
      func = ap (λ (fr : Frame). fr.func) is;
      node = ap (λ (fr : Frame). fr.node) is;
      name = ap (λ (fr : Frame). fr.name) is;
      count = ap count_here is ∙ ap (λ (o : Option ℕ). unwrap_or o 0) (alike.counts n kept);
      values = each_from (λ a. value_in s'.frame a ≡ value_in s.frame a) (operands_of x)
          (λ a there. value_alike c.p c.items s.frame s'.frame (λ r read. ap (λ (fr : Frame). slice_get fr.regs r.0) is ∙ alike.regs r read) n kept a (subst (λ (y : Node). Contains (operands_of y) a) (sym at) there));
      lives = each_from (λ a. SameLife c.p (address_in s a).base s.history s'.history) (used_alive x)
          (λ a there. life_same c.p a g (address_in s a).base s.history s'.history (base a (used_reads x a there))
          (λ y points. agree (location.Life (site_of y)) (c.facts.lives g n a (site_of y) kept (subst (λ (z : Node). Contains (used_alive z) a) (sym at) there) points)));
      bytes = λ a e. bytes_same c.p a g (address_in s a).base s.history s'.history (base a (through_reads x a e))
          (λ y points. agree (location.Cells (site_of y)) (c.facts.cells g n a (site_of y) kept (subst (λ (z : Node). read_through z ≡ Some a) (sym at) e) points));
      place = λ e. sym (agree location.Input (c.facts.input g n kept (subst (λ (z : Node). reads_input z ≡ true) (sym at) e)));
    }
