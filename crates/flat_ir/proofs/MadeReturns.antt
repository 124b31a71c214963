-- How the end of a frame keeps names: it frees what its Alloca nodes made, and nothing else.
use Rattle.std.specs.Prelude.{slice_get, unwrap_or, reverse}
use Rattle.std.proofs.Common.{◌≡◌, ℕ, zero, suc, ◌+◌, ◌<◌, ◌≤◌, true, false, List, [], ◌∷◌, ◌++◌, length, refl, sym, ◌∙◌, ap, subst, inl, inr, arith, add-zero, zero-add}
use Rattle.std.specs.List.{AllByRecursion as Each}
use Rattle.flat_ir.specs.declared.names.CallStep.{CallStep}
use Rattle.flat_ir.specs.declared.names.NodeId.{NodeId}
use Rattle.flat_ir.specs.declared.names.ObjectName.{ObjectName}
use Rattle.flat_ir.specs.declared.names.ObjectName.TheVariants.{Global, Made}
use Rattle.flat_ir.specs.declared.nodes.Node.{Node}
use Rattle.flat_ir.specs.declared.nodes.Node.TheVariants as node
use Rattle.flat_ir.specs.declared.program.ProgramData.{ProgramData}
use Rattle.flat_ir.specs.declared.values.ConcreteValue.{ConcreteValue}
use Rattle.flat_ir.specs.History.{History, Change, Write, Alloc, Free, Get, Put, same_object, is_alive}
use Rattle.flat_ir.specs.Same.{same_object-true}
use Rattle.flat_ir.specs.Orderly.{is_made, IsOrderly}
use Rattle.flat_ir.specs.Machine.{Frame, node_at, nodes_of, func_at}
use Rattle.flat_ir.specs.Steps.{frees_of_node, frees_at, frees_from}
use Rattle.flat_ir.specs.MadeNames.{count_at, is_alloca, object_of, IsFrameOf, AreCalled, HasCounted, HoldsObjects, IsKnownValue, HoldsKnown, HasKnownBytes, KeepsNames}
use Rattle.flat_ir.proofs.MadeBasics.{cases, each_map, each_append, each_reverse, value_more, alive_made, made_alive}
use Rattle.flat_ir.proofs.MadeKept.{Begun, with_place, called_as}
use Rattle.flat_ir.proofs.MadeChanges.{objects_held}

-- the change frees an object of the frame with that name, which was made
abbrev pub IsFreeOf : List CallStep → History → Change → Type 0
IsFreeOf name h (Free (Made frame made)) = (frame ≡ name) × (is_made (Made frame made) h ≡ true)
IsFreeOf name h (Free (Global g)) = ⊥
IsFreeOf name h (Write x k b) = ⊥
IsFreeOf name h (Alloc x size) = ⊥
IsFreeOf name h Get = ⊥
IsFreeOf name h (Put b) = ⊥

-- what such changes leave
pub record AreFreed (p : ProgramData) (name : List CallStep) (h : History) (fr : List Change) : Type 0 where
  pub orderly : IsOrderly (fr ++ h)
  pub made : (frame : List CallStep) (made : CallStep) → is_made (Made frame made) (fr ++ h) ≡ is_made (Made frame made) h
  pub alive : (frame : List CallStep) (made : CallStep) → (frame ≡ name → ⊥) → is_alive (Made frame made) h ≡ true → is_alive (Made frame made) (fr ++ h) ≡ true
  pub values : (v : ConcreteValue) → IsKnownValue p h v → IsKnownValue p (fr ++ h) v
  pub bytes : HasKnownBytes p (fr ++ h)

frame_in : ObjectName → List CallStep
frame_in (Global g) = []
frame_in (Made frame made) = frame

one_frame : (f : List CallStep) (m : CallStep) (g : List CallStep) (n : CallStep) → Made f m ≡ Made g n → f ≡ g
unfolding frame_in
one_frame f m g n e = ap frame_in e

pub are_freed : (p : ProgramData) (name : List CallStep) (h : History) (fr : List Change)
    → IsOrderly h → HasKnownBytes p h → Each (IsFreeOf name h) fr → AreFreed p name h fr
are_freed p name h [] orderly bytes all = record {
  orderly = orderly;
  made = λ frame made. refl;
  alive = λ frame made other there. there;
  values = λ v known. known;
  bytes = bytes;
}
are_freed p name h (Free (Made frame made) ∷ fr) orderly bytes all =
    let rest = are_freed p name h fr orderly bytes all.1 in
    record {
      orderly = (rest.made frame made ∙ all.0.1, rest.orderly);
      made = λ f m. rest.made f m;
      alive = λ f m other there.
          let parts = alive_made f m (fr ++ h) (rest.alive f m other there) in
          elim (cases (same_object (Made f m) (Made frame made))) [
            | inl e ↦ absurd (other (one_frame f m frame made (same_object-true (Made f m) (Made frame made) e) ∙ all.0.0))
            | inr apart ↦ made_alive f m (Free (Made frame made) ∷ (fr ++ h)) parts.0 (rw apart parts.1)
          ];
      values = λ v known. value_more p (Free (Made frame made)) (fr ++ h) v (rest.values v known);
      bytes = rest.bytes;
    }
are_freed p name h (Free (Global g) ∷ fr) orderly bytes all = absurd all.0
are_freed p name h (Write x k b ∷ fr) orderly bytes all = absurd all.0
are_freed p name h (Alloc x size ∷ fr) orderly bytes all = absurd all.0
are_freed p name h (Get ∷ fr) orderly bytes all = absurd all.0
are_freed p name h (Put b ∷ fr) orderly bytes all = absurd all.0

-- each caller's name is shorter
pub shorter : (f : Frame) (fs : List Frame) → AreCalled f fs → Each (λ g. length g.name < length f.name) fs
shorter f [] called = tt
shorter f (g ∷ gs) called =
    let longer : length f.name ≡ suc (length g.name) = ap length called.0 in
    (omega (arith, longer), each_map (λ c. length c.name < length g.name) (λ c. length c.name < length f.name) (λ c less. omega (arith, less, longer)) gs (shorter g gs called.1))

pub each_both : {A : Type 0} (P Q R : A → Type 0) → ((x : A) → P x → Q x → R x) → (xs : List A) → Each P xs → Each Q xs → Each R xs
each_both P Q R f [] ps qs = tt
each_both P Q R f (x ∷ xs) ps qs = (f x ps.0 qs.0, each_both P Q R f xs ps.1 qs.1)

-- the frees of a node that was executed so often
frees_of_node_hold : (f : Frame) (h : History) (n : NodeId) (count k : ℕ)
    → ((j : ℕ) → k ≤ j → j < k + count → is_made (object_of f n j) h ≡ true) → Each (IsFreeOf f.name h) (frees_of_node f n count k)
frees_of_node_hold f h n zero k made = tt
frees_of_node_hold f h n (suc more) k made =
    ((refl, made k (omega arith) (omega arith)), frees_of_node_hold f h n more (k + 1) (λ j least most. made j (omega (arith, least)) (omega (arith, most))))

frees_at_hold : (f : Frame) (h : History) (n : NodeId) (count : ℕ) (kind : Node)
    → (is_alloca kind ≡ true → (j : ℕ) → 1 ≤ j → j < 1 + count → is_made (object_of f n j) h ≡ true) → Each (IsFreeOf f.name h) (frees_at f n count kind)
frees_at_hold f h n count (node.Alloca size result next) made = frees_of_node_hold f h n count 1 (made refl)
frees_at_hold f h n count _ made = tt

frees_hold : (f : Frame) (h : History) (nodes ns : List Node) (k : ℕ)
    → ((i : ℕ) → unwrap_or (slice_get ns i) node.Unreachable ≡ unwrap_or (slice_get nodes (k + i)) node.Unreachable)
    → ((n j : ℕ) → is_alloca (unwrap_or (slice_get nodes n) node.Unreachable) ≡ true → 1 ≤ j → j ≤ count_at f (record { 0 = n }) → is_made (object_of f (record { 0 = n }) j) h ≡ true)
    → Each (IsFreeOf f.name h) (frees_from f k ns)
frees_hold f h nodes [] k are made = tt
frees_hold f h nodes (n ∷ ns) k are made =
    let at : n ≡ unwrap_or (slice_get nodes k) node.Unreachable = are 0 ∙ ap (λ (i : ℕ). unwrap_or (slice_get nodes i) node.Unreachable) (add-zero k) in
    let A : Node → Type 0 = λ m. is_alloca m ≡ true in
    each_append (IsFreeOf f.name h) (frees_at f (record { 0 = k }) (unwrap_or (slice_get f.counts k) 0) n) (frees_from f (k + 1) ns)
    (frees_at_hold f h (record { 0 = k }) (unwrap_or (slice_get f.counts k) 0) n (λ alloca j least most. made k j (subst A at alloca) least (omega (arith, most))))
    (frees_hold f h nodes ns (k + 1) (λ i. are (suc i) ∙ ap (λ (m : ℕ). unwrap_or (slice_get nodes m) node.Unreachable) (moved k i)) made)
  where
    moved : (k i : ℕ) → k + suc i ≡ k + 1 + i
    moved k i = omega arith

-- a frame that ends gives its caller back
pub leaves : (p : ProgramData) (f g : Frame) (gs : List Frame) (h : History) (n : NodeId) (regs : List ConcreteValue)
    → Begun p f (g ∷ gs) h → is_alloca (node_at p f.func f.node) ≡ false → IsFrameOf p (with_place n regs g) → Each (IsKnownValue p h) regs
    → KeepsNames p (with_place n regs g) gs (reverse (frees_from f 0 (nodes_of (func_at p f.func))) ++ h)
leaves p f g gs h n regs begun no_alloca is known =
    let held = objects_held p f (g ∷ gs) h begun no_alloca in
    let nodes = nodes_of (func_at p f.func) in
    let all : Each (IsFreeOf f.name h) (frees_from f 0 nodes) =
    frees_hold f h nodes nodes 0 (λ i. ap (λ (m : ℕ). unwrap_or (slice_get nodes m) node.Unreachable) (sym (zero-add i)))
    (λ m j alloca least most. (alive_made f.name (record { func = f.func; node = record { 0 = m }; count = j }) h (held (record { 0 = m }) j alloca least most)).0) in
    let fr : List Change = reverse (frees_from f 0 nodes) in
    let freed = are_freed p f.name h fr begun.orderly begun.bytes (each_reverse (IsFreeOf f.name h) (frees_from f 0 nodes) all) in
    let counted : (c : Frame) → HasCounted h c → HasCounted (fr ++ h) c =
    λ c kept above step frame made there path. kept above step frame made (sym (freed.made frame made) ∙ there) path in
    let objects : (c : Frame) → length c.name < length f.name → HoldsObjects p h c → HoldsObjects p (fr ++ h) c =
    λ c less kept m k alloca least most. freed.alive c.name (record { func = c.func; node = m; count = k }) (λ e. absurd (omega (arith, less, ap length e))) (kept m k alloca least most) in
    let less = shorter f (g ∷ gs) begun.called in
    record {
      orderly = freed.orderly;
      called = called_as g (with_place n regs g) gs refl begun.called.1;
      frame = is;
      frames = begun.frames.1;
      counts = counted g begun.caller_counts.0;
      caller_counts = each_map (HasCounted h) (HasCounted (fr ++ h)) counted gs begun.caller_counts.1;
      objects = objects g less.0 begun.caller_objects.0;
      caller_objects = each_both (λ c. length c.name < length f.name) (HoldsObjects p h) (HoldsObjects p (fr ++ h)) objects gs less.1 begun.caller_objects.1;
      values = each_map (IsKnownValue p h) (IsKnownValue p (fr ++ h)) freed.values regs known;
      caller_values = each_map (HoldsKnown p h) (HoldsKnown p (fr ++ h)) (λ c kept. each_map (IsKnownValue p h) (IsKnownValue p (fr ++ h)) freed.values c.regs kept) gs begun.caller_values.1;
      bytes = freed.bytes;
    }
