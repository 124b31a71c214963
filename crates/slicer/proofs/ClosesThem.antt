-- Closing rounds over retained nodes.
use Rattle.points_to.proofs.Containing.{func_of}
use Rattle.slicer.proofs.Carrying.{one_there}
use Rattle.slice_laws.proofs.OneSlice.{end_leads}
use Rattle.std.specs.Prelude.{◌==◌, ◌||◌, slice_index_or, slice_get, unwrap_or, nat_lt}
use Rattle.std.proofs.Common.{◌≡◌, ◌≢◌, ◌<◌, ◌≤◌, ◌+◌, ◌++◌, ◌∙◌, ◌⊎◌, inl, inr, ℕ, zero, suc, Bool, true, false, List, [], ◌∷◌, length, map, get_or, Option, Some, None, refl, sym, ap, subst, arith, ⊎_elim, length-append}
use Rattle.std.specs.List.{Contains, AllByRecursion as Each}
use Rattle.std.proofs.lemmas.Bool.{cases_lt, cases_eq, eq-eqb, le-ltb, ne_eqb}
use Rattle.std.proofs.lemmas.List.{get_or_past, get_or-map, length-map}
use Rattle.std.proofs.lemmas.List.Elements.{Contains-get_or, All-contains}
use Rattle.std.proofs.lemmas.Option.{slice_get_within, get_or_from_slice_get, slice_get-get_or, unwrap_or-slice_get}
use Rattle.std.proofs.Math.ListN.{get_or-append}
use Rattle.std.proofs.Math.Seq.{get_or-append_seam}
use Rattle.control_closure.specs.declared.summing.Met.{Met}
use Rattle.control_closure.specs.Met.{HasEdge, IsGraph, Meets, here, beyond, Parts, IsRound}
use Rattle.control_closure.specs.Sums.{SumsUp, SumUp, at_node}
use Rattle.control_closure.proofs.SumsUp.{sums_same}
use Rattle.least.specs.Sets.{has, Within}
use Rattle.flat_ir.specs.declared.names.FuncId.{FuncId}
use Rattle.flat_ir.specs.declared.names.NodeId.{NodeId}
use Rattle.flat_ir.specs.declared.nodes.Node.{Node}
use Rattle.flat_ir.specs.declared.nodes.Node.TheVariants as node
use Rattle.flat_ir.specs.declared.program.Func.{Func}
use Rattle.flat_ir.specs.declared.program.ProgramData.{ProgramData}
use Rattle.flat_ir.specs.Machine.{func_at, nodes_of, node_at}
use Rattle.flat_ir.specs.Whole.{IsWhole, IsFuncOf, IsNodeOf, successors_of}
use Rattle.slices.specs.Slice.{Items, Keep, graph_of, retained, end_of, leads_to}
use Rattle.slicer.specs.declared.marks.Mark.{Mark}
use Rattle.slicer.specs.declared.marks.Mark.TheVariants.{Kept}
use Rattle.slicer.specs.Closing as closing
use Rattle.slicer.specs.Closing.{MarksIf, MarksNodes, IsListed, IsPartedIn, ClosesFunction, ClosesIf, ClosesFirst}
use Rattle.slicer.specs.Facts.{func, IsParted, ClosesOnce}
use Rattle.slicer.specs.Places.{number, number_at, number_if, has_at, marked, items_of, spot_of}
use Rattle.control_closure.specs.SumLaws.{has-below}
use Rattle.slicer.proofs.Numbers.{numbered, placed, func_within}
use Rattle.slicer.proofs.Complete.{marked_has}
use Rattle.slicer.proofs.Grows.{marked_at}

-- ---- sets with the same members

meets_same : (g : List (List ℕ)) (kept kept' : ℕ → Bool) → ((n : ℕ) → kept n ≡ kept' n) → (n m : ℕ) → Meets g kept n m → Meets g kept' n m
meets_same g kept kept' same n _ (here h) = here (sym (same n) ∙ h)
meets_same g kept kept' same n m (beyond k open' edge met) = beyond k (sym (same n) ∙ open') edge (meets_same g kept kept' same k m met)

pub parts_same : (g : List (List ℕ)) (kept kept' : ℕ → Bool) → ((n : ℕ) → kept n ≡ kept' n) → (n : ℕ) → Parts g kept n → Parts g kept' n
parts_same g kept kept' same n p = record {
  one = p.one;
  other = p.other;
  one_edge = p.one_edge;
  other_edge = p.other_edge;
  apart = p.apart;
  one_met = p.one_met;
  other_met = p.other_met;
  from_one = meets_same g kept kept' same p.one p.one_met p.from_one;
  from_other = meets_same g kept kept' same p.other p.other_met p.from_other;
  differ = p.differ;
}

-- ---- the graph of a function

pub graph_size : (p : ProgramData) (g : FuncId) → length (graph_of p g) ≡ end_of p g + 1
graph_size p g = let rows = map (leads_to (end_of p g)) (nodes_of (func_at p g)) in
    omega (arith, length-append rows ([] ∷ []), length-map (nodes_of (func_at p g)) (leads_to (end_of p g)))

-- the row of a node, and of the end
row_at : (end : ℕ) (nodes : List Node) (n : ℕ) (d : Node) → n < length nodes → slice_index_or (map (leads_to end) nodes ++ [] ∷ []) n [] ≡ leads_to end (get_or nodes n d)
row_at end nodes n d lt =
    let size : length (map (leads_to end) nodes) ≡ length nodes = length-map nodes (leads_to end) in
    get_or-append (map (leads_to end) nodes) ([] ∷ []) [] n (omega (arith, lt, size)) ∙ get_or-map (leads_to end) nodes n d [] lt

-- only nodes have edges
pub from_node : (p : ProgramData) (g : FuncId) (n m : ℕ) → HasEdge (graph_of p g) n m → n < end_of p g
from_node p g n m edge = ⊎_elim (λ lt. lt) (λ far. absurd (end_leads p g n far m edge)) (cases_lt n (end_of p g))

contains_mapped : (xs : List NodeId) (y bound : ℕ) → ((k : ℕ) (d : NodeId) → k < length xs → (get_or xs k d).0 < bound) → Contains (map (λ s. s.0) xs) y → y < bound
contains_mapped xs y bound all h =
    let lt : h.0 < length xs = omega (arith, h.1, length-map xs (λ (s : NodeId). s.0)) in
    let e : get_or (map (λ (s : NodeId). s.0) xs) h.0 y ≡ (get_or xs h.0 (record { 0 = 0 })).0 = get_or-map (λ (s : NodeId). s.0) xs h.0 (record { 0 = 0 }) y lt in
    omega (arith, all h.0 (record { 0 = 0 }) lt, e, h.2)

leads_within : (x : Node) (end m : ℕ) → ((k : ℕ) (d : NodeId) → k < length (successors_of x) → (get_or (successors_of x) k d).0 < end) → Contains (leads_to end x) m → m < end + 1
leads_within (node.Ret value) end m all h = let e : end ≡ m = one_there end m h.0 h.1 h.2 in omega (arith, e)
leads_within x end m all h = let lt : m < end = contains_mapped (successors_of x) m end all h in omega (arith, lt)

successors_within : (p : ProgramData) → IsWhole p → (g : FuncId) (n : ℕ) (d : Node) → n < end_of p g
    → (k : ℕ) (e : NodeId) → k < length (successors_of (get_or (nodes_of (func_at p g)) n d)) → (get_or (successors_of (get_or (nodes_of (func_at p g)) n d)) k e).0 < end_of p g
successors_within p whole g n d lt = go (func_at p g) refl lt
  where
    go : (o : Option Func) → slice_get p.funcs g.0 ≡ o → n < length (nodes_of o)
        → (k : ℕ) (e : NodeId) → k < length (successors_of (get_or (nodes_of o) n d)) → (get_or (successors_of (get_or (nodes_of o) n d)) k e).0 < length (nodes_of o)
    go None at' within = absurd (omega (arith, within))
    go (Some f) at' within =
        ((func_of p whole g f at').nodes n d within).successors

pub graph_is : (p : ProgramData) → IsWhole p → (g : FuncId) → IsGraph (graph_of p g)
graph_is p whole g n m edge =
    let lt : n < end_of p g = from_node p g n m edge in
    let x : Node = get_or (nodes_of (func_at p g)) n node.Unreachable in
    let there : Contains (leads_to (end_of p g) x) m = subst (λ (r : List ℕ). Contains r m) (row_at (end_of p g) (nodes_of (func_at p g)) n node.Unreachable lt) edge in
    let below : m < end_of p g + 1 = leads_within x (end_of p g) m (successors_within p whole g n node.Unreachable lt) there in
    omega (arith, below, graph_size p g)

-- ---- retained nodes as bits

has_old : (xs : List Bool) (b : Bool) (k : ℕ) → k < length xs → has (xs ++ b ∷ []) k ≡ has xs k
has_old xs b k lt = get_or-append xs (b ∷ []) false k lt

has_new : (xs : List Bool) (b : Bool) (k : ℕ) → k ≡ length xs → has (xs ++ b ∷ []) k ≡ b
has_new xs b k e = subst (λ (j : ℕ). has (xs ++ b ∷ []) j ≡ b) (sym e) (get_or-append_seam xs b [] false)

pub bits_more : (P : ℕ → Bool) (xs : List Bool) (k : ℕ) (b : Bool) → length xs ≡ k → ((n : ℕ) → n < k → has xs n ≡ P n) → b ≡ P k → (n : ℕ) → n < k + 1 → has (xs ++ b ∷ []) n ≡ P n
bits_more P xs k b size all last n lt =
    ⊎_elim (λ (old : n < k). has_old xs b n (omega (arith, old, size)) ∙ all n old)
    (λ (new : k ≤ n). let e : n ≡ k = omega (arith, new, lt) in has_new xs b n (omega (arith, e, size)) ∙ last ∙ ap P (sym e))
    (cases_lt n k)

or_false : (a b c : Bool) → a ≡ false → b ≡ c → b ≡ (a || c)
or_false true b c e h = absurd (cc)
or_false false b c e h = h

or_true : (a b c : Bool) → a ≡ true → b ≡ true → b ≡ (a || c)
or_true true b c e h = h
or_true false b c e h = absurd (cc)

pub marked_past : (p : ProgramData) (starts : List ℕ) (set : List Bool) (g : FuncId) (n : ℕ) → end_of p g ≤ n → marked p starts set (Kept g (closing.node n)) ≡ false
marked_past p starts set g n le =
    ap (λ (b : Bool). has_at set (number_if b (number_at starts (spot_of p (Kept g (closing.node n)))))) (le-ltb n (end_of p g) le)

pub bits_retained : (p : ProgramData) (starts : List ℕ) (set : List Bool) (g : FuncId) (xs : List Bool) → length xs ≡ end_of p g
    → ((n : ℕ) → n < end_of p g → has xs n ≡ marked p starts set (Kept g (closing.node n))) → (n : ℕ) → has (xs ++ true ∷ []) n ≡ retained p g (items_of p starts set) n
bits_retained p starts set g xs size all n =
    ⊎_elim
    (λ (lt : n < end_of p g).
    let ne : n ≢ end_of p g = omega (arith, lt) in
    or_false (n == end_of p g) (has (xs ++ true ∷ []) n) (marked p starts set (Kept g (closing.node n))) (ne_eqb n (end_of p g) ne) (has_old xs true n (omega (arith, lt, size)) ∙ all n lt))
    (λ (le : end_of p g ≤ n). ⊎_elim
    (λ (e : n ≡ end_of p g). or_true (n == end_of p g) (has (xs ++ true ∷ []) n) (marked p starts set (Kept g (closing.node n))) (eq-eqb n (end_of p g) e) (has_new xs true n (omega (arith, e, size))))
    (λ (ne : n ≢ end_of p g).
    let far : has (xs ++ true ∷ []) n ≡ false = get_or_past (xs ++ true ∷ []) n false (omega (arith, le, ne, size, length-append xs (true ∷ []))) in
    or_false (n == end_of p g) (has (xs ++ true ∷ []) n) (marked p starts set (Kept g (closing.node n))) (ne_eqb n (end_of p g) ne) (far ∙ sym (marked_past p starts set g n le)))
    (cases_eq n (end_of p g)))
    (cases_lt n (end_of p g))

-- ---- nodes are put into a set

pub none_marked : (p : ProgramData) (starts : List ℕ) (g : FuncId) (nodes set : List Bool) → MarksNodes p starts g 0 nodes set set
none_marked p starts g nodes set = record { grows = λ k h. h; only = λ k h. inl h; all = λ n lt. absurd (omega (arith, lt)) }

pub one_marked : (p : ProgramData) (starts : List ℕ) (g : FuncId) (count : ℕ) (nodes old mid new : List Bool) (b : Bool) → b ≡ has nodes count
    → MarksNodes p starts g count nodes old mid → MarksIf p starts b (Kept g (closing.node count)) mid new → MarksNodes p starts g (count + 1) nodes old new
one_marked p starts g count nodes old mid new b is before now = record {
  grows = λ k h. now.grows k (before.grows k h);
  only = λ k h. ⊎_elim (before.only k) (λ w. inr (record { at' = closing.node count; number_is = w.1; there = sym is ∙ w.0 })) (now.only k h);
  all = λ n lt h k e. ⊎_elim (λ (old' : n < count). now.grows k (before.all n old' h k e))
      (λ (new' : count ≤ n). let same : n ≡ count = omega (arith, lt, new') in
      now.all (is ∙ subst (λ (j : ℕ). has nodes j ≡ true) same h) k (subst (λ (j : ℕ). number p starts (Kept g (closing.node j)) ≡ Some k) same e))
      (cases_lt n count);
}

-- ---- a function

pub or_cases : (a b : Bool) → (a || b) ≡ true → a ≡ false → b ≡ true
or_cases true b h e = absurd (cc)
or_cases false b h e = h

pub function_closes : (p : ProgramData) → IsWhole p → (starts : List ℕ) (g : FuncId) (grown kept next old new : List Bool)
    → ((n : ℕ) → has kept n ≡ retained p g (items_of p starts grown) n) → IsRound (graph_of p g) kept next → MarksNodes p starts g (end_of p g) next old new
    → ClosesFunction p starts g grown old new
function_closes p whole starts g grown kept next old new same round' marks = record {
  grows = marks.grows;
  only = λ k h. ⊎_elim (λ before. inl before) (λ is. inr (listed k is)) (marks.only k h);
  all = λ n parts. parted n parts;
}
  where
    back : (n : ℕ) → Parts (graph_of p g) (has kept) n → Parts (graph_of p g) (retained p g (items_of p starts grown)) n
    back n = parts_same (graph_of p g) (has kept) (retained p g (items_of p starts grown)) same n

    listed : (k : ℕ) → IsListed p starts g next k → (has grown k ≡ true) ⊎ IsPartedIn p starts g grown k
    listed k is =
        let own = placed p starts (Kept g is.at') k is.number_is in
        let ne : is.at'.0 ≢ end_of p g = omega (arith, own.0) in
        ⊎_elim
        (λ was.
        let m : marked p starts grown (Kept g is.at') ≡ true =
        or_cases (is.at'.0 == end_of p g) (marked p starts grown (Kept g is.at')) (sym (same is.at'.0) ∙ was) (ne_eqb is.at'.0 (end_of p g) ne) in
        inl (subst (λ (o : Option ℕ). has_at grown o ≡ true) is.number_is m))
        (λ parts. inr (record { at' = is.at'; number_is = is.number_is; parts = back is.at'.0 parts }))
        ((round'.nodes is.at'.0).0 is.there)

    parted : (n : NodeId) → Parts (graph_of p g) (retained p g (items_of p starts grown)) n.0 → marked p starts new (Kept g n) ≡ true
    parted n parts =
        let lt : n.0 < end_of p g = from_node p g n.0 parts.one parts.one_edge in
        let e = numbered p starts (Kept g n) lt in
        let there = (round'.nodes n.0).1 (inr (parts_same (graph_of p g) (retained p g (items_of p starts grown)) (has kept) (λ m. sym (same m)) n.0 parts)) in
        marked_at p starts new (Kept g n) (number_at starts (spot_of p (Kept g n))) e (marks.all n.0 lt there (number_at starts (spot_of p (Kept g n))) e)

-- ---- all functions

pub none_closed : (p : ProgramData) (starts : List ℕ) (looked grown set : List Bool) → set ≡ grown → ClosesFirst p starts looked 0 grown set
none_closed p starts looked grown set e = record {
  grows = λ k h. subst (λ (s : List Bool). has s k ≡ true) (sym e) h;
  only = λ k h. inl (subst (λ (s : List Bool). has s k ≡ true) e h);
  all = λ g lt. absurd (omega (arith, lt));
}

pub first_closed : (p : ProgramData) (starts : List ℕ) (looked : List Bool) (count : ℕ) (grown mid new : List Bool) (b : Bool) → b ≡ has looked count
    → ClosesFirst p starts looked count grown mid → ClosesIf p starts b (func count) grown mid new → ClosesFirst p starts looked (count + 1) grown new
first_closed p starts looked count grown mid new true is before now =
    let c = now.closes refl in record {
      grows = λ k h. c.grows k (before.grows k h);
      only = λ k h. ⊎_elim (before.only k)
          (λ more. ⊎_elim (λ was. inl was) (λ w. inr (record { func = func count; node = w.at'; number_is = w.number_is; known = sym is; parts = w.parts })) more) (c.only k h);
      all = λ g lt on n parts. ⊎_elim (λ (old : g.0 < count). let w = marked_has mid (number p starts (Kept g n)) (before.all g old on n parts) in marked_at p starts new (Kept g n) w.0 w.1 (c.grows w.0 w.2))
          (λ (new' : count ≤ g.0).
          let same : count ≡ g.0 = omega (arith, lt, new') in
          let P : ℕ → Type 0 = λ j. Parts (graph_of p (func j)) (retained p (func j) (items_of p starts grown)) n.0 in
          subst (λ (j : ℕ). marked p starts new (Kept (func j) n) ≡ true) same (c.all n (subst P (sym same) parts)))
          (cases_lt g.0 count);
    }
first_closed p starts looked count grown mid new false is before now =
    let e : new ≡ mid = now.stays refl in
    subst (λ (s : List Bool). ClosesFirst p starts looked (count + 1) grown s) (sym e) (record {
      grows = before.grows;
      only = before.only;
      all = λ g lt on n parts. ⊎_elim (λ (old : g.0 < count). before.all g old on n parts)
          (λ (new' : count ≤ g.0). let same : g.0 ≡ count = omega (arith, lt, new') in
          let off : has looked g.0 ≡ false = subst (λ (j : ℕ). has looked j ≡ false) (sym same) (sym is) in absurd (cc))
          (cases_lt g.0 count);
    })

pub all_closed : (p : ProgramData) (starts : List ℕ) (looked : List Bool) (count : ℕ) (grown new : List Bool) → length looked ≤ count → ClosesFirst p starts looked count grown new
    → ClosesOnce p starts looked grown new
all_closed p starts looked count grown new size c = record {
  grows = c.grows;
  only = c.only;
  all = λ g on n parts. c.all g (let lt = has-below looked g.0 on in omega (arith, lt, size)) on n parts;
}

-- ---- lists that grow

got : {A : Type 0} (xs : List A) (x : A) (k : ℕ) (a : A) → slice_get (xs ++ x ∷ []) k ≡ Some a → (slice_get xs k ≡ Some a) ⊎ ((k ≡ length xs) × (x ≡ a))
got [] x zero a e = inr (refl, cc)
got [] x (suc k) a e = absurd (cc)
got (y ∷ ys) x zero a e = inl e
got (y ∷ ys) x (suc k) a e = ⊎_elim (λ h. inl h) (λ w. inr (omega (arith, w.0), w.1)) (got ys x k a e)

-- what holds of each element and of one more
pub pushed_each : {A : Type 0} (P : ℕ → A → Type 0) (xs : List A) (n : ℕ) (x : A) → length xs ≡ n → ((k : ℕ) (a : A) → slice_get xs k ≡ Some a → P k a) → P n x
    → (k : ℕ) (a : A) → slice_get (xs ++ x ∷ []) k ≡ Some a → P k a
pushed_each {A} P xs n x size all last k a e =
    ⊎_elim (λ h. all k a h) (λ w. let same : n ≡ k = omega (arith, w.0, size) in subst (λ (j : ℕ). P j a) same (subst (λ (b : A). P n b) w.1 last)) (got xs x k a e)

-- ---- sums over the same members

pub sums_over : (g g' : List (List ℕ)) (kept kept' : ℕ → Bool) (mets : List Met) → g ≡ g' → ((n : ℕ) → kept n ≡ kept' n) → SumUp g kept mets → SumUp g' kept' mets
sums_over g g' kept kept' mets is same sums = λ n.
    subst (λ (h : List (List ℕ)). SumsUp (Meets h kept' n) (at_node mets n)) is
    (sums_same (Meets g kept n) (Meets g kept' n) (at_node mets n) (sums n) (meets_same g kept kept' same n) (meets_same g kept' kept (λ m. sym (same m)) n))
