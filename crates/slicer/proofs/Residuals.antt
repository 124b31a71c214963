-- What is left of the functions is the residual of the slice.
use Rattle.std.specs.Prelude.{slice_get, slice_index_or, unwrap_or, ◌==◌, ◌||◌, if◌then◌else◌}
use Rattle.std.proofs.Common.{◌≡◌, ◌≢◌, ◌<◌, ◌≤◌, ◌+◌, ◌++◌, ◌∙◌, ◌⊎◌, inl, inr, ℕ, zero, suc, Bool, true, false, List, [], ◌∷◌, length, map, Option, Some, None, refl, sym, ap, subst, arith, ⊎_elim}
use Rattle.std.specs.List.{Contains}
use Rattle.std.proofs.lemmas.Bool.{cases_lt, cases_eq, eq-eqb, eqb-true, ne_eqb, or_left, or_from}
use Rattle.std.proofs.lemmas.Option.{slice_get_past, slice_get_within, slice_get-get_or}
use Rattle.control_closure.specs.declared.summing.Met.{Met}
use Rattle.control_closure.specs.declared.summing.Met.TheVariants.{Nothing, One, Several}
use Rattle.control_closure.specs.Met.{HasEdge, IsClosed, Meets, here, beyond}
use Rattle.control_closure.specs.Sums.{Apart, SumsUp, SumUp, at_node}
use Rattle.control_closure.specs.WalkLaws.{meets_kept}
use Rattle.control_closure.proofs.ClosedSets.{meets_one}
use Rattle.flat_ir.specs.declared.names.FuncId.{FuncId}
use Rattle.flat_ir.specs.declared.names.NodeId.{NodeId}
use Rattle.flat_ir.specs.declared.names.Location.{Location}
use Rattle.flat_ir.specs.declared.nodes.Node.{Node}
use Rattle.flat_ir.specs.declared.nodes.Node.TheVariants as node
use Rattle.flat_ir.specs.declared.program.Func.{Func}
use Rattle.flat_ir.specs.declared.program.ProgramData.{ProgramData}
use Rattle.flat_ir.specs.declared.residual.Kept.{Kept}
use Rattle.flat_ir.specs.declared.residual.Next.{Next}
use Rattle.flat_ir.specs.declared.residual.Next.TheVariants as next
use Rattle.flat_ir.specs.declared.residual.Residual.{Residual}
use Rattle.flat_ir.specs.Machine.{func_at, nodes_of, node_at}
use Rattle.slices.specs.Nexts.{Ways, IsMetFirst, AreNexts, nexts_of, nexts_if, IsKept, IsResidual}
use Rattle.slices.specs.Nexts as residual
use Rattle.slices.specs.Slice.{Items, Keep, Looks, IsClosedSlice, end_of, leads_to, graph_of, retained}
use Rattle.slicer.specs.declared.marks.Mark.TheVariants as mark
use Rattle.slicer.specs.Facts.{func}
use Rattle.slicer.specs.Keeping as keeping
use Rattle.slicer.specs.Keeping.{next_of, nexts_from, IsKeptBy, AreKept}
use Rattle.slicer.specs.Places.{marked, items_of}
use Rattle.slicer.specs.Settling.{IsFound}
use Rattle.slicer.proofs.Complete.{marked_own}
use Rattle.slicer.proofs.ClosesThem.{marked_past, or_cases}

-- ---- the nexts of the nodes

nexts_size : (p : ProgramData) (starts : List ℕ) (set : List Bool) (g : FuncId) (mets : List Met) (end k : ℕ) (xs : List Node) → length (nexts_from p starts set g mets end k xs) ≡ length xs
nexts_size p starts set g mets end k [] = refl
nexts_size p starts set g mets end k (x ∷ xs) = omega (arith, nexts_size p starts set g mets end (k + 1) xs)

nexts_at : (p : ProgramData) (starts : List ℕ) (set : List Bool) (g : FuncId) (mets : List Met) (end k i : ℕ) (xs : List Node) (x : Node) → slice_get xs i ≡ Some x
    → slice_get (nexts_from p starts set g mets end k xs) i ≡ Some (nexts_if (marked p starts set (mark.Kept g (record { 0 = k + i }))) (keeping.nexts_of mets end (leads_to end x)))
nexts_at p starts set g mets end k i [] x e = absurd (cc)
nexts_at p starts set g mets end k zero (y ∷ xs) x e =
    let same : y ≡ x = cc in
    let at' : k ≡ k + 0 = omega arith in
    ap (λ (z : Node). Some (nexts_if (marked p starts set (mark.Kept g (record { 0 = k }))) (keeping.nexts_of mets end (leads_to end z)))) same
    ∙ ap (λ (j : ℕ). Some (nexts_if (marked p starts set (mark.Kept g (record { 0 = j }))) (keeping.nexts_of mets end (leads_to end x)))) at'
nexts_at p starts set g mets end k (suc i) (y ∷ xs) x e =
    let at' : k + 1 + i ≡ k + suc i = omega arith in
    nexts_at p starts set g mets end (k + 1) i xs x e
    ∙ ap (λ (j : ℕ). Some (nexts_if (marked p starts set (mark.Kept g (record { 0 = j }))) (keeping.nexts_of mets end (leads_to end x)))) at'

-- the node of a function at a place
node_there : (p : ProgramData) (g : FuncId) (n : ℕ) → n < end_of p g → slice_get (nodes_of (func_at p g)) n ≡ Some (node_at p g (record { 0 = n }))
node_there p g n lt = some_is (slice_get (nodes_of (func_at p g)) n) (slice_get_is lt)
  where
    some_is : (o : Option Node) → ((d : Node) → (x : Node) × (o ≡ Some x)) → o ≡ Some (unwrap_or o node.Unreachable)
    some_is None h = let w = h node.Unreachable in absurd (let e : None ≡ Some w.0 = w.1 in cc)
    some_is (Some x) h = refl

    slice_get_is : n < length (nodes_of (func_at p g)) → (d : Node) → (x : Node) × (slice_get (nodes_of (func_at p g)) n ≡ Some x)
    slice_get_is within d = (slice_index_or (nodes_of (func_at p g)) n d, slice_get-get_or (nodes_of (func_at p g)) n d within)

-- ---- what is met first

-- the sums of a function that isn't there: its end alone
no_sums : (g : List (List ℕ)) (kept : ℕ → Bool) → g ≡ [] ∷ [] → kept 0 ≡ true → ((n : ℕ) → kept (suc n) ≡ false) → SumUp g kept (One 0 ∷ [])
no_sums g kept is first rest zero = (here first, only)
  where
    only : (m : ℕ) → Meets g kept 0 m → m ≡ 0
    only _ (here h) = refl
    only m (beyond k open' edge met) = absurd (cc)
no_sums g kept is first rest (suc n) = none
  where
    no_edge : (k : ℕ) → HasEdge g (suc n) k → ⊥
    no_edge k h = let h' : HasEdge ([] ∷ []) (suc n) k = subst (λ (x : List (List ℕ)). HasEdge x (suc n) k) is h in omega (arith, h'.1)

    none : (m : ℕ) → Meets g kept (suc n) m → ⊥
    none _ (here h) = let e : kept (suc n) ≡ false = rest n in absurd (cc)
    none m (beyond k open' edge met) = no_edge k edge

module _ (p : ProgramData) (f : FuncId) (l : Location) (starts : List ℕ) (set : List Bool) (found : IsFound p f l starts set) where
  -- a node that is met first is the end, or retained
  end_or_kept : (g : FuncId) (n m : ℕ) → Meets (graph_of p g) (retained p g (items_of p starts set)) n m → (m ≡ end_of p g) ⊎ (marked p starts set (mark.Kept g (record { 0 = m })) ≡ true)
  end_or_kept g n m met =
      ⊎_elim (λ e. inl e)
      (λ ne. inr (or_cases (m == end_of p g) (marked p starts set (mark.Kept g (record { 0 = m }))) (meets_kept met) (ne_eqb m (end_of p g) ne)))
      (cases_eq m (end_of p g))

  kept_below : (g : FuncId) (m : ℕ) → marked p starts set (mark.Kept g (record { 0 = m })) ≡ true → m < end_of p g
  kept_below g m h = marked_own p starts set (mark.Kept g (record { 0 = m })) h

  one_met : (g : FuncId) → Looks p f g → (n a b : ℕ) → Meets (graph_of p g) (retained p g (items_of p starts set)) n a → Meets (graph_of p g) (retained p g (items_of p starts set)) n b → a ≡ b
  one_met g looks = meets_one (graph_of p g) (retained p g (items_of p starts set)) (λ n open' parts. found.closed g (record { 0 = n }) open' (looks, parts))

  -- no node meets two
  not_several : (g : FuncId) (n : ℕ) → Apart (Meets (graph_of p g) (retained p g (items_of p starts set)) n) (Meets (graph_of p g) (retained p g (items_of p starts set)) n) → ⊥
  not_several g n a =
      ⊎_elim
      (λ (one_end : a.one ≡ end_of p g). ⊎_elim (λ (other_end : a.other ≡ end_of p g). a.apart (one_end ∙ sym other_end))
      (λ other_kept. a.apart (one_met g (found.looks g (record { 0 = a.other }) other_kept) n a.one a.other a.first a.second)) (end_or_kept g n a.other a.second))
      (λ one_kept. a.apart (one_met g (found.looks g (record { 0 = a.one }) one_kept) n a.one a.other a.first a.second))
      (end_or_kept g n a.one a.first)

  node_or_end : (g : FuncId) (n : NodeId) (k : ℕ) (b : Bool) → (k == end_of p g) ≡ b → Meets (graph_of p g) (retained p g (items_of p starts set)) n.0 k
      → IsMetFirst p (items_of p starts set) g n (if b then next.End else next.Node (record { 0 = k }))
  node_or_end g n k true e met = subst (λ (m : ℕ). Meets (graph_of p g) (retained p g (items_of p starts set)) n.0 m) (eqb-true k (end_of p g) e) met
  node_or_end g n k false e met =
      (⊎_elim (λ (is : k ≡ end_of p g). let t : (k == end_of p g) ≡ true = eq-eqb k (end_of p g) is in absurd (cc)) (kept_below g k) (end_or_kept g n.0 k met), met)

  -- what the sum of a node says is what it meets first
  met_first : (g : FuncId) (n : NodeId) (met : Met) → SumsUp (Meets (graph_of p g) (retained p g (items_of p starts set)) n.0) met
      → IsMetFirst p (items_of p starts set) g n (next_of met (end_of p g))
  met_first g n Nothing none = none
  met_first g n (One k) one = node_or_end g n k (k == end_of p g) refl one.0
  met_first g n Several a = absurd (not_several g n.0 a)

-- the sums of a function, and what is left of it by them
record Summed (p : ProgramData) (starts : List ℕ) (set : List Bool) (list : List Kept) (g : FuncId) : Type 0 where
  mets : List Met
  sums : SumUp (graph_of p g) (retained p g (items_of p starts set)) mets
  start : (kept : Kept) → slice_get list g.0 ≡ Some kept → kept.start ≡ next_of (at_node mets 0) (end_of p g)
  nexts : (kept : Kept) → slice_get list g.0 ≡ Some kept → kept.nexts ≡ nexts_from p starts set g mets (end_of p g) 0 (nodes_of (func_at p g))

-- a function that isn't there
sums_past : (p : ProgramData) (starts : List ℕ) (set : List Bool) (list : List Kept) (g : FuncId) → length p.funcs ≤ g.0 → length list ≡ length p.funcs → Summed p starts set list g
sums_past p starts set list g far size =
    let e : func_at p g ≡ None = slice_get_past p.funcs g.0 far in
    let end : end_of p g ≡ 0 = ap (λ (o : Option Func). length (nodes_of o)) e in
    let none : slice_get list g.0 ≡ None = slice_get_past list g.0 (omega (arith, far, size)) in
    record {
      mets = One 0 ∷ [];
      sums = no_sums (graph_of p g) (retained p g (items_of p starts set)) (ap (λ (o : Option Func). map (leads_to (length (nodes_of o))) (nodes_of o) ++ [] ∷ []) e)
          (or_left (0 == end_of p g) (marked p starts set (mark.Kept g (record { 0 = 0 }))) (eq-eqb 0 (end_of p g) (sym end)))
          (λ n. or_from (suc n == end_of p g) (marked p starts set (mark.Kept g (record { 0 = suc n }))) (ne_eqb (suc n) (end_of p g) (omega (arith, end)))
          (marked_past p starts set g (suc n) (omega (arith, end))));
      start = λ kept h. absurd (cc);
      nexts = λ kept h. absurd (cc);
    }

some_same : (k k' : Kept) (o : Option Kept) → o ≡ Some k → o ≡ Some k' → k ≡ k'
some_same k k' o e e' = cc

sums_there : (p : ProgramData) (starts : List ℕ) (set : List Bool) (list : List Kept) (g : FuncId) (kept : Kept) → slice_get list g.0 ≡ Some kept → IsKeptBy p starts set g kept
    → Summed p starts set list g
sums_there p starts set list g kept e by' = record {
  mets = by'.mets;
  sums = by'.sums;
  start = λ kept' e'. ap (λ (k : Kept). k.start) (some_same kept' kept (slice_get list g.0) e' e) ∙ by'.start;
  nexts = λ kept' e'. ap (λ (k : Kept). k.nexts) (some_same kept' kept (slice_get list g.0) e' e) ∙ by'.nexts;
}

summed : (p : ProgramData) (starts : List ℕ) (set : List Bool) (list : List Kept) → AreKept p starts set (length p.funcs) list → (g : FuncId) → Summed p starts set list g
summed p starts set list are g =
    ⊎_elim
    (λ (lt : g.0 < length p.funcs).
    let d : Kept = record { start = next.Never; nexts = [] } in
    let e : slice_get list g.0 ≡ Some (slice_index_or list g.0 d) = slice_get-get_or list g.0 d (omega (arith, lt, are.count_is)) in
    sums_there p starts set list g (slice_index_or list g.0 d) e (are.each g.0 (slice_index_or list g.0 d) e))
    (λ (far : length p.funcs ≤ g.0). sums_past p starts set list g far are.count_is)
    (cases_lt g.0 (length p.funcs))

abbrev ways_of : (p : ProgramData) (starts : List ℕ) (set : List Bool) (list : List Kept) → AreKept p starts set (length p.funcs) list → Ways
ways_of p starts set list are g n = next_of (at_node (summed p starts set list are g).mets n.0) (end_of p g)

-- what is left of the functions is the residual of the slice
pub is_residual : (p : ProgramData) (f : FuncId) (l : Location) (starts : List ℕ) (set : List Bool) (list : List Kept) → IsFound p f l starts set
    → AreKept p starts set (length p.funcs) list → IsResidual p f l (record { funcs = list })
is_residual p f l starts set list found are = record {
  items = items_of p starts set;
  slice = found.slice;
  ways = ways_of p starts set list are;
  nexts = λ g n. met_first p f l starts set found g n (at_node (summed p starts set list are g).mets n.0) ((summed p starts set list are g).sums n.0);
  kept = record { count = are.count_is; each = λ g kept e. each g kept e };
}
  where
    each : (g : FuncId) (kept : Kept) → slice_get list g.0 ≡ Some kept → IsKept p (items_of p starts set) (ways_of p starts set list are) g kept
    each g kept e =
        let s = summed p starts set list are g in
        let nodes : List Node = nodes_of (func_at p g) in
        record {
          start = s.start kept e;
          count = ap length (s.nexts kept e) ∙ nexts_size p starts set g s.mets (end_of p g) 0 nodes;
          nexts = λ n lt.
              let same : 0 + n.0 ≡ n.0 = omega arith in
              ap (λ (xs : List (Option (List Next))). slice_get xs n.0) (s.nexts kept e)
              ∙ nexts_at p starts set g s.mets (end_of p g) 0 n.0 nodes (node_at p g n) (node_there p g n.0 lt)
              ∙ ap (λ (j : ℕ). Some (nexts_if (marked p starts set (mark.Kept g (record { 0 = j }))) (keeping.nexts_of s.mets (end_of p g) (leads_to (end_of p g) (node_at p g n))))) same;
        }
