-- From the lists of a function's nodes to the function.
use Rattle.std.proofs.Common.{◌≡◌, ◌<◌, ◌+◌, ◌++◌, ◌⊎◌, ◌∙◌, ℕ, suc, All, List, [], ◌∷◌, Some, length, map, refl, sym, ap, subst, ⊎_elim, inl, inr, arith, take, drop, add-one, drop-cons}
use Rattle.std.proofs.Math.Seq.{take-suc}
use Rattle.std.specs.Prelude.{slice_get, slice_index_or, Option, MatchOption, None}
use Rattle.std.specs.Option.{option_map}
use Rattle.std.specs.List.{Contains}
use Rattle.std.proofs.lemmas.List.{take-append-drop, get_or-map, get_or_past, length-map}
use Rattle.std.proofs.lemmas.List.Elements.{All-contains, Contains-append_cases, Contains-append_right, Contains-push_cases}
use Rattle.std.proofs.lemmas.Bool.{cases_lt}
use Rattle.std.proofs.lemmas.Option.{slice_get-map, slice_get_cases, get_or_from_slice_get, slice_get_within}
use Rattle.flat_ir.specs.declared.names.NodeId.{NodeId}
use Rattle.flat_ir.specs.declared.names.RegId.{RegId}
use Rattle.flat_ir.specs.declared.nodes.Node.{Node}
use Rattle.flat_ir.specs.declared.program.Func.{Func}
use Rattle.flat_ir.specs.Whole.{successors_of, results_of}
use Rattle.flow.specs.Flow.{Leads, entry, goes, IsSet, IsUndefined, AreDefined, IsFirst, reads}
use Rattle.flow.specs.Named.{IsNamed}
use Rattle.flow.specs.Paths.{row_of, node_of, IsGraph, Comes, starts, goes_on, IsLost, NoneOf, FirstOf, NoneAt, FirstAt}

-- the row of the node at a place
pub row_at : {X Y : Type 0} (v : X → List Y) (xs : List X) (n : ℕ) (x : X) → slice_get xs n ≡ Some x → slice_index_or (map v xs) n [] ≡ v x
row_at v xs n x there = get_or_from_slice_get (map v xs) n (v x) [] (slice_get-map v xs n ∙ ap (option_map v) there)

pub none_there : {Y : Type 0} (y : Y) → Contains [] y → ⊥
none_there y h = omega (arith, h.1)

-- where a row has an element, there is a node whose row it is
pub at_row : {X Y : Type 0} (v : X → List Y) (xs : List X) (n : ℕ) (y : Y) → Contains (slice_index_or (map v xs) n []) y →
    (x : X) × (slice_get xs n ≡ Some x) × Contains (v x) y
at_row {X} {Y} v xs n y h =
    let P : List Y → Type 0 = λ row. Contains row y in
    ⊎_elim (λ here. (here.0, here.2, subst P (row_at v xs n here.0 here.2) h))
    (λ past. absurd (none_there y (subst P (get_or_past (map v xs) n [] (omega (arith, past.0, length-map xs v))) h)))
    (slice_get_cases xs n).1

pub in_numbers : (ns : List NodeId) (m : ℕ) → Contains (map (λ (s : NodeId). s.0) ns) m → Contains ns (node_of m)
in_numbers ns m h =
    let within : h.0 < length ns = omega (arith, h.1, length-map ns (λ (s : NodeId). s.0)) in
    let e : (slice_index_or ns h.0 (node_of m)).0 ≡ m = sym (get_or-map (λ (s : NodeId). s.0) ns h.0 (node_of m) m within) ∙ h.2 in
    (h.0, within, ap node_of e)

pub numbers_in : (ns : List NodeId) (s : NodeId) → Contains ns s → Contains (map (λ (t : NodeId). t.0) ns) s.0
numbers_in ns s h =
    (h.0, omega (arith, h.1, length-map ns (λ (t : NodeId). t.0)), get_or-map (λ (t : NodeId). t.0) ns h.0 s s.0 h.1 ∙ ap (λ (t : NodeId). t.0) h.2)

-- a path to a node on which no node sets the register
pub record Path (f : Func) (n : NodeId) (r : RegId) : Type 0 where
  pub before : List NodeId
  pub leads : Leads f before n
  pub unset : IsSet f before r → ⊥

pub same_node : (x y : Node) (o : Option Node) → o ≡ Some x → o ≡ Some y → x ≡ y
same_node x y o e h = cc

pub no_set : (f : Func) (r : RegId) → IsSet f [] r → ⊥
no_set f r s = none_there s.at' s.among

pub first_or_later : (n : NodeId) (before : List NodeId) (m : NodeId) → Contains (n ∷ before) m → (n ≡ m) ⊎ Contains before m
first_or_later n before m h = ⊎_elim (λ one. ⊎_elim (λ no. absurd (none_there m no)) (λ e. inl e) (Contains-push_cases [] n m one)) (λ more. inr more) (Contains-append_cases (n ∷ []) before m h)

pub still_unset : (f : Func) (r : RegId) (n : NodeId) (x : Node) (before : List NodeId) → slice_get f.nodes n.0 ≡ Some x → (Contains (results_of x) r → ⊥) →
    (IsSet f before r → ⊥) → IsSet f (n ∷ before) r → ⊥
still_unset f r n x before there here earlier s =
    ⊎_elim
    (λ e. here (subst (λ (y : Node). Contains (results_of y) r) (same_node s.node x (slice_get f.nodes s.at'.0) s.there (ap (λ (m : NodeId). slice_get f.nodes m.0) (sym e) ∙ there)) s.sets))
    (λ more. earlier (record { at' = s.at'; node = s.node; among = more; there = s.there; sets = s.sets }))
    (first_or_later n before s.at' s.among)

pub comes_path : (f : Func) (r : RegId) (n : ℕ) → Comes (map row_of f.nodes) (map results_of f.nodes) r n → Path f (node_of n) r
comes_path f r n starts = record { before = []; leads = entry; unset = no_set f r }
comes_path f r m (goes_on n p unset edge) =
    let path = comes_path f r n p in
    let here = at_row row_of f.nodes n m edge in
    record {
      before = node_of n ∷ path.before;
      leads = goes here.0 path.leads here.1 (in_numbers (successors_of here.0) m here.2);
      unset = still_unset f r (node_of n) here.0 path.before here.1
          (λ sets. unset (subst (λ (row : List RegId). Contains row r) (sym (row_at results_of f.nodes n here.0 here.1)) sets)) path.unset;
    }

pub path_comes : (f : Func) (r : RegId) (before : List NodeId) (n : NodeId) → Leads f before n → (IsSet f before r → ⊥) →
    Comes (map row_of f.nodes) (map results_of f.nodes) r n.0
path_comes f r before n entry unset = starts
path_comes f r before m (goes {before = earlier} {n = n} x p there edge) unset =
    goes_on n.0
    (path_comes f r earlier n p (λ s. unset (record { at' = s.at'; node = s.node; among = Contains-append_right (n ∷ []) earlier s.at' s.among; there = s.there; sets = s.sets })))
    (λ sets. unset (record { at' = n; node = x; among = (0, omega arith, refl); there = there; sets = subst (λ (row : List RegId). Contains row r) (row_at results_of f.nodes n.0 x there) sets }))
    (subst (λ (row : List ℕ). Contains row m.0) (sym (row_at row_of f.nodes n.0 x there)) (numbers_in (successors_of x) m edge))

pub lost : (f : Func) (n : ℕ) (r : RegId) → IsUndefined f (node_of n) r → IsLost f n r
lost f n r u = record { no_param = u.no_param; comes = path_comes f r u.before (node_of n) u.leads u.unset }

pub undefined : (f : Func) (n : ℕ) (r : RegId) (x : Node) → slice_get f.nodes n ≡ Some x → Contains (reads x) r → IsLost f n r → IsUndefined f (node_of n) r
undefined f n r x there read h =
    let path = comes_path f r n h.comes in
    record { node = x; there = there; read = read; no_param = h.no_param; before = path.before; leads = path.leads; unset = path.unset }

in_order : (front rest : List RegId) (r : RegId) → Contains (front ++ r ∷ rest) r
in_order front rest r = Contains-append_right front (r ∷ rest) r (0, omega arith, refl)

pub first_there : (f : Func) (n : ℕ) (x : Node) (registers : List RegId) (found : Option RegId) → slice_get f.nodes n ≡ Some x → registers ≡ reads x →
    MatchOption found (NoneOf (IsLost f n) registers) (FirstOf (IsLost f n) registers) → MatchOption found (NoneAt f (node_of n)) (FirstAt f (node_of n))
first_there f n x registers None there is none = λ s u.
    none s (subst (λ (row : List RegId). Contains row s) (ap reads (same_node u.node x (slice_get f.nodes n) u.there there) ∙ sym is) u.read) (lost f n s u)
first_there f n x registers (Some r) there is first = record {
  node = x;
  there = there;
  first = record {
    front = first.front;
    rest = first.rest;
    order = sym is ∙ first.order;
    earlier = λ s among u. first.earlier s among (lost f n s u);
    is = undefined f n r x there (subst (λ (row : List RegId). Contains row r) (sym first.order ∙ is) (in_order first.front first.rest r)) first.is;
  };
}

pub first_of_all : (f : Func) (n : ℕ) (r : RegId) → ((m : ℕ) (s : RegId) → m < n → IsUndefined f (node_of m) s → ⊥) → FirstAt f (node_of n) r → IsFirst f (node_of n) r
first_of_all f n r none h = record {
  undefined = h.first.is;
  lowest = λ m s lower u. none m.0 s lower u;
  node = h.node;
  there = h.there;
  front = h.first.front;
  rest = h.first.rest;
  order = h.first.order;
  earlier = h.first.earlier;
}

pub none_at_all : (f : Func) → ((m : ℕ) (s : RegId) → m < length f.nodes → IsUndefined f (node_of m) s → ⊥) → AreDefined f
none_at_all f none = λ n r u. none n.0 r (slice_get_within f.nodes n.0 u.node u.there) u

pub graph_of : (f : Func) → IsNamed f → IsGraph (map row_of f.nodes)
graph_of f named n m edge =
    let here = at_row row_of f.nodes n m edge in
    let among : Contains f.nodes here.0 = (n, slice_get_within f.nodes n here.0 here.1, get_or_from_slice_get f.nodes n here.0 here.0 here.1) in
    let each = All-contains (λ (x : Node). All (λ (s : NodeId). s.0 < length f.nodes) (successors_of x)) f.nodes here.0 named.successors among in
    let within : m < length f.nodes = All-contains (λ (s : NodeId). s.0 < length f.nodes) (successors_of here.0) (node_of m) each (in_numbers (successors_of here.0) m here.2) in
    omega (arith, within, length-map f.nodes row_of)

pub not_before : (P : RegId → Type 0) (registers : List RegId) (i : ℕ) (d : RegId) → i < length registers → NoneOf P (take i registers) →
    (P (slice_index_or registers i d) → ⊥) → NoneOf P (take (i + 1) registers)
not_before P registers i d within none here = λ s among p.
    let e : take (i + 1) registers ≡ take i registers ++ slice_index_or registers i d ∷ [] = ap (λ k. take k registers) (add-one i) ∙ take-suc registers i d within in
    ⊎_elim (λ earlier. none s earlier p) (λ same. here (subst P (sym same) p))
    (Contains-push_cases (take i registers) (slice_index_or registers i d) s (subst (λ (row : List RegId). Contains row s) e among))

pub found_first : (P : RegId → Type 0) (registers : List RegId) (i : ℕ) (d : RegId) → i < length registers → NoneOf P (take i registers) →
    P (slice_index_or registers i d) → FirstOf P registers (slice_index_or registers i d)
found_first P registers i d within none here = record {
  front = take i registers;
  rest = drop (suc i) registers;
  order = sym (take-append-drop i registers) ∙ ap (λ more. take i registers ++ more) (drop-cons registers i d within);
  earlier = none;
  is = here;
}

pub none_so_far : (f : Func) (n : ℕ) → ((m : ℕ) (s : RegId) → m < n → IsUndefined f (node_of m) s → ⊥) → NoneAt f (node_of n) →
    (m : ℕ) (s : RegId) → m < n + 1 → IsUndefined f (node_of m) s → ⊥
none_so_far f n none here = λ m s lower u.
    ⊎_elim (λ lt. none m s lt u)
    (λ ge. let e : m ≡ n = omega arith in here s (subst (λ (k : ℕ). IsUndefined f (node_of k) s) e u)) (cases_lt m n)
