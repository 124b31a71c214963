-- The lists of what functions change.
use Rattle.std.proofs.Common.{◌≡◌, ◌<◌, ◌≤◌, ◌+◌, ◌*◌, ℕ, zero, suc, Bool, true, false, List, [], ◌∷◌, ◌++◌, length, drop, map, refl, sym, ap, subst, arith, ◌∙◌}
use Rattle.std.specs.Prelude.{slice_index_or}
use Rattle.std.specs.List.{Contains, AllByRecursion as Each}
use Rattle.std.proofs.lemmas.List.{length_push}
use Rattle.std.proofs.lemmas.List.Elements.{recursion_from_All}
use Rattle.least.specs.Sets.{has}
use Rattle.flat_ir.specs.declared.names.FuncId.{FuncId}
use Rattle.flat_ir.specs.declared.names.Site.{Site}
use Rattle.flat_ir.specs.declared.names.Site.TheVariants as site
use Rattle.flat_ir.specs.declared.names.Location.{Location}
use Rattle.flat_ir.specs.declared.names.Location.TheVariants as location
use Rattle.flat_ir.specs.declared.nodes.Node.{Node}
use Rattle.flat_ir.specs.declared.nodes.Node.TheVariants as node
use Rattle.flat_ir.specs.declared.program.Func.{Func}
use Rattle.flat_ir.specs.declared.program.GlobalVar.{GlobalVar}
use Rattle.flat_ir.specs.declared.program.ProgramData.{ProgramData}
use Rattle.flat_ir.specs.Whole.{IsWhole, IsFuncOf}
use Rattle.points_to.specs.Points.{rank}
use Rattle.mod_ref.specs.Changes.{Changes}
use Rattle.mod_ref.specs.Callers.{func, AreColumns, location_at}
use Rattle.mod_ref.specs.Mods.{AreChanges, kept, chosen}
use Rattle.mod_ref.specs.Sites.{site_of_node, sites_from, sites_by_funcs, sites_by_globals, sites, locations, place_of, RiseFrom}
use Rattle.mod_ref.proofs.SitesAre.{changes_in}
use Rattle.mod_ref.proofs.OwnChanges.{pushed}

-- ---- the order of locations

-- numbers that rise from the first on, all below the second
abbrev Between : {A : Type 0} → (A → ℕ) → ℕ → ℕ → List A → Type 0
Between place n m [] = n ≤ m
Between place n m (x ∷ xs) = (n ≤ place x) × Between place (place x + 1) m xs

lower : {A : Type 0} (place : A → ℕ) (n m k : ℕ) (xs : List A) → n ≤ m → Between place m k xs → Between place n k xs
lower place n m k [] le h = omega (arith, le, h)
lower place n m k (x ∷ xs) le h = (omega (arith, le, h.0), h.1)

joined : {A : Type 0} (place : A → ℕ) (n m k : ℕ) (xs ys : List A) → Between place n m xs → Between place m k ys → Between place n k (xs ++ ys)
joined place n m k [] ys h h' = lower place n m k ys h h'
joined place n m k (x ∷ xs) ys h h' = (h.0, joined place (place x + 1) m k xs ys h.1 h')

higher : {A : Type 0} (place : A → ℕ) (n m k : ℕ) (xs : List A) → m ≤ k → Between place n m xs → Between place n k xs
higher place n m k [] le h = omega (arith, le, h)
higher place n m k (x ∷ xs) le h = (h.0, higher place (place x + 1) m k xs le h.1)

globals_between : (k : ℕ) (gs : List GlobalVar) → Between rank k (k + length gs) (sites_by_globals k gs)
globals_between k [] = omega arith
globals_between k (g ∷ gs) = let e : k + 1 + length gs ≡ k + suc (length gs) = omega arith in (omega arith, subst (λ (m : ℕ). Between rank (k + 1) m (sites_by_globals (k + 1) gs)) e (globals_between (k + 1) gs))

one_between : (f : FuncId) (k : ℕ) (x : Node) → Between rank ((f.0 + 1) * 4294967296 + k) ((f.0 + 1) * 4294967296 + k + 1) (site_of_node f k x)
one_between f k (node.Alloca size result next) = (omega arith, omega arith)
one_between f k (node.Malloc size result next) = (omega arith, omega arith)
one_between f k _ = omega arith

nodes_between : (f : FuncId) (k : ℕ) (xs : List Node) → Between rank ((f.0 + 1) * 4294967296 + k) ((f.0 + 1) * 4294967296 + k + length xs) (sites_from f k xs)
nodes_between f k [] = omega arith
nodes_between f k (x ∷ xs) =
    let e : (f.0 + 1) * 4294967296 + (k + 1) ≡ (f.0 + 1) * 4294967296 + k + 1 = omega arith in
    let e' : (f.0 + 1) * 4294967296 + (k + 1) + length xs ≡ (f.0 + 1) * 4294967296 + k + suc (length xs) = omega arith in
    joined rank ((f.0 + 1) * 4294967296 + k) ((f.0 + 1) * 4294967296 + k + 1) ((f.0 + 1) * 4294967296 + k + suc (length xs)) (site_of_node f k x) (sites_from f (k + 1) xs) (one_between f k x)
    (subst (λ (n : ℕ). Between rank n ((f.0 + 1) * 4294967296 + k + suc (length xs)) (sites_from f (k + 1) xs)) e
    (subst (λ (m : ℕ). Between rank ((f.0 + 1) * 4294967296 + (k + 1)) m (sites_from f (k + 1) xs)) e' (nodes_between f (k + 1) xs)))

abbrev HasFew : Func → Type 0
HasFew f = length f.nodes ≤ 4294967296

funcs_between : (k : ℕ) (fs : List Func) → Each HasFew fs → Between rank ((k + 1) * 4294967296) ((k + length fs + 1) * 4294967296) (sites_by_funcs k fs)
funcs_between k [] few = omega arith
funcs_between k (f ∷ fs) few =
    let a : ℕ = (k + 1) * 4294967296 in
    let e : (k + 1) * 4294967296 + 0 ≡ (k + 1) * 4294967296 = omega arith in
    let e' : (k + 1 + length fs + 1) * 4294967296 ≡ (k + suc (length fs) + 1) * 4294967296 = omega arith in
    joined rank ((k + 1) * 4294967296) ((k + 1 + 1) * 4294967296) ((k + suc (length fs) + 1) * 4294967296) (sites_from (record { 0 = k }) 0 f.nodes) (sites_by_funcs (k + 1) fs)
    (higher rank ((k + 1) * 4294967296) ((k + 1) * 4294967296 + 0 + length f.nodes) ((k + 1 + 1) * 4294967296) (sites_from (record { 0 = k }) 0 f.nodes) (omega (arith, few.0))
    (subst (λ (n : ℕ). Between rank n ((k + 1) * 4294967296 + 0 + length f.nodes) (sites_from (record { 0 = k }) 0 f.nodes)) e (nodes_between (record { 0 = k }) 0 f.nodes)))
    (subst (λ (m : ℕ). Between rank ((k + 1 + 1) * 4294967296) m (sites_by_funcs (k + 1) fs)) e' (funcs_between (k + 1) fs few.1))

few_of : (g n : ℕ) (fs : List Func) → Each (IsFuncOf g n) fs → Each HasFew fs
few_of g n [] h = tt
few_of g n (f ∷ fs) h = (h.0.few_nodes, few_of g n fs h.1)

sites_between : (p : ProgramData) → IsWhole p → Between rank 0 36893488147419103232 (sites p)
sites_between p whole =
    joined rank 0 4294967296 36893488147419103232 (sites_by_globals 0 p.globals) (sites_by_funcs 0 p.funcs)
    (higher rank 0 (0 + length p.globals) 4294967296 (sites_by_globals 0 p.globals) (omega (arith, whole.few_globals)) (globals_between 0 p.globals))
    (higher rank 4294967296 ((0 + length p.funcs + 1) * 4294967296) 36893488147419103232 (sites_by_funcs 0 p.funcs) (omega (arith, whole.few_funcs))
    (funcs_between 0 p.funcs (few_of (length p.globals) (length p.funcs) p.funcs (recursion_from_All (IsFuncOf (length p.globals) (length p.funcs)) p.funcs whole.funcs))))

cells_between : (n m : ℕ) (ss : List Site) → Between rank n m ss → Between place_of n m (map location.Cells ss)
cells_between n m [] h = h
cells_between n m (s ∷ ss) h = (h.0, cells_between (rank s + 1) m ss h.1)

lives_between : (n m : ℕ) (ss : List Site) → Between rank n m ss → Between place_of (36893488147419103232 + n) (36893488147419103232 + m) (map location.Life ss)
lives_between n m [] h = omega (arith, h)
lives_between n m (s ∷ ss) h =
    let e : 36893488147419103232 + (rank s + 1) ≡ 36893488147419103232 + rank s + 1 = omega arith in
    (omega (arith, h.0), subst (λ (k : ℕ). Between place_of k (36893488147419103232 + m) (map location.Life ss)) e (lives_between (rank s + 1) m ss h.1))

rises : (n m : ℕ) (ls : List Location) → Between place_of n m ls → RiseFrom n ls
rises n m [] h = tt
rises n m (l ∷ ls) h = (h.0, rises (place_of l + 1) m ls h.1)

locations_rise : (p : ProgramData) → IsWhole p → RiseFrom 0 (locations p)
locations_rise p whole =
    rises 0 73786976294838206466 (locations p)
    (joined place_of 0 36893488147419103232 73786976294838206466 (map location.Cells (sites p)) (map location.Life (sites p) ++ location.Input ∷ location.Output ∷ [])
    (cells_between 0 36893488147419103232 (sites p) (sites_between p whole))
    (joined place_of 36893488147419103232 73786976294838206464 73786976294838206466 (map location.Life (sites p)) (location.Input ∷ location.Output ∷ [])
    (lives_between 0 36893488147419103232 (sites p) (sites_between p whole)) (omega arith, (omega arith, omega arith))))

-- ---- what is chosen

chosen_later : (f n m : ℕ) (ls : List Location) (cs : List (List Bool)) → n ≤ m → RiseFrom m (chosen f ls cs) → RiseFrom n (chosen f ls cs)
chosen_later f n m ls cs le h = go (chosen f ls cs) h
  where
    go : (xs : List Location) → RiseFrom m xs → RiseFrom n xs
    go [] h = tt
    go (x ∷ xs) h = (omega (arith, le, h.0), h.1)

one_kept : (f n : ℕ) (l : Location) (ls : List Location) (cs : List (List Bool)) (b : Bool) → n ≤ place_of l → RiseFrom (place_of l + 1) (chosen f ls cs)
    → RiseFrom n (kept b l ++ chosen f ls cs)
one_kept f n l ls cs true le h = (le, h)
one_kept f n l ls cs false le h = chosen_later f n (place_of l + 1) ls cs (omega (arith, le)) h

chosen_rises : (f n : ℕ) (ls : List Location) (cs : List (List Bool)) → RiseFrom n ls → RiseFrom n (chosen f ls cs)
chosen_rises f n [] cs h = tt
chosen_rises f n (l ∷ ls) [] h = tt
chosen_rises f n (l ∷ ls) (c ∷ cs) h = one_kept f n l ls cs (has c f) h.0 (chosen_rises f (place_of l + 1) ls cs h.1)

behind : (xs : List Location) (x l : Location) → Contains xs l → Contains (x ∷ xs) l
behind xs x l h = (suc h.0, omega (arith, h.1), h.2)

still : (xs : List Location) (b : Bool) (x l : Location) → Contains xs l → Contains (kept b x ++ xs) l
still xs true x l h = behind xs x l h
still xs false x l h = h

chosen_has : (f i : ℕ) (ls : List Location) (cs : List (List Bool)) (l : Location) → i < length ls → i < length cs → slice_index_or ls i l ≡ l → has (slice_index_or cs i []) f ≡ true
    → Contains (chosen f ls cs) l
chosen_has f i [] cs l lt lt' at h = absurd (omega (arith, lt))
chosen_has f i (x ∷ ls) [] l lt lt' at h = absurd (omega (arith, lt'))
chosen_has f zero (x ∷ ls) (c ∷ cs) l lt lt' at h = subst (λ (b : Bool). Contains (kept b x ++ chosen f ls cs) l) (sym h) (0, omega arith, at)
chosen_has f (suc i) (x ∷ ls) (c ∷ cs) l lt lt' at h = still (chosen f ls cs) (has c f) x l (chosen_has f i ls cs l (omega (arith, lt)) (omega (arith, lt')) at h)

-- where a chosen location stands
pub record Stands (f : ℕ) (ls : List Location) (cs : List (List Bool)) (l : Location) : Type 0 where
  pub place : ℕ
  pub within' : place < length cs
  pub there : location_at ls place ≡ l
  pub chosen' : has (slice_index_or cs place []) f ≡ true

later : (f : ℕ) (x : Location) (c : List Bool) (ls : List Location) (cs : List (List Bool)) (l : Location) → Stands f ls cs l → Stands f (x ∷ ls) (c ∷ cs) l
later f x c ls cs l s = record { place = suc s.place; within' = (let w = s.within' in omega (arith, w)); there = s.there; chosen' = s.chosen' }

found_in : (f : ℕ) (x : Location) (c : List Bool) (ls : List Location) (cs : List (List Bool)) (l : Location) (b : Bool) → has c f ≡ b
    → (Contains (chosen f ls cs) l → Stands f ls cs l) → Contains (kept b x ++ chosen f ls cs) l → Stands f (x ∷ ls) (c ∷ cs) l
found_in f x c ls cs l true e before h = first h.0 h.1 h.2
  where
    first : (k : ℕ) → k < suc (length (chosen f ls cs)) → slice_index_or (x ∷ chosen f ls cs) k l ≡ l → Stands f (x ∷ ls) (c ∷ cs) l
    first zero lt at = record { place = 0; within' = omega arith; there = at; chosen' = e }
    first (suc k) lt at = later f x c ls cs l (before (k, omega (arith, lt), at))
found_in f x c ls cs l false e before h = later f x c ls cs l (before h)

chosen_from : (f : ℕ) (ls : List Location) (cs : List (List Bool)) (l : Location) → Contains (chosen f ls cs) l → Stands f ls cs l
chosen_from f [] cs l h = absurd (omega (arith, h.1))
chosen_from f (x ∷ ls) [] l h = absurd (omega (arith, h.1))
chosen_from f (x ∷ ls) (c ∷ cs) l h = found_in f x c ls cs l (has c f) refl (chosen_from f ls cs l) h

at_default : (ls : List Location) (i : ℕ) (l : Location) → i < length ls → slice_index_or ls i l ≡ location_at ls i
at_default [] i l lt = absurd (omega (arith, lt))
at_default (x ∷ ls) zero l lt = refl
at_default (x ∷ ls) (suc i) l lt = at_default ls i l (omega (arith, lt))

pub are_changes : (p : ProgramData) → IsWhole p → (f : ℕ) (ls : List Location) (cs : List (List Bool)) (list : List Location) → ls ≡ locations p → AreColumns p ls cs → length cs ≡ length ls
    → list ≡ chosen f ls cs → AreChanges p (func f) list
are_changes p whole f ls cs list is columns size e =
    subst (λ (xs : List Location). AreChanges p (func f) xs) (sym e) (record {
      ascending = chosen_rises f 0 ls cs (subst (λ (xs : List Location). RiseFrom 0 xs) (sym is) (locations_rise p whole));
      only = λ l h. let s = chosen_from f ls cs l h in
          subst (λ (m : Location). Changes p (func f) m) s.there ((columns s.place s.within').only f s.chosen');
      all = λ l h. let c = subst (λ (xs : List Location). Contains xs l) (sym is) (changes_in p whole (func f) l h) in
          let there : location_at ls c.0 ≡ l = sym (at_default ls c.0 l c.1) ∙ c.2 in
          let lt : c.0 < length cs = omega (arith, c.1, size) in
          chosen_has f c.0 ls cs l c.1 lt c.2 ((columns c.0 lt).all f (subst (λ (m : Location). Changes p (func f) m) (sym there) h));
    })

-- ---- the globals one by one

globals_step : (m k : ℕ) (gs : List GlobalVar) → k < length gs → sites_by_globals m (drop k gs) ≡ site.Global m ∷ sites_by_globals (m + 1) (drop (suc k) gs)
globals_step m k [] lt = absurd (omega (arith, lt))
globals_step m zero (g ∷ gs) lt = refl
globals_step m (suc k) (g ∷ gs) lt = globals_step m k gs (omega (arith, lt))

pub globals_next : (m k : ℕ) (gs : List GlobalVar) → k < length gs → sites_by_globals m (drop k gs) ≡ site.Global m ∷ sites_by_globals (m + 1) (drop (k + 1) gs)
globals_next m k gs lt = let e : suc k ≡ k + 1 = omega arith in subst (λ (j : ℕ). sites_by_globals m (drop k gs) ≡ site.Global m ∷ sites_by_globals (m + 1) (drop j gs)) e (globals_step m k gs lt)

one_on : (xs : List Site) (x : Site) (ys : List Site) → (xs ++ x ∷ []) ++ ys ≡ xs ++ x ∷ ys
one_on [] x ys = refl
one_on (z ∷ zs) x ys = ap (λ (ws : List Site). z ∷ ws) (one_on zs x ys)

pub moved_on : (new old : List Site) (x : Site) (rest rest' all : List Site) → new ≡ old ++ x ∷ [] → rest ≡ x ∷ rest' → old ++ rest ≡ all → new ++ rest' ≡ all
moved_on new old x rest rest' all e e' h = ap (λ (ws : List Site). ws ++ rest') e ∙ (one_on old x rest' ∙ (ap (λ (ws : List Site). old ++ ws) (sym e') ∙ h))

-- ---- the lists of all functions

pub here_changes : (p q : ProgramData) (f : ℕ) (items ls others : List Location) (cs columns : List (List Bool)) (list : List Location) → IsWhole p → q ≡ p → items ≡ locations q
    → ls ≡ items → others ≡ items → AreColumns q ls cs → length cs ≡ length ls → columns ≡ cs → list ≡ chosen f others columns → AreChanges p (func f) list
here_changes p q f items ls others cs columns list whole e i a b are size d is =
    are_changes p whole f ls cs list (a ∙ (i ∙ ap locations e)) (subst (λ (r : ProgramData). AreColumns r ls cs) e are) size
    (is ∙ (ap (λ (xs : List Location). chosen f xs columns) (b ∙ sym a) ∙ ap (chosen f ls) d))

pub one_longer : {A : Type 0} (new old : List A) (y : A) (n : ℕ) → new ≡ old ++ y ∷ [] → length old ≡ n → length new ≡ n + 1
one_longer new old y n e len = ap length e ∙ (length_push old y ∙ ap (λ (k : ℕ). k + 1) len)

pub one_list_more : (p : ProgramData) (new old : List (List Location)) (y : List Location) (n : ℕ) → new ≡ old ++ y ∷ [] → length old ≡ n
    → ((k : ℕ) → k < n → AreChanges p (func k) (slice_index_or old k [])) → AreChanges p (func n) y → (k : ℕ) → k < n + 1 → AreChanges p (func k) (slice_index_or new k [])
one_list_more p new old y n e len each last =
    subst (λ (xs : List (List Location)). (k : ℕ) → k < n + 1 → AreChanges p (func k) (slice_index_or xs k [])) (sym e)
    (pushed (λ k xs. AreChanges p (func k) xs) [] old n y len each last)
