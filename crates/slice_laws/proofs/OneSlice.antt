-- A function has one slice for a location.
use Rattle.std.specs.Prelude.{slice_get, slice_index_or, map, ◌++◌}
use Rattle.std.specs.List.{Contains}
use Rattle.std.proofs.Common.{◌≡◌, ◌<◌, ◌≤◌, ◌∙◌, ◌||◌, ⊎_elim, inl, ℕ, zero, suc, Bool, true, false, List, [], ◌∷◌, length, Some, refl, sym, ap, subst, arith}
use Rattle.std.proofs.lemmas.Bool.{cases_lt, cases_Bool}
use Rattle.std.proofs.lemmas.Option.{slice_get_past, slice_get_cases}
use Rattle.control_closure.specs.Met.{HasEdge}
use Rattle.control_closure.specs.WalkLaws.{meets_kept}
use Rattle.flat_ir.specs.declared.names.FuncId.{FuncId}
use Rattle.flat_ir.specs.declared.names.NodeId.{NodeId}
use Rattle.flat_ir.specs.declared.names.Location.{Location}
use Rattle.flat_ir.specs.declared.program.ProgramData.{ProgramData}
use Rattle.flat_ir.specs.declared.residual.Kept.{Kept}
use Rattle.flat_ir.specs.declared.residual.Next.{Next}
use Rattle.flat_ir.specs.declared.residual.Next.TheVariants as next
use Rattle.flat_ir.specs.declared.residual.Residual.{Residual}
use Rattle.slices.specs.Slice.{Item, Keep, Need, Items, Looks, itself, calls as looks_on, Grown, before, asked, returns, changes, defines, cells, lives, input, calls, results, IsGrown, IsClosingRound, IsClosedSlice, Slices, ends, round, IsSlice, PartsIn, end_of, leads_to, graph_of, retained}
use Rattle.flat_ir.specs.Machine.{func_at, nodes_of}
use Rattle.slices.specs.SliceFacts.{SliceFacts}
use Rattle.slices.specs.Nexts.{Ways, IsMetFirst, AreNexts, IsKept, AreKept, IsResidual}
use Rattle.slices.proofs.Slicing.{facts}
use Rattle.slice_laws.proofs.Lists.{none_in, same_elements}
use Rattle.slice_laws.proofs.Frames.{apart_end}

-- two tests that are true together are one
pub same_test : (a b : Bool) → (a ≡ true → b ≡ true) → (b ≡ true → a ≡ true) → a ≡ b
same_test true b to back = sym (to refl)
same_test false true to back = back refl
same_test false false to back = refl

-- ---- the end

row_past : {A : Type 0} (f : A → List ℕ) (xs : List A) (k : ℕ) → length xs ≤ k → slice_index_or (map f xs ++ [] ∷ []) k [] ≡ []
row_past f [] zero far = refl
row_past f [] (suc k) far = refl
row_past f (x ∷ xs) zero far = absurd (omega (arith, far))
row_past f (x ∷ xs) (suc k) far = row_past f xs k (omega (arith, far))

-- the end leads nowhere
pub end_leads : (p : ProgramData) (g : FuncId) (n : ℕ) → end_of p g ≤ n → (m : ℕ) → HasEdge (graph_of p g) n m → ⊥
end_leads p g n far m edge =
    none_in m (subst (λ (row : List ℕ). Contains row m) (row_past (leads_to (end_of p g)) (nodes_of (func_at p g)) n far) edge)

retained_node : (p : ProgramData) (items : Items) (g : FuncId) (n : NodeId) → n.0 < end_of p g → retained p g items n.0 ≡ true → items (Keep g n) ≡ true
retained_node p items g n lt there = ap (λ b. b || items (Keep g n)) (sym (apart_end n.0 (end_of p g) lt)) ∙ there

-- ---- rounds

one_grown : (p : ProgramData) (f : FuncId) (at' : Location) (old new other : Items) → IsGrown p f at' old new → IsGrown p f at' old other → new ≡ other
one_grown p f at' old new other is is' = λ i x. same_test (new x) (other x) (λ h. (is' x).1 ((is x).0 h)) (λ h. (is x).1 ((is' x).0 h)) i

item_same : (new other : Items) → ((g : FuncId) (n : NodeId) → new (Keep g n) ≡ other (Keep g n)) → ((l : Location) → new (Need l) ≡ other (Need l)) → (x : Item) → new x ≡ other x
item_same new other nodes needs (Keep g n) = nodes g n
item_same new other nodes needs (Need l) = needs l

one_round : (p : ProgramData) (f : FuncId) (old new other : Items) → IsClosingRound p f old new → IsClosingRound p f old other → new ≡ other
one_round p f old new other is is' =
    λ i x. item_same new other
    (λ g n. same_test (new (Keep g n)) (other (Keep g n)) (λ h. (is'.nodes g n).1 ((is.nodes g n).0 h)) (λ h. (is.nodes g n).1 ((is'.nodes g n).0 h)))
    (λ l. is.needs l ∙ sym (is'.needs l)) x i

-- what grows from a grown set is in it
grown_again : (p : ProgramData) (f : FuncId) (at' : Location) (old new : Items) → IsGrown p f at' old new → (x : Item) → Grown p f at' new x → Grown p f at' old x
grown_again p f at' old new is _ (before x h) = (is x).0 h
grown_again p f at' old new is _ asked = asked
grown_again p f at' old new is _ (returns n e e') = returns n e e'
grown_again p f at' old new is _ (changes g n l looks c h) = changes g n l looks c (grown_again p f at' old new is _ h)
grown_again p f at' old new is _ (defines g n m r h reads d) = defines g n m r (grown_again p f at' old new is _ h) reads d
grown_again p f at' old new is _ (cells g n a s h through points) = cells g n a s (grown_again p f at' old new is _ h) through points
grown_again p f at' old new is _ (lives g n a s h used points) = lives g n a s (grown_again p f at' old new is _ h) used points
grown_again p f at' old new is _ (input g n h e) = input g n (grown_again p f at' old new is _ h) e
grown_again p f at' old new is _ (calls g n callee m looks e h) = calls g n callee m looks e (grown_again p f at' old new is _ h)
grown_again p f at' old new is _ (results g n m callee r k h reads e e' e'') = results g n m callee r k (grown_again p f at' old new is _ h) reads e e' e''

settled : (p : ProgramData) (f : FuncId) (at' : Location) (old new : Items) → IsGrown p f at' old new → IsGrown p f at' new new
settled p f at' old new is = λ x. (λ h. before x h, λ g. (is x).1 (grown_again p f at' old new is x g))

-- a closing round of a closed set adds nothing
closed_round : (p : ProgramData) (f : FuncId) (old new : Items) → IsClosedSlice p f old → IsClosingRound p f old new → new ≡ old
closed_round p f old new closed is =
    λ i x. item_same new old
    (λ g n. same_test (new (Keep g n)) (old (Keep g n)) (λ h. ⊎_elim (λ there. there) (λ parts. kept g n parts) ((is.nodes g n).0 h)) (λ h. (is.nodes g n).1 (inl h)))
    is.needs x i
  where
    end_parts : (g : FuncId) (n : NodeId) → retained p g old n.0 ≡ true → PartsIn p f old g n → old (Keep g n) ≡ true
    end_parts g n there parts = ⊎_elim (λ lt. retained_node p old g n lt there) (λ far. absurd (end_leads p g n.0 far parts.1.one parts.1.one_edge)) (cases_lt n.0 (end_of p g))

    kept : (g : FuncId) (n : NodeId) → PartsIn p f old g n → old (Keep g n) ≡ true
    kept g n parts = ⊎_elim (λ there. end_parts g n there parts) (λ not. absurd (closed g n not parts)) (cases_Bool (retained p g old n.0))

stays : (p : ProgramData) (f : FuncId) (at' : Location) (x : Items) → IsGrown p f at' x x → IsClosedSlice p f x → (old b : Items) → old ≡ x → Slices p f at' old b → b ≡ x
stays p f at' x grown closed old b e (ends _ _ is _) = one_grown p f at' x b x (subst (λ (o : Items). IsGrown p f at' o b) e is) grown
stays p f at' x grown closed old b e (round _ more' next _ is step more) =
    let same : more' ≡ x = one_grown p f at' x more' x (subst (λ (o : Items). IsGrown p f at' o more') e is) grown in
    stays p f at' x grown closed next b (closed_round p f x next closed (subst (λ (o : Items). IsClosingRound p f o next) same step)) more

-- rounds from a set that has grown to a closed one end with it
ends_there : (p : ProgramData) (f : FuncId) (at' : Location) (old x grown next b : Items) → IsGrown p f at' old x → IsClosedSlice p f x → IsGrown p f at' old grown → IsClosingRound p f grown next → Slices p f at' next b → b ≡ x
ends_there p f at' old x grown next b is closed is' step more =
    let same : grown ≡ x = one_grown p f at' old grown x is' is in
    stays p f at' x (settled p f at' old x is) closed next b (closed_round p f x next closed (subst (λ (o : Items). IsClosingRound p f o next) same step)) more

one_slice : (p : ProgramData) (f : FuncId) (at' : Location) (old old' a b : Items) → old ≡ old' → Slices p f at' old a → Slices p f at' old' b → a ≡ b
one_slice p f at' old old' a b e (ends _ _ is closed) (ends _ _ is' closed') = one_grown p f at' old' a b (subst (λ (o : Items). IsGrown p f at' o a) e is) is'
one_slice p f at' old old' a b e (ends _ _ is closed) (round _ grown next _ is' step more) =
    sym (ends_there p f at' old' a grown next b (subst (λ (o : Items). IsGrown p f at' o a) e is) closed is' step more)
one_slice p f at' old old' a b e (round _ grown next _ is step more) (ends _ _ is' closed) =
    ends_there p f at' old b grown next a (subst (λ (o : Items). IsGrown p f at' o b) (sym e) is') closed is step more
one_slice p f at' old old' a b e (round _ grown next _ is step more) (round _ grown' next' _ is' step' more') =
    let same : grown ≡ grown' = one_grown p f at' old' grown grown' (subst (λ (o : Items). IsGrown p f at' o grown) e is) is' in
    one_slice p f at' next next' a b (one_round p f grown' next next' (subst (λ (o : Items). IsClosingRound p f o next) same step) step') more more'

-- ---- functions with a retained node

-- the slice looks at the function of the item, if it has one
abbrev pub ItemLooks : ProgramData → FuncId → Item → Type 0
ItemLooks p f (Keep g n) = Looks p f g
ItemLooks p f (Need l) = Unit {0}

pub grown_looks : (p : ProgramData) (f : FuncId) (at' : Location) (base : Items) → ((x : Item) → base x ≡ true → ItemLooks p f x) → (x : Item) → Grown p f at' base x → ItemLooks p f x
grown_looks p f at' base all _ (before x h) = all x h
grown_looks p f at' base all _ asked = tt
grown_looks p f at' base all _ (returns n e e') = itself
grown_looks p f at' base all _ (changes g n l looks c h) = looks
grown_looks p f at' base all _ (defines g n m r h reads d) = grown_looks p f at' base all (Keep g n) h
grown_looks p f at' base all _ (calls g n callee m looks e h) = looks
grown_looks p f at' base all _ (results g n m callee r k h reads e e' e'') = looks_on g m callee (grown_looks p f at' base all (Keep g n) h) e
grown_looks p f at' base all _ _ = tt

round_looks : (p : ProgramData) (f : FuncId) (old new : Items) → ((x : Item) → old x ≡ true → ItemLooks p f x) → IsClosingRound p f old new → (x : Item) → new x ≡ true → ItemLooks p f x
round_looks p f old new all is (Keep g n) h = ⊎_elim (all (Keep g n)) (λ parts. parts.0) ((is.nodes g n).0 h)
round_looks p f old new all is (Need l) h = tt

slices_look : (p : ProgramData) (f : FuncId) (at' : Location) (old new : Items) → ((x : Item) → old x ≡ true → ItemLooks p f x) → Slices p f at' old new → (x : Item) → new x ≡ true → ItemLooks p f x
slices_look p f at' old new all (ends _ _ is closed) = λ x h. grown_looks p f at' old all x ((is x).0 h)
slices_look p f at' old new all (round _ grown next _ is step more) =
    slices_look p f at' next new (round_looks p f grown next (λ x h. grown_looks p f at' old all x ((is x).0 h)) step) more

kept_looks : (p : ProgramData) (f : FuncId) (at' : Location) (items : Items) → IsSlice p f at' items → (g : FuncId) (n : NodeId) → items (Keep g n) ≡ true → Looks p f g
kept_looks p f at' items slice g n h = slices_look p f at' (λ x. false) items (λ x none. absurd (cc)) slice (Keep g n) h

-- ---- one place to go on

one_next : (p : ProgramData) (f : FuncId) (at' : Location) (items : Items) → SliceFacts p f at' items → ((g : FuncId) (n : NodeId) → items (Keep g n) ≡ true → Looks p f g) → (g : FuncId) (n : NodeId) (a b : Next)
    → IsMetFirst p items g n a → IsMetFirst p items g n b → a ≡ b
one_next p f at' items known look g n (next.Node m) (next.Node k) x y =
    let looks = look g m (retained_node p items g m x.0 (meets_kept x.1)) in
    ap (λ (i : ℕ). next.Node (record { 0 = i })) (known.one_met g looks n.0 m.0 k.0 x.1 y.1)
one_next p f at' items known look g n (next.Node m) next.End x y =
    let looks = look g m (retained_node p items g m x.0 (meets_kept x.1)) in
    let e = known.one_met g looks n.0 m.0 (end_of p g) x.1 y in absurd (omega (arith, e, x.0))
one_next p f at' items known look g n next.End (next.Node k) x y =
    let looks = look g k (retained_node p items g k y.0 (meets_kept y.1)) in
    let e = known.one_met g looks n.0 k.0 (end_of p g) y.1 x in absurd (omega (arith, e, y.0))
one_next p f at' items known look g n (next.Node m) next.Never x y = absurd (y m.0 x.1)
one_next p f at' items known look g n next.Never (next.Node k) x y = absurd (x k.0 y.1)
one_next p f at' items known look g n next.End next.End x y = refl
one_next p f at' items known look g n next.End next.Never x y = absurd (y (end_of p g) x)
one_next p f at' items known look g n next.Never next.End x y = absurd (x (end_of p g) y)
one_next p f at' items known look g n next.Never next.Never x y = refl

-- ---- one residual program

kept_same : (p : ProgramData) (items : Items) (ways : Ways) (f : FuncId) (a b : Kept) → IsKept p items ways f a → IsKept p items ways f b → a ≡ b
kept_same p items ways f a b is is' =
    let starts : a.start ≡ b.start = is.start ∙ sym is'.start in
    let nexts : a.nexts ≡ b.nexts = same_elements a.nexts b.nexts (λ k. ⊎_elim (λ lt. is.nexts (record { 0 = k }) lt ∙ sym (is'.nexts (record { 0 = k }) lt))
    (λ far. slice_get_past a.nexts k (omega (arith, far, is.count)) ∙ sym (slice_get_past b.nexts k (omega (arith, far, is'.count)))) (cases_lt k (end_of p f))) in
    λ i. record { start = starts i; nexts = nexts i }

residuals_same : (p : ProgramData) (items : Items) (ways : Ways) (a b : Residual) → AreKept p items ways a → AreKept p items ways b → a ≡ b
residuals_same p items ways a b is is' =
    let funcs : a.funcs ≡ b.funcs = same_elements a.funcs b.funcs each in
    λ i. record { funcs = funcs i }
  where
    each : (k : ℕ) → slice_get a.funcs k ≡ slice_get b.funcs k
    each k =
        ⊎_elim (λ x. ⊎_elim (λ y. x.2 ∙ ap Some (kept_same p items ways (record { 0 = k }) x.0 y.0 (is.each (record { 0 = k }) x.0 x.2) (is'.each (record { 0 = k }) y.0 y.2)) ∙ sym y.2)
        (λ far. absurd (omega (arith, far.0, x.1, is.count, is'.count))) (slice_get_cases b.funcs k).1)
        (λ far. far.1 ∙ sym (slice_get_past b.funcs k (omega (arith, far.0, is.count, is'.count)))) (slice_get_cases a.funcs k).1

pub slices_same : (p : ProgramData) (f : FuncId) (at' : Location) (a b : Residual) → IsResidual p f at' a → IsResidual p f at' b → a ≡ b
slices_same p f at' a b is is' =
    let items : is.items ≡ is'.items = one_slice p f at' (λ x. false) (λ x. false) is.items is'.items refl is.slice is'.slice in
    let known = facts p f at' _ is'.items is'.slice in
    let nexts = subst (λ (x : Items). AreNexts p x is.ways) items is.nexts in
    let ways : is.ways ≡ is'.ways = λ i g n. one_next p f at' is'.items known (kept_looks p f at' is'.items is'.slice) g n (is.ways g n) (is'.ways g n) (nexts g n) (is'.nexts g n) i in
    residuals_same p is'.items is'.ways a b (subst (λ (w : Ways). AreKept p is'.items w a) ways (subst (λ (x : Items). AreKept p x is.ways a) items is.kept)) is'.kept
