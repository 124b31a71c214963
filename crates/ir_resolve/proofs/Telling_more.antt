-- One more place in what is told.
use Rattle.std.proofs.Common.{◌≡◌, ◌∙◌, ◌++◌, ◌+◌, ◌<◌, ℕ, suc, Bool, true, false, cond, List, [], ◌∷◌, length, drop, get_or, map, Option, Some, refl, sym, ap, drop-cons, add-one}
use Rattle.std.specs.Prelude.{if◌then◌else◌}
use Rattle.std.specs.List.{filter, flat_map}
use Rattle.std.proofs.lemmas.List.{map-append}
use Rattle.ir_tree.specs.declared.types.Name.{Name}
use Rattle.ir_programs.specs.declared.refusals.Cause.{Cause}
use Rattle.ir_programs.specs.declared.refusals.Refusal.{Refusal}
use Rattle.ir_programs.specs.Refusals.{merged, first, refused}
use Rattle.ir_programs.specs.Texts.{places_where}
use Rattle.ir_programs.proofs.Told.{merged_more}
use Rattle.ir_resolve.specs.Telling.{told_of}
use Rattle.ir_resolve.proofs.Merging.{refused_more}

pub rest_less : {A : Type 0} (xs : List A) (i : ℕ) (x : A) → i < length xs → x ≡ get_or xs i x → drop i xs ≡ x ∷ drop (i + 1) xs
rest_less {A} xs i x lt is = rw add-one (drop-cons xs i x lt ∙ ap (λ (y : A). y ∷ drop (suc i) xs) (sym is))

-- the same by another test
pub told_if : (cause : Cause) (at : ℕ) (now next : Option Refusal) (b c : Bool) → next ≡ (if b then merged now (Some (record { at = at; cause = cause })) else now) → b ≡ c →
    next ≡ (if c then merged now (Some (record { at = at; cause = cause })) else now)
told_if cause at now next b c e d = e ∙ ap (λ (x : Bool). if x then merged now (Some (record { at = at; cause = cause })) else now) d

abbrev failing : {A : Type 0} → (A → ℕ) → (A → Bool) → List A → List ℕ
failing place test xs = map place (filter test xs)

one_told : {A : Type 0} (place : A → ℕ) (test : A → Bool) (cause : Cause) (told : Option Refusal) (x : A) (xs : List A) →
    told_of cause (if test x then merged told (Some (record { at = place x; cause = cause })) else told) (failing place test xs) ≡ told_of cause told (failing place test (x ∷ xs))
one_told place test cause told x xs = go (test x)
  where
    go : (b : Bool) → told_of cause (if b then merged told (Some (record { at = place x; cause = cause })) else told) (failing place test xs) ≡ told_of cause told (map place (cond b (x ∷ filter test xs) (filter test xs)))
    go true = merged_more told (record { at = place x; cause = cause }) (first (refused cause (failing place test xs)))
    go false = refl

-- in a loop over a list, where a test tells whether a condition fails
pub next_told : {A : Type 0} (place : A → ℕ) (test : A → Bool) (cause : Cause) (now next all : Option Refusal) (xs : List A) (i : ℕ) (x : A) → i < length xs → x ≡ get_or xs i x →
    next ≡ (if test x then merged now (Some (record { at = place x; cause = cause })) else now) → told_of cause now (failing place test (drop i xs)) ≡ all →
    told_of cause next (failing place test (drop (i + 1) xs)) ≡ all
next_told {A} place test cause now next all xs i x lt is e before =
    ap (λ (o : Option Refusal). told_of cause o (failing place test (drop (i + 1) xs))) e ∙ (one_told place test cause now x (drop (i + 1) xs)
    ∙ (ap (λ (ys : List A). told_of cause now (failing place test ys)) (sym (rest_less xs i x lt is)) ∙ before))

-- the same where each element tells of places
pub next_places : {A : Type 0} (f : A → List ℕ) (cause : Cause) (now next all : Option Refusal) (xs : List A) (i : ℕ) (x : A) → i < length xs → x ≡ get_or xs i x → next ≡ told_of cause now (f x) →
    told_of cause now (flat_map f (drop i xs)) ≡ all → told_of cause next (flat_map f (drop (i + 1) xs)) ≡ all
next_places {A} f cause now next all xs i x lt is e before =
    ap (λ (o : Option Refusal). told_of cause o (flat_map f (drop (i + 1) xs))) e ∙ (refused_more cause now (f x) (flat_map f (drop (i + 1) xs))
    ∙ (ap (λ (ys : List A). told_of cause now (flat_map f ys)) (sym (rest_less xs i x lt is)) ∙ before))

filter_both : {A : Type 0} (test : A → Bool) (xs ys : List A) → filter test (xs ++ ys) ≡ filter test xs ++ filter test ys
filter_both test [] ys = refl
filter_both {A} test (x ∷ xs) ys = ap (λ (zs : List A). cond (test x) (x ∷ zs) zs) (filter_both test xs ys) ∙ go (test x)
  where
    go : (b : Bool) → cond b (x ∷ (filter test xs ++ filter test ys)) (filter test xs ++ filter test ys) ≡ cond b (x ∷ filter test xs) (filter test xs) ++ filter test ys
    go true = refl
    go false = refl

pub places_flat : {A : Type 0} (test : Name → Bool) (f : A → List Name) (xs : List A) → flat_map (λ x. places_where test (f x)) xs ≡ places_where test (flat_map f xs)
places_flat test f [] = refl
places_flat {A} test f (x ∷ xs) =
    ap (λ (ps : List ℕ). places_where test (f x) ++ ps) (places_flat test f xs)
    ∙ sym (ap (map (λ (n : Name). n.at)) (filter_both test (f x) (flat_map f xs)) ∙ map-append (λ (n : Name). n.at) (filter test (f x)) (filter test (flat_map f xs)))
