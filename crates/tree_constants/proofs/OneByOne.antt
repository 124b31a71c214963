-- What is told of lists, one element behind the other.
use Rattle.std.proofs.Common.{◌≡◌, ◌∙◌, ◌++◌, ◌+◌, ◌<◌, ℕ, suc, Bool, true, false, not, cond, List, [], ◌∷◌, Option, Some, None, length, drop, get_or, map, refl, sym, ap, drop-cons, add-one}
use Rattle.std.specs.Borrow.{Bor}
use Rattle.std.specs.List.{flat_map, filter}
use Rattle.std.proofs.lemmas.List.{map-append}
use Rattle.std.proofs.lemmas.List.Elements.{filter-append}
use Rattle.ir_tree.specs.declared.constants.ConstIndex.{ConstIndex}
use Rattle.ir_tree.specs.declared.constants.Value.{Value}
use Rattle.ir_tree.specs.declared.types.Name.{Name}
use Rattle.ir_programs.specs.declared.refusals.Cause.{Cause}
use Rattle.ir_programs.specs.declared.refusals.Cause.TheVariants.{BadInitialiser}
use Rattle.ir_programs.specs.declared.refusals.Refusal.{Refusal}
use Rattle.ir_programs.specs.Constants.{unless_fits, or_within}
use Rattle.ir_programs.specs.Refusals.{merged, first, refused, earlier_of}
use Rattle.ir_programs.specs.Texts.{places_where}
use Rattle.ir_programs.proofs.Told.{merged_more}
use Rattle.tree_constants.specs.Telling.{told_at, index_fits, wide_among}
use Rattle.tree_constants.specs.Values.{lent}

pub nothing_more : (o : Option Refusal) → merged o None ≡ o
nothing_more None = refl
nothing_more (Some r) = refl

-- what stands from a place on is one element and the rest
pub rest_less : {A : Type 0} (xs : List A) (i : ℕ) (x : A) → i < length xs → x ≡ get_or xs i x → drop i xs ≡ x ∷ drop (i + 1) xs
rest_less xs i x lt is = rw add-one (drop-cons xs i x lt ∙ ap (λ y. y ∷ drop (suc i) xs) (sym is))

module _ (cause : Cause) where
  pub told_more : (told : Option Refusal) (xs ys : List ℕ) → told_at cause (told_at cause told xs) ys ≡ told_at cause told (xs ++ ys)
  told_more told [] ys = ap (λ (o : Option Refusal). told_at cause o ys) (nothing_more told)
  told_more told (x ∷ xs) ys =
      let r : Refusal = record { at = x; cause = cause } in
      ap (λ (o : Option Refusal). told_at cause o ys) (sym (merged_more told r (first (refused cause xs))))
      ∙ (told_more (merged told (Some r)) xs ys ∙ merged_more told r (first (refused cause (xs ++ ys))))

  module _ {A : Type 0} (g : List A → List ℕ) (f : A → List ℕ) (adds : (x : A) (xs : List A) → g (x ∷ xs) ≡ f x ++ g xs) (xs : List A) (i : ℕ) (x : A) where
    pub one_more : i < length xs → x ≡ get_or xs i x → (told now next : Option Refusal) → next ≡ told_at cause now (f x) → told_at cause now (g (drop i xs)) ≡ told_at cause told (g xs) →
        told_at cause next (g (drop (i + 1) xs)) ≡ told_at cause told (g xs)
    one_more lt is told now next step before =
        ap (λ (o : Option Refusal). told_at cause o (g (drop (i + 1) xs))) step
        ∙ (told_more now (f x) (g (drop (i + 1) xs))
        ∙ (ap (told_at cause now) (sym (adds x (drop (i + 1) xs)) ∙ sym (ap g (rest_less xs i x lt is))) ∙ before))

-- ---- names that values use

places_append : (test : Name → Bool) (xs ys : List Name) → places_where test (xs ++ ys) ≡ places_where test xs ++ places_where test ys
places_append test xs ys = ap (map (λ (n : Name). n.at)) (filter-append test xs ys) ∙ map-append (λ (n : Name). n.at) (filter test xs) (filter test ys)

module _ (cause : Cause) (test : Name → Bool) (names : Value → List Name) where
  abbrev pub uses_in : List (Bor Value) → List ℕ
  uses_in rs = places_where test (flat_map names (lent rs))

  pub use_more : (rs : List (Bor Value)) (i : ℕ) (r : Bor Value) → i < length rs → r ≡ get_or rs i r → (told now next : Option Refusal) → next ≡ told_at cause now (places_where test (names r.now)) →
      told_at cause now (uses_in (drop i rs)) ≡ told_at cause told (uses_in rs) → told_at cause next (uses_in (drop (i + 1) rs)) ≡ told_at cause told (uses_in rs)
  use_more rs i r = one_more cause uses_in (λ (q : Bor Value). places_where test (names q.now)) (λ q qs. places_append test (names q.now) (flat_map names (lent qs))) rs i r

-- a name is told unless it passes
pub unless_known : (test : Name → Bool) (n : Name) → unless_fits (test n) n.at ≡ places_where (λ m. not (test m)) (n ∷ [])
unless_known test n = go (test n)
  where
    go : (b : Bool) → unless_fits b n.at ≡ map (λ (m : Name). m.at) (cond (not b) (n ∷ []) [])
    go true = refl
    go false = refl

pub if_passes : (test : Name → Bool) (n : Name) → unless_fits (not (test n)) n.at ≡ places_where test (n ∷ [])
if_passes test n = go (test n)
  where
    go : (b : Bool) → unless_fits (not b) n.at ≡ map (λ (m : Name). m.at) (cond b (n ∷ []) [])
    go true = refl
    go false = refl

-- ---- indices

pub index_adds : (i : ConstIndex) (is : List ConstIndex) → wide_among (i ∷ is) ≡ unless_fits (index_fits i) i.at ++ wide_among is
index_adds i is = go (index_fits i)
  where
    go : (b : Bool) → map (λ (j : ConstIndex). j.at) (cond (not b) (i ∷ filter (λ j. not (index_fits j)) is) (filter (λ j. not (index_fits j)) is)) ≡ unless_fits b i.at ++ map (λ (j : ConstIndex). j.at) (filter (λ j. not (index_fits j)) is)
    go true = refl
    go false = refl

-- ---- one within the other

some_none : (r : Refusal) → Some r ≡ None → ⊥
some_none r e = cc

pub own_told : (own bad : List ℕ) → told_at BadInitialiser None bad ≡ None → told_at BadInitialiser None own ≡ told_at BadInitialiser None (or_within own bad)
own_told own [] e = refl
own_told own (b ∷ bs) e = absurd (some_none (earlier_of (record { at = b; cause = BadInitialiser }) (first (refused BadInitialiser bs))) e)

none_some : (r : Refusal) → None ≡ Some r → ⊥
none_some r e = cc

pub inner_told : (own bad : List ℕ) (r : Refusal) → Some r ≡ told_at BadInitialiser None bad → Some r ≡ told_at BadInitialiser None (or_within own bad)
inner_told own [] r e = absurd (none_some r (sym e))
inner_told own (b ∷ bs) r e = e

pub index_told_on : (told next : Option Refusal) (i : ConstIndex) (fits : Bool) → fits ≡ index_fits i → next ≡ told_at BadInitialiser told (unless_fits fits i.at) → (rest : List ConstIndex) →
    told_at BadInitialiser next (wide_among rest) ≡ told_at BadInitialiser told (wide_among (i ∷ rest))
index_told_on told next i fits fe ne rest =
    ap (λ (o : Option Refusal). told_at BadInitialiser o (wide_among rest)) (ne ∙ ap (λ (b : Bool). told_at BadInitialiser told (unless_fits b i.at)) fe)
    ∙ (told_more BadInitialiser told (unless_fits (index_fits i) i.at) (wide_among rest) ∙ ap (told_at BadInitialiser told) (sym (index_adds i rest)))
