-- A site is put into a row.
use Rattle.std.specs.Prelude.{slice_index_or}
use Rattle.std.proofs.Common.{◌≡◌, ◌<◌, ◌≤◌, ◌+◌, ◌-◌, ◌⊎◌, ◌∙◌, ℕ, zero, suc, true, false, List, [], ◌∷◌, length, refl, sym, ap, subst, ⊎_elim, inl, inr, arith}
use Rattle.std.specs.List.{Contains, insert}
use Rattle.std.proofs.lemmas.Bool.{cases_eq, cases_lt}
use Rattle.std.proofs.lemmas.List.Edits.{get_or-insert_at, get_or-insert_below, get_or-insert_above, length-insert}
use Rattle.std.proofs.lemmas.List.Elements.{Contains-append_cases, Contains-append_right, Contains-append_left, Contains-push_cases, Contains-push, Contains-get_or}
use Rattle.std.proofs.lemmas.List.Sorted.{Contains-permutation, IsPermutation-insert, IsPermutation-sym}
use Rattle.flat_ir.specs.declared.names.Site.{Site}
use Rattle.flat_ir.specs.declared.names.Site.TheVariants as site
use Rattle.points_to.specs.Points.{rank, site_at, IsAscending}
use Rattle.points_to.specs.Rows.{IsSmall, IsRow, AddsToRow, most}

-- sites of one rank are one
pub rank_apart : (a b : Site) → IsSmall a → IsSmall b → rank a ≡ rank b → a ≡ b
rank_apart (site.Global g) (site.Global h) s s' e = ap (λ n. site.Global n) e
rank_apart (site.Global g) (site.Node f n) s s' e = absurd (omega (arith, e, s, s'.0, s'.1))
rank_apart (site.Node f n) (site.Global g) s s' e = absurd (omega (arith, e, s', s.0, s.1))
rank_apart (site.Node f n) (site.Node f' n') s s' e =
    let ef : f.0 ≡ f'.0 = omega (arith, e, s.0, s.1, s'.0, s'.1) in
    let en : n.0 ≡ n'.0 = omega (arith, e, s.0, s.1, s'.0, s'.1) in
    λ i. site.Node (record { 0 = ef i }) (record { 0 = en i })

pub rank_most : (s : Site) → IsSmall s → rank s + 1 < 36893488147419103232
rank_most (site.Global g) s = omega (arith, s)
rank_most (site.Node f n) s = omega (arith, s.0, s.1)

-- an element of the list with one more
placed : {X : Type 0} (xs : List X) (at : ℕ) (y : X) (k : ℕ) (d : X) → at ≤ length xs
    → ((k < at) × (slice_index_or (insert xs at y) k d ≡ slice_index_or xs k d)) ⊎ (((k ≡ at) × (slice_index_or (insert xs at y) k d ≡ y)) ⊎ ((at < k) × (slice_index_or (insert xs at y) k d ≡ slice_index_or xs (k - 1) d)))
placed xs at y k d l =
    ⊎_elim
    (λ b. inl (b, get_or-insert_below xs at y d k b l))
    (λ a. ⊎_elim
    (λ e. inr (inl (e, ap (λ j. slice_index_or (insert xs at y) j d) e ∙ get_or-insert_at xs at y d l)))
    (λ n. let back : k ≡ k - 1 + 1 = omega arith in inr (inr (omega arith, ap (λ j. slice_index_or (insert xs at y) j d) back ∙ get_or-insert_above xs at y d (k - 1) (omega arith) l)))
    (cases_eq k at))
    (cases_lt k at)

abbrev pub Rises : {X : Type 0} → (X → ℕ) → X → List X → Type 0
Rises r d xs = (i j : ℕ) → i < j → j < length xs → r (slice_index_or xs i d) < r (slice_index_or xs j d)

-- it rises with one more between what is lower and what is higher
pub inserted_rises : {X : Type 0} (r : X → ℕ) (d : X) (xs : List X) (at : ℕ) (y : X) → at ≤ length xs → Rises r d xs
    → ((k : ℕ) → k < at → r (slice_index_or xs k d) < r y) → ((k : ℕ) → at ≤ k → k < length xs → r y < r (slice_index_or xs k d)) → Rises r d (insert xs at y)
inserted_rises r d xs at y within up below above i j lt jin =
    let long : length (insert xs at y) ≡ length xs + 1 = length-insert xs at y within in
    ⊎_elim
    (λ bi. ⊎_elim
    (λ bj. omega (arith, ap r bi.1, ap r bj.1, up i j lt (omega (arith, bj.0, within))))
    (λ r'. ⊎_elim
    (λ ej. omega (arith, ap r bi.1, ap r ej.1, below i bi.0))
    (λ aj. omega (arith, ap r bi.1, ap r aj.1, up i (j - 1) (omega (arith, bi.0, aj.0)) (omega (arith, jin, long))))
    r')
    (placed xs at y j d within))
    (λ ri. ⊎_elim
    (λ ei. ⊎_elim
    (λ bj. absurd (omega (arith, ei.0, bj.0, lt)))
    (λ r'. ⊎_elim
    (λ ej. absurd (omega (arith, ei.0, ej.0, lt)))
    (λ aj. omega (arith, ap r ei.1, ap r aj.1, above (j - 1) (omega (arith, aj.0)) (omega (arith, jin, long, aj.0))))
    r')
    (placed xs at y j d within))
    (λ ai. ⊎_elim
    (λ bj. absurd (omega (arith, ai.0, bj.0, lt)))
    (λ r'. ⊎_elim
    (λ ej. absurd (omega (arith, ai.0, ej.0, lt)))
    (λ aj. omega (arith, ap r ai.1, ap r aj.1, up (i - 1) (j - 1) (omega (arith, ai.0, lt)) (omega (arith, jin, long, aj.0))))
    r')
    (placed xs at y j d within))
    ri)
    (placed xs at y i d within)

-- what stands in the list with one more
pub inserted_cases : {X : Type 0} (xs : List X) (at : ℕ) (y x : X) → Contains (insert xs at y) x → Contains xs x ⊎ (x ≡ y)
inserted_cases xs at y x h =
    ⊎_elim
    (λ one. ⊎_elim (λ no'. absurd (omega (arith, no'.1))) (λ e. inr (sym e)) (Contains-push_cases [] y x one))
    inl
    (Contains-append_cases (y ∷ []) xs x (Contains-permutation (insert xs at y) (y ∷ xs) x (IsPermutation-sym (y ∷ xs) (insert xs at y) (IsPermutation-insert xs at y)) h))

pub inserted_old : {X : Type 0} (xs : List X) (at : ℕ) (y x : X) → Contains xs x → Contains (insert xs at y) x
inserted_old xs at y x h = Contains-permutation (y ∷ xs) (insert xs at y) x (IsPermutation-insert xs at y) (Contains-append_right (y ∷ []) xs x h)

pub inserted_new : {X : Type 0} (xs : List X) (at : ℕ) (y : X) → Contains (insert xs at y) y
inserted_new xs at y = Contains-permutation (y ∷ xs) (insert xs at y) y (IsPermutation-insert xs at y) (Contains-append_left (y ∷ []) xs y (Contains-push [] y))

-- a site that isn't there is put in its place
pub put_in : (row : List Site) (at : ℕ) (s : Site) → IsRow row → IsSmall s → at ≤ length row
    → ((k : ℕ) → k < at → rank (site_at row k) < rank s) → ((k : ℕ) → at ≤ k → k < length row → rank s ≤ rank (site_at row k))
    → ((at < length row) × (site_at row at ≡ s) → ⊥) → AddsToRow row s true (insert row at s)
put_in row at s is small within below above absent =
    let strictly : (k : ℕ) → at ≤ k → k < length row → rank s < rank (site_at row k) = λ k le lt.
    ⊎_elim
    (λ (e : k ≡ at). ⊎_elim
    (λ (same : rank s ≡ rank (site_at row k)). absurd (absent (
      omega (arith, e, lt),
      subst (λ (j : ℕ). site_at row j ≡ s) e (sym (rank_apart s (site_at row k) small (is.small _ (Contains-get_or row k (site.Global 0) lt)) same)),
    )))
    (λ ne. omega (arith, above k le lt, ne))
    (cases_eq (rank s) (rank (site_at row k))))
    (λ ne. omega (arith, above at (omega arith) (omega (arith, le, lt)), is.ascending at k (omega (arith, le, ne)) lt))
    (cases_eq k at) in
    record {
      only = λ t h. inserted_cases row at s t h;
      grows = λ t h. inserted_old row at s t h;
      there = λ _. inserted_new row at s;
      fine = record {
        ascending = inserted_rises rank (site.Global 0) row at s within is.ascending below strictly;
        small = λ t h. ⊎_elim (is.small t) (λ e. subst IsSmall (sym e) small) (inserted_cases row at s t h);
      };
      places = λ t h. tt;
      same = λ e. absurd (cc);
      more = λ e. length-insert row at s within;
      bound = refl;
    }

-- a site that stands there already
pub stays : (row : List Site) (at : ℕ) (s : Site) → IsRow row → at < length row → site_at row at ≡ s → AddsToRow row s false row
stays row at s is within here = record {
  only = λ t h. inl h;
  grows = λ t h. h;
  there = λ _. subst (λ (t : Site). Contains row t) here (Contains-get_or row at (site.Global 0) within);
  fine = is;
  places = λ t h. tt;
  same = λ e. refl;
  more = λ e. absurd (cc);
  bound = refl;
}

-- a row is no longer than there are ranks
row_ranks : (row : List Site) → IsAscending row → (i : ℕ) → i < length row → i ≤ rank (site_at row i)
row_ranks row up zero within = omega arith
row_ranks row up (suc i) within = omega (arith, row_ranks row up i (omega arith), up i (suc i) (omega arith) within)

pub row_at_most : (row : List Site) → IsRow row → length row ≤ most row
row_at_most row is =
    ⊎_elim
    (λ (lt : 0 < length row).
    let last = length row - 1 in
    let within : last < length row = omega (arith, lt) in
    omega (arith, row_ranks row is.ascending last within, rank_most (site_at row last) (is.small _ (Contains-get_or row last (site.Global 0) within)), lt))
    (λ le. omega (arith, le))
    (cases_lt 0 (length row))
