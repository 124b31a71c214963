-- Tables grow by one site at a time.
use Rattle.std.specs.Prelude.{slice_index_or, slice_set}
use Rattle.std.proofs.Common.{◌≡◌, ◌<◌, ◌≤◌, ◌+◌, ◌∙◌, ℕ, zero, suc, Bool, false, List, [], ◌∷◌, length, refl, sym, ap, subst, ⊎_elim, inl, inr, arith}
use Rattle.std.specs.List.{sum_by}
use Rattle.std.proofs.lemmas.Bool.{cases_eq}
use Rattle.std.proofs.lemmas.List.{get_or-set_same, get_or-set_other, get_or_default, length-set}
use Rattle.std.proofs.lemmas.List.Sums.{sum_by-cons}
use Rattle.points_to.specs.Rows.{Adds, InList, PlaceList, EachOk}

-- a sum with another element
sum_set : {Y : Type 0} (f : Y → ℕ) (ys : List Y) (i : ℕ) (new d : Y) → i < length ys → sum_by f (slice_set ys i new) + f (slice_index_or ys i d) ≡ sum_by f ys + f new
sum_set f [] i new d within = absurd (omega arith)
sum_set f (y ∷ ys) zero new d within = omega (arith, sum_by-cons f new ys, sum_by-cons f y ys)
sum_set f (y ∷ ys) (suc i) new d within = omega (arith, sum_by-cons f y (slice_set ys i new), sum_by-cons f y ys, sum_set f ys i new d (omega arith))

same_set : {Y : Type 0} (ys : List Y) (i : ℕ) (d : Y) → slice_set ys i (slice_index_or ys i d) ≡ ys
same_set [] i d = refl
same_set (y ∷ ys) zero d = refl
same_set (y ∷ ys) (suc i) d = ap (λ zs. y ∷ zs) (same_set ys i d)

-- one of a list grows
pub lifted : {Y K : Type 0} (In Place : Y → K → Type 0) (IsOk : Y → Type 0) (size bound : Y → ℕ) (d : Y) (ys : List Y) (i : ℕ) (key : K) (added : Bool) (new : Y)
    → i < length ys → EachOk d IsOk ys → Adds In Place IsOk size bound (slice_index_or ys i d) key added new
    → Adds (InList d In) (PlaceList d Place) (EachOk d IsOk) (sum_by size) (sum_by bound) ys (i, key) added (slice_set ys i new)
lifted {Y} {K} In Place IsOk size bound d ys i key added new within fine a =
    let zs = slice_set ys i new in
    let here : slice_index_or zs i d ≡ new = get_or-set_same ys i new d within in
    let there : (j : ℕ) → (j ≡ i → ⊥) → slice_index_or zs j d ≡ slice_index_or ys j d = λ j ne. get_or-set_other ys i j new d ne in
    let long : length zs ≡ length ys = length-set ys i new in
    record {
      only = λ k h. ⊎_elim
          (λ (e : k.0 ≡ i).
          let at : In new k.1 = subst (λ (y : Y). In y k.1) here (subst (λ (j : ℕ). In (slice_index_or zs j d) k.1) e h) in
          ⊎_elim (λ old. inl (subst (λ (j : ℕ). In (slice_index_or ys j d) k.1) (sym e) old)) (λ same. inr (λ t. (e t, same t))) (a.only k.1 at))
          (λ ne. inl (subst (λ (y : Y). In y k.1) (there k.0 ne) h))
          (cases_eq k.0 i);
      grows = λ k h. ⊎_elim
          (λ (e : k.0 ≡ i).
          let at : In new k.1 = a.grows k.1 (subst (λ (j : ℕ). In (slice_index_or ys j d) k.1) e h) in
          subst (λ (j : ℕ). In (slice_index_or zs j d) k.1) (sym e) (subst (λ (y : Y). In y k.1) (sym here) at))
          (λ ne. subst (λ (y : Y). In y k.1) (sym (there k.0 ne)) h)
          (cases_eq k.0 i);
      there = λ place. subst (λ (y : Y). In y key) (sym here) (a.there place.1);
      fine = λ j. ⊎_elim
          (λ (e : j ≡ i). subst (λ (n : ℕ). IsOk (slice_index_or zs n d)) (sym e) (subst (λ (y : Y). IsOk y) (sym here) a.fine))
          (λ ne. subst (λ (y : Y). IsOk y) (sym (there j ne)) (fine j))
          (cases_eq j i);
      places = λ k h. (
        omega (arith, long, h.0),
        ⊎_elim
            (λ (e : k.0 ≡ i).
            let at : Place new k.1 = a.places k.1 (subst (λ (j : ℕ). Place (slice_index_or ys j d) k.1) e h.1) in
            subst (λ (j : ℕ). Place (slice_index_or zs j d) k.1) (sym e) (subst (λ (y : Y). Place y k.1) (sym here) at))
            (λ ne. subst (λ (y : Y). Place y k.1) (sym (there k.0 ne)) h.1)
            (cases_eq k.0 i),
      );
      same = λ e. ap (λ (y : Y). slice_set ys i y) (a.same e) ∙ same_set ys i d;
      more = λ e. omega (arith, sum_set size ys i new d within, a.more e);
      bound = omega (arith, sum_set bound ys i new d within, a.bound);
    }

-- where there is no such place, nothing comes
pub nowhere : {Y K : Type 0} (In Place : Y → K → Type 0) (IsOk : Y → Type 0) (size bound : Y → ℕ) (d : Y) (ys : List Y) (i : ℕ) (key : K)
    → length ys ≤ i → EachOk d IsOk ys → Adds (InList d In) (PlaceList d Place) (EachOk d IsOk) (sum_by size) (sum_by bound) ys (i, key) false ys
nowhere In Place IsOk size bound d ys i key past fine = record {
  only = λ k h. inl h;
  grows = λ k h. h;
  there = λ place. absurd (omega (arith, past, place.0));
  fine = fine;
  places = λ k h. h;
  same = λ e. refl;
  more = λ e. absurd (cc);
  bound = refl;
}

-- sums of what each is at most
pub sums_at_most : {Y : Type 0} (IsOk : Y → Type 0) (size bound : Y → ℕ) (d : Y) → ((y : Y) → IsOk y → size y ≤ bound y) → (ys : List Y) → EachOk d IsOk ys
    → sum_by size ys ≤ sum_by bound ys
sums_at_most IsOk size bound d each [] fine = omega arith
sums_at_most IsOk size bound d each (y ∷ ys) fine =
    omega (arith, sum_by-cons size y ys, sum_by-cons bound y ys, each y (fine 0), sums_at_most IsOk size bound d each ys (λ i. fine (suc i)))

-- the element that stands at a place, whatever the default
read_at : {Y : Type 0} (xs : List Y) (i : ℕ) (y d : Y) → i < length xs → y ≡ slice_index_or xs i y → y ≡ slice_index_or xs i d
read_at xs i y d within e = e ∙ get_or_default xs i y d within

pub fine_at : {Y : Type 0} (IsOk : Y → Type 0) (d : Y) (xs ys : List Y) (i : ℕ) (y : Y) → xs ≡ ys → i < length xs → y ≡ slice_index_or xs i y → EachOk d IsOk ys → IsOk y
fine_at {Y} IsOk d xs ys i y same within e fine =
    subst (λ (z : Y). IsOk z) (sym (read_at xs i y d within e)) (subst (λ (zs : List Y). IsOk (slice_index_or zs i d)) (sym same) (fine i))

-- one of a list grows where it stands
pub lifted_at : {Y K : Type 0} (In Place : Y → K → Type 0) (IsOk : Y → Type 0) (size limit : Y → ℕ) (d : Y) (xs ys : List Y) (i : ℕ) (key : K) (added : Bool) (old new : Y)
    → xs ≡ ys → i < length xs → old ≡ slice_index_or xs i old → EachOk d IsOk ys → Adds In Place IsOk size limit old key added new
    → Adds (InList d In) (PlaceList d Place) (EachOk d IsOk) (sum_by size) (sum_by limit) ys (i, key) added (slice_set xs i new)
lifted_at {Y} {K} In Place IsOk size limit d xs ys i key added old new same within e fine a =
    let fine' : EachOk d IsOk xs = subst (λ (zs : List Y). EachOk d IsOk zs) (sym same) fine in
    subst (λ (zs : List Y). Adds (InList d In) (PlaceList d Place) (EachOk d IsOk) (sum_by size) (sum_by limit) zs (i, key) added (slice_set xs i new)) same
    (lifted In Place IsOk size limit d xs i key added new within fine'
    (subst (λ (z : Y). Adds In Place IsOk size limit z key added new) (read_at xs i old d within e) a))
