-- Laws of what is reached.
use Rattle.control_closure.specs.SumLaws.{has-below}
use Rattle.std.specs.Prelude.{slice_index_or}
use Rattle.std.proofs.Common.{◌≡◌, ◌<◌, ◌≤◌, ◌-◌, ◌+◌, ◌∙◌, ℕ, Bool, true, false, List, length, refl, sym, ap, subst, arith, ⊎_elim}
use Rattle.std.specs.List.{Contains}
use Rattle.std.proofs.lemmas.List.{get_or_past, get_or_default}
use Rattle.std.proofs.lemmas.Bool.{cases_lt}
use Rattle.least.specs.Sets.{has, Within}
use Rattle.slicer.specs.declared.reaching.Arrow.{Arrow}
use Rattle.slicer.specs.Reached.{Reached, begins, follows, AreWithin, arrow_at, FollowsAt, FiresAt}

pub Fires-more : (arrows : List Arrow) (given : List Bool) (rule : ℕ) (S T U V : ℕ → Bool) →
    FiresAt arrows given rule T U → Within S T → Within U V → FiresAt arrows given rule S V
Fires-more arrows given rule S T U V f s u = record {
  begins = λ lt h. u rule (f.begins lt h);
  follows = λ le h. u (arrow_at arrows (rule - length given)).to (f.follows le (s (arrow_at arrows (rule - length given)).from h));
}

-- each arrow has its rule
arrow_there : (arrows : List Arrow) (a : Arrow) (k : ℕ) → k < length arrows → slice_index_or arrows k a ≡ a → arrow_at arrows (length arrows - 1 - k) ≡ a
arrow_there arrows a k lt e =
    let back : length arrows - 1 - (length arrows - 1 - k) ≡ k = omega arith in
    subst (λ (j : ℕ). slice_index_or arrows j (record { from = 0; to = 0 }) ≡ a) (sym back)
    (get_or_default arrows k (record { from = 0; to = 0 }) a lt ∙ e)

pub Reached-least : (arrows : List Arrow) (given : List Bool) (S : ℕ → Bool) →
    ((rule : ℕ) → rule < length given + length arrows → FiresAt arrows given rule S S) → (k : ℕ) → Reached arrows (has given) k → S k ≡ true
Reached-least arrows given S fires k (begins _ h) = let lt = has-below given k h in (fires k (omega arith)).begins lt h
Reached-least arrows given S fires _ (follows a there r) =
    let i : ℕ = length arrows - 1 - there.0 in
    let is : arrow_at arrows i ≡ a = arrow_there arrows a there.0 there.1 there.2 in
    let rule : ℕ = length given + i in
    let same : rule - length given ≡ i = omega arith in
    let F : ℕ → Type 0 = λ j. FollowsAt arrows j S S in
    let fired : FollowsAt arrows i S S = subst F same ((fires rule (omega (arith, there.1))).follows (omega arith)) in
    let G : Arrow → Type 0 = λ b. S b.from ≡ true → S b.to ≡ true in
    subst G is fired (Reached-least arrows given S fires a.from r)
