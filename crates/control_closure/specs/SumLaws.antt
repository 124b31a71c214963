-- Laws of the nodes that meet a target.
use Rattle.std.proofs.Common.{◌≡◌, ◌<◌, ◌-◌, ℕ, Bool, true, false, List, length, refl, ⊎_elim, inl, inr, subst, arith}
use Rattle.std.proofs.lemmas.List.{get_or_past}
use Rattle.std.proofs.lemmas.Bool.{cases_lt}
use Rattle.least.specs.Sets.{has, Within}
use Rattle.control_closure.specs.Met.{Meets, here, beyond}
use Rattle.control_closure.specs.WalkLaws.{from_node}
use Rattle.control_closure.specs.Sums.{Holds, Fires}

pub Fires-more : (g : List (List ℕ)) (kept : ℕ → Bool) (target i : ℕ) (S T U V : ℕ → Bool) →
    Fires g kept target i T U → Within S T → Within U V → Fires g kept target i S V
Fires-more g kept target i S T U V f s u = λ h. u (length g - 1 - i) (f (⊎_elim inl (λ w. inr (w.0, (w.1.0, w.1.1, s w.1.0 w.1.2))) h))

pub has-below : (kept : List Bool) (k : ℕ) → has kept k ≡ true → k < length kept
has-below kept k h =
    ⊎_elim (λ lt. lt) (λ past. let e : has kept k ≡ false = get_or_past kept k false past in absurd (cc)) (cases_lt k (length kept))

each_node : (size : ℕ) (P : ℕ → Type 0) → ((i : ℕ) → i < size → P (size - 1 - i)) → (n : ℕ) → n < size → P n
each_node size P all n within = let e : size - 1 - (size - 1 - n) ≡ n = omega arith in subst P e (all (size - 1 - n) (omega arith))

pub Meets-least : (g : List (List ℕ)) (kept : List Bool) (target : ℕ) (S : ℕ → Bool) → length kept ≡ length g → has kept target ≡ true →
    ((i : ℕ) → i < length g → Fires g (has kept) target i S S) → (n : ℕ) → Meets g (has kept) n target → S n ≡ true
Meets-least g kept target S size there fires n met = go n met
  where
    rule : (n : ℕ) → n < length g → Holds g (has kept) target S n → S n ≡ true
    rule = each_node (length g) (λ n. Holds g (has kept) target S n → S n ≡ true) fires

    go : (n : ℕ) → Meets g (has kept) n target → S n ≡ true
    go n (here h) = rule n (omega (arith, size, has-below kept n h)) (inl refl)
    go n (beyond k open' edge met) = rule n (from_node g n k edge) (inr (open', (k, edge, go k met)))
