-- Closed sets, and closing rounds.
use Rattle.std.proofs.Common.{◌≡◌, ◌⊎◌, ℕ, Bool, true, false, List, ⊎_elim, inl, inr, subst, sym, refl}
use Rattle.std.proofs.lemmas.Bool.{cases_eq}
use Rattle.least.specs.Sets.{has, Within}
use Rattle.least.proofs.Bits.{unchanged, members}
use Rattle.control_closure.specs.Met.{Meets, here, beyond, IsClosed, IsRound, Closes, closed, round}

pub not_both : {A : Type 0} (b : Bool) → b ≡ true → b ≡ false → A
not_both b t f = absurd (cc)

-- from each node at most one node of a closed set is met first
pub meets_one : (g : List (List ℕ)) (kept : ℕ → Bool) → IsClosed g kept → (n a b : ℕ) → Meets g kept n a → Meets g kept n b → a ≡ b
meets_one g kept is_closed n a b (here h) (here h') = refl
meets_one g kept is_closed n a b (here h) (beyond k open' edge met) = not_both (kept n) h open'
meets_one g kept is_closed n a b (beyond k open' edge met) (here h) = not_both (kept n) h open'
meets_one g kept is_closed n a b (beyond k open' edge met) (beyond k' open'' edge' met') =
    ⊎_elim (λ same. meets_one g kept is_closed k' a b (subst (λ (x : ℕ). Meets g kept x a) same met) met')
    (λ apart. ⊎_elim (λ e. e) (λ differ. absurd (is_closed n open' (record {
      one = k;
      other = k';
      one_edge = edge;
      other_edge = edge';
      apart = apart;
      one_met = a;
      other_met = b;
      from_one = met;
      from_other = met';
      differ = differ;
    }))) (cases_eq a b))
    (cases_eq k k')

true_or_false : (b : Bool) → (b ≡ true) ⊎ (b ≡ false)
true_or_false true = inl refl
true_or_false false = inr refl

pub round_grows : (g : List (List ℕ)) (old new : List Bool) → IsRound g old new → Within (has old) (has new)
round_grows g old new r = λ n h. (r.nodes n).1 (inl h)

-- a round that adds nothing found the set closed
pub settled : (g : List (List ℕ)) (old new : List Bool) → IsRound g old new → members new ≡ members old → Closes g old old
settled g old new r same = closed (λ n open' parts. not_both (has old n)
    (subst (λ (s : List Bool). has s n ≡ true) (sym (unchanged old new (sym r.size) (round_grows g old new r) same)) ((r.nodes n).1 (inr parts))) open')

pub closes : (g : List (List ℕ)) (old new : List Bool) → Closes g old new → IsClosed g (has new) × Within (has old) (has new)
closes g old new (closed h) = (h, λ n there. there)
closes g old end (round new r more) = let rest = closes g new end more in (rest.0, λ n there. rest.1 n (round_grows g old new r n there))
