-- Summaries of what is met first.
use Rattle.std.specs.Prelude.{slice_index_or, ◌≢◌, ◌==◌, not}
use Rattle.std.proofs.Common.{◌≡◌, ◌<◌, ◌+◌, ◌⊎◌, ◌↔◌, ◌≤◌, ◌++◌, ◌∙◌, take, ℕ, zero, suc, Bool, true, false, List, [], ◌∷◌, length, replicate, refl, sym, ⊎_elim, inl, inr, subst, arith}
use Rattle.std.specs.List.{Contains}
use Rattle.std.proofs.lemmas.Bool.{cases_eq, cases_lt, eqb-true, eq-eqb}
use Rattle.std.proofs.Math.ListN.{get_or-append}
use Rattle.std.proofs.Math.Seq.{get_or-append_seam, take-append_seam}
use Rattle.least.specs.Sets.{has, Only}
use Rattle.control_closure.specs.declared.summing.Met.{Met}
use Rattle.control_closure.specs.declared.summing.Met.TheVariants.{Nothing, One, Several}
use Rattle.control_closure.specs.Met.{HasEdge, Meets, here, beyond, Parts}
use Rattle.control_closure.specs.WalkLaws.{meets_kept}
use Rattle.control_closure.specs.SumLaws.{has-below}
use Rattle.control_closure.specs.Tells.{Tells}
use Rattle.control_closure.specs.Sums.{Apart, SumsUp, SumUp, SumUpBelow, MeetsBelow, Holds, PartsAt, PartsIn, with_target, apart, at_node}

-- one number more
pub sums_with : (P Q : ℕ → Type 0) (met : Met) (t : ℕ) → SumsUp P met → (P t → ⊥) → ((m : ℕ) → P m → Q m) → Q t → ((m : ℕ) → Q m → P m ⊎ (m ≡ t)) → SumsUp Q (with_target met t)
sums_with P Q Nothing t s new to there back = (there, λ m q. ⊎_elim (λ p. absurd (s m p)) (λ e. e) (back m q))
sums_with P Q (One a) t s new to there back = record {
  one = a;
  other = t;
  first = to a s.0;
  second = there;
  apart = λ e. new (subst P e s.0);
}
sums_with P Q Several t s new to there back = record {
  one = s.one;
  other = s.other;
  first = to s.one s.first;
  second = to s.other s.second;
  apart = s.apart;
}

-- a summary of the same numbers
pub sums_same : (P Q : ℕ → Type 0) (met : Met) → SumsUp P met → ((m : ℕ) → P m → Q m) → ((m : ℕ) → Q m → P m) → SumsUp Q met
sums_same P Q Nothing s to back = λ m q. s m (back m q)
sums_same P Q (One a) s to back = (to a s.0, λ m q. s.1 m (back m q))
sums_same P Q Several s to back = record {
  one = s.one;
  other = s.other;
  first = to s.one s.first;
  second = to s.other s.second;
  apart = s.apart;
}

-- of two different numbers one isn't a
one_apart : (P Q : ℕ → Type 0) (a : ℕ) → P a → Apart Q Q → Apart P Q
one_apart P Q a p s =
    ⊎_elim (λ (e : a ≡ s.one). record { one = a; other = s.other; first = p; second = s.second; apart = λ (h : a ≡ s.other). s.apart (sym e ∙ h) })
    (λ (ne : a ≢ s.one). record { one = a; other = s.one; first = p; second = s.first; apart = ne }) (cases_eq a s.one)

turned : (P Q : ℕ → Type 0) → Apart P Q → Apart Q P
turned P Q d = record { one = d.other; other = d.one; first = d.second; second = d.first; apart = λ e. d.apart (sym e) }

one_one : (P Q : ℕ → Type 0) (a b : ℕ) (t : Bool) → a == b ≡ t → SumsUp P (One a) → SumsUp Q (One b) → Tells (not t) (Apart P Q)
one_one P Q a b true e s s' = λ d. d.apart (s.1 d.one d.first ∙ eqb-true a b e ∙ sym (s'.1 d.other d.second))
one_one P Q a b false e s s' = record { one = a; other = b; first = s.0; second = s'.0; apart = λ h. let same : a == b ≡ true = eq-eqb a b h in absurd (cc) }

-- what two summaries tell
pub tells_apart : (P Q : ℕ → Type 0) (one other : Met) → SumsUp P one → SumsUp Q other → Tells (apart one other) (Apart P Q)
tells_apart P Q Nothing other s s' = λ d. s d.one d.first
tells_apart P Q (One a) Nothing s s' = λ d. s' d.other d.second
tells_apart P Q (One a) (One b) s s' = one_one P Q a b (a == b) refl s s'
tells_apart P Q (One a) Several s s' = one_apart P Q a s.0 s'
tells_apart P Q Several Nothing s s' = λ d. s' d.other d.second
tells_apart P Q Several (One b) s s' = turned Q P (one_apart Q P b s'.0 s)
tells_apart P Q Several Several s s' = one_apart P Q s.one s.first s'

-- a target is counted in the summary of a node
below_next : (g : List (List ℕ)) (kept : ℕ → Bool) (t n : ℕ) (old new : Met) (b : Bool) → (b ≡ true → Meets g kept n t) → (Meets g kept n t → b ≡ true)
    → (b ≡ false → new ≡ old) → (b ≡ true → new ≡ with_target old t) → SumsUp (MeetsBelow g kept t n) old → SumsUp (MeetsBelow g kept (t + 1) n) new
below_next g kept t n old new true meets met same counted s =
    let P = MeetsBelow g kept t n in
    let Q = MeetsBelow g kept (t + 1) n in
    subst (λ (x : Met). SumsUp Q x) (sym (counted refl))
    (sums_with P Q old t s (λ p. absurd (omega (arith, p.1))) (λ m p. (p.0, omega (arith, p.1))) (meets refl, omega arith)
    (λ m q. ⊎_elim (λ (e : m ≡ t). inr e) (λ (ne : m ≢ t). inl (q.0, omega (arith, q.1, ne))) (cases_eq m t)))
below_next g kept t n old new false meets met same counted s =
    let P = MeetsBelow g kept t n in
    let Q = MeetsBelow g kept (t + 1) n in
    subst (λ (x : Met). SumsUp Q x) (sym (same refl))
    (sums_same P Q old s (λ m p. (p.0, omega (arith, p.1)))
    (λ m q. ⊎_elim (λ (e : m ≡ t). let h : false ≡ true = met (subst (λ (k : ℕ). Meets g kept n k) e q.0) in absurd (cc)) (λ (ne : m ≢ t). (q.0, omega (arith, q.1, ne))) (cases_eq m t)))

-- a retained target is counted
pub counted_below : (g : List (List ℕ)) (kept : ℕ → Bool) (t : ℕ) (old new : List Met) (set : List Bool) →
    ((n : ℕ) → has set n ≡ true → Meets g kept n t) → ((n : ℕ) → Meets g kept n t → has set n ≡ true) →
    ((n : ℕ) → has set n ≡ false → at_node new n ≡ at_node old n) → ((n : ℕ) → has set n ≡ true → at_node new n ≡ with_target (at_node old n) t) →
    SumUpBelow g kept t old → SumUpBelow g kept (t + 1) new
counted_below g kept t old new set only all others counted below =
    λ n. below_next g kept t n (at_node old n) (at_node new n) (has set n) (only n) (all n) (others n) (counted n) (below n)

-- a node that isn't retained is no target
pub skipped_below : (g : List (List ℕ)) (kept : ℕ → Bool) (t : ℕ) (mets : List Met) → kept t ≡ false → SumUpBelow g kept t mets → SumUpBelow g kept (t + 1) mets
skipped_below g kept t mets open' below =
    λ n. below_next g kept t n (at_node mets n) (at_node mets n) false (λ e. absurd (cc)) (λ met. let h : kept t ≡ true = meets_kept met in absurd (cc)) (λ e. refl) (λ e. absurd (cc)) (below n)

all_nothing : (k n : ℕ) → at_node (replicate k Nothing) n ≡ Nothing
all_nothing zero n = refl
all_nothing (suc k) zero = refl
all_nothing (suc k) (suc n) = all_nothing k n

pub none_below : (g : List (List ℕ)) (kept : ℕ → Bool) (k : ℕ) → SumUpBelow g kept 0 (replicate k Nothing)
none_below g kept k = λ n. subst (λ (x : Met). SumsUp (MeetsBelow g kept 0 n) x) (sym (all_nothing k n)) (λ m p. omega (arith, p.1))

-- all targets are counted
pub all_counted : (g : List (List ℕ)) (kept : List Bool) (mets : List Met) → length kept ≡ length g → SumUpBelow g (has kept) (length g) mets → SumUp g (has kept) mets
all_counted g kept mets size below =
    λ n. sums_same (MeetsBelow g (has kept) (length g) n) (Meets g (has kept) n) (at_node mets n) (below n) (λ m p. p.0)
    (λ m met. (met, omega (arith, size, has-below kept m (meets_kept met))))

pub tells_both : (A B : Type 0) (b : Bool) → A → Tells b B → Tells b (A × B)
tells_both A B true a t = (a, t)
tells_both A B false a t = λ p. t p.1

pub tells_true : (A : Type 0) (b : Bool) → Tells b A → b ≡ true → A
tells_true A true t e = t
tells_true A false t e = absurd (cc)

-- what the rule of a node gives
pub held_only : (g : List (List ℕ)) (kept : ℕ → Bool) (t n : ℕ) (old new : List Bool) → kept t ≡ true → Only (λ m. Meets g kept m t) (has old) →
    Holds g kept t (has old) n → ((k : ℕ) → has new k ≡ true → (has old k ≡ true) ⊎ (k ≡ n)) → Only (λ m. Meets g kept m t) (has new)
held_only g kept t n old new there only held added =
    let M : ℕ → Type 0 = λ m. Meets g kept m t in
    let met : M n = ⊎_elim (λ (e : n ≡ t). subst M (sym e) (here there)) (λ w. beyond w.1.0 w.0 w.1.1 (only w.1.0 w.1.2)) held in
    λ k h. ⊎_elim (only k) (λ e. subst M (sym e) met) (added k h)

pub tells_false : (A : Type 0) (b : Bool) → Tells b A → b ≡ false → A → ⊥
tells_false A true t e = absurd (cc)
tells_false A false t e = t

pub tells_iff : (A B : Type 0) (b : Bool) → (A → ⊥) → Tells b B → (b ≡ true) ↔ (A ⊎ B)
tells_iff A B true not' t = (λ e. inr t, λ h. refl)
tells_iff A B false not' t = (λ e. absurd (cc), λ h. absurd (⊎_elim not' t h))

-- what the summaries of two nodes tell
pub part_tells : (g : List (List ℕ)) (kept : ℕ → Bool) (mets : List Met) (one other : ℕ) (b : Bool) → SumUp g kept mets → one ≢ other
    → b ≡ apart (at_node mets one) (at_node mets other) → Tells b (PartsAt g kept one other)
part_tells g kept mets one other b sums ne e =
    tells_both (one ≢ other) (Apart (Meets g kept one) (Meets g kept other)) b ne
    (subst (λ (t : Bool). Tells t (Apart (Meets g kept one) (Meets g kept other))) (sym e)
    (tells_apart (Meets g kept one) (Meets g kept other) (at_node mets one) (at_node mets other) (sums one) (sums other)))

-- ways that part among the successors of a node
pub parts_there : (g : List (List ℕ)) (kept : ℕ → Bool) (n one : ℕ) (row : List ℕ) → row ≡ slice_index_or g n [] → Contains row one → PartsIn g kept row one → Parts g kept n
parts_there g kept n one row is there p =
    let edge : (k : ℕ) → Contains row k → HasEdge g n k = λ k h. subst (λ (r : List ℕ). Contains r k) is h in
    record {
      one = one;
      other = p.other;
      one_edge = edge one there;
      other_edge = edge p.other p.there;
      apart = p.parts.0;
      one_met = p.parts.1.one;
      other_met = p.parts.1.other;
      from_one = p.parts.1.first;
      from_other = p.parts.1.second;
      differ = p.parts.1.apart;
    }

pub parts_among : (g : List (List ℕ)) (kept : ℕ → Bool) (n : ℕ) (row : List ℕ) → row ≡ slice_index_or g n [] → (p : Parts g kept n)
    → Contains row p.one × PartsIn g kept row p.one
parts_among g kept n row is p =
    let there : (k : ℕ) → HasEdge g n k → Contains row k = λ k h. subst (λ (r : List ℕ). Contains r k) (sym is) h in (
      there p.one p.one_edge,
      record {
        other = p.other;
        there = there p.other p.other_edge;
        parts = (p.apart, record { one = p.one_met; other = p.other_met; first = p.from_one; second = p.from_other; apart = p.differ });
      },
    )

-- a test more at the end of a list
pub pushed_test : (P : ℕ → Type 0) (xs : List Bool) (k : ℕ) (b : Bool) → length xs ≡ k → ((n : ℕ) → n < k → (has xs n ≡ true) ↔ P n) → ((b ≡ true) ↔ P k)
    → (n : ℕ) → n < k + 1 → (has (xs ++ b ∷ []) n ≡ true) ↔ P n
pushed_test P xs k b size before here' n within =
    ⊎_elim
    (λ (lt : n < k).
    let e : has (xs ++ b ∷ []) n ≡ has xs n = get_or-append xs (b ∷ []) false n (omega (arith, size)) in
    subst (λ (t : Bool). (t ≡ true) ↔ P n) (sym e) (before n lt))
    (λ (ge : k ≤ n).
    let e : length xs ≡ n = omega (arith, size) in
    let there : has (xs ++ b ∷ []) n ≡ b = subst (λ (j : ℕ). has (xs ++ b ∷ []) j ≡ b) e (get_or-append_seam xs b [] false) in
    let same : k ≡ n = omega arith in
    subst (λ (t : Bool). (t ≡ true) ↔ P n) (sym there) (subst (λ (j : ℕ). (b ≡ true) ↔ P j) same here'))
    (cases_lt n k)

pub written_back : {X : Type 0} (k : ℕ) (new rest : List X) → length new ≡ k → take k (new ++ rest) ≡ new
written_back {X} k new rest e = subst (λ (n : ℕ). take n (new ++ rest) ≡ new) e (take-append_seam new rest)
