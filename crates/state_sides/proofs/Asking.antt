-- What a verdict needs of a condition, and what the sides of a test are.
use Rattle.std.proofs.Common.{◌≡◌, ℕ, Some, ◌<◌, ◌≤◌, nat_lt, true, false, ap, subst, List, [], ◌∷◌, ◌++◌, length, map, refl, sym, ◌∙◌, All}
use Rattle.std.specs.List.{AllByRecursion}
use Rattle.std.proofs.lemmas.Bool.{le-ltb}
use Rattle.std.proofs.lemmas.List.{length-map}
use Rattle.std.proofs.lemmas.List.Elements.{All-from_recursion}
use Rattle.term_bits.specs.Conditions.{IsConjunct}
use Rattle.term_store.specs.Condition.{after, negation}
use Rattle.term_store.specs.declared.conditions.Added.{Added}
use Rattle.term_store.specs.declared.conditions.Added.TheVariants.{Appended}
use Rattle.terms.specs.Tree.{Tree}
use Rattle.terms.specs.Value.{ReadsBelow}
use Rattle.leaves.specs.Fitting.{IsTermOf, AreTermsOf}
use Rattle.sym_states.proofs.Widths.{negation-fits, terms-append}
use Rattle.sym_states.specs.Fitting.{HaveOneBit}
use Rattle.leaves.specs.Fitting.{ToldFitsIn}
use Rattle.leaves.specs.declared.options.Cause.TheVariants.{Shares}
use Rattle.sym_states.specs.Fitting.{StateFits}
use Rattle.sym_states.specs.Sides.{Offspring, Lives, Spends, Several, alone, forks, children_of}
use Rattle.sym_states.specs.States.{State, Child, Step, Forks, told, told_with, opens}
use Rattle.state_laws.proofs.States.{results_of-fits}
use Rattle.state_sides.specs.declared.sides.Offspring as code_offspring
use Rattle.state_sides.specs.Offers.{offspring_seen}

conjuncts : (n : ℕ) (c : List Tree) → AreTermsOf n 1 c → AllByRecursion IsConjunct c
conjuncts n [] h = tt
conjuncts n (t ∷ c) h = (record { tree = h.0.term.tree; one_bit = h.0.has_width }, conjuncts n c h.1)

pub conjuncts-all : (n : ℕ) (c : List Tree) → AreTermsOf n 1 c → All IsConjunct c
conjuncts-all n c h = All-from_recursion IsConjunct c (conjuncts n c h)

reads : (n : ℕ) (c : List Tree) → AreTermsOf n 1 c → AllByRecursion (ReadsBelow n) c
reads n [] h = tt
reads n (t ∷ c) h = (h.0.term.reads, reads n c h.1)

pub reads-all : (n : ℕ) (c : List Tree) → AreTermsOf n 1 c → All (ReadsBelow n) c
reads-all n c h = All-from_recursion (ReadsBelow n) c (reads n c h)

pub have-one-bit : (n : ℕ) (c : List Tree) → AreTermsOf n 1 c → HaveOneBit c
have-one-bit n [] h = tt
have-one-bit n (t ∷ c) h = (h.0.has_width, have-one-bit n c h.1)

-- the condition to which a conjunct was added
pub truths-after : (n : ℕ) (a : Added) (base old new : List Tree) (t : Tree) → new ≡ after a old t → a ≡ Appended → old ≡ base → AreTermsOf n 1 base → IsTermOf n 1 t → AreTermsOf n 1 new
truths-after n a base old new t is added same h truth = subst (AreTermsOf n 1) (sym (is ∙ (λ j. after (added j) (same j) t))) (terms-append n 1 base (t ∷ []) h (truth, tt))

-- the two sides of a test
pub sides-are : (n : ℕ) (t : Tree) (slice items : List Tree) → slice ≡ items → items ≡ t ∷ negation t ∷ [] → IsTermOf n 1 t → AreTermsOf n 1 slice
sides-are n t slice items same is truth = subst (AreTermsOf n 1) (sym (same ∙ is)) (truth, (negation-fits n t truth, tt))

alone-long : (o p : Offspring) (os : List Offspring) (s : State) → alone (o ∷ p ∷ os) s ≡ Several (o ∷ p ∷ os)
alone-long (Lives side condition kept) p os s = refl
alone-long (Spends condition) p os s = refl

-- where there isn't one offspring, there are several, or none
pub alone-several : {H : Type 0} (os : List (code_offspring.Offspring H)) (s : State) → (length os ≡ 1 → ⊥) → alone (map offspring_seen os) s ≡ Several (map offspring_seen os)
alone-several [] s h = refl
alone-several (o ∷ []) s h = absurd (h refl)
alone-several (o ∷ p ∷ os) s h = alone-long (offspring_seen o) (offspring_seen p) (map offspring_seen os) s

pub told-fits : (s : State) → StateFits s → ToldFitsIn (length s.kept) (told s)
told-fits s fits = record { condition = fits.condition; path = fits.path; results = results_of-fits (length s.kept) s.snapshots fits.snapshots }

pub told-fits-of : (s : State) (kept : List ℕ) (condition : List Tree) → kept ≡ s.kept → condition ≡ s.condition → StateFits s → ToldFitsIn (length kept) (told_with (Some kept) condition s)
told-fits-of s kept condition same alike fits =
    subst (λ k. ToldFitsIn (length k) (told_with (Some k) condition s)) (sym same)
    (subst (λ c. ToldFitsIn (length s.kept) (told_with (Some s.kept) c s)) (sym alike) (told-fits s fits))

pub reads-of : (n m : ℕ) (c slice : List Tree) → m ≡ n → slice ≡ c → AreTermsOf n 1 c → All (ReadsBelow m) slice
reads-of n m c slice size same h = subst (λ k. All (ReadsBelow k) slice) (sym size) (subst (All (ReadsBelow n)) (sym same) (reads-all n c h))

-- the children are a fork's, where each has a share
pub forks-are : {H : Type 0} (take : ℕ → State → State) (s : State) (os : List (code_offspring.Offspring H)) (n : ℕ) (children : List Child)
    → length os ≡ n → n ≤ s.shares → children ≡ children_of take s n 0 (map offspring_seen os)
    → Forks children ≡ forks take s (map offspring_seen os)
forks-are take s os n children is enough e =
    let count = length-map os offspring_seen ∙ is in
    ap Forks (e ∙ ap (λ m. children_of take s m 0 (map offspring_seen os)) (sym count))
    ∙ sym (ap (λ b. elim b as (λ x. Step) [ true ↦ opens Shares s | false ↦ Forks (children_of take s (length (map offspring_seen os)) 0 (map offspring_seen os)) ])
    (ap (nat_lt s.shares) count ∙ le-ltb s.shares n enough))
