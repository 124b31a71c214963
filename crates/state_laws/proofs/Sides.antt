-- Tests and choices of ways fit.
use Rattle.std.proofs.Common.{◌≡◌, ℕ, Bool, true, false, ◌+◌, ◌==◌, List, [], ◌∷◌, ◌++◌, length, Some, None, refl, ◌∙◌}
use Rattle.std.specs.Prelude.{cond, nat_lt}
use Rattle.terms.specs.Tree.{Tree}
use Rattle.terms.specs.Value.{is_met_by}
use Rattle.term_store.specs.Condition.{answer, negation}
use Rattle.term_store.specs.declared.conditions.Added.{Added}
use Rattle.term_store.specs.declared.conditions.Added.TheVariants.{Held, Appended, Contradicted}
use Rattle.leaves.specs.declared.options.Cause.TheVariants.{Solver, Shares}
use Rattle.leaves.specs.Fitting.{IsTermOf, AreTermsOf}
use Rattle.sym_states.specs.Sides.{Offspring, Lives, Spends, by_verdict, candidate, offspring_of, offsprings, held_side, Offer, Alone, Several, alone, offer, share_of, child_of, children_of, forks, stays, Good, Bad, tested, test, taken, choose_way}
use Rattle.sym_states.specs.States.{State, Context, Forks, opens}
use Rattle.sym_states.specs.Verdicts.{Verdict, Sat, Unsat, Spent}
use Rattle.sym_states.proofs.Widths.{negation-fits, terms-append}
use Rattle.state_laws.specs.Kept.{IsFitting, StateFitsAt, ChildFits, ChildrenFit, StepFits, OffspringFits, OffspringsFit, OfferFits, TestedFits}
use Rattle.state_laws.proofs.States.{parts_of, conditioned-fits, opens-fits, spent-fits}

-- ---- what a side gives

pub by_verdict-fits : (n : ℕ) (v : Verdict) (side : ℕ) (condition : List Tree) → AreTermsOf n 1 condition → ((input : List ℕ) → v ≡ Sat input → length input ≡ n) → OffspringsFit n (by_verdict v side condition)
by_verdict-fits n (Sat input) side condition h size = ((h, size input refl), tt)
by_verdict-fits n Unsat side condition h size = tt
by_verdict-fits n Spent side condition h size = (h, tt)

-- a verdict over inputs that are as long as the kept one
verdict-size : (n : ℕ) (c : Context) (s : State) (condition : List Tree) (input : List ℕ) → IsFitting c → StateFitsAt n s → c.verdict condition (length s.kept) ≡ Sat input → length input ≡ n
verdict-size n c s condition input fitting h is = fitting.sizes condition (length s.kept) input h.fits.size is ∙ h.size

pub candidate-fits : (c : Context) (n : ℕ) (s : State) (t : Tree) (side : ℕ) (condition : List Tree) → IsFitting c → StateFitsAt n s → AreTermsOf n 1 condition → OffspringsFit n (candidate c s.kept t side condition)
candidate-fits c n s t side condition fitting h k =
    elim (is_met_by s.kept t) as (λ b. OffspringsFit n (elim b [ true ↦ Lives side condition s.kept ∷ [] | false ↦ by_verdict (c.verdict condition (length s.kept)) side condition ])) [
      | true ↦ ((k, h.size), tt)
      | false ↦ by_verdict-fits n (c.verdict condition (length s.kept)) side condition k (λ input is. verdict-size n c s condition input fitting h is)
    ]

pub offspring_of-fits : (c : Context) (n : ℕ) (a : Added) (s : State) (t : Tree) (side : ℕ) → IsFitting c → StateFitsAt n s → IsTermOf n 1 t → OffspringsFit n (offspring_of c a s t side)
offspring_of-fits c n Appended s t side fitting h k = candidate-fits c n s t side (s.condition ++ t ∷ []) fitting h (terms-append n 1 s.condition (t ∷ []) (parts_of n s h).condition (k, tt))
offspring_of-fits c n Held s t side fitting h k = (((parts_of n s h).condition, h.size), tt)
offspring_of-fits c n Contradicted s t side fitting h k = tt

pub offsprings-append : (n : ℕ) (os ps : List Offspring) → OffspringsFit n os → OffspringsFit n ps → OffspringsFit n (os ++ ps)
offsprings-append n [] ps h k = k
offsprings-append n (o ∷ os) ps h k = (h.0, offsprings-append n os ps h.1 k)

pub offsprings-fits : (c : Context) (n : ℕ) (s : State) (side : ℕ) (ts : List Tree) → IsFitting c → StateFitsAt n s → AreTermsOf n 1 ts → OffspringsFit n (offsprings c s side ts)
offsprings-fits c n s side [] fitting h k = tt
offsprings-fits c n s side (t ∷ ts) fitting h k =
    offsprings-append n (offspring_of c (answer s.condition t) s t side) (offsprings c s (side + 1) ts)
    (offspring_of-fits c n (answer s.condition t) s t side fitting h k.0) (offsprings-fits c n s (side + 1) ts fitting h k.1)

-- ---- offers

pub alone-fits : (n : ℕ) (os : List Offspring) (s : State) → StateFitsAt n s → OffspringsFit n os → OfferFits n (alone os s)
alone-fits n [] s h k = tt
alone-fits n (Lives side condition kept ∷ []) s h k = conditioned-fits n condition kept s.shares s k.0.0 k.0.1 h
alone-fits n (Lives side condition kept ∷ o ∷ os) s h k = k
alone-fits n (Spends condition ∷ os) s h k = k

pub offer-fits : (c : Context) (n : ℕ) (sides : List Tree) (s : State) → IsFitting c → AreTermsOf n 1 sides → StateFitsAt n s → OfferFits n (offer c sides s)
offer-fits c n sides s fitting k h =
    elim (held_side s.condition 0 sides) as (λ o. OfferFits n (elim o [ Some side ↦ Alone side s | None ↦ alone (offsprings c s 0 sides) s ]))
    [ Some side ↦ h | None ↦ alone-fits n (offsprings c s 0 sides) s h (offsprings-fits c n s 0 sides fitting h k) ]

-- ---- children

-- what takes a side keeps what holds of states
abbrev pub TakesFit : ℕ → (ℕ → State → State) → Type 0
TakesFit n take = (side : ℕ) (t : State) → StateFitsAt n t → StateFitsAt n (take side t)

pub child_of-fits : (n : ℕ) (take : ℕ → State → State) (s : State) (shares : ℕ) (o : Offspring) → TakesFit n take → StateFitsAt n s → OffspringFits n o → ChildFits n (child_of take s shares o)
child_of-fits n take s shares (Lives side condition kept) takes h k = takes side (record s { condition = condition; kept = kept; shares = shares }) (conditioned-fits n condition kept shares s k.0 k.1 h)
child_of-fits n take s shares (Spends condition) takes h k = spent-fits n Solver condition s k h

pub children_of-fits : (n : ℕ) (take : ℕ → State → State) (s : State) (k j : ℕ) (os : List Offspring) → TakesFit n take → StateFitsAt n s → OffspringsFit n os → ChildrenFit n (children_of take s k j os)
children_of-fits n take s k j [] takes h g = tt
children_of-fits n take s k j (o ∷ os) takes h g = (child_of-fits n take s (share_of s.shares k j) o takes h g.0, children_of-fits n take s k (j + 1) os takes h g.1)

pub forks-fits : (n : ℕ) (take : ℕ → State → State) (s : State) (os : List Offspring) → TakesFit n take → StateFitsAt n s → OffspringsFit n os → StepFits n (forks take s os)
forks-fits n take s os takes h k =
    elim (nat_lt s.shares (length os)) as (λ b. StepFits n (elim b [ true ↦ opens Shares s | false ↦ Forks (children_of take s (length os) 0 os) ]))
    [ true ↦ opens-fits n Shares s h | false ↦ children_of-fits n take s (length os) 0 os takes h k ]

-- ---- tests and ways

pub stays-fits : (n : ℕ) → TakesFit n stays
stays-fits n side s h = h

tested-if : (n : ℕ) (b : Bool) (t : State) → StateFitsAt n t → TestedFits n (cond b (Good t) (Bad t))
tested-if n true t h = h
tested-if n false t h = h

pub tested-fits : (n : ℕ) (s : State) (o : Offer) → StateFitsAt n s → OfferFits n o → TestedFits n (tested s o)
tested-fits n s (Alone side t) h k = tested-if n (side == 0) t k
tested-fits n s (Several os) h k = forks-fits n stays s os (stays-fits n) h k

pub test-fits : (c : Context) (n : ℕ) (t : Tree) (s : State) → IsFitting c → IsTermOf n 1 t → StateFitsAt n s → TestedFits n (test c t s)
test-fits c n t s fitting k h = tested-fits n s (offer c (t ∷ negation t ∷ []) s) h (offer-fits c n (t ∷ negation t ∷ []) s fitting (k, (negation-fits n t k, tt)) h)

pub taken-fits : (n : ℕ) (take : ℕ → State → State) (s : State) (o : Offer) → TakesFit n take → StateFitsAt n s → OfferFits n o → StepFits n (taken take s o)
taken-fits n take s (Alone side t) takes h k = takes side t k
taken-fits n take s (Several os) takes h k = forks-fits n take s os takes h k

pub choose_way-fits : (c : Context) (n : ℕ) (sides : List Tree) (s : State) (take : ℕ → State → State) → IsFitting c → AreTermsOf n 1 sides → TakesFit n take → StateFitsAt n s → StepFits n (choose_way c sides s take)
choose_way-fits c n sides s take fitting k takes h = taken-fits n take s (offer c sides s) takes h (offer-fits c n sides s fitting k h)
