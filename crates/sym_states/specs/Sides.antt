-- The sides that a branch, a switch or a test offers, and the children that they make.
use Rattle.std.specs.Prelude.{ℕ, ◌+◌, ◌/◌, ◌%◌, ◌==◌, nat_lt, true, false, List, [], ◌∷◌, ◌++◌, length, Option, Some, None, if◌then◌else◌}
use Rattle.sym_states.specs.Verdicts.{Verdict, Sat, Unsat, Spent}
use Rattle.terms.specs.Tree.{Tree}
use Rattle.terms.specs.Value.{is_met_by}
use Rattle.term_store.specs.Condition.{answer, negation}
use Rattle.term_store.specs.declared.conditions.Added.{Added}
use Rattle.term_store.specs.declared.conditions.Added.TheVariants.{Held, Appended, Contradicted}
use Rattle.leaves.specs.declared.options.Cause.TheVariants.{Solver, Shares}
use Rattle.leaves.specs.Events as leaf
use Rattle.sym_states.specs.States.{State, Context, Child, Go, Stop, Step, Goes, Forks, told_with, opens}

-- a side that lives has a condition and an input that meets it; of another one the solver's budget was spent
pub data Offspring : Type 0 where
  Lives : (side : ℕ) (condition : List Tree) (kept : List ℕ) → Offspring
  Spends : (condition : List Tree) → Offspring

abbrev pub by_verdict : Verdict → ℕ → List Tree → List Offspring
by_verdict (Sat input) side condition = Lives side condition input ∷ []
by_verdict Unsat side condition = []
by_verdict Spent side condition = Spends condition ∷ []

-- the side that the kept input meets needs no verdict
abbrev pub candidate : Context → List ℕ → Tree → ℕ → List Tree → List Offspring
candidate c kept t side condition =
    elim (is_met_by kept t) [ true ↦ Lives side condition kept ∷ [] | false ↦ by_verdict (c.verdict condition (length kept)) side condition ]

-- a conjunct that contradicts the condition drops its side
abbrev pub offspring_of : Context → Added → State → Tree → ℕ → List Offspring
offspring_of c Appended s t side = candidate c s.kept t side (s.condition ++ t ∷ [])
offspring_of c Held s t side = Lives side s.condition s.kept ∷ []
offspring_of c Contradicted s t side = []

abbrev pub offsprings : Context → State → ℕ → List Tree → List Offspring
offsprings c s side [] = []
offsprings c s side (t ∷ ts) = offspring_of c (answer s.condition t) s t side ++ offsprings c s (side + 1) ts

abbrev pub held_if : Added → ℕ → Option ℕ → Option ℕ
held_if Held side more = Some side
held_if Appended side more = more
held_if Contradicted side more = more

-- the first side whose conjunct the condition holds
abbrev pub held_side : List Tree → ℕ → List Tree → Option ℕ
held_side condition side [] = None
held_side condition side (t ∷ ts) = held_if (answer condition t) side (held_side condition (side + 1) ts)

-- one side is taken alone, or there are several
pub data Offer : Type 0 where
  Alone : (side : ℕ) → State → Offer
  Several : List Offspring → Offer

abbrev pub alone : List Offspring → State → Offer
alone (Lives side condition kept ∷ []) s = Alone side (record s { condition = condition; kept = kept })
alone os s = Several os

-- a held side is taken alone; else each side that isn't contradicted is a candidate
abbrev pub offer : Context → List Tree → State → Offer
offer c sides s = elim (held_side s.condition 0 sides) [ Some side ↦ Alone side s | None ↦ alone (offsprings c s 0 sides) s ]

-- what child j of k gets of the shares: the first ones get one more where they don't divide evenly
abbrev pub share_of : ℕ → ℕ → ℕ → ℕ
share_of shares k j = shares / k + (if nat_lt j (shares % k) then 1 else 0)

-- the child of an offspring: one that lives takes its side
abbrev pub child_of : (ℕ → State → State) → State → ℕ → Offspring → Child
child_of take s shares (Lives side condition kept) = Go (take side (record s { condition = condition; kept = kept; shares = shares }))
child_of take s shares (Spends condition) = Stop (leaf.Open (told_with None condition s) Solver)

abbrev pub children_of : (ℕ → State → State) → State → ℕ → ℕ → List Offspring → List Child
children_of take s k j [] = []
children_of take s k j (o ∷ os) = child_of take s (share_of s.shares k j) o ∷ children_of take s k (j + 1) os

-- each child needs a share
abbrev pub forks : (ℕ → State → State) → State → List Offspring → Step
forks take s os = elim (nat_lt s.shares (length os))
    [ true ↦ opens Shares s | false ↦ Forks (children_of take s (length os) 0 os) ]

-- the children of a test attempt the node again, whichever their side is
abbrev pub stays : ℕ → State → State
stays side s = s

-- a test holds, or it fails, or it makes the answer
pub data Tested : Type 0 where
  Good : State → Tested
  Bad : State → Tested
  Answered : Step → Tested

abbrev pub tested : State → Offer → Tested
tested s (Alone side t) = if side == 0 then Good t else Bad t
tested s (Several os) = Answered (forks stays s os)

-- a test: its good side first
abbrev pub test : Context → Tree → State → Tested
test c t s = tested s (offer c (t ∷ negation t ∷ []) s)

abbrev pub taken : (ℕ → State → State) → State → Offer → Step
taken take s (Alone side t) = Goes (take side t)
taken take s (Several os) = forks take s os

-- a choice of ways: each side's child takes its way
abbrev pub choose_way : Context → List Tree → State → (ℕ → State → State) → Step
choose_way c sides s take = taken take s (offer c sides s)
