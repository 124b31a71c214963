-- What is given of a state, and the sides of its tests.
use Rattle.std.proofs.Common.{◌≡◌, ℕ, Bool, true, false, ◌+◌, ◌==◌, List, [], ◌∷◌, ◌++◌, length, Option, Some, None, refl, sym, ◌∙◌, ap}
use Rattle.std.specs.Prelude.{cond, nat_lt}
use Rattle.std.proofs.lemmas.List.{append_assoc}
use Rattle.terms.specs.Tree.{Tree}
use Rattle.terms.specs.Value.{is_met_by}
use Rattle.term_store.specs.Condition.{answer, negation}
use Rattle.term_store.specs.declared.conditions.Added.{Added}
use Rattle.term_store.specs.declared.conditions.Added.TheVariants.{Held, Appended, Contradicted}
use Rattle.flat_ir.specs.declared.names.FuncId.{FuncId}
use Rattle.sym_bytes.specs.Entry.{Entry}
use Rattle.sym_bytes.specs.Value.{SymValue}
use Rattle.log_laws.specs.Logs.{Log, Did, Marked}
use Rattle.leaves.specs.declared.options.Cause.{Cause}
use Rattle.leaves.specs.declared.options.Cause.TheVariants.{Shares}
use Rattle.leaves.specs.Events.{Leaf, told_of}
use Rattle.sym_states.specs.declared.frames.Target.{Target}
use Rattle.sym_states.specs.Attempts.{next_call, snapshot_of, mods_of}
use Rattle.sym_states.specs.Sides.{Offspring, Lives, Spends, by_verdict, offspring_of, offsprings, held_side, Offer, Alone, Several, alone, offer, share_of, children_of, forks, stays, Tested, Good, Bad, Answered, tested, test, taken, choose_way}
use Rattle.skip_records.specs.Snapshots.{Snapshot}
use Rattle.sym_states.specs.States.{State, Context, Child, Go, Stop, Step, Goes, Forks, Needs, Ends, Flow, On, Over, opens}
use Rattle.sym_states.specs.Verdicts.{Verdict, Sat, Unsat, Spent}
use Rattle.exploration_laws.specs.Begins.{BeginsWith}
use Rattle.exploration_laws.specs.Falls.{IsPlacedIn}
use Rattle.exploration_laws.specs.Has.{LeafHas}

pub begins-same : (first : List Tree) → BeginsWith first first
begins-same first = record { rest = []; is = sym (none-more first) }
  where
    none-more : (ts : List Tree) → ts ++ [] ≡ ts
    none-more [] = refl
    none-more (t ∷ ts) = ap (λ us. t ∷ us) (none-more ts)

pub begins-more : (first all more : List Tree) → BeginsWith first all → BeginsWith first (all ++ more)
begins-more first all more h = record { rest = h.rest ++ more; is = ap (λ ts. ts ++ more) h.is ∙ append_assoc first h.rest more }

pub begins-through : (first middle all : List Tree) → BeginsWith first middle → BeginsWith middle all → BeginsWith first all
begins-through first middle all h k = record { rest = h.rest ++ k.rest; is = k.is ∙ ap (λ ts. ts ++ k.rest) h.is ∙ append_assoc first h.rest k.rest }

-- what holds of a log and of snapshots
abbrev pub Holds : Type 1
Holds = Log → List Snapshot → Type 0

-- the giver's first conjuncts, its steps left, its recovery, the one whose places its frames may stand at, and what holds of the log
-- and the snapshots
pub record Giver : Type 1 where
  pub first : List Tree
  pub left : ℕ
  pub at : Option Target
  pub within : Option Target
  pub holds : Holds

abbrev pub IsFrom : Giver → State → Type 0
IsFrom g s = BeginsWith g.first s.condition × ((s.left ≡ g.left) × (((s.target ≡ g.at) × g.holds s.memory.log s.snapshots) × IsPlacedIn g.within s.frame.place))

abbrev pub LeafIsFrom : Giver → Leaf → Type 0
LeafIsFrom g l = BeginsWith g.first (told_of l).condition × (((told_of l).left ≡ g.left) × LeafHas l g.at)

abbrev pub ChildrenAreFrom : Giver → List Child → Type 0
ChildrenAreFrom g [] = Unit {0}
ChildrenAreFrom g (Go s ∷ cs) = IsFrom g s × ChildrenAreFrom g cs
ChildrenAreFrom g (Stop l ∷ cs) = LeafIsFrom g l × ChildrenAreFrom g cs

abbrev pub StepIsFrom : Giver → Step → Type 0
StepIsFrom g (Goes s) = IsFrom g s
StepIsFrom g (Forks cs) = ChildrenAreFrom g cs
StepIsFrom g (Needs s calls) = IsFrom g s × (calls ≡ [] → ⊥)
StepIsFrom g (Ends l) = LeafIsFrom g l

-- an entry keeps what holds, and so does a skipped call
pub record Keeps (c : Context) (holds : Holds) : Type 0 where
  pub entry : (e : Entry) (log : Log) (shots : List Snapshot) → holds log shots → holds (Did e ∷ log) shots
  pub skip : (f : FuncId) (args : List SymValue) (s : State) → holds s.memory.log s.snapshots
      → holds (Marked (next_call s) (mods_of c f) [] ∷ s.memory.log) (s.snapshots ++ snapshot_of f args s ∷ [])

-- a part goes on with a state that is given, or its answer is
abbrev pub FlowIsFrom : {A : Type 0} → Giver → (A → State) → Flow A → Type 0
FlowIsFrom g state (On x) = IsFrom g (state x)
FlowIsFrom g state (Over step) = StepIsFrom g step

abbrev pub TestedIsFrom : Giver → Tested → Type 0
TestedIsFrom g (Good s) = IsFrom g s
TestedIsFrom g (Bad s) = IsFrom g s
TestedIsFrom g (Answered step) = StepIsFrom g step

abbrev OffspringsBegin : List Tree → List Offspring → Type 0
OffspringsBegin first [] = Unit {0}
OffspringsBegin first (Lives side condition kept ∷ os) = BeginsWith first condition × OffspringsBegin first os
OffspringsBegin first (Spends condition ∷ os) = BeginsWith first condition × OffspringsBegin first os

abbrev OfferIsFrom : Giver → Offer → Type 0
OfferIsFrom g (Alone side s) = IsFrom g s
OfferIsFrom g (Several os) = OffspringsBegin g.first os

-- what takes a side is given too
abbrev pub IsTakenFrom : Giver → (ℕ → State → State) → Type 0
IsTakenFrom g take = (side : ℕ) (t : State) → IsFrom g t → IsFrom g (take side t)

pub opens-from : (g : Giver) (cause : Cause) (s : State) → IsFrom g s → StepIsFrom g (opens cause s)
opens-from g cause s h = (h.0, (h.1.0, tt))

-- ---- lists of offsprings

begin-append : (first : List Tree) (os ps : List Offspring) → OffspringsBegin first os → OffspringsBegin first ps → OffspringsBegin first (os ++ ps)
begin-append first [] ps h k = k
begin-append first (Lives side condition kept ∷ os) ps h k = (h.0, begin-append first os ps h.1 k)
begin-append first (Spends condition ∷ os) ps h k = (h.0, begin-append first os ps h.1 k)

verdict-begins : (first : List Tree) (v : Verdict) (side : ℕ) (condition : List Tree) → BeginsWith first condition → OffspringsBegin first (by_verdict v side condition)
verdict-begins first (Sat input) side condition h = (h, tt)
verdict-begins first Unsat side condition h = tt
verdict-begins first Spent side condition h = (h, tt)

begin-if : (first : List Tree) (b : Bool) (os ps : List Offspring) → OffspringsBegin first os → OffspringsBegin first ps → OffspringsBegin first (elim b [ true ↦ os | false ↦ ps ])
begin-if first true os ps h k = h
begin-if first false os ps h k = k

offspring-begins : (c : Context) (first : List Tree) (a : Added) (s : State) (t : Tree) (side : ℕ) → BeginsWith first s.condition → OffspringsBegin first (offspring_of c a s t side)
offspring-begins c first Held s t side h = (h, tt)
offspring-begins c first Appended s t side h =
    let more = begins-more first s.condition (t ∷ []) h in
    begin-if first (is_met_by s.kept t) (Lives side (s.condition ++ t ∷ []) s.kept ∷ []) (by_verdict (c.verdict (s.condition ++ t ∷ []) (length s.kept)) side (s.condition ++ t ∷ []))
    (more, tt) (verdict-begins first (c.verdict (s.condition ++ t ∷ []) (length s.kept)) side (s.condition ++ t ∷ []) more)
offspring-begins c first Contradicted s t side h = tt

offsprings-begin : (c : Context) (first : List Tree) (s : State) (side : ℕ) (ts : List Tree) → BeginsWith first s.condition → OffspringsBegin first (offsprings c s side ts)
offsprings-begin c first s side [] h = tt
offsprings-begin c first s side (t ∷ ts) h =
    begin-append first (offspring_of c (answer s.condition t) s t side) (offsprings c s (side + 1) ts)
    (offspring-begins c first (answer s.condition t) s t side h) (offsprings-begin c first s (side + 1) ts h)

-- ---- children

children-from : (g : Giver) (take : ℕ → State → State) (s : State) (k j : ℕ) (os : List Offspring) → IsTakenFrom g take → IsFrom g s → OffspringsBegin g.first os → ChildrenAreFrom g (children_of take s k j os)
children-from g take s k j [] taking h begin = tt
children-from g take s k j (Lives side condition kept ∷ os) taking h begin =
    (taking side (record s { condition = condition; kept = kept; shares = share_of s.shares k j }) (begin.0, h.1), children-from g take s k (j + 1) os taking h begin.1)
children-from g take s k j (Spends condition ∷ os) taking h begin = ((begin.0, (h.1.0, tt)), children-from g take s k (j + 1) os taking h begin.1)

forks-from : (g : Giver) (take : ℕ → State → State) (s : State) (os : List Offspring) → IsTakenFrom g take → IsFrom g s → OffspringsBegin g.first os → StepIsFrom g (forks take s os)
forks-from g take s os taking h begin =
    elim (nat_lt s.shares (length os)) as (λ b. StepIsFrom g (elim b [ true ↦ opens Shares s | false ↦ Forks (children_of take s (length os) 0 os) ]))
    [ true ↦ opens-from g Shares s h | false ↦ children-from g take s (length os) 0 os taking h begin ]

-- ---- offers

alone-from : (g : Giver) (os : List Offspring) (s : State) → IsFrom g s → OffspringsBegin g.first os → OfferIsFrom g (alone os s)
alone-from g [] s h begin = tt
alone-from g (Lives side condition kept ∷ []) s h begin = (begin.0, h.1)
alone-from g (Lives side condition kept ∷ o ∷ os) s h begin = begin
alone-from g (Spends condition ∷ os) s h begin = begin

offer-from : (c : Context) (g : Giver) (sides : List Tree) (s : State) → IsFrom g s → OfferIsFrom g (offer c sides s)
offer-from c g sides s h =
    elim (held_side s.condition 0 sides) as (λ o. OfferIsFrom g (elim o [ Some side ↦ Alone side s | None ↦ alone (offsprings c s 0 sides) s ]))
    [ Some side ↦ h | None ↦ alone-from g (offsprings c s 0 sides) s h (offsprings-begin c g.first s 0 sides h.0) ]

tested-if : (g : Giver) (b : Bool) (t : State) → IsFrom g t → TestedIsFrom g (cond b (Good t) (Bad t))
tested-if g true t h = h
tested-if g false t h = h

tested-from : (g : Giver) (s : State) (o : Offer) → IsFrom g s → OfferIsFrom g o → TestedIsFrom g (tested s o)
tested-from g s (Alone side t) h k = tested-if g (side == 0) t k
tested-from g s (Several os) h k = forks-from g stays s os (λ side t from. from) h k

pub test-from : (c : Context) (g : Giver) (t : Tree) (s : State) → IsFrom g s → TestedIsFrom g (test c t s)
test-from c g t s h = tested-from g s (offer c (t ∷ negation t ∷ []) s) h (offer-from c g (t ∷ negation t ∷ []) s h)

taken-from : (g : Giver) (take : ℕ → State → State) (s : State) (o : Offer) → IsTakenFrom g take → IsFrom g s → OfferIsFrom g o → StepIsFrom g (taken take s o)
taken-from g take s (Alone side t) taking h k = taking side t k
taken-from g take s (Several os) taking h k = forks-from g take s os taking h k

pub choose_way-from : (c : Context) (g : Giver) (sides : List Tree) (s : State) (take : ℕ → State → State) → IsTakenFrom g take → IsFrom g s → StepIsFrom g (choose_way c sides s take)
choose_way-from c g sides s take taking h = taken-from g take s (offer c sides s) taking h (offer-from c g sides s h)
