-- What the parts of an attempt give goes along with the run: faults, tests, choices of ways, and the node's end.
use Rattle.std.proofs.Common.{◌≡◌, ℕ, zero, suc, Bool, true, false, ◌==◌, ◌+◌, ◌-◌, List, [], ◌∷◌, ◌++◌, map, length, slice_set, Option, Some, None, unwrap_or, refl, sym, ◌∙◌, ap, subst, arith, append-nil}
use Rattle.std.specs.Prelude.{cond, slice_get, nat_lt}
use Rattle.std.specs.List.{AllByRecursion as Each}
use Rattle.std.proofs.lemmas.Bool.{eqb-true, eq-eqb}
use Rattle.std.proofs.lemmas.List.{nil_from_length}
use Rattle.terms.specs.Tree.{Tree}
use Rattle.terms.specs.Value.{value_of, is_met_by, are_met_by, is_yes}
use Rattle.terms.specs.declared.term.Unary.TheVariants.{Not}
use Rattle.terms.proofs.Folds.{both, value-folded_one}
use Rattle.term_store.specs.Condition.{answer, negation}
use Rattle.term_store.specs.declared.conditions.Added.{Added}
use Rattle.term_store.specs.declared.conditions.Added.TheVariants.{Held, Appended, Contradicted}
use Rattle.flat_ir.specs.declared.names.NodeId.{NodeId}
use Rattle.flat_ir.specs.declared.names.RegId.{RegId}
use Rattle.flat_ir.specs.declared.nodes.Node.{Node}
use Rattle.flat_ir.specs.declared.nodes.Operand.{Operand}
use Rattle.flat_ir.specs.declared.nodes.Operand.TheVariants as operand
use Rattle.flat_ir.specs.declared.residual.Residual.{Residual}
use Rattle.flat_ir.specs.declared.values.ConcreteValue.{ConcreteValue}
use Rattle.flat_ir.specs.declared.values.ConcreteValue.TheVariants as concrete
use Rattle.flat_ir.specs.declared.values.FaultKind.{FaultKind}
use Rattle.flat_ir.specs.History.{History}
use Rattle.flat_ir.specs.History as history
use Rattle.flat_ir.specs.Registers.{null}
use Rattle.flat_ir.specs.Machine as machine
use Rattle.flat_ir.specs.Machine.{Event, Branched, Loaded, Entered, Returned, Exited, Faulted, state_of, node_at}
use Rattle.flat_ir.specs.Run.{step, run, goes_on, run-suc, step-attempt}
use Rattle.flat_ir.specs.Skipped.{outside, results, depth_after}
use Rattle.flat_ir.specs.Sound.{IsInput, EndsWith, Follows, BeginsWith}
use Rattle.flat_ir.specs.Steps as steps
use Rattle.flat_ir.specs.Steps.{with_frame}
use Rattle.flat_ir.specs.Whole.{successors_of}
use Rattle.sym_bytes.specs.Under.{bits_under, value_under}
use Rattle.sym_bytes.specs.Value.{SymValue}
use Rattle.log_laws.specs.Logs.{output}
use Rattle.flat_ir.specs.declared.names.Location.TheVariants as location
use Rattle.log_laws.specs.Needs.{location_of}
use Rattle.log_laws.specs.Standing.{StandsFor}
use Rattle.log_laws.proofs.Fills.{output_law}
use Rattle.log_laws.proofs.Tested.{held_value}
use Rattle.leaves.specs.Claims.{event_under}
use Rattle.leaves.specs.declared.options.Cause.{Cause}
use Rattle.leaves.specs.declared.options.Cause.TheVariants.{Shares}
use Rattle.leaves.specs.Events as leaf
use Rattle.leaves.specs.Fitting.{IsTermOf}
use Rattle.sym_bytes.specs.Answers as want
use Rattle.sym_states.specs.declared.frames.Place.TheVariants.{At}
use Rattle.sym_states.specs.declared.frames.Target.{Target}
use Rattle.sym_states.specs.Attempts.{knows, firm, faulted, fails_in, fails, passed, must}
use Rattle.sym_states.specs.Sides.{Offspring, Lives, Spends, by_verdict, offspring_of, offsprings, held_if, held_side, Offer, Alone, Several, alone, offer, share_of, children_of, forks, stays, Tested, Good, Bad, Answered, tested, test, taken, choose_way}
use Rattle.sym_states.specs.Splitting.{met_count, IsNeverDenied}
use Rattle.sym_states.specs.States.{Frame, State, Context, Step, Goes, Forks, Ends, Flow, On, Over, then_flow, then_step, told, opens, here, node_of, first_node, place_after, in_frame, counted, set_if, moved, gives, unless_needed}
use Rattle.sym_states.specs.Terms.{resolved, set_or_null, raw_in, value_in}
use Rattle.sym_states.specs.Verdicts.{Verdict, Sat, Unsat, Spent}
use Rattle.sym_states.proofs.Splits.{tests_split}
use Rattle.sym_states.proofs.Widths.{negation-fits}
use Rattle.state_laws.specs.Kept.{StateFitsAt, OfferFits}
use Rattle.state_laws.proofs.FirmValues.{pending-none}
use Rattle.state_laws.proofs.FirmLogs.{need-none}
use Rattle.state_laws.proofs.States.{parts_of}
use Rattle.state_laws.proofs.Sides.{offer-fits}
use Rattle.agreement.specs.Agreement.{RegsAgree, FrameAgrees, FramesAgree, IsRecovered, Agrees, StandsAt, ChildGoesAlong, StepGoesAlong}
use Rattle.agreement.specs.Premises.{IsPlain, HasDistinctCases, HasValue, IsPlainState, none_gave}

-- ---- the forms that all parts share

-- a program without skips, and an input that no verdict denies
pub record Scene : Type 0 where
  pub c : Context
  pub input : List ℕ
  pub plain : IsPlain c
  pub cases : HasDistinctCases c.program
  pub right : IsNeverDenied c input
  pub bytes : IsInput (length input) input

-- the state agrees with a moment of the run, after so many steps, and the input meets its condition
pub record IsHere (e : Scene) (k : ℕ) (m : machine.State) (s : State) : Type 0 where
  pub runs : run e.c.program e.input k ≡ machine.On m
  pub agrees : Agrees [] e.input none_gave s m
  pub met : are_met_by e.input s.condition ≡ true
  pub state : IsPlainState e.c (length e.input) s

abbrev pub AnswerGoesAlong : Scene → Step → Type 0
AnswerGoesAlong e step = StepGoesAlong e.c.program [] e.input none_gave step

-- a part goes on with what has the property, or its answer goes along
abbrev pub FlowGoesAlong : {A : Type 0} → Scene → (A → Type 0) → Flow A → Type 0
FlowGoesAlong e P (On x) = P x
FlowGoesAlong e P (Over step) = AnswerGoesAlong e step

-- a state behind a test that holds
pub record IsPast (e : Scene) (k : ℕ) (m : machine.State) (s : State) (t : Tree) (u : State) : Type 0 where
  pub here : IsHere e k m u
  pub met : is_met_by e.input t ≡ true
  pub same : u ≡ record s { condition = u.condition; kept = u.kept }

-- the run has this fault at the moment
abbrev pub HasFault : Scene → machine.State → FaultKind → Type 0
HasFault e m kind = step e.c.program e.input m ≡ machine.Over (Faulted kind m.frame.func m.frame.node) (with_frame (machine.counted m.frame) m)

-- behind a test the input meets the side that is taken
abbrev pub TestGoesAlong : Scene → ℕ → machine.State → State → Tree → Tested → Type 0
TestGoesAlong e k m s t (Good u) = IsPast e k m s t u
TestGoesAlong e k m s t (Bad u) = IsPast e k m s (negation t) u
TestGoesAlong e k m s t (Answered step) = AnswerGoesAlong e step

-- the input meets the conjunct of a side
abbrev pub MeetsAt : List ℕ → List Tree → ℕ → Type 0
MeetsAt i [] j = ⊥
MeetsAt i (t ∷ ts) zero = is_met_by i t ≡ true
MeetsAt i (t ∷ ts) (suc j) = MeetsAt i ts j

-- the operand is no register, or one that has a value
abbrev pub IsGiven : State → Operand → Type 0
IsGiven s (operand.Reg r) = HasValue s.frame.regs r.0
IsGiven s _ = Unit {0}

-- what a register is set to, if one is named
abbrev pub SetsTo : List ℕ → Option RegId → Option SymValue → ConcreteValue → Type 0
SetsTo input None v w = Unit {0}
SetsTo input (Some r) None w = ⊥
SetsTo input (Some r) (Some v) w = w ≡ value_under input [] v

-- ---- nothing is skipped

pub results-none : (events : List Event) → results [] events ≡ []
results-none [] = refl
results-none (Branched f n side ∷ t) = results-none t
results-none (Loaded f n v ∷ t) = results-none t
results-none (Entered f n g ∷ t) = results-none t
results-none (Returned v ∷ t) = results-none t

depth-none : (events : List Event) → depth_after [] 0 events ≡ 0
depth-none [] = refl
depth-none (Branched f n side ∷ t) = depth-none t
depth-none (Loaded f n v ∷ t) = depth-none t
depth-none (Entered f n g ∷ t) = depth-none t
depth-none (Returned v ∷ t) = depth-none t

-- agreement where no call was skipped
pub record Alike (input : List ℕ) (s : State) (m : machine.State) : Type 0 where
  pub frame : FrameAgrees input [] s.frame m.frame
  pub callers : FramesAgree input [] s.callers m.callers
  pub log : StandsFor s.memory.log m.history input [] none_gave
  pub path : outside [] m.events ≡ map (event_under input []) s.path
  pub shots : s.snapshots ≡ []

pub alike : (input : List ℕ) (s : State) (m : machine.State) → Agrees [] input none_gave s m → Alike input s m
alike input s m h =
    let none = results-none m.events in
    record {
      frame = subst (λ r. FrameAgrees input r s.frame m.frame) none h.frame;
      callers = subst (λ r. FramesAgree input r s.callers m.callers) none h.callers;
      log = subst (λ r. StandsFor s.memory.log m.history input r none_gave) none h.log;
      path = subst (λ r. outside [] m.events ≡ map (event_under input r) s.path) none h.path;
      shots = nil_from_length s.snapshots (h.each_call ∙ ap length none);
    }

pub agreed : (input : List ℕ) (s : State) (m : machine.State) → Alike input s m → Agrees [] input none_gave s m
agreed input s m h =
    let none = sym (results-none m.events) in
    record {
      frame = subst (λ r. FrameAgrees input r s.frame m.frame) none h.frame;
      callers = subst (λ r. FramesAgree input r s.callers m.callers) none h.callers;
      outside_calls = depth-none m.events;
      log = subst (λ r. StandsFor s.memory.log m.history input r none_gave) none h.log;
      path = subst (λ r. outside [] m.events ≡ map (event_under input r) s.path) none h.path;
      each_call = ap length h.shots ∙ ap length none;
      recovered = subst (λ shots. Each (IsRecovered input (results [] m.events)) shots) (sym h.shots) tt;
    }

-- ---- nothing is needed

pub knows-along : (e : Scene) (k : ℕ) (m : machine.State) (s : State) (w : want.Want) → IsHere e k m s → knows w s ≡ On s
knows-along e k m s w h = ap (λ calls. unless_needed (location_of w) calls s) (need-none w s.memory.log h.state.no_calls.log)

pub firm-along : (e : Scene) (k : ℕ) (m : machine.State) (s : State) (operands : List Operand) → IsHere e k m s → firm operands s ≡ On s
firm-along e k m s operands h = ap (λ calls. unless_needed location.Result calls s) (pending-none s operands h.state.no_calls)

-- ---- flows

pub then-flow-along : {A B : Type 0} (e : Scene) (P : A → Type 0) (Q : B → Type 0) (flow : Flow A) (next : A → Flow B) → FlowGoesAlong e P flow → ((x : A) → P x → FlowGoesAlong e Q (next x)) → FlowGoesAlong e Q (then_flow flow next)
then-flow-along e P Q (On x) next h more = more x h
then-flow-along e P Q (Over step) next h more = h

pub flow-weaker : {A : Type 0} (e : Scene) (P Q : A → Type 0) (flow : Flow A) → ((x : A) → P x → Q x) → FlowGoesAlong e P flow → FlowGoesAlong e Q flow
flow-weaker e P Q (On x) weaker h = weaker x h
flow-weaker e P Q (Over step) weaker h = h

pub then-step-along : {A : Type 0} (e : Scene) (P : A → Type 0) (flow : Flow A) (next : A → Step) → FlowGoesAlong e P flow → ((x : A) → P x → AnswerGoesAlong e (next x)) → AnswerGoesAlong e (then_step flow next)
then-step-along e P (On x) next h more = more x h
then-step-along e P (Over step) next h more = h

-- where the operands are known first
pub firm-first : (e : Scene) (k : ℕ) (m : machine.State) (s : State) (operands : List Operand) (next : State → Step) → IsHere e k m s → AnswerGoesAlong e (next s) → AnswerGoesAlong e (then_step (firm operands s) next)
firm-first e k m s operands next h more = subst (λ flow. AnswerGoesAlong e (then_step flow next)) (sym (firm-along e k m s operands h)) more

-- where what is wanted is known first
pub knows-first : (e : Scene) (k : ℕ) (m : machine.State) (s : State) (w : want.Want) (next : State → Step) → IsHere e k m s → AnswerGoesAlong e (next s) → AnswerGoesAlong e (then_step (knows w s) next)
knows-first e k m s w next h more = subst (λ flow. AnswerGoesAlong e (then_step flow next)) (sym (knows-along e k m s w h)) more

-- ---- the run goes on, or is over

pub goes-along : (e : Scene) (k : ℕ) (m : machine.State) (s next : State) (there : machine.State) → IsHere e k m s → step e.c.program e.input m ≡ machine.On there → Agrees [] e.input none_gave next there → AnswerGoesAlong e (Goes next)
goes-along e k m s next there h is agrees = λ met. record {
  steps = suc k;
  moment = there;
  runs = run-suc e.c.program e.input k ∙ ap (goes_on e.c.program e.input) h.runs ∙ is;
  agrees = agrees;
}

-- the run so far is the state's path
begins-with : (e : Scene) (k : ℕ) (m : machine.State) (s : State) → IsHere e k m s → (n : ℕ) × BeginsWith e.c.program [] e.input n (λ results. map (event_under e.input results) s.path)
begins-with e k m s h = (
  k,
  (
    [],
    subst (λ t. outside [] t ≡ map (event_under e.input (results [] t)) s.path ++ []) (sym (ap (λ q. (state_of q).events) h.runs))
        (h.agrees.path ∙ sym (append-nil (map (event_under e.input (results [] m.events)) s.path))),
  ),
)

pub opens-along : (e : Scene) (k : ℕ) (m : machine.State) (s : State) (cause : Cause) → IsHere e k m s → AnswerGoesAlong e (opens cause s)
opens-along e k m s cause h = λ met. begins-with e k m s h

-- the run ends so at its next step
pub over-along : (e : Scene) (k : ℕ) (m : machine.State) (s : State) (end : machine.End) (left : machine.State) (written : List ℕ) → IsHere e k m s → step e.c.program e.input m ≡ machine.Over end left
    → history.output left.history ≡ written → outside [] left.events ≡ map (event_under e.input []) s.path
    → (n : ℕ) × EndsWith e.c.program e.input n end written × Follows e.c.program [] e.input n (λ results. map (event_under e.input results) s.path)
over-along e k m s end left written h is wrote path =
    let runs = run-suc e.c.program e.input k ∙ ap (goes_on e.c.program e.input) h.runs ∙ is in (
      suc k,
      record { left = left; over = runs; wrote = wrote },
      subst (λ t. outside [] t ≡ map (event_under e.input (results [] t)) s.path) (sym (ap (λ q. (state_of q).events) runs))
          (subst (λ r. outside [] left.events ≡ map (event_under e.input r) s.path) (sym (results-none left.events)) path),
    )

pub ends-along : (e : Scene) (k : ℕ) (m : machine.State) (s : State) (status : Tree) (written : List Tree) (left : machine.State) → IsHere e k m s
    → step e.c.program e.input m ≡ machine.Over (Exited (bits_under e.input status)) left
    → history.output left.history ≡ map (bits_under e.input) written → outside [] left.events ≡ map (event_under e.input []) s.path
    → AnswerGoesAlong e (Ends (leaf.Complete (told s) status written))
ends-along e k m s status written left h is wrote path = λ met. over-along e k m s (Exited (bits_under e.input status)) left (map (bits_under e.input) written) h is wrote path

faulted-along : (e : Scene) (k : ℕ) (m : machine.State) (s : State) (kind : FaultKind) → IsHere e k m s → HasFault e m kind → AnswerGoesAlong e (faulted kind s)
faulted-along e k m s kind h is =
    let a = alike e.input s m h.agrees in
    λ met. over-along e k m s (Faulted kind s.frame.func (here s)) (with_frame (machine.counted m.frame) m) (map (bits_under e.input) (output s.memory.log)) h
    (is ∙ (λ j. machine.Over (Faulted kind (a.frame.func j) (node_of (sym a.frame.place j))) (with_frame (machine.counted m.frame) m)))
    (sym (output_law e.input [] none_gave s.memory.log m.history a.log (need-none want.Output s.memory.log h.state.no_calls.log)))
    a.path

fails-where : (e : Scene) (k : ℕ) (m : machine.State) (s : State) (kind : FaultKind) (target : Option Target) → target ≡ None → IsHere e k m s → HasFault e m kind → AnswerGoesAlong e (fails_in target kind s)
fails-where e k m s kind None none h is = knows-first e k m s want.Output (faulted kind) h (faulted-along e k m s kind h is)
fails-where e k m s kind (Some target) none h is = absurd (some-none target none)
  where
    some-none : (target : Target) → Some target ≡ None → ⊥
    some-none target e = cc

pub fails-along : (e : Scene) (k : ℕ) (m : machine.State) (s : State) (kind : FaultKind) → IsHere e k m s → HasFault e m kind → AnswerGoesAlong e (fails kind s)
fails-along e k m s kind h is = fails-where e k m s kind s.target h.state.no_calls.target h is

-- ---- tests and choices of ways

flipped : (b : ℕ) → (1 - b == 1) ≡ true → (b == 1) ≡ false
flipped b h =
    let none : b ≡ 0 = omega (arith, eqb-true (1 - b) 1 h) in
    ap (λ n. n == 1) none

pub unmet-side : (n : ℕ) (t : Tree) (i : List ℕ) → IsTermOf n 1 t → is_met_by i (negation t) ≡ true → is_met_by i t ≡ false
unmet-side n t i h met = flipped (value_of t i).bits (sym (ap is_yes (value-folded_one Not t i (h.term.tree, h.has_width))) ∙ met)

-- ---- sides

lift_zero : (i : List ℕ) (sides : List Tree) (first : ℕ) → MeetsAt i sides (first + 0) → MeetsAt i sides first
lift_zero i sides first h = subst (MeetsAt i sides) (omega arith) h

lift_more : (i : List ℕ) (sides ts : List Tree) (t : Tree) (first : ℕ) → ((j : ℕ) → MeetsAt i (t ∷ ts) j → MeetsAt i sides (first + j)) → (j : ℕ) → MeetsAt i ts j → MeetsAt i sides (first + 1 + j)
lift_more i sides ts t first lift j h = subst (MeetsAt i sides) (let e : first + suc j ≡ first + 1 + j = omega arith in e) (lift (suc j) h)

same-lift : (i : List ℕ) (sides : List Tree) (j : ℕ) → MeetsAt i sides j → MeetsAt i sides (0 + j)
same-lift i sides j h = subst (MeetsAt i sides) (let e : j ≡ 0 + j = omega arith in e) h

met-last : (i : List ℕ) (ts : List Tree) (t : Tree) → are_met_by i (ts ++ t ∷ []) ≡ true → is_met_by i t ≡ true
met-last i [] t h = (both (is_met_by i t) true h).0
met-last i (u ∷ ts) t h = met-last i ts t (both (is_met_by i u) (are_met_by i (ts ++ t ∷ [])) h).1

-- an input that meets a child's condition meets the conjunct of its side
abbrev OffspringsMeet : List ℕ → List Tree → List Offspring → Type 0
OffspringsMeet i sides [] = Unit {0}
OffspringsMeet i sides (Lives side condition kept ∷ os) = (are_met_by i condition ≡ true → MeetsAt i sides side) × OffspringsMeet i sides os
OffspringsMeet i sides (Spends condition ∷ os) = OffspringsMeet i sides os

meet-append : (i : List ℕ) (sides : List Tree) (os ps : List Offspring) → OffspringsMeet i sides os → OffspringsMeet i sides ps → OffspringsMeet i sides (os ++ ps)
meet-append i sides [] ps h g = g
meet-append i sides (Lives side condition kept ∷ os) ps h g = (h.0, meet-append i sides os ps h.1 g)
meet-append i sides (Spends condition ∷ os) ps h g = meet-append i sides os ps h g

verdict-meets : (i : List ℕ) (sides : List Tree) (v : Verdict) (side : ℕ) (condition : List Tree) → (are_met_by i condition ≡ true → MeetsAt i sides side) → OffspringsMeet i sides (by_verdict v side condition)
verdict-meets i sides (Sat input) side condition h = (h, tt)
verdict-meets i sides Unsat side condition h = tt
verdict-meets i sides Spent side condition h = tt

offspring-meets : (c : Context) (i : List ℕ) (sides : List Tree) (a : Added) (s : State) (t : Tree) (side : ℕ) → answer s.condition t ≡ a → (is_met_by i t ≡ true → MeetsAt i sides side) → OffspringsMeet i sides (offspring_of c a s t side)
offspring-meets c i sides Appended s t side is lift =
    let here : are_met_by i (s.condition ++ t ∷ []) ≡ true → MeetsAt i sides side = λ met. lift (met-last i s.condition t met) in
    elim (is_met_by s.kept t) as (λ b. OffspringsMeet i sides (elim b [
      | true ↦ Lives side (s.condition ++ t ∷ []) s.kept ∷ []
      | false ↦ by_verdict (c.verdict (s.condition ++ t ∷ []) (length s.kept)) side (s.condition ++ t ∷ [])
    ])) [
      | true ↦ (here, tt)
      | false ↦ verdict-meets i sides (c.verdict (s.condition ++ t ∷ []) (length s.kept)) side (s.condition ++ t ∷ []) here
    ]
offspring-meets c i sides Held s t side is lift = (λ met. lift (eq-eqb _ _ (held_value s.condition t i met is)), tt)
offspring-meets c i sides Contradicted s t side is lift = tt

offsprings-meet : (c : Context) (i : List ℕ) (sides : List Tree) (s : State) (first : ℕ) (ts : List Tree) → ((j : ℕ) → MeetsAt i ts j → MeetsAt i sides (first + j)) → OffspringsMeet i sides (offsprings c s first ts)
offsprings-meet c i sides s first [] lift = tt
offsprings-meet c i sides s first (t ∷ ts) lift =
    meet-append i sides (offspring_of c (answer s.condition t) s t first) (offsprings c s (first + 1) ts)
    (offspring-meets c i sides (answer s.condition t) s t first refl (λ met. lift_zero i sides first (lift 0 met)))
    (offsprings-meet c i sides s (first + 1) ts (lift_more i sides ts t first lift))

abbrev SideMeets : List ℕ → List Tree → Option ℕ → Type 0
SideMeets i sides None = Unit {0}
SideMeets i sides (Some side) = MeetsAt i sides side

held-meets : (i : List ℕ) (sides : List Tree) (condition : List Tree) (a : Added) (t : Tree) (side : ℕ) (more : Option ℕ) → are_met_by i condition ≡ true → answer condition t ≡ a → (is_met_by i t ≡ true → MeetsAt i sides side) → SideMeets i sides more
    → SideMeets i sides (held_if a side more)
held-meets i sides condition Held t side more met is lift h = lift (eq-eqb _ _ (held_value condition t i met is))
held-meets i sides condition Appended t side more met is lift h = h
held-meets i sides condition Contradicted t side more met is lift h = h

side-meets : (i : List ℕ) (sides : List Tree) (condition : List Tree) (first : ℕ) (ts : List Tree) → are_met_by i condition ≡ true → ((j : ℕ) → MeetsAt i ts j → MeetsAt i sides (first + j)) → SideMeets i sides (held_side condition first ts)
side-meets i sides condition first [] met lift = tt
side-meets i sides condition first (t ∷ ts) met lift =
    held-meets i sides condition (answer condition t) t first (held_side condition (first + 1) ts) met refl (λ is. lift_zero i sides first (lift 0 is))
    (side-meets i sides condition (first + 1) ts met (lift_more i sides ts t first lift))

-- a side that is taken alone: an input that meets the new condition meets its conjunct, and the rest of the state stays
record IsOffered (i : List ℕ) (sides : List Tree) (s : State) (side : ℕ) (u : State) : Type 0 where
  meets : are_met_by i u.condition ≡ true → MeetsAt i sides side
  same : u ≡ record s { condition = u.condition; kept = u.kept }

abbrev OfferMeets : List ℕ → List Tree → State → Offer → Type 0
OfferMeets i sides s (Alone side u) = IsOffered i sides s side u
OfferMeets i sides s (Several os) = OffspringsMeet i sides os

alone-meets : (i : List ℕ) (sides : List Tree) (os : List Offspring) (s : State) → OffspringsMeet i sides os → OfferMeets i sides s (alone os s)
alone-meets i sides [] s h = tt
alone-meets i sides (Lives side condition kept ∷ []) s h = record { meets = h.0; same = refl }
alone-meets i sides (Lives side condition kept ∷ o ∷ os) s h = h
alone-meets i sides (Spends condition ∷ os) s h = h

settled-meets : (i : List ℕ) (sides : List Tree) (side : Option ℕ) (os : List Offspring) (s : State) → SideMeets i sides side → OffspringsMeet i sides os → OfferMeets i sides s (elim side [ Some side ↦ Alone side s | None ↦ alone os s ])
settled-meets i sides (Some side) os s h g = record { meets = λ met. h; same = refl }
settled-meets i sides None os s h g = alone-meets i sides os s g

offer-meets : (c : Context) (i : List ℕ) (sides : List Tree) (s : State) → are_met_by i s.condition ≡ true → OfferMeets i sides s (offer c sides s)
offer-meets c i sides s met = settled-meets i sides (held_side s.condition 0 sides) (offsprings c s 0 sides) s (side-meets i sides s.condition 0 sides met (same-lift i sides)) (offsprings-meet c i sides s 0 sides (same-lift i sides))

-- an input that meets one child meets the one that is alone
abbrev OfferIsMet : List ℕ → Offer → Type 0
OfferIsMet i (Alone side u) = are_met_by i u.condition ≡ true
OfferIsMet i (Several os) = Unit {0}

one-met : (b : Bool) → cond b 1 0 + 0 ≡ 1 → b ≡ true
one-met true h = refl
one-met false h = absurd (omega (arith, h))

alone-met : (i : List ℕ) (os : List Offspring) (s : State) → met_count i os ≡ 1 → OfferIsMet i (alone os s)
alone-met i [] s h = tt
alone-met i (Lives side condition kept ∷ []) s h = one-met (are_met_by i condition) h
alone-met i (Lives side condition kept ∷ o ∷ os) s h = tt
alone-met i (Spends condition ∷ os) s h = tt

offer-met : (c : Context) (i : List ℕ) (sides : List Tree) (s : State) → are_met_by i s.condition ≡ true → met_count i (offsprings c s 0 sides) ≡ 1 → OfferIsMet i (offer c sides s)
offer-met c i sides s met one =
    elim (held_side s.condition 0 sides) as (λ o. OfferIsMet i (elim o [ Some side ↦ Alone side s | None ↦ alone (offsprings c s 0 sides) s ])) [ Some side ↦ met | None ↦ alone-met i (offsprings c s 0 sides) s one ]

-- the input meets one child of a test
test-met : (e : Scene) (k : ℕ) (m : machine.State) (s : State) (t : Tree) → IsHere e k m s → IsTermOf (length e.input) 1 t → met_count e.input (offsprings e.c s 0 (t ∷ negation t ∷ [])) ≡ 1
test-met e k m s t h truth = tests_split e.c e.input s t h.state.fits.size (parts_of (length e.input) s h.state.fits).condition truth h.met e.right

-- ---- what goes on with another condition

abbrev under : List Tree → List ℕ → ℕ → State → State
under condition kept shares s = record s { condition = condition; kept = kept; shares = shares }

agrees-under : (input : List ℕ) (condition : List Tree) (kept : List ℕ) (shares : ℕ) (s : State) (m : machine.State) → Agrees [] input none_gave s m → Agrees [] input none_gave (under condition kept shares s) m
agrees-under input condition kept shares s m h = record { frame = h.frame; callers = h.callers; outside_calls = h.outside_calls; log = h.log; path = h.path; each_call = h.each_call; recovered = h.recovered }

plain-under : (c : Context) (n : ℕ) (condition : List Tree) (kept : List ℕ) (s : State) → StateFitsAt n (under condition kept s.shares s) → IsPlainState c n s → IsPlainState c n (under condition kept s.shares s)
plain-under c n condition kept s fits h = record {
  fits = fits;
  no_calls = record { frame = h.no_calls.frame; callers = h.no_calls.callers; log = h.no_calls.log; snapshots = h.no_calls.snapshots; path = h.no_calls.path; target = h.no_calls.target };
  set = record { frame = h.set.frame; callers = h.set.callers; calls = h.set.calls };
  globals = h.globals;
}

-- the state of a side that is taken alone is here
offered-here : (e : Scene) (k : ℕ) (m : machine.State) (s u : State) → IsHere e k m s → u ≡ record s { condition = u.condition; kept = u.kept } → are_met_by e.input u.condition ≡ true → StateFitsAt (length e.input) u → IsHere e k m u
offered-here e k m s u h same met fits =
    subst (IsHere e k m) (sym same) (record {
      runs = h.runs;
      agrees = agrees-under e.input u.condition u.kept s.shares s m h.agrees;
      met = met;
      state = plain-under e.c (length e.input) u.condition u.kept s (subst (StateFitsAt (length e.input)) same fits) h.state;
    })

-- ---- children

-- what takes a side keeps the condition and stands where the run does
record Takes (e : Scene) (s : State) (sides : List Tree) (take : ℕ → State → State) : Type 0 where
  condition : (side : ℕ) (u : State) → (take side u).condition ≡ u.condition
  stands : (side : ℕ) (condition : List Tree) (kept : List ℕ) (shares : ℕ) → MeetsAt e.input sides side → StandsAt e.c.program [] e.input none_gave (take side (under condition kept shares s))

children-along : (e : Scene) (k : ℕ) (m : machine.State) (s : State) (sides : List Tree) (take : ℕ → State → State) (count j : ℕ) (os : List Offspring) → IsHere e k m s → Takes e s sides take → OffspringsMeet e.input sides os
    → Each (ChildGoesAlong e.c.program [] e.input none_gave) (children_of take s count j os)
children-along e k m s sides take count j [] h takes meets = tt
children-along e k m s sides take count j (Lives side condition kept ∷ os) h takes meets = (
  λ met. takes.stands side condition kept (share_of s.shares count j) (meets.0 (ap (are_met_by e.input) (sym (takes.condition side (under condition kept (share_of s.shares count j) s))) ∙ met)),
  children-along e k m s sides take count (j + 1) os h takes meets.1,
)
children-along e k m s sides take count j (Spends condition ∷ os) h takes meets = (λ met. begins-with e k m s h, children-along e k m s sides take count (j + 1) os h takes meets)

forks-along : (e : Scene) (k : ℕ) (m : machine.State) (s : State) (sides : List Tree) (take : ℕ → State → State) (os : List Offspring) → IsHere e k m s → Takes e s sides take → OffspringsMeet e.input sides os → AnswerGoesAlong e (forks take s os)
forks-along e k m s sides take os h takes meets =
    elim (nat_lt s.shares (length os)) as (λ b. AnswerGoesAlong e (elim b [ true ↦ opens Shares s | false ↦ Forks (children_of take s (length os) 0 os) ]))
    [ true ↦ opens-along e k m s Shares h | false ↦ children-along e k m s sides take (length os) 0 os h takes meets ]

stays-takes : (e : Scene) (k : ℕ) (m : machine.State) (s : State) (sides : List Tree) → IsHere e k m s → Takes e s sides stays
stays-takes e k m s sides h = record {
  condition = λ side u. refl;
  stands = λ side condition kept shares met. record { steps = k; moment = m; runs = h.runs; agrees = agrees-under e.input condition kept shares s m h.agrees };
}

-- ---- tests

tested-along : (e : Scene) (k : ℕ) (m : machine.State) (s : State) (t : Tree) (o : Offer) → IsHere e k m s → OfferMeets e.input (t ∷ negation t ∷ []) s o → OfferIsMet e.input o → OfferFits (length e.input) o
    → TestGoesAlong e k m s t (tested s o)
tested-along e k m s t (Alone zero u) h meets met fits = record { here = offered-here e k m s u h meets.same met fits; met = meets.meets met; same = meets.same }
tested-along e k m s t (Alone (suc zero) u) h meets met fits = record { here = offered-here e k m s u h meets.same met fits; met = meets.meets met; same = meets.same }
tested-along e k m s t (Alone (suc (suc j)) u) h meets met fits = absurd (meets.meets met)
tested-along e k m s t (Several os) h meets met fits = forks-along e k m s (t ∷ negation t ∷ []) stays os h (stays-takes e k m s (t ∷ negation t ∷ []) h) meets

pub test-along : (e : Scene) (k : ℕ) (m : machine.State) (s : State) (t : Tree) → IsHere e k m s → IsTermOf (length e.input) 1 t → TestGoesAlong e k m s t (test e.c t s)
test-along e k m s t h truth =
    tested-along e k m s t (offer e.c (t ∷ negation t ∷ []) s) h
    (offer-meets e.c e.input (t ∷ negation t ∷ []) s h.met)
    (offer-met e.c e.input (t ∷ negation t ∷ []) s h.met (test-met e k m s t h truth))
    (offer-fits e.c (length e.input) (t ∷ negation t ∷ []) s e.plain.fitting (truth, (negation-fits (length e.input) t truth, tt)) h.state.fits)

passed-along : (e : Scene) (k : ℕ) (m : machine.State) (s : State) (t : Tree) (kind : FaultKind) (r : Tested) → IsTermOf (length e.input) 1 t → (is_met_by e.input t ≡ false → HasFault e m kind) → TestGoesAlong e k m s t r
    → FlowGoesAlong e (IsPast e k m s t) (passed kind r)
passed-along e k m s t kind (Good u) truth bad h = h
passed-along e k m s t kind (Bad u) truth bad h = fails-along e k m u kind h.here (bad (unmet-side (length e.input) t e.input truth h.met))
passed-along e k m s t kind (Answered step) truth bad h = h

pub must-along : (e : Scene) (k : ℕ) (m : machine.State) (s : State) (t : Tree) (kind : FaultKind) → IsHere e k m s → IsTermOf (length e.input) 1 t
    → (is_met_by e.input t ≡ false → HasFault e m kind) → FlowGoesAlong e (IsPast e k m s t) (must e.c t kind s)
must-along e k m s t kind h truth bad = passed-along e k m s t kind (test e.c t s) truth bad (test-along e k m s t h truth)

taken-along : (e : Scene) (k : ℕ) (m : machine.State) (s : State) (sides : List Tree) (take : ℕ → State → State) (o : Offer) → IsHere e k m s → Takes e s sides take → OfferMeets e.input sides s o → AnswerGoesAlong e (taken take s o)
taken-along e k m s sides take (Alone side u) h takes meets = λ met.
    subst (λ v. StandsAt e.c.program [] e.input none_gave (take side v)) (sym meets.same)
    (takes.stands side u.condition u.kept s.shares (meets.meets (ap (are_met_by e.input) (sym (takes.condition side u)) ∙ met)))
taken-along e k m s sides take (Several os) h takes meets = forks-along e k m s sides take os h takes meets

-- a choice of ways: on the side that the input meets, the state stands where the run does
pub choose-along : (e : Scene) (k : ℕ) (m : machine.State) (s : State) (sides : List Tree) (take : ℕ → State → State) → IsHere e k m s
    → ((side : ℕ) (u : State) → (take side u).condition ≡ u.condition)
    → ((side : ℕ) (condition : List Tree) (kept : List ℕ) (shares : ℕ) → MeetsAt e.input sides side → StandsAt e.c.program [] e.input none_gave (take side (record s { condition = condition; kept = kept; shares = shares })))
    → AnswerGoesAlong e (choose_way e.c sides s take)
choose-along e k m s sides take h keeps goes = taken-along e k m s sides take (offer e.c sides s) h (record { condition = keeps; stands = goes }) (offer-meets e.c e.input sides s h.met)

-- ---- operands and registers

held-at : (input : List ℕ) (xs : List (Option SymValue)) (vs : List ConcreteValue) (k : ℕ) → RegsAgree input [] xs vs → HasValue xs k → unwrap_or (slice_get vs k) (concrete.Ptr null) ≡ value_under input [] (set_or_null (slice_get xs k))
held-at input [] vs k h is = absurd (none-some is.0 is.1)
  where
    none-some : (v : SymValue) → None ≡ Some (Some v) → ⊥
    none-some v e = cc
held-at input (x ∷ xs) [] k h is = absurd h
held-at input (Some x ∷ xs) (v ∷ vs) zero h is = h.0
held-at input (None ∷ xs) (v ∷ vs) zero h is = absurd (unset is.0 is.1)
  where
    unset : (v : SymValue) → Some None ≡ Some (Some v) → ⊥
    unset v e = cc
held-at input (x ∷ xs) (v ∷ vs) (suc k) h is = held-at input xs vs k h.1 is

raw-along : (input : List ℕ) (s : State) (m : machine.State) (a : Operand) → RegsAgree input [] s.frame.regs m.frame.regs → IsGiven s a → machine.value_in m.frame a ≡ value_under input [] (raw_in s.frame.regs a)
raw-along input s m (operand.Reg r) h given = held-at input s.frame.regs m.frame.regs r.0 h given
raw-along input s m (operand.Int n) h given = refl
raw-along input s m operand.Null h given = refl
raw-along input s m (operand.Global g offset) h given = refl

pub operand-along : (e : Scene) (k : ℕ) (m : machine.State) (s : State) (a : Operand) → IsHere e k m s → IsGiven s a → machine.value_in m.frame a ≡ value_under e.input [] (value_in s a)
operand-along e k m s a h given =
    let same = alike e.input s m h.agrees in
    raw-along e.input s m a same.frame.regs given ∙ sym (ap (λ shots. value_under e.input [] (resolved shots (raw_in s.frame.regs a))) same.shots)

-- counting changes no register
pub value-counted : (f : machine.Frame) (a : Operand) → machine.value_in (machine.counted f) a ≡ machine.value_in f a
value-counted f (operand.Reg r) = refl
value-counted f (operand.Int n) = refl
value-counted f operand.Null = refl
value-counted f (operand.Global g offset) = refl

pub regs-set : (input : List ℕ) (xs : List (Option SymValue)) (vs : List ConcreteValue) (k : ℕ) (x : SymValue) (v : ConcreteValue) → RegsAgree input [] xs vs → v ≡ value_under input [] x → RegsAgree input [] (slice_set xs k (Some x)) (slice_set vs k v)
regs-set input [] [] k x v h is = tt
regs-set input [] (w ∷ vs) k x v h is = absurd h
regs-set input (y ∷ xs) [] k x v h is = absurd h
regs-set input (y ∷ xs) (w ∷ vs) zero x v h is = (is, h.1)
regs-set input (y ∷ xs) (w ∷ vs) (suc k) x v h is = (h.0, regs-set input xs vs k x v h.1 is)

pub counts-done : (e : Scene) (f : Frame) (g : machine.Frame) → FrameAgrees e.input [] f g → (machine.counted g).counts ≡ (counted f).counts
counts-done e f g h = λ j. slice_set (h.counts j) (node_of (sym h.place j)).0 (unwrap_or (slice_get (h.counts j) (node_of (sym h.place j)).0) 0 + 1)

-- where the frame goes on
place-at : (e : Scene) (f : Frame) (g : machine.Frame) (x : Node) (side : ℕ) (next : NodeId) → FrameAgrees e.input [] f g → node_at e.c.program g.func g.node ≡ x → slice_get (successors_of x) side ≡ Some next
    → place_after e.c.program e.c.residual side f ≡ At next
place-at e f g x side next h code leads =
    (λ j. place_after e.c.program (e.plain.no_slice j) side f)
    ∙ ap (λ y. At (unwrap_or (slice_get (successors_of y) side) first_node)) ((λ j. node_at e.c.program (sym h.func j) (node_of (h.place j))) ∙ code)
    ∙ ap (λ o. At (unwrap_or o first_node)) leads

place-done : (e : Scene) (f : Frame) (g : machine.Frame) (x : Node) (side : ℕ) (r : Option RegId) (v : Option SymValue) (next : NodeId) → FrameAgrees e.input [] f g → node_at e.c.program g.func g.node ≡ x → slice_get (successors_of x) side ≡ Some next
    → place_after e.c.program e.c.residual side (set_if r v (counted f)) ≡ At next
place-done e f g x side r v next h code leads = same-place e.c.residual r v ∙ place-at e f g x side next h code leads
  where
    same-place : (residual : Option Residual) (r : Option RegId) (v : Option SymValue) → place_after e.c.program residual side (set_if r v (counted f)) ≡ place_after e.c.program residual side f
    same-place None None v = refl
    same-place None (Some r) None = refl
    same-place None (Some r) (Some v) = refl
    same-place (Some residual) None v = refl
    same-place (Some residual) (Some r) None = refl
    same-place (Some residual) (Some r) (Some v) = refl

-- the frame that is counted, sets a register and goes to a successor
pub frame-done : (e : Scene) (f : Frame) (g : machine.Frame) (x : Node) (side : ℕ) (r : Option RegId) (v : Option SymValue) (w : ConcreteValue) (next : NodeId)
    → FrameAgrees e.input [] f g → node_at e.c.program g.func g.node ≡ x → slice_get (successors_of x) side ≡ Some next → SetsTo e.input r v w
    → FrameAgrees e.input [] (moved e.c side (set_if r v (counted f))) (machine.at_node next (machine.set_if r w (machine.counted g)))
frame-done e f g x side None v w next h code leads sets = record { func = h.func; place = place-done e f g x side None v next h code leads; name = h.name; counts = counts-done e f g h; regs = h.regs }
frame-done e f g x side (Some r) None w next h code leads sets = absurd sets
frame-done e f g x side (Some r) (Some v) w next h code leads sets = record {
  func = h.func;
  place = place-done e f g x side (Some r) (Some v) next h code leads;
  name = h.name;
  counts = counts-done e f g h;
  regs = regs-set e.input f.regs g.regs r.0 v w h.regs sets;
}

-- The node is done at a state u that agrees with what the run made of the moment: its history and its events. (`u` is `s` with another
-- log or path.)
pub done-along : (e : Scene) (k : ℕ) (m : machine.State) (s u : State) (x : Node) (r : Option RegId) (v : Option SymValue) (w : ConcreteValue) (next : NodeId) (h : History) (events : List Event)
    → IsHere e k m s → node_at e.c.program m.frame.func m.frame.node ≡ x → slice_get (successors_of x) 0 ≡ Some next → SetsTo e.input r v w
    → Alike e.input u (record m { history = h; events = events })
    → steps.attempt e.c.program e.input x (with_frame (machine.counted m.frame) m) ≡ machine.On (record m { frame = machine.at_node next (machine.set_if r w (machine.counted m.frame)); history = h; events = events })
    → AnswerGoesAlong e (gives e.c r v u)
done-along e k m s u x r v w next h events is code leads sets same does =
    let there : machine.State = record m { frame = machine.at_node next (machine.set_if r w (machine.counted m.frame)); history = h; events = events } in
    let after : State = in_frame (moved e.c 0 (set_if r v (counted u.frame))) u in
    goes-along e k m s after there is (step-attempt e.c.program e.input m ∙ ap (λ n. steps.attempt e.c.program e.input n (with_frame (machine.counted m.frame) m)) code ∙ does)
    (agreed e.input after there (record { frame = frame-done e u.frame m.frame x 0 r v w next same.frame code leads sets; callers = same.callers; log = same.log; path = same.path; shots = same.shots }))

-- the fault that the node's attempt has
pub fault-along : (e : Scene) (m : machine.State) (x : Node) (kind : FaultKind) → node_at e.c.program m.frame.func m.frame.node ≡ x
    → steps.attempt e.c.program e.input x (with_frame (machine.counted m.frame) m) ≡ machine.Over (Faulted kind m.frame.func m.frame.node) (with_frame (machine.counted m.frame) m)
    → HasFault e m kind
fault-along e m x kind code does = step-attempt e.c.program e.input m ∙ ap (λ n. steps.attempt e.c.program e.input n (with_frame (machine.counted m.frame) m)) code ∙ does
