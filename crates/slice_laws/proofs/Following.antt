-- All steps of a call and of its residual call.
use Rattle.std.specs.Prelude.{◌==◌}
use Rattle.std.proofs.Common.{◌≡◌, ◌≤◌, ◌<◌, ◌+◌, ◌∙◌, ◌&&◌, ⊎_elim, ℕ, zero, suc, Bool, true, false, List, [], ◌∷◌, ◌++◌, Option, refl, sym, ap, subst, arith}
use Rattle.std.specs.List.{filter}
use Rattle.std.proofs.lemmas.Bool.{cases_lt, eqb-true}
use Rattle.std.proofs.lemmas.List.{append_cancel_right}
use Rattle.flat_ir.specs.declared.names.CallStep.{CallStep}
use Rattle.flat_ir.specs.declared.names.FuncId.{FuncId}
use Rattle.flat_ir.specs.declared.names.Location.{Location}
use Rattle.flat_ir.specs.declared.names.Location.TheVariants as location
use Rattle.flat_ir.specs.declared.names.Site.{Site}
use Rattle.flat_ir.specs.declared.names.Site.TheVariants as site
use Rattle.flat_ir.specs.declared.program.ProgramData.{ProgramData}
use Rattle.flat_ir.specs.declared.values.ConcreteValue.{ConcreteValue}
use Rattle.flat_ir.specs.History.{History, Change}
use Rattle.flat_ir.specs.Machine.{Frame, State, entered}
use Rattle.flat_ir.specs.Whole.{IsWhole}
use Rattle.points_to.specs.Within.{IsWithin}
use Rattle.flat_ir.specs.Locations.{location_of, same_site, same_location, lies_in}
use Rattle.slices.specs.Slice.{Items, Need, IsSlice, itself}
use Rattle.slices.specs.Nexts.{Ways, AreNexts}
use Rattle.slices.proofs.Slicing.{facts, goes}
use Rattle.slice_laws.specs.ResidualRun.{whole, CallRun, Runs, Ends, Breaks, call_goes_on, call_step, call_run, called}
use Rattle.slice_laws.specs.Simulation.{Agree, Ended, IsUnbroken, IsSimulated}
use Rattle.slice_laws.specs.Moments.{StacksAgree, none as no_frames, both as both_frames, hidden as hidden_frame, HasMoment}
use Rattle.slice_laws.proofs.Lists.{filter_within}
use Rattle.slice_laws.proofs.Histories.{is_needed, grew_none, still_agree}
use Rattle.slice_laws.proofs.Frames.{twin, IsAhead, Waiting, none, both, Shows, level, hidden}
use Rattle.slice_laws.proofs.Stages.{Stage, residual, Beside, Finished, Follows}
use Rattle.slice_laws.proofs.Simulating.{step_follows}

-- ---- what the frames say

waiting_agree : (p : ProgramData) (f : FuncId) (items : Items) (g : FuncId) (rest rest' : List Frame) → Waiting p f items g rest rest' → StacksAgree p items rest rest'
waiting_agree p f items _ _ _ none = no_frames
waiting_agree p f items _ _ _ (both g frame regs' counts' rest rest' looks alike kept waiting) =
    both_frames frame (twin frame frame.node regs' counts') rest rest' (record { func = refl; name = refl; regs = alike.regs; counts = alike.counts }) (waiting_agree p f items frame.func rest rest' waiting)

shows_agree : (p : ProgramData) (f : FuncId) (items : Items) (frame frame' : Frame) (rest rest' : List Frame) → Shows p f items frame rest frame' rest' → StacksAgree p items (frame ∷ rest) (frame' ∷ rest')
shows_agree p f items _ _ _ _ (level frame rest node' regs' counts' rest' looks alike ahead waiting) =
    both_frames frame (twin frame node' regs' counts') rest rest' (record { func = refl; name = refl; regs = alike.regs; counts = alike.counts }) (waiting_agree p f items frame.func rest rest' waiting)
shows_agree p f items _ _ _ _ (hidden quiet frame frame' rest rest' looks is_quiet below shows) =
    hidden_frame quiet (frame ∷ rest) (frame' ∷ rest') is_quiet (shows_agree p f items frame frame' rest rest' shows)

-- ---- all steps

-- with room for so many steps
abbrev at_most : Stage → ℕ → Stage
at_most c k = record c { most = k }

-- a state of the residual run, after m steps, that agrees with the whole run at some moment
record Moment (c : Stage) (from : State) (m : ℕ) : Type 0 where
  state : State
  ran : residual c m ≡ Runs state
  there : HasMoment c.p c.items c.input from state

-- the residual run stands beside the whole one, and so did each of its states before
abbrev Covered : Stage → State → CallRun → Type 0
Covered c from (Runs t) = (k : ℕ) × (b : Beside (at_most c k) t) × ((m : ℕ) → m ≤ b.steps → Moment c from m)
Covered c from (Ends v t) = (k : ℕ) × (d : Finished (at_most c k) v t) × ((m : ℕ) → m < d.steps → Moment c from m)
Covered c from (Breaks e t) = Unit {0}

moment_of : (c : Stage) (k : ℕ) (from : State) (n : ℕ) (t : State) → call_run c.p c.input whole from n ≡ Runs t → (b : Beside (at_most c k) t) → Moment c from b.steps
moment_of c k from n t ran b = record {
  state = b.state;
  ran = b.ran;
  there = record {
    steps = n;
    state = t;
    ran = ran;
    agree = record {
      frames = shows_agree c.p c.f c.items t.frame b.state.frame t.callers b.state.callers b.shows;
      needed = still_agree c.p c.items c.h c.h' t.history b.state.history c.agree b.grew;
    };
  };
}

covers : (c : Stage) (from : State) (n k : ℕ) (r : CallRun) → call_run c.p c.input whole from n ≡ r → ((m : ℕ) → m ≤ k → Moment c from m) → Follows (at_most c (suc k)) r → Covered c from r
covers c from n k (Runs t) ran before b =
    (suc k, b, λ m le. ⊎_elim (λ lt. before m (omega (arith, lt))) (λ ge. let e : b.steps ≡ m = omega (arith, le, ge, b.few) in subst (λ (i : ℕ). Moment c from i) e (moment_of c (suc k) from n t ran b)) (cases_lt m (suc k)))
covers c from n k (Ends v t) ran before d = (suc k, d, λ m lt. before m (omega (arith, lt, d.few)))
covers c from n k (Breaks e t) ran before b = tt

covered_step : (c : Stage) (from : State) (n : ℕ) (r : CallRun) → call_run c.p c.input whole from n ≡ r → Covered c from r → Covered c from (call_goes_on c.p c.input whole r)
covered_step c from n (Runs s) ran f =
    let b = f.1 in
    let b2 : Beside (at_most c (suc b.steps)) s = record { steps = b.steps; few = omega arith; state = b.state; ran = b.ran; shows = b.shows; grew = b.grew; within = b.within } in
    covers c from (suc n) b.steps (call_step c.p c.input whole s) (ap (call_goes_on c.p c.input whole) ran) f.2 (step_follows (at_most c (suc b.steps)) s b2 (omega arith))
covered_step c from n (Ends v t) ran f = f
covered_step c from n (Breaks e t) ran f = tt

covered : (c : Stage) (from : State) → Beside (at_most c zero) from → (n : ℕ) → Covered c from (call_run c.p c.input whole from n)
covered c from b zero = (zero, b, λ m le. let e : b.steps ≡ m = omega (arith, le, b.few) in subst (λ (i : ℕ). Moment c from i) e (moment_of c zero from zero from refl b))
covered c from b (suc n) = covered_step c from n (call_run c.p c.input whole from n) refl (covered c from b n)

begins : (c : Stage) (args : List ConcreteValue) (name : List CallStep) → c.from' ≡ called c.p c.f args name c.h' → IsWithin c.p (called c.p c.f args name c.h) → Beside (at_most c zero) (called c.p c.f args name c.h)
begins c args name is within =
    let frame = entered c.p c.f args name in
    let ahead : IsAhead c.p c.items c.f frame.node frame.node = λ m met. met in
    record {
      steps = zero;
      few = omega arith;
      state = called c.p c.f args name c.h';
      ran = ap Runs is;
      shows = level frame [] frame.node frame.regs frame.counts [] itself (record { regs = λ r read. refl; counts = λ n k. refl }) ahead none;
      grew = grew_none c.items c.h c.h';
      within = within;
    }

-- ---- the end

same_site-true : (s t : Site) → same_site s t ≡ true → s ≡ t
same_site-true (site.Global g) (site.Global h) e = ap site.Global (eqb-true g h e)
same_site-true (site.Node f n) (site.Node g m) e =
    let parts = both_true (f.0 == g.0) (n.0 == m.0) e in
    λ i. site.Node (record { 0 = eqb-true f.0 g.0 parts.0 i }) (record { 0 = eqb-true n.0 m.0 parts.1 i })
  where
    both_true : (a b : Bool) → a && b ≡ true → (a ≡ true) × (b ≡ true)
    both_true true b e = (refl, e)
    both_true false b e = absurd (cc)
same_site-true (site.Global g) (site.Node f n) e = absurd (cc)
same_site-true (site.Node f n) (site.Global g) e = absurd (cc)

same_location-true : (l m : Location) → same_location l m ≡ true → l ≡ m
same_location-true (location.Cells s) (location.Cells t) e = ap location.Cells (same_site-true s t e)
same_location-true (location.Life s) (location.Life t) e = ap location.Life (same_site-true s t e)
same_location-true location.Input location.Input e = refl
same_location-true location.Output location.Output e = refl
same_location-true location.Result location.Result e = refl
same_location-true _ _ e = absurd (cc)

-- a run that ended stays so, and what breaks stays broken
ended_on : (p : ProgramData) (input : List ℕ) (ways : Ways) (from : State) (v : Option ConcreteValue) (t : State) (k m : ℕ) → call_run p input ways from k ≡ Ends v t → k ≤ m → call_run p input ways from m ≡ Ends v t
ended_on p input ways from v t k zero e le = let z : k ≡ zero = omega (arith, le) in subst (λ (n : ℕ). call_run p input ways from n ≡ Ends v t) z e
ended_on p input ways from v t k (suc m) e le =
    ⊎_elim (λ lt. ap (call_goes_on p input ways) (ended_on p input ways from v t k m e (omega (arith, lt))))
    (λ ge. let z : k ≡ suc m = omega (arith, le, ge) in subst (λ (n : ℕ). call_run p input ways from n ≡ Ends v t) z e) (cases_lt k (suc m))

unbroken_before : (p : ProgramData) (input : List ℕ) (ways : Ways) (from : State) (k m : ℕ) → k ≤ m → IsUnbroken (call_run p input ways from m) → IsUnbroken (call_run p input ways from k)
unbroken_before p input ways from k zero le u = let z : zero ≡ k = omega (arith, le) in subst (λ (n : ℕ). IsUnbroken (call_run p input ways from n)) z u
unbroken_before p input ways from k (suc m) le u =
    ⊎_elim (λ lt. unbroken_before p input ways from k m (omega (arith, lt)) (one (call_run p input ways from m) u))
    (λ ge. let z : suc m ≡ k = omega (arith, le, ge) in subst (λ (n : ℕ). IsUnbroken (call_run p input ways from n)) z u) (cases_lt k (suc m))
  where
    one : (r : CallRun) → IsUnbroken (call_goes_on p input ways r) → IsUnbroken r
    one (Runs s) h = tt
    one (Ends v s) h = tt
    one (Breaks e s) h = h

never_broken : (p : ProgramData) (input : List ℕ) (ways : Ways) (from : State) (v : Option ConcreteValue) (t : State) (k : ℕ) → call_run p input ways from k ≡ Ends v t → (n : ℕ) → IsUnbroken (call_run p input ways from n)
never_broken p input ways from v t k e n =
    unbroken_before p input ways from n (k + n) (omega arith) (subst (λ (r : CallRun). IsUnbroken r) (sym (ended_on p input ways from v t k (k + n) e (omega arith))) tt)

simulated : (c : Stage) (v : Option ConcreteValue) (added : History) (t : State) → Finished c v t → t.history ≡ added ++ c.h → c.from'.history ≡ c.h' → IsSimulated c.p c.input c.ways c.at' c.from' v added
simulated c v added t done is starts =
    let less : (d : Change) → lies_in c.at' d ≡ true → is_needed c.items d ≡ true =
    λ d e. subst (λ (l : Location). c.items (Need l) ≡ true) (same_location-true c.at' (location_of d) e) c.facts.asked in
    let same : done.grew.added ≡ added = append_cancel_right done.grew.added added c.h (sym done.grew.whole ∙ is) in
    record {
      result = done.result;
      changes = done.grew.added';
      ends = record { steps = done.steps; end = done.state; ran = done.ran; history = done.grew.part ∙ ap (λ (h : History). done.grew.added' ++ h) (sym starts) };
      unbroken = never_broken c.p c.input c.ways c.from' done.result done.state done.steps done.ran;
      same_changes = sym (filter_within (lies_in c.at') (is_needed c.items) less done.grew.added') ∙ ap (filter (lies_in c.at')) done.grew.same
          ∙ filter_within (lies_in c.at') (is_needed c.items) less done.grew.added ∙ ap (filter (lies_in c.at')) same;
      same_result = done.same;
    }

-- a call and its residual call
abbrev stage : (p : ProgramData) (f : FuncId) (at' : Location) (items : Items) (ways : Ways) → IsWhole p → IsSlice p f at' items → AreNexts p items ways → (input : List ℕ) (args : List ConcreteValue) (name : List CallStep)
    (h h' : History) → ((l : Location) → items (Need l) ≡ true → Agree p l h h') → Stage
stage p f at' items ways program slice nexts input args name h h' agree = record {
  p = p;
  f = f;
  at' = at';
  items = items;
  ways = ways;
  input = input;
  h = h;
  h' = h';
  from' = called p f args name h';
  most = zero;
  program = program;
  facts = facts p f at' _ items slice;
  goes = goes p f at' items (facts p f at' _ items slice) ways nexts;
  agree = agree;
}

-- the whole call's end, with all that went before
ended_covered : (p : ProgramData) (f : FuncId) (at' : Location) (items : Items) (ways : Ways) (program : IsWhole p) (slice : IsSlice p f at' items) (nexts : AreNexts p items ways) (input : List ℕ) (args : List ConcreteValue)
    (name : List CallStep) (h h' : History) (agree : (l : Location) → items (Need l) ≡ true → Agree p l h h') → IsWithin p (called p f args name h) → (v : Option ConcreteValue) (added : History)
    → (ended : Ended p input whole (called p f args name h) v added) → Covered (stage p f at' items ways program slice nexts input args name h h' agree) (called p f args name h) (Ends v ended.end)
ended_covered p f at' items ways program slice nexts input args name h h' agree within v added ended =
    let c = stage p f at' items ways program slice nexts input args name h h' agree in
    subst (λ (r : CallRun). Covered c (called p f args name h) r) ended.ran (covered c (called p f args name h) (begins c args name refl within) ended.steps)

pub simulates : (p : ProgramData) (f : FuncId) (at' : Location) (items : Items) (ways : Ways) → IsWhole p → IsSlice p f at' items → AreNexts p items ways →
    (input : List ℕ) (args : List ConcreteValue) (name : List CallStep) (h h' : History) → IsWithin p (called p f args name h) → ((l : Location) → items (Need l) ≡ true → Agree p l h h') →
    (v : Option ConcreteValue) (added : History) → Ended p input whole (called p f args name h) v added → IsSimulated p input ways at' (called p f args name h') v added
simulates p f at' items ways program slice nexts input args name h h' within agree v added ended =
    let done = ended_covered p f at' items ways program slice nexts input args name h h' agree within v added ended in
    simulated (at_most (stage p f at' items ways program slice nexts input args name h h' agree) done.0) v added ended.end done.1 ended.history refl

state_of_run : CallRun → State → State
state_of_run (Runs s) other = s
state_of_run (Ends v s) other = other
state_of_run (Breaks e s) other = other

not_ended : {A : Type 0} (v : Option ConcreteValue) (s t : State) → Ends v s ≡ Runs t → A
not_ended v s t e = cc

pub states_agree : (p : ProgramData) (f : FuncId) (at' : Location) (items : Items) (ways : Ways) → IsWhole p → IsSlice p f at' items → AreNexts p items ways →
    (input : List ℕ) (args : List ConcreteValue) (name : List CallStep) (h h' : History) → IsWithin p (called p f args name h) → ((l : Location) → items (Need l) ≡ true → Agree p l h h') →
    (v : Option ConcreteValue) (added : History) → Ended p input whole (called p f args name h) v added →
    (m : ℕ) (s' : State) → call_run p input ways (called p f args name h') m ≡ Runs s' → HasMoment p items input (called p f args name h) s'
unfolding state_of_run
states_agree p f at' items ways program slice nexts input args name h h' within agree v added ended m s' ran =
    let done = ended_covered p f at' items ways program slice nexts input args name h h' agree within v added ended in
    ⊎_elim (λ lt. let moment = done.2 m lt in
    subst (λ (s : State). HasMoment p items input (called p f args name h) s) (ap (λ (r : CallRun). state_of_run r s') (sym moment.ran ∙ ran)) moment.there)
    (λ ge. not_ended done.1.result done.1.state s' (sym (ended_on p input ways (called p f args name h') done.1.result done.1.state done.1.steps m done.1.ran ge) ∙ ran))
    (cases_lt m done.1.steps)
