-- What the code's steps do, by the definitions.
use Rattle.std.proofs.Common.{◌≡◌, ℕ, zero, suc, ◌+◌, ◌≤◌, true, List, [], ◌∷◌, ◌++◌, length, drop, Option, Some, None, Result, Ok, Err, refl, sym, ◌∙◌, ap, subst, append-nil, add-one}
use Rattle.std.specs.Prelude.{OnOk}
use Rattle.std.proofs.lemmas.Bool.{false≢true}
use Rattle.flat_ir.specs.declared.names.FuncId.{FuncId}
use Rattle.flat_ir.specs.declared.names.Location.{Location}
use Rattle.flat_ir.specs.declared.program.ProgramData.{ProgramData}
use Rattle.flat_ir.specs.declared.residual.Residual.{Residual}
use Rattle.flat_ir.specs.Machine.{regs_of, func_at}
use Rattle.flat_ir.specs.Skipped.{is_named}
use Rattle.leaves.specs.declared.options.Options.{Options}
use Rattle.leaves.specs.Events.{Leaf}
use Rattle.sym_states.specs.Attempts.{attempt}
use Rattle.sym_states.specs.Exploring.{Setting, zeros, first_state, oldest, residual_of, Explores}
use Rattle.sym_states.specs.Exploring as exploring
use Rattle.sym_states.specs.Fitting.{GlobalsFit}
use Rattle.sym_states.specs.States.{State, Context, Child, Go, Stop, Step, Goes, Forks, Needs, Ends}
use Rattle.sym_states.specs.Verdicts.{Sat}
use Rattle.state_laws.specs.Kept.{IsFitting, StateFitsAt, StepFits}
use Rattle.state_laws.specs.Skipless.{HasNoCalls, StepHasNoCalls}
use Rattle.state_laws.proofs.Attempted.{attempt-fits}
use Rattle.state_laws.proofs.FirmValues.{unset-firm}
use Rattle.state_laws.proofs.States.{whole_of, fits_at, entered-fits}
use Rattle.state_laws.proofs.Unneeded.{attempts-need-nothing}
use Rattle.state_sides.specs.declared.states.Scope.{Scope}
use Rattle.state_sides.specs.Views.{verdict_by}
use Rattle.state_sides.specs.Views as views
use Rattle.sym_machine.specs.Explored.{setting_of}
use Rattle.sym_machine.specs.Turns.{IsSetUp, IsReady, AreReady, Turned}
use Rattle.sym_machine.proofs.Turning.{given-one, ready-first, turned-begin, turned-goes, turned-ends, turned-stop, turned-forks, turned-on, turned-end}

-- ---- what is set up

context : ProgramData → List FuncId → List (List Location) → Option Residual → ℕ → Context
context p skips mods residual budget = record { program = p; skips = skips; mods = mods; residual = residual; verdict = verdict_by budget }

-- where nothing is skipped, attempts are made in one context
same-context : (c : Scope) (o : Options) (s : State) → IsSetUp c o → s.target ≡ None → views.context_of c ≡ exploring.context_of (setting_of c.program.now o) s
unfolding context
same-context c o s set free =
    let e = setting_of c.program.now o in
    let residual : residual_of e s ≡ None = ap (λ t. elim t as (λ x. Option Residual) [ None ↦ None | Some target ↦ Some (e.slice (oldest s.frame s.callers).func target.at) ]) free in
    ap (λ x. context c.program.now x c.mods.now c.residual.now c.budget) set.skips
    ∙ ap (λ x. context c.program.now [] x c.residual.now c.budget) set.mods
    ∙ ap (λ x. context c.program.now [] [] x c.budget) set.residual
    ∙ ap (λ x. context c.program.now [] [] None x) set.budget
    ∙ ap (λ x. context c.program.now [] [] x o.leaves) (sym residual)

pub is-fitting : (c : Scope) (o : Options) → IsSetUp c o → IsFitting (views.context_of c)
is-fitting c o set = record {
  sizes = λ condition n input few is. set.sizes condition n input few (subst (λ b. verdict_by b condition n ≡ Sat input) set.budget is);
}

-- ---- the first state

zeros-length : (n : ℕ) → length (zeros n) ≡ n
zeros-length zero = refl
zeros-length (suc n) = ap (λ k. suc k) (zeros-length n)

zeros-more : (n : ℕ) → zeros n ++ 0 ∷ [] ≡ zeros (suc n)
zeros-more zero = refl
zeros-more (suc n) = ap (λ xs. 0 ∷ xs) (zeros-more n)

pub zeros-next : (n : ℕ) (old new : List ℕ) → old ≡ zeros n → new ≡ old ++ 0 ∷ [] → new ≡ zeros (n + 1)
zeros-next n old new is more = more ∙ ap (λ xs. xs ++ 0 ∷ []) is ∙ zeros-more n ∙ ap zeros (sym (add-one n))

first-fits : (e : Setting) → e.inputs ≤ 64 → GlobalsFit e.program.globals → StateFitsAt e.inputs (first_state e)
first-fits e few globals =
    let frame = entered-fits e.inputs e.program None e.program.main [] [] tt tt in
    whole_of e.inputs (first_state e) (record {
      most = few;
      size = zeros-length e.inputs;
      frame = frame.regs;
      callers = tt;
      globals = globals;
      log = tt;
      snapshots = tt;
      condition = tt;
      path = tt;
      short = record { frame = frame.short; callers = tt; snapshots = tt };
    })

first-free : (e : Setting) → HasNoCalls (first_state e)
first-free e = record { frame = unset-firm (drop 0 (regs_of (func_at e.program e.program.main))); callers = tt; log = tt; snapshots = refl; path = tt; target = refl }

first-ready : (e : Setting) → e.inputs ≤ 64 → GlobalsFit e.program.globals → IsReady e.inputs (Go (first_state e))
first-ready e few globals = record { fits = first-fits e few globals; no_calls = first-free e }

-- ---- turns

-- what an attempt of a state that is ready gives
pub record Stepped (e : Setting) (s : State) (step : Step) : Type 0 where
  pub is : attempt (exploring.context_of e s) s ≡ step
  pub fits : StepFits e.inputs step
  pub no_calls : StepHasNoCalls step

pub own-fits : (n : ℕ) (s : State) → IsReady n (Go s) → StateFitsAt (length s.kept) s
own-fits n s ready = fits_at s ready.fits.fits ready.fits.short

pub stepped : (c : Scope) (o : Options) (s : State) (step : Step) → IsSetUp c o → IsReady o.input (Go s) → step ≡ attempt (views.context_of c) s → Stepped (setting_of c.program.now o) s step
stepped c o s step set ready is =
    let fits = subst (λ n. StepFits n (attempt (views.context_of c) s)) ready.fits.size (attempt-fits (views.context_of c) (length s.kept) s (is-fitting c o set) set.program (fits_at s ready.fits.fits ready.fits.short)) in
    record {
      is = ap (λ x. attempt x s) (sym (same-context c o s set ready.no_calls.target)) ∙ sym is;
      fits = subst (StepFits o.input) (sym is) fits;
      no_calls = subst StepHasNoCalls (sym is) (attempts-need-nothing (views.context_of c) s set.skips ready.no_calls);
    }

-- what a turn leaves, where it is done
abbrev pub Did : {E : Type 0} → Setting → Result (Unit {0}) E → List Child → List Child → List Leaf → List Leaf → Type 0
Did e done old new before after = OnOk done ((fresh : List Leaf) × (after ≡ before ++ fresh) × Turned e old new fresh)

pub did-goes : {E : Type 0} (e : Setting) (s t : State) (rest new : List Child) (leaves : List Leaf) (done : Result (Unit {0}) E) → Stepped e s (Goes t) → OnOk done (new ≡ Go t ∷ rest) → AreReady e.inputs rest → Did e done (Go s ∷ rest) new leaves leaves
did-goes e s t rest new leaves (Ok u) h is others =
    ([], sym (append-nil leaves), subst (λ z. Turned e (Go s ∷ rest) z []) (sym is) (turned-goes e s t rest h.is (ready-first e.inputs (Go t) rest (record { fits = h.fits; no_calls = h.no_calls }) others)))
did-goes e s t rest new leaves (Err x) h is others = tt

pub did-ends : {E : Type 0} (e : Setting) (s : State) (l : Leaf) (rest : List Child) (before after : List Leaf) (done : Result (Unit {0}) E) → Stepped e s (Ends l) → OnOk done (after ≡ before ++ l ∷ []) → AreReady e.inputs rest → Did e done (Go s ∷ rest) rest before after
did-ends e s l rest before after (Ok u) h is others = (l ∷ [], is, turned-ends e s l rest h.is h.fits h.no_calls others)
did-ends e s l rest before after (Err x) h is others = tt

pub did-forks : {E : Type 0} (e : Setting) (s : State) (cs rest new : List Child) (leaves : List Leaf) (done : Result (Unit {0}) E) → Stepped e s (Forks cs) → OnOk done (new ≡ cs ++ rest) → AreReady e.inputs rest → Did e done (Go s ∷ rest) new leaves leaves
did-forks e s cs rest new leaves (Ok u) h is others =
    ([], sym (append-nil leaves), subst (λ z. Turned e (Go s ∷ rest) z []) (sym is) (turned-forks e s cs rest h.is (record { fit = h.fits; no_calls = h.no_calls }) others))
did-forks e s cs rest new leaves (Err x) h is others = tt

pub did-stop : {E : Type 0} (e : Setting) (l : Leaf) (rest : List Child) (before after : List Leaf) (done : Result (Unit {0}) E) → IsReady e.inputs (Stop l) → OnOk done (after ≡ before ++ l ∷ []) → AreReady e.inputs rest → Did e done (Stop l ∷ rest) rest before after
did-stop e l rest before after (Ok u) ready is others = (l ∷ [], is, turned-stop e l rest ready.fits ready.no_calls others)
did-stop e l rest before after (Err x) ready is others = tt

-- ---- the loop

pub starts : (e : Setting) (s : State) (waiting : List Child) (leaves : List Leaf) → e.inputs ≤ 64 → GlobalsFit e.program.globals → s ≡ first_state e → waiting ≡ Go s ∷ [] → leaves ≡ [] → Turned e (Go (first_state e) ∷ []) waiting leaves
starts e s waiting leaves few globals is w l =
    let begin = turned-begin e (Go (first_state e) ∷ []) (ready-first e.inputs (Go (first_state e)) [] (first-ready e few globals) (record { fit = tt; no_calls = tt })) in
    subst (λ ls. Turned e (Go (first_state e) ∷ []) waiting ls) (sym l) (subst (λ z. Turned e (Go (first_state e) ∷ []) z []) (sym (w ∙ ap (λ t. Go t ∷ []) is)) begin)

pub goes-round : (e : Setting) (start before : List Child) (child : Child) (rest after : List Child) (leaves all : List Leaf) → Turned e start before leaves → before ≡ child ∷ rest
    → ((fresh : List Leaf) × (all ≡ leaves ++ fresh) × Turned e (child ∷ rest) after fresh) → Turned e start after all
goes-round e start before child rest after leaves all h is did =
    subst (λ ls. Turned e start after ls) (sym did.1) (turned-on e start (child ∷ rest) after leaves did.0 (subst (λ z. Turned e start z leaves) is h) did.2)

pub child-ready : (e : Setting) (start before : List Child) (child : Child) (rest : List Child) (leaves : List Leaf) → Turned e start before leaves → before ≡ child ∷ rest → IsReady e.inputs child × AreReady e.inputs rest
child-ready e start before child rest leaves h is =
    let all = subst (AreReady e.inputs) is h.ready in
    (record { fits = all.fit.0; no_calls = all.no_calls.0 }, record { fit = all.fit.1; no_calls = all.no_calls.1 })

pub comes-to-end : (e : Setting) (before : List Child) (leaves : List Leaf) → Turned e (Go (first_state e) ∷ []) before leaves → before ≡ [] → (tasks : ℕ) × Explores e leaves tasks
comes-to-end e before leaves h is = given-one e (Go (first_state e)) leaves (turned-end e (Go (first_state e) ∷ []) leaves (subst (λ z. Turned e (Go (first_state e) ∷ []) z leaves) is h))
