-- What flows of an attempt's tests give fits, and the calls of pending operands.
use Rattle.std.proofs.Common.{◌≡◌, ℕ, List, [], ◌∷◌, ◌++◌, length, refl, ap, sym, subst, ◌∙◌}
use Rattle.std.specs.Prelude.{Result, Ok, Err, IfOk}
use Rattle.terms.specs.Tree.{Tree}
use Rattle.flat_ir.specs.declared.nodes.Operand.{Operand}
use Rattle.sym_bytes.specs.declared.names.CallId.{CallId}
use Rattle.leaves.specs.Fitting.{IsTermOf}
use Rattle.sym_states.specs.Sides.{Tested, Bad, test}
use Rattle.sym_states.specs.States.{State, Context, Flow, On}
use Rattle.sym_states.specs.Terms.{put_pending, pending_in, value_in}
use Rattle.state_laws.specs.Kept.{IsFitting, StateFitsAt, FlowFits, TestedFits}
use Rattle.state_laws.proofs.Sides.{test-fits}

-- a state that fits at n bytes fits at as many as it keeps
pub own-fits : (n : ℕ) (s : State) → StateFitsAt n s → StateFitsAt (length s.kept) s
own-fits n s h = record { fits = h.fits; size = refl; short = h.short }

-- ---- what is seen of a flow is what fits

pub bad-fits : (c : Context) (n : ℕ) (t : Tree) (s u : State) (tested : Tested) → IsFitting c → IsTermOf n 1 t → StateFitsAt n s → tested ≡ test c t s → tested ≡ Bad u → StateFitsAt (length u.kept) u
bad-fits c n t s u tested fitting k h is bad = own-fits n u (subst (TestedFits n) (sym is ∙ bad) (test-fits c n t s fitting k h))

pub ok-fits : {A B E : Type 0} (seen : A → Flow B) (n : ℕ) (P : B → Type 0) (r : Result A E) (f : Flow B) → FlowFits n P f → IfOk r (λ x. seen x ≡ f) → IfOk r (λ x. FlowFits n P (seen x))
ok-fits seen n P (Ok x) f fit is = subst (FlowFits n P) (sym is) fit
ok-fits seen n P (Err e) f fit is = tt

-- ---- pending operands

-- the calls of pending operands, put before others
abbrev pub pending_onto : State → List Operand → List CallId → List CallId
pending_onto s [] calls = calls
pending_onto s (a ∷ as') calls = put_pending (value_in s a) (pending_onto s as' calls)

pub onto_none : (s : State) (operands : List Operand) → pending_onto s operands [] ≡ pending_in s operands
onto_none s [] = refl
onto_none s (a ∷ as') = ap (put_pending (value_in s a)) (onto_none s as')

pub onto_last : (s : State) (before : List Operand) (a : Operand) (calls : List CallId) → pending_onto s (before ++ a ∷ []) calls ≡ pending_onto s before (put_pending (value_in s a) calls)
onto_last s [] a calls = refl
onto_last s (b ∷ before) a calls = ap (put_pending (value_in s b)) (onto_last s before a calls)
