-- Nodes that calculate, move and choose ways go along with the run.
use Rattle.std.proofs.Common.{◌≡◌, ℕ, zero, suc, Bool, true, false, not, ◌&&◌, ◌||◌, ◌==◌, ◌+◌, ◌-◌, ◌*◌, ◌%◌, ◌^◌, List, [], ◌∷◌, ◌++◌, map, length, All, Option, Some, None, unwrap_or, refl, sym, ◌∙◌, ap, subst, arith, lit≤, inl, inr}
use Rattle.std.specs.Prelude.{cond, slice_get}
use Rattle.std.specs.List.{AllByRecursion as Each, IsDistinct, flat_map}
use Rattle.std.proofs.lemmas.Bool.{cases_Bool, eqb-true, eqb-false, eq-eqb, ne_eqb, false≢true, not-true}
use Rattle.std.proofs.Math.Bool.{and-true}
use Rattle.std.proofs.lemmas.List.Elements.{recursion_from_All}
use Rattle.std.proofs.lemmas.Map.Keys.{IsDistinct-head, IsDistinct-tail}
use Rattle.bitnum.specs.Number.{Number, IsNumber}
use Rattle.bitnum.specs.Operations.{applied, sign_widened}
use Rattle.bitnum.specs.declared.BinOp.{BinOp}
use Rattle.bitnum.specs.declared.BinOp.TheVariants as ops
use Rattle.bitnum.specs.declared.Pred.{Pred}
use Rattle.checks.specs.Types.{type_of, same_type, is_int, is_equality, has, are_cases, are_moved}
use Rattle.checks.specs.Types as types
use Rattle.flat_ir.specs.declared.names.FuncId.{FuncId}
use Rattle.flat_ir.specs.declared.names.NodeId.{NodeId}
use Rattle.flat_ir.specs.declared.names.RegId.{RegId}
use Rattle.flat_ir.specs.declared.nodes.CastOp.{CastOp}
use Rattle.flat_ir.specs.declared.nodes.GepPart.{GepPart}
use Rattle.flat_ir.specs.declared.nodes.GepPart.TheVariants.{Field, Index}
use Rattle.flat_ir.specs.declared.nodes.MoveSet.{MoveSet}
use Rattle.flat_ir.specs.declared.nodes.Node.{Node}
use Rattle.flat_ir.specs.declared.nodes.Node.TheVariants as node
use Rattle.flat_ir.specs.declared.nodes.Operand.{Operand}
use Rattle.flat_ir.specs.declared.nodes.RegType.{RegType}
use Rattle.flat_ir.specs.declared.nodes.RegType.TheVariants as type
use Rattle.flat_ir.specs.declared.nodes.SwitchCase.{SwitchCase}
use Rattle.flat_ir.specs.declared.program.Func.{Func}
use Rattle.flat_ir.specs.declared.program.ProgramData.{ProgramData}
use Rattle.flat_ir.specs.declared.values.ConcreteValue.{ConcreteValue}
use Rattle.flat_ir.specs.declared.values.ConcreteValue.TheVariants as concrete
use Rattle.flat_ir.specs.declared.values.FaultKind.{FaultKind}
use Rattle.flat_ir.specs.declared.values.FaultKind.TheVariants as fault
use Rattle.flat_ir.specs.Machine as machine
use Rattle.flat_ir.specs.Machine.{Branched, func_at, regs_of, type_at}
use Rattle.flat_ir.specs.Registers as registers
use Rattle.flat_ir.specs.Run.{step, goes_on, run-suc, step-attempt}
use Rattle.flat_ir.specs.Steps as steps
use Rattle.flat_ir.specs.Steps.{unless, division_fault, by_zero, by_zero_or_overflow, bit, related, case_of, with_frame}
use Rattle.flat_ir.specs.Whole.{successors_of, operands_of_part}
use Rattle.flat_ir.proofs.MadeBasics.{both}
use Rattle.terms.specs.Tree.{Tree, constant, width_of}
use Rattle.terms.specs.Value.{value_of, is_met_by, is_yes}
use Rattle.terms.specs.Folding.{folded_two}
use Rattle.terms.specs.declared.term.Binary.TheVariants.{Bin, Eq}
use Rattle.terms.proofs.Folds.{value-folded_two}
use Rattle.terms.proofs.Numbers.{width-value_of}
use Rattle.term_store.specs.Condition.{negation}
use Rattle.sym_bytes.specs.Building.{number, equal}
use Rattle.sym_bytes.specs.Under.{bits_under, address_under, value_under}
use Rattle.sym_bytes.specs.Value.{SymValue, Int, Ptr, Pending}
use Rattle.leaves.specs.Events as leaf
use Rattle.leaves.specs.Fitting.{IsTerm, IsTermOf, AreTermsOf, ValueFits}
use Rattle.sym_states.specs.Attempts.{divides, divides_by, divides_signed, gives_term, picks, selects, took, computes, compares, casts, places, chooses, branches, switches, executes}
use Rattle.sym_states.specs.Attempts as attempts
use Rattle.sym_states.specs.Sides.{Tested, Good, Bad, Answered, test, choose_way}
use Rattle.sym_states.specs.States.{Frame, State, Goes, Flow, On, Over, in_frame, counted, moved, then_flow, then_step}
use Rattle.sym_states.specs.States as states
use Rattle.sym_states.specs.Terms.{value_in, number_in, address_in, calculated, compared_values, cast_to, chosen, moved_by, moved_by_all, is_nonzero, has_quotient, is_equal, case_sides, and_none, none_of, switch_sides, set_all}
use Rattle.sym_states.proofs.Widths as widths
use Rattle.sym_states.proofs.Widths.{negation-fits}
use Rattle.log_laws.proofs.Tested.{yes_truth}
use Rattle.state_laws.specs.Kept.{OperandFits, OperandsFit, PartsFit, CasesFit}
use Rattle.state_laws.specs.Skipless.{IsFirm}
use Rattle.state_laws.proofs.FirmValues.{value_in-firm}
use Rattle.state_laws.proofs.States.{value_in-fits, address_in-fits, moved_by-fits}
use Rattle.state_laws.proofs.Terms.{exact, bit-fits, is_nonzero-fits, has_quotient-fits, case_sides-fits}
use Rattle.typed_runs.specs.TypedRuns.{HasType}
use Rattle.typed_runs.specs.Suiting.{Suits, result_of}
use Rattle.typed_runs.proofs.Suited.{node_suits}
use Rattle.typed_runs.proofs.Types.{all_three, same_is, of_same, operand_has, operand_is}
use Rattle.agreement.specs.Agreement.{RegsAgree, FrameAgrees, StandsAt}
use Rattle.agreement.specs.Premises.{same_number, NodeHasDistinctCases, HasDistinctCases, none_gave}
use Rattle.agreement.proofs.Along.{Scene, IsHere, IsPast, AnswerGoesAlong, FlowGoesAlong, TestGoesAlong, HasFault, IsGiven, MeetsAt, alike, agreed, must-along, test-along, choose-along, goes-along, unmet-side, firm-first, flow-weaker, then-flow-along, then-step-along, frame-done, done-along, regs-set, value-counted, operand-along}
use Rattle.agreement.proofs.Nodes.{begun, Attempts, StandsThere, IsAt, tests-fault, unless-none, value-along, address-along, number-along, term-along, path-shown}
use Rattle.agreement.proofs.Values.{both-true, value-calculated, value-compared_values, value-cast, value-chosen, same-widths, apart, met-nonzero, met-quotient, met-and, met-negation, truth-is, bits-behind, bits-moved_by_index}

-- ---- divisions

-- the tests hold
record Passes (e : Scene) (k : ℕ) (m : machine.State) (o : Option FaultKind) (u : State) : Type 0 where
  here : IsHere e k m u
  none : o ≡ None

zero-fault : (z : Bool) → not z ≡ false → cond z (Some fault.DivideByZero) None ≡ Some fault.DivideByZero
zero-fault true h = refl
zero-fault false h = absurd (false≢true (sym h))

zero-none : (z : Bool) → not z ≡ true → cond z (Some fault.DivideByZero) None ≡ None
zero-none true h = absurd (false≢true h)
zero-none false h = refl

first-fault : (z q : Bool) → not z ≡ false → cond z (Some fault.DivideByZero) (cond q (Some fault.DivideOverflow) None) ≡ Some fault.DivideByZero
first-fault true q h = refl
first-fault false q h = absurd (false≢true (sym h))

second-fault : (z q : Bool) → not z ≡ true → not q ≡ false → cond z (Some fault.DivideByZero) (cond q (Some fault.DivideOverflow) None) ≡ Some fault.DivideOverflow
second-fault true q h g = absurd (false≢true h)
second-fault false true h g = refl
second-fault false false h g = absurd (false≢true (sym g))

no-fault : (z q : Bool) → not z ≡ true → not q ≡ true → cond z (Some fault.DivideByZero) (cond q (Some fault.DivideOverflow) None) ≡ None
no-fault true q h g = absurd (false≢true h)
no-fault false true h g = absurd (false≢true g)
no-fault false false h g = refl

divides_by-along : (e : Scene) (k : ℕ) (m : machine.State) (s : State) (b : Tree) → IsHere e k m s → IsTerm (length e.input) b → (by_zero (value_of b e.input) ≡ Some fault.DivideByZero → HasFault e m fault.DivideByZero)
    → FlowGoesAlong e (Passes e k m (by_zero (value_of b e.input))) (divides_by e.c b s)
divides_by-along e k m s b h fits bad =
    let is = met-nonzero (length e.input) b e.input fits in
    flow-weaker e (IsPast e k m s (is_nonzero b)) (Passes e k m (by_zero (value_of b e.input))) (divides_by e.c b s)
    (λ u past. record { here = past.here; none = zero-none ((value_of b e.input).bits == 0) (sym is ∙ past.met) })
    (must-along e k m s (is_nonzero b) fault.DivideByZero h (is_nonzero-fits (length e.input) b fits) (λ unmet. bad (zero-fault ((value_of b e.input).bits == 0) (sym is ∙ unmet))))

divides_signed-along : (e : Scene) (k : ℕ) (m : machine.State) (s : State) (a b : Tree) → IsHere e k m s → IsTerm (length e.input) a → IsTerm (length e.input) b
    → ((kind : FaultKind) → by_zero_or_overflow (value_of a e.input) (value_of b e.input) ≡ Some kind → HasFault e m kind)
    → FlowGoesAlong e (Passes e k m (by_zero_or_overflow (value_of a e.input) (value_of b e.input))) (divides_signed e.c a b s)
divides_signed-along e k m s a b h fits-a fits-b bad =
    let va = value_of a e.input in
    let vb = value_of b e.input in
    let z : Bool = vb.bits == 0 in
    let q : Bool = (va.bits == 2 ^ (va.width - 1)) && (vb.bits == 2 ^ vb.width - 1) in
    let nonzero = met-nonzero (length e.input) b e.input fits-b in
    let quotient = met-quotient (length e.input) a b e.input fits-a fits-b in
    then-flow-along e (IsPast e k m s (is_nonzero b)) (Passes e k m (by_zero_or_overflow va vb)) (divides_by e.c b s) (attempts.must e.c (has_quotient a b) fault.DivideOverflow)
    (must-along e k m s (is_nonzero b) fault.DivideByZero h (is_nonzero-fits (length e.input) b fits-b) (λ unmet. bad fault.DivideByZero (first-fault z q (sym nonzero ∙ unmet))))
    (λ u past.
    flow-weaker e (IsPast e k m u (has_quotient a b)) (Passes e k m (by_zero_or_overflow va vb)) (attempts.must e.c (has_quotient a b) fault.DivideOverflow u)
    (λ w next. record { here = next.here; none = no-fault z q (sym nonzero ∙ past.met) (sym quotient ∙ next.met) })
    (must-along e k m u (has_quotient a b) fault.DivideOverflow past.here (has_quotient-fits (length e.input) a b fits-a fits-b) (λ unmet. bad fault.DivideOverflow (second-fault z q (sym nonzero ∙ past.met) (sym quotient ∙ unmet)))))

divides-along : (e : Scene) (k : ℕ) (m : machine.State) (s : State) (o : BinOp) (a b : Tree) → IsHere e k m s → IsTerm (length e.input) a → IsTerm (length e.input) b
    → ((kind : FaultKind) → division_fault o (value_of a e.input) (value_of b e.input) ≡ Some kind → HasFault e m kind)
    → FlowGoesAlong e (Passes e k m (division_fault o (value_of a e.input) (value_of b e.input))) (divides e.c o a b s)
divides-along e k m s ops.Udiv a b h fa fb bad = divides_by-along e k m s b h fb (bad fault.DivideByZero)
divides-along e k m s ops.Urem a b h fa fb bad = divides_by-along e k m s b h fb (bad fault.DivideByZero)
divides-along e k m s ops.Sdiv a b h fa fb bad = divides_signed-along e k m s a b h fa fb bad
divides-along e k m s ops.Srem a b h fa fb bad = divides_signed-along e k m s a b h fa fb bad
divides-along e k m s ops.Add a b h fa fb bad = record { here = h; none = refl }
divides-along e k m s ops.Sub a b h fa fb bad = record { here = h; none = refl }
divides-along e k m s ops.Mul a b h fa fb bad = record { here = h; none = refl }
divides-along e k m s ops.Shl a b h fa fb bad = record { here = h; none = refl }
divides-along e k m s ops.Lshr a b h fa fb bad = record { here = h; none = refl }
divides-along e k m s ops.Ashr a b h fa fb bad = record { here = h; none = refl }
divides-along e k m s ops.And a b h fa fb bad = record { here = h; none = refl }
divides-along e k m s ops.Or a b h fa fb bad = record { here = h; none = refl }
divides-along e k m s ops.Xor a b h fa fb bad = record { here = h; none = refl }

-- ---- nodes that give a value

-- the node gives the value of a symbolic one
gives-along : (e : Scene) (k : ℕ) (m : machine.State) (u : State) (x : Node) (result : RegId) (v : SymValue) (w : ConcreteValue) (next : NodeId) → IsHere e k m u → StandsThere e m x → slice_get (successors_of x) 0 ≡ Some next
    → w ≡ value_under e.input [] v → Attempts e m x (steps.gives result w next (begun m)) → AnswerGoesAlong e (states.gives e.c (Some result) (Some v) u)
gives-along e k m u x result v w next h code leads is does = done-along e k m u u x (Some result) (Some v) w next m.history m.events h code leads is (alike e.input u m h.agrees) does

-- two terms of one width
widths-along : (e : Scene) (k : ℕ) (m : machine.State) (s : State) (a b : Operand) → IsHere e k m s → IsGiven s a → IsGiven s b → OperandFits a → OperandFits b
    → (registers.number (machine.value_in m.frame a)).width ≡ (registers.number (machine.value_in m.frame b)).width → width_of (number_in s a) ≡ width_of (number_in s b)
widths-along e k m s a b h ga gb fa fb same =
    sym (width-value_of (number_in s a) e.input (term-along e k m s a h fa).tree) ∙ ap (λ n. n.width) (sym (number-along e k m s a h ga)) ∙ ap (λ v. (registers.number v).width) (value-counted m.frame a) ∙ same
    ∙ ap (λ v. (registers.number v).width) (sym (value-counted m.frame b)) ∙ ap (λ n. n.width) (number-along e k m s b h gb) ∙ width-value_of (number_in s b) e.input (term-along e k m s b h fb).tree

pub bin-along : (e : Scene) (k : ℕ) (m : machine.State) (s : State) (o : BinOp) (a b : Operand) (result : RegId) (next : NodeId) → IsAt e k m s (node.Bin o a b result next) → AnswerGoesAlong e (executes e.c (node.Bin o a b result next) s)
bin-along e k m s o a b result next at =
    let x = node.Bin o a b result next in
    let h = at.here in
    let va = number-along e k m s a h at.given.0 in
    let vb = number-along e k m s b h at.given.1.0 in
    let fa = term-along e k m s a h at.fits.operands.0 in
    let fb = term-along e k m s b h at.fits.operands.1.0 in
    let ta = number_in s a in
    let tb = number_in s b in
    let suits : Suits e.c.program m.frame (node.Bin o a b result next) = node_suits e.c.program m.frame (result_of (func_at e.c.program m.frame.func)) (node.Bin o a b result next) e.plain.whole at.holds at.typed in
    let alike-width = widths-along e k m s a b h at.given.0 at.given.1.0 at.fits.operands.0 at.fits.operands.1.0 suits in
    let o-fault : Option FaultKind = division_fault o (value_of ta e.input) (value_of tb e.input) in
    let w : ConcreteValue = concrete.Int (applied o (value_of ta e.input) (value_of tb e.input)) in
    let does : Attempts e m x (unless (division_fault o (value_of ta e.input) (value_of tb e.input)) (begun m) (steps.gives result (concrete.Int (applied o (value_of ta e.input) (value_of tb e.input))) next (begun m)))
    = λ j. unless (division_fault o (va j) (vb j)) (begun m) (steps.gives result (concrete.Int (applied o (va j) (vb j))) next (begun m)) in
    firm-first e k m s (a ∷ b ∷ []) (computes e.c o a b result) h
    (then-step-along e (Passes e k m o-fault) (divides e.c o ta tb s) (gives_term e.c result (calculated o ta tb))
    (divides-along e k m s o ta tb h fa fb (λ kind is. tests-fault e m x o-fault (steps.gives result w next (begun m)) at.code does kind is))
    (λ u passes. gives-along e k m u x result (Int (calculated o ta tb)) w next passes.here at.code refl (ap concrete.Int (sym (value-calculated (length e.input) o ta tb e.input fa fb alike-width)))
    (does ∙ unless-none o-fault (begun m) (steps.gives result w next (begun m)) passes.none)))

pub cmp-along : (e : Scene) (k : ℕ) (m : machine.State) (s : State) (pr : Pred) (a b : Operand) (result : RegId) (next : NodeId) → IsAt e k m s (node.Cmp pr a b result next) → AnswerGoesAlong e (executes e.c (node.Cmp pr a b result next) s)
cmp-along e k m s pr a b result next at =
    let x = node.Cmp pr a b result next in
    let h = at.here in
    let p = e.c.program in
    let regs = regs_of (func_at e.c.program m.frame.func) in
    let t : RegType = type_of regs a in
    let parts = both (same_type (types.type_at regs result) (type.Int 1)) (types.compares pr (type_of regs a) (type_of regs b)) at.typed in
    let same = both (same_type (type_of regs a) (type_of regs b)) (is_int (type_of regs a) || is_equality pr) parts.1 in
    let va = value-along e k m s a h at.given.0 in
    let vb = value-along e k m s b h at.given.1.0 in
    let v : SymValue = value_in s a in
    let w : SymValue = value_in s b in
    let ha : HasType t (value_under e.input [] v) = subst (HasType t) (operand-along e k m s a h at.given.0) (operand_has p m.frame a at.holds) in
    let hb : HasType t (value_under e.input [] w) = subst (HasType t) (operand-along e k m s b h at.given.1.0) (of_same (type_of regs a) (type_of regs b) (machine.value_in m.frame b) same.0 (operand_has p m.frame b at.holds)) in
    firm-first e k m s (a ∷ b ∷ []) (attempts.compares e.c pr a b result) h
    (gives-along e k m s x result (Int (compared_values pr v w)) (bit (related pr (value_under e.input [] v) (value_under e.input [] w))) next h at.code refl
    (value-compared_values (length e.input) pr v w t e.input (value_in-fits (length e.input) s a h.state.fits at.fits.operands.0).fits (value_in-fits (length e.input) s b h.state.fits at.fits.operands.1.0).fits
    (value_in-firm s a h.state.no_calls) (value_in-firm s b h.state.no_calls) ha hb)
    (λ j. steps.gives result (bit (related pr (va j) (vb j))) next (begun m)))

pub cast-along : (e : Scene) (k : ℕ) (m : machine.State) (s : State) (o : CastOp) (a : Operand) (result : RegId) (next : NodeId) → IsAt e k m s (node.Cast o a result next) → AnswerGoesAlong e (executes e.c (node.Cast o a result next) s)
cast-along e k m s o a result next at =
    let x = node.Cast o a result next in
    let h = at.here in
    let p = e.c.program in
    let va = number-along e k m s a h at.given.0 in
    let ta = number_in s a in
    let fa = term-along e k m s a h at.fits.operands.0 in
    let suits : Suits e.c.program m.frame (node.Cast o a result next) = node_suits e.c.program m.frame (result_of (func_at e.c.program m.frame.func)) (node.Cast o a result next) e.plain.whole at.holds at.typed in
    let w : ℕ = steps.width_of (type_at e.c.program m.frame.func result) in
    let wide : (registers.number (machine.value_in m.frame a)).width ≡ width_of ta = ap (λ v. (registers.number v).width) (sym (value-counted m.frame a)) ∙ ap (λ n. n.width) va ∙ width-value_of ta e.input fa.tree in
    let func : m.frame.func ≡ s.frame.func = (alike e.input s m h.agrees).frame.func in
    let given : ConcreteValue = concrete.Int (steps.cast_to o w (value_of ta e.input)) in
    firm-first e k m s (a ∷ []) (attempts.casts e.c o a result) h
    (subst (λ f. AnswerGoesAlong e (gives_term e.c result (cast_to o (steps.width_of (type_at e.c.program f result)) ta) s)) func
    (gives-along e k m s x result (Int (cast_to o w ta)) given next h at.code refl
    (ap concrete.Int (sym (value-cast (length e.input) o w ta e.input fa suits.0 (subst (λ (u : ℕ). types.resizes o u w ≡ true) wide suits.1))))
    (λ j. steps.gives result (concrete.Int (steps.cast_to o w (va j))) next (begun m))))

-- ---- places

abbrev KnownParts : Scene → ℕ → machine.State → State → List GepPart → Type 0
KnownParts e k m s parts = Each (IsGiven s) (flat_map operands_of_part parts)

moved-along : (e : Scene) (k : ℕ) (m : machine.State) (s : State) (offset : Tree) (parts : List GepPart) (bits : ℕ) → IsHere e k m s → IsTermOf (length e.input) 64 offset → PartsFit parts → OperandsFit (flat_map operands_of_part parts)
    → KnownParts e k m s parts → bits ≡ bits_under e.input offset → steps.moved_by_all (begun m) bits parts ≡ bits_under e.input (moved_by_all s offset parts)
moved-along e k m s offset [] bits h wide fits operands given is = is
moved-along e k m s offset (Field by ∷ parts) bits h wide fits operands given is =
    moved-along e k m s (moved_by s offset (Field by)) parts (steps.moved_by (begun m) bits (Field by)) h (moved_by-fits (length e.input) s offset (Field by) h.state.fits wide fits.0 tt) fits.1 operands given
    (ap (λ b. (b + by) % 2 ^ 64) is ∙ sym (bits-behind (length e.input) offset by e.input wide fits.0))
moved-along e k m s offset (Index scale index ∷ parts) bits h wide fits operands given is =
    let vi = number-along e k m s index h given.0 in
    let fi = term-along e k m s index h operands.0 in
    moved-along e k m s (moved_by s offset (Index scale index)) parts (steps.moved_by (begun m) bits (Index scale index)) h (moved_by-fits (length e.input) s offset (Index scale index) h.state.fits wide fits.0 (operands.0, tt)) fits.1 operands.1 given.1
    ((λ j. (is j + scale * (sign_widened (vi j) 64).bits) % 2 ^ 64) ∙ sym (bits-moved_by_index (length e.input) offset scale (number_in s index) e.input wide fits.0 fi))

pub gep-along : (e : Scene) (k : ℕ) (m : machine.State) (s : State) (base : Operand) (parts : List GepPart) (result : RegId) (next : NodeId) → IsAt e k m s (node.Gep base parts result next) → AnswerGoesAlong e (executes e.c (node.Gep base parts result next) s)
gep-along e k m s base parts result next at =
    let x = node.Gep base parts result next in
    let h = at.here in
    let from = address_in s base in
    let va = address-along e k m s base h at.given.0 in
    let wide : IsTermOf (length e.input) 64 from.offset = address_in-fits (length e.input) s base h.state.fits at.fits.operands.0 in
    let there : SymValue = Ptr (record { base = from.base; offset = moved_by_all s from.offset parts }) in
    firm-first e k m s (base ∷ flat_map operands_of_part parts) (places e.c base parts result) h
    (gives-along e k m s x result there (value_under e.input [] there) next h at.code refl refl
    (ap (λ a. steps.gives result (concrete.Ptr (record { base = a.base; offset = steps.moved_by_all (begun m) a.offset parts })) next (begun m)) va
    ∙ ap (λ b. steps.gives result (concrete.Ptr (record { base = (address_under e.input from).base; offset = b })) next (begun m))
    (moved-along e k m s from.offset parts (bits_under e.input from.offset) h wide at.fits.names at.fits.operands.1 at.given.1 refl)))

-- ---- selections

pick-if : (test : Bool) (p q : Number) → cond test (concrete.Int p) (concrete.Int q) ≡ concrete.Int (cond test p q)
pick-if true p q = refl
pick-if false p q = refl

-- the run gives one of two values
abbrev Picks : Scene → machine.State → Node → RegId → NodeId → Bool → ConcreteValue → ConcreteValue → Type 0
Picks e m x result next test v w = Attempts e m x (steps.gives result (cond test v w) next (begun m))

picks-along : (e : Scene) (k : ℕ) (m : machine.State) (s : State) (x : Node) (result : RegId) (next : NodeId) (t : Tree) (v w : SymValue) (r : Tested) → StandsThere e m x → slice_get (successors_of x) 0 ≡ Some next → IsTermOf (length e.input) 1 t
    → Picks e m x result next (is_met_by e.input t) (value_under e.input [] v) (value_under e.input [] w) → TestGoesAlong e k m s t r → AnswerGoesAlong e (picks e.c result v w r)
picks-along e k m s x result next t v w (Good u) code leads truth does h =
    gives-along e k m u x result v (value_under e.input [] v) next h.here code leads refl (does ∙ ap (λ b. steps.gives result (cond b (value_under e.input [] v) (value_under e.input [] w)) next (begun m)) h.met)
picks-along e k m s x result next t v w (Bad u) code leads truth does h =
    gives-along e k m u x result w (value_under e.input [] w) next h.here code leads refl
    (does ∙ ap (λ b. steps.gives result (cond b (value_under e.input [] v) (value_under e.input [] w)) next (begun m)) (unmet-side (length e.input) t e.input truth h.met))
picks-along e k m s x result next t v w (Answered step) code leads truth does h = h

selects-along : (e : Scene) (k : ℕ) (m : machine.State) (s : State) (x : Node) (result : RegId) (next : NodeId) (c : Tree) (v w : SymValue) (t : RegType) → IsHere e k m s → StandsThere e m x → slice_get (successors_of x) 0 ≡ Some next
    → IsTermOf (length e.input) 1 c → ValueFits (length e.input) v → ValueFits (length e.input) w → IsFirm v → IsFirm w → HasType t (value_under e.input [] v) → HasType t (value_under e.input [] w)
    → Picks e m x result next (is_met_by e.input c) (value_under e.input [] v) (value_under e.input [] w) → AnswerGoesAlong e (selects e.c result c v w s)
selects-along e k m s x result next c (Int a) (Int b) t h code leads truth fa fb firm-a firm-b ha hb does =
    gives-along e k m s x result (Int (chosen c a b)) (concrete.Int (value_of (chosen c a b) e.input)) next h code leads refl
    (does ∙ ap (λ v. steps.gives result v next (begun m)) (pick-if (is_met_by e.input c) (value_of a e.input) (value_of b e.input) ∙ ap concrete.Int (sym (value-chosen (length e.input) c a b e.input truth.has_width (same-widths t e.input a b fa.tree fb.tree ha hb)))))
selects-along e k m s x result next c (Int a) (Ptr b) t h code leads truth fa fb firm-a firm-b ha hb does = absurd (apart t e.input a b ha hb)
selects-along e k m s x result next c (Int a) (Pending d u) t h code leads truth fa fb firm-a firm-b ha hb does = absurd firm-b
selects-along e k m s x result next c (Pending d u) w t h code leads truth fa fb firm-a firm-b ha hb does = absurd firm-a
selects-along e k m s x result next c (Ptr a) w t h code leads truth fa fb firm-a firm-b ha hb does =
    subst (λ u. AnswerGoesAlong e (picks e.c result (Ptr a) w (test e.c u s))) (sym (truth-is c truth.has_width))
    (picks-along e k m s x result next c (Ptr a) w (test e.c c s) code leads truth does (test-along e k m s c h truth))

pub width-of-type : (w : ℕ) (v : ConcreteValue) → HasType (type.Int w) v → (registers.number v).width ≡ w
width-of-type w (concrete.Int n) h = h
width-of-type w (concrete.Ptr a) h = absurd h

-- the term of an operand of so many bits
pub sized-along : (e : Scene) (k : ℕ) (m : machine.State) (s : State) (a : Operand) (w : ℕ) → IsHere e k m s → IsGiven s a → OperandFits a → HasType (type.Int w) (machine.value_in m.frame a) → IsTermOf (length e.input) w (number_in s a)
sized-along e k m s a w h given fits has_type =
    let fa = term-along e k m s a h fits in
    exact (length e.input) w (number_in s a) fa
    (sym (width-value_of (number_in s a) e.input fa.tree) ∙ ap (λ n. n.width) (sym (number-along e k m s a h given)) ∙ ap (λ v. (registers.number v).width) (value-counted m.frame a) ∙ width-of-type w (machine.value_in m.frame a) has_type)

pub select-along : (e : Scene) (k : ℕ) (m : machine.State) (s : State) (c a b : Operand) (result : RegId) (next : NodeId) → IsAt e k m s (node.Select c a b result next) → AnswerGoesAlong e (executes e.c (node.Select c a b result next) s)
select-along e k m s c a b result next at =
    let x = node.Select c a b result next in
    let h = at.here in
    let p = e.c.program in
    let regs = regs_of (func_at e.c.program m.frame.func) in
    let t : RegType = types.type_at regs result in
    let parts = all_three (has regs c (type.Int 1)) (has regs a t) (has regs b t) at.typed in
    let vc = number-along e k m s c h at.given.0 in
    let va = value-along e k m s a h at.given.1.0 in
    let vb = value-along e k m s b h at.given.1.1.0 in
    let truth = sized-along e k m s c 1 h at.given.0 at.fits.operands.0 (operand_is p m.frame c (type.Int 1) at.holds parts.0) in
    firm-first e k m s (c ∷ a ∷ b ∷ []) (chooses e.c c a b result) h
    (selects-along e k m s x result next (number_in s c) (value_in s a) (value_in s b) t h at.code refl truth
    (value_in-fits (length e.input) s a h.state.fits at.fits.operands.1.0).fits (value_in-fits (length e.input) s b h.state.fits at.fits.operands.1.1.0).fits
    (value_in-firm s a h.state.no_calls) (value_in-firm s b h.state.no_calls)
    (subst (HasType t) (operand-along e k m s a h at.given.1.0) (operand_is p m.frame a t at.holds parts.1))
    (subst (HasType t) (operand-along e k m s b h at.given.1.1.0) (operand_is p m.frame b t at.holds parts.2))
    (λ j. steps.gives result (cond ((vc j).bits == 1) (va j) (vb j)) next (begun m)))

-- ---- jumps and moves

pub jump-along : (e : Scene) (k : ℕ) (m : machine.State) (s : State) (next : NodeId) → IsAt e k m s (node.Jump next) → AnswerGoesAlong e (executes e.c (node.Jump next) s)
jump-along e k m s next at = done-along e k m s s (node.Jump next) None None (concrete.Ptr registers.null) next m.history m.events at.here at.code refl tt (alike e.input s m at.here.agrees) refl

-- sets change registers alone
sets-frame : (s : State) (sets : List MoveSet) (f : Frame) → set_all s sets f ≡ record f { regs = (set_all s sets f).regs }
sets-frame s [] f = refl
sets-frame s (x ∷ sets) f = sets-frame s sets (states.set x.register (value_in s x.value) f)

sets-run : (old : machine.Frame) (sets : List MoveSet) (g : machine.Frame) → steps.set_all old sets g ≡ record g { regs = (steps.set_all old sets g).regs }
sets-run old [] g = refl
sets-run old (x ∷ sets) g = sets-run old sets (machine.set x.register (machine.value_in old x.value) g)

sets-along : (e : Scene) (k : ℕ) (m : machine.State) (s : State) (sets : List MoveSet) (f : Frame) (g : machine.Frame) → IsHere e k m s → Each (IsGiven s) (map (λ x. x.value) sets) → RegsAgree e.input [] f.regs g.regs
    → RegsAgree e.input [] (set_all s sets f).regs (steps.set_all (machine.counted m.frame) sets g).regs
sets-along e k m s [] f g h given same = same
sets-along e k m s (x ∷ sets) f g h given same =
    sets-along e k m s sets (states.set x.register (value_in s x.value) f) (machine.set x.register (machine.value_in (machine.counted m.frame) x.value) g) h given.1
    (regs-set e.input f.regs g.regs x.register.0 (value_in s x.value) (machine.value_in (machine.counted m.frame) x.value) same (value-along e k m s x.value h given.0))

pub moves-along : (e : Scene) (k : ℕ) (m : machine.State) (s : State) (sets : List MoveSet) (next : NodeId) → IsAt e k m s (node.Moves sets next) → AnswerGoesAlong e (executes e.c (node.Moves sets next) s)
moves-along e k m s sets next at =
    let h = at.here in
    let same = alike e.input s m h.agrees in
    let f : Frame = record s.frame { regs = (set_all s sets s.frame).regs } in
    let g : machine.Frame = record m.frame { regs = (steps.set_all (machine.counted m.frame) sets (machine.counted m.frame)).regs } in
    let agrees : FrameAgrees e.input [] (record s.frame { regs = (set_all s sets s.frame).regs }) (record m.frame { regs = (steps.set_all (machine.counted m.frame) sets (machine.counted m.frame)).regs })
    = record { func = same.frame.func; place = same.frame.place; name = same.frame.name; counts = same.frame.counts; regs = sets-along e k m s sets s.frame (machine.counted m.frame) h at.given same.frame.regs } in
    let there : machine.State = record m { frame = machine.at_node next (machine.counted g) } in
    subst (λ z. AnswerGoesAlong e (states.goes_on e.c (in_frame z s))) (sym (sets-frame s sets s.frame))
    (goes-along e k m s (in_frame (moved e.c 0 (counted f)) s) there h
    (step-attempt e.c.program e.input m ∙ ap (λ n. steps.attempt e.c.program e.input n (begun m)) at.code ∙ ap (λ z. machine.On (record m { frame = machine.at_node next z })) (sets-run (machine.counted m.frame) sets (machine.counted m.frame)))
    (agreed e.input (in_frame (moved e.c 0 (counted f)) s) there
    (record { frame = frame-done e f g (node.Moves sets next) 0 None None (concrete.Ptr registers.null) next agrees at.code refl tt; callers = same.callers; log = same.log; path = same.path; shots = same.shots })))

-- ---- ways

-- on a side that the run takes
took-along : (e : Scene) (k : ℕ) (m : machine.State) (s : State) (x : Node) (side : ℕ) (next : NodeId) (condition : List Tree) (kept : List ℕ) (shares : ℕ) → IsHere e k m s → StandsThere e m x → slice_get (successors_of x) side ≡ Some next
    → Attempts e m x (steps.branches side next (begun m)) → StandsAt e.c.program [] e.input none_gave (took e.c side (record s { condition = condition; kept = kept; shares = shares }))
took-along e k m s x side next condition kept shares h code leads does =
    let same = alike e.input s m h.agrees in
    let there : machine.State = record m { frame = machine.at_node next (machine.counted m.frame); events = m.events ++ Branched m.frame.func m.frame.node side ∷ [] } in
    let after : State = took e.c side (record s { condition = condition; kept = kept; shares = shares }) in
    record {
      steps = suc k;
      moment = there;
      runs = run-suc e.c.program e.input k ∙ ap (goes_on e.c.program e.input) h.runs ∙ step-attempt e.c.program e.input m ∙ ap (λ n. steps.attempt e.c.program e.input n (begun m)) code ∙ does;
      agrees = agreed e.input after there (record {
        frame = frame-done e s.frame m.frame x side None None (concrete.Ptr registers.null) next same.frame code leads tt;
        callers = same.callers;
        log = same.log;
        path = path-shown e.input (leaf.Branch s.frame.func (states.here s) side) (Branched m.frame.func m.frame.node side) s.path m.events same.path refl (λ j. Branched (same.frame.func j) (states.node_of (sym same.frame.place j)) side);
        shots = same.shots;
      });
    }

pub branch-along : (e : Scene) (k : ℕ) (m : machine.State) (s : State) (c : Operand) (first second : NodeId) → IsAt e k m s (node.Branch c first second) → AnswerGoesAlong e (executes e.c (node.Branch c first second) s)
branch-along e k m s c first second at =
    let x = node.Branch c first second in
    let h = at.here in
    let t = number_in s c in
    let vc = number-along e k m s c h at.given.0 in
    let truth = sized-along e k m s c 1 h at.given.0 at.fits.operands.0 (operand_is e.c.program m.frame c (type.Int 1) at.holds at.typed) in
    let does : Attempts e m x (cond (is_met_by e.input t) (steps.branches 0 first (begun m)) (steps.branches 1 second (begun m)))
    = λ j. cond ((vc j).bits == 1) (steps.branches 0 first (begun m)) (steps.branches 1 second (begun m)) in
    firm-first e k m s (c ∷ []) (branches e.c c) h
    (subst (λ u. AnswerGoesAlong e (choose_way e.c (u ∷ negation u ∷ []) s (took e.c))) (sym (truth-is t truth.has_width))
    (choose-along e k m s (t ∷ negation t ∷ []) (took e.c) h (λ side u. refl) (λ side condition kept shares met. by-side t truth does side condition kept shares met)))
  where
    by-side : (t : Tree) → IsTermOf (length e.input) 1 t → Attempts e m (node.Branch c first second) (cond (is_met_by e.input t) (steps.branches 0 first (begun m)) (steps.branches 1 second (begun m)))
        → (side : ℕ) (condition : List Tree) (kept : List ℕ) (shares : ℕ) → MeetsAt e.input (t ∷ negation t ∷ []) side → StandsAt e.c.program [] e.input none_gave (took e.c side (record s { condition = condition; kept = kept; shares = shares }))
    by-side t truth does zero condition kept shares met =
        took-along e k m s (node.Branch c first second) 0 first condition kept shares at.here at.code refl (does ∙ ap (λ b. cond b (steps.branches 0 first (begun m)) (steps.branches 1 second (begun m))) met)
    by-side t truth does (suc zero) condition kept shares met =
        took-along e k m s (node.Branch c first second) 1 second condition kept shares at.here at.code refl
        (does ∙ ap (λ b. cond b (steps.branches 0 first (begun m)) (steps.branches 1 second (begun m))) (unmet-side (length e.input) t e.input truth met))
    by-side t truth does (suc (suc side)) condition kept shares met = absurd met

-- ---- switches

-- the numbers of a switch are as wide as its value, and none stands twice
record AreCases (v : Tree) (cs : List SwitchCase) : Type 0 where
  widths : Each (λ c. c.number.width ≡ width_of v) cs
  numbers : CasesFit cs
  distinct : IsDistinct same_number (map (λ c. c.number) cs)

first-fits : (v : Tree) (c : SwitchCase) (cs : List SwitchCase) → AreCases v (c ∷ cs) → (c.number.width ≡ width_of v) × IsNumber c.number
first-fits v c cs h = (h.widths.0, h.numbers.0)

later-cases : (v : Tree) (c : SwitchCase) (cs : List SwitchCase) → AreCases v (c ∷ cs) → AreCases v cs
later-cases v c cs h = record { widths = h.widths.1; numbers = h.numbers.1; distinct = IsDistinct-tail same_number c.number (map (λ x. x.number) cs) h.distinct }

-- an input meets a case's side where the value has its number
met-case : (n : ℕ) (v : Tree) (c : SwitchCase) (i : List ℕ) → IsTerm n v → (c.number.width ≡ width_of v) × IsNumber c.number → is_met_by i (is_equal v (constant c.number)) ≡ ((value_of v i).bits == c.number.bits)
met-case n v c i h fits =
    ap (λ b. is_met_by i (cond b (equal v (constant c.number)) (number 1 0))) (eq-eqb (width_of v) c.number.width (sym fits.0))
    ∙ ap is_yes (value-folded_two Eq v (constant c.number) i (h.tree, fits.1, sym fits.0)) ∙ yes_truth ((value_of v i).bits == c.number.bits)

-- an input meets none of the terms
abbrev pub none_met : List ℕ → List Tree → Bool
none_met i [] = true
none_met i (t ∷ ts) = not (is_met_by i t) && none_met i ts

regroup : (p q r : Bool) → ((p && q) && r) ≡ (p && (q && r))
regroup true q r = refl
regroup false q r = refl

met-and_none : (n : ℕ) (t : Tree) (us : List Tree) (i : List ℕ) → IsTermOf n 1 t → AreTermsOf n 1 us → is_met_by i (and_none t us) ≡ (is_met_by i t && none_met i us)
met-and_none n t [] i h k = sym (and-true (is_met_by i t))
met-and_none n t (u ∷ us) i h k =
    let other = negation-fits n u k.0 in
    met-and_none n (folded_two (Bin ops.And) t (negation u)) us i (widths.calculated-fits n 1 ops.And t (negation u) h other) k.1
    ∙ ap (λ b. b && none_met i us) (met-and n t (negation u) i h other ∙ ap (λ b. is_met_by i t && b) (met-negation n u i k.0))
    ∙ regroup (is_met_by i t) (not (is_met_by i u)) (none_met i us)

pub met-none : (n : ℕ) (us : List Tree) (i : List ℕ) → AreTermsOf n 1 us → is_met_by i (none_of us) ≡ none_met i us
met-none n us i k = met-and_none n (number 1 1) us i (bit-fits n 1 (lit≤ tt)) k

-- two numbers of one width that differ
other-bits : (a b : Number) → a.width ≡ b.width → same_number a b ≡ false → (a.bits == b.bits) ≡ false
other-bits a b e h = sym (ap (λ t. t && (a.bits == b.bits)) (eq-eqb a.width b.width e)) ∙ h

-- a value with another number meets none of the cases
cases-none : (n : ℕ) (v : Tree) (cs : List SwitchCase) (a : Number) (i : List ℕ) → IsTerm n v → AreCases v cs → a.width ≡ width_of v → Each (λ y. same_number a y ≡ false) (map (λ c. c.number) cs) → (value_of v i).bits ≡ a.bits
    → none_met i (case_sides v cs) ≡ true
cases-none n v [] a i h e wide away is = refl
cases-none n v (c ∷ cs) a i h e wide away is =
    both-true (not (is_met_by i (is_equal v (constant c.number)))) (none_met i (case_sides v cs))
    (ap not (met-case n v c i h (first-fits v c cs e) ∙ ap (λ b. b == c.number.bits) is ∙ other-bits a c.number (wide ∙ sym e.widths.0) away.0))
    (cases-none n v cs a i h (later-cases v c cs e) wide away.1 is)

-- an input that meets none of the terms meets no side
unmet-end : (i : List ℕ) (ts : List Tree) (d : Tree) (j : ℕ) → none_met i ts ≡ true → is_met_by i d ≡ false → MeetsAt i (ts ++ d ∷ []) j → ⊥
unmet-end i [] d zero e away met = false≢true (sym away ∙ met)
unmet-end i [] d (suc j) e away met = met
unmet-end i (t ∷ ts) d zero e away met = false≢true (sym (not-true (is_met_by i t) (both (not (is_met_by i t)) (none_met i ts) e).0) ∙ met)
unmet-end i (t ∷ ts) d (suc j) e away met = unmet-end i ts d j (both (not (is_met_by i t)) (none_met i ts) e).1 away met

-- the side that an input meets is the one that the run takes
record IsTaken (bits first : ℕ) (cs : List SwitchCase) (otherwise : NodeId) (j : ℕ) : Type 0 where
  next : NodeId
  leads : slice_get (map (λ c. c.to) cs ++ otherwise ∷ []) j ≡ Some next
  takes : case_of bits first cs otherwise ≡ (first + j, next)

case-taken : (n : ℕ) (i : List ℕ) (v : Tree) (cs : List SwitchCase) (otherwise : NodeId) (d : Tree) (first j : ℕ) → IsTerm n v → AreCases v cs → is_met_by i d ≡ none_met i (case_sides v cs) → MeetsAt i (case_sides v cs ++ d ∷ []) j
    → IsTaken (value_of v i).bits first cs otherwise j
case-taken n i v [] otherwise d first zero h e none met = record { next = otherwise; leads = refl; takes = let z : first ≡ first + 0 = omega arith in ap (λ k. (k, otherwise)) z }
case-taken n i v [] otherwise d first (suc j) h e none met = absurd met
case-taken n i v (c ∷ cs) otherwise d first zero h e none met =
    let same : (value_of v i).bits ≡ c.number.bits = eqb-true _ _ (sym (met-case n v c i h (first-fits v c cs e)) ∙ met) in
    record {
      next = c.to;
      leads = refl;
      takes = ap (λ q. cond q (first, c.to) (case_of (value_of v i).bits (first + 1) cs otherwise)) (eq-eqb c.number.bits (value_of v i).bits (sym same)) ∙ (let z : first ≡ first + 0 = omega arith in ap (λ k. (k, c.to)) z);
    }
case-taken n i v (c ∷ cs) otherwise d first (suc j) h e none met =
    elim (cases_Bool (is_met_by i (is_equal v (constant c.number)))) [
      | inl here ↦ absurd (unmet-end i (case_sides v cs) d j (others here) (none ∙ ap (λ b. not b && none_met i (case_sides v cs)) here) met)
      | inr away ↦ later away (case-taken n i v cs otherwise d (first + 1) j h (later-cases v c cs e) (none ∙ ap (λ b. not b && none_met i (case_sides v cs)) away) met)
    ]
  where
    others : is_met_by i (is_equal v (constant c.number)) ≡ true → none_met i (case_sides v cs) ≡ true
    others here = cases-none n v cs c.number i h (later-cases v c cs e) e.widths.0 (IsDistinct-head same_number c.number (map (λ x. x.number) cs) e.distinct) (eqb-true _ _ (sym (met-case n v c i h (first-fits v c cs e)) ∙ here))

    later : is_met_by i (is_equal v (constant c.number)) ≡ false → IsTaken (value_of v i).bits (first + 1) cs otherwise j → IsTaken (value_of v i).bits first (c ∷ cs) otherwise (suc j)
    later away rest =
        let other : (c.number.bits == (value_of v i).bits) ≡ false = ne_eqb c.number.bits (value_of v i).bits (λ f. eqb-false (value_of v i).bits c.number.bits (sym (met-case n v c i h (first-fits v c cs e)) ∙ away) (sym f)) in
        let z : first + 1 + j ≡ first + suc j = omega arith in
        record {
          next = rest.next;
          leads = rest.leads;
          takes = ap (λ q. cond q (first, c.to) (case_of (value_of v i).bits (first + 1) cs otherwise)) other ∙ rest.takes ∙ ap (λ k. (k, rest.next)) z;
        }

-- the cases are as wide as the value
cases-wide : (t : RegType) (w : ℕ) (cs : List SwitchCase) → is_int t ≡ true → (type.Int w ≡ t) → are_cases t cs ≡ true → Each (λ c. c.number.width ≡ w) cs
cases-wide t w [] int is e = tt
cases-wide t w (c ∷ cs) int is e =
    let parts = both (same_type (type.Int c.number.width) t) (are_cases t cs) e in
    (same-width (type.Int c.number.width) w (same_is (type.Int c.number.width) t parts.0 ∙ sym is), cases-wide t w cs int is parts.1)
  where
    width-in : RegType → ℕ
    width-in (type.Int w) = w
    width-in type.Ptr = 0

    same-width : (u : RegType) (w : ℕ) → u ≡ type.Int w → width-in u ≡ w
    same-width u w is = ap width-in is

-- the type of a number
int-type : (t : RegType) → is_int t ≡ true → (w : ℕ) × (type.Int w ≡ t)
int-type (type.Int w) e = (w, refl)
int-type type.Ptr e = absurd (false≢true e)

distinct-node : (ns : List Node) (k : ℕ) → Each NodeHasDistinctCases ns → NodeHasDistinctCases (unwrap_or (slice_get ns k) node.Unreachable)
distinct-node [] k h = tt
distinct-node (n ∷ ns) zero h = h.0
distinct-node (n ∷ ns) (suc k) h = distinct-node ns k h.1

distinct-nodes : (fs : List Func) (k : ℕ) → Each (λ f. All NodeHasDistinctCases f.nodes) fs → Each NodeHasDistinctCases (machine.nodes_of (slice_get fs k))
distinct-nodes [] k h = tt
distinct-nodes (f ∷ fs) zero h = recursion_from_All NodeHasDistinctCases f.nodes h.0
distinct-nodes (f ∷ fs) (suc k) h = distinct-nodes fs k h.1

-- a program's switches are at its nodes
pub code-distinct : (p : ProgramData) (f : FuncId) (n : NodeId) → HasDistinctCases p → NodeHasDistinctCases (machine.node_at p f n)
code-distinct p f n h = distinct-node (machine.nodes_of (machine.func_at p f)) n.0 (distinct-nodes p.funcs f.0 (recursion_from_All (λ f. All NodeHasDistinctCases f.nodes) p.funcs h))

distinct-at : (e : Scene) (m : machine.State) (x : Node) → StandsThere e m x → NodeHasDistinctCases x
distinct-at e m x code = subst NodeHasDistinctCases code (code-distinct e.c.program m.frame.func m.frame.node e.cases)

pub switch-along : (e : Scene) (k : ℕ) (m : machine.State) (s : State) (value : Operand) (cases : List SwitchCase) (otherwise : NodeId) → IsAt e k m s (node.Switch value cases otherwise) → AnswerGoesAlong e (executes e.c (node.Switch value cases otherwise) s)
switch-along e k m s value cases otherwise at =
    let x = node.Switch value cases otherwise in
    let h = at.here in
    let v = number_in s value in
    let vv = number-along e k m s value h at.given.0 in
    let t : RegType = type_of (regs_of (func_at e.c.program m.frame.func)) value in
    let parts = both (is_int t) (are_cases t cases) at.typed in
    let int = int-type t parts.0 in
    let fits = sized-along e k m s value int.0 h at.given.0 at.fits.operands.0 (subst (λ u. HasType u (machine.value_in m.frame value)) (sym int.1) (operand_has e.c.program m.frame value at.holds)) in
    let are : AreCases v cases = record { widths = subst (λ w. Each (λ c. c.number.width ≡ w) cases) (sym fits.has_width) (cases-wide t int.0 cases parts.0 int.1 parts.1); numbers = at.fits.names; distinct = distinct-at e m x at.code } in
    let sides-fit = case_sides-fits (length e.input) v cases fits.term at.fits.names in
    firm-first e k m s (value ∷ []) (switches e.c value cases) h
    (choose-along e k m s (switch_sides v cases) (took e.c) h (λ side u. refl) (λ side condition kept shares met.
    let taken = case-taken (length e.input) e.input v cases otherwise (none_of (case_sides v cases)) 0 side fits.term are (met-none (length e.input) (case_sides v cases) e.input sides-fit) met in
    let z : 0 + side ≡ side = omega arith in
    took-along e k m s x side taken.next condition kept shares h at.code taken.leads
    (ap (λ b. steps.branches (case_of b 0 cases otherwise).0 (case_of b 0 cases otherwise).1 (begun m)) (ap (λ n. n.bits) vv)
    ∙ ap {A = ℕ × NodeId} {B = machine.Run} (λ q. steps.branches q.0 q.1 (begun m)) (taken.takes ∙ ap (λ k. (k, taken.next)) z))))
