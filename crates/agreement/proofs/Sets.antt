-- What is set stays so in every attempt.
use Rattle.std.proofs.Common.{◌≡◌, ℕ, zero, suc, Bool, true, false, ◌+◌, ◌-◌, ◌^◌, ◌==◌, ◌<◌, ◌≤◌, List, [], ◌∷◌, ◌++◌, length, map, Option, Some, None, refl, sym, ◌∙◌, ap, subst, arith, lit≤, length-append}
use Rattle.std.specs.Prelude.{cond, slice_get, nat_lt, IfSome}
use Rattle.std.specs.Option.{option_map, option_to_list}
use Rattle.std.specs.List.{flat_map, AllByRecursion as Each}
use Rattle.std.proofs.lemmas.List.{length-map}
use Rattle.bitnum.specs.declared.BinOp.{BinOp}
use Rattle.bitnum.specs.declared.BinOp.TheVariants as op
use Rattle.terms.specs.Tree.{Tree}
use Rattle.terms.specs.Value.{is_met_by}
use Rattle.term_store.specs.Condition.{answer, negation}
use Rattle.term_store.specs.declared.conditions.Added.{Added}
use Rattle.term_store.specs.declared.conditions.Added.TheVariants.{Held, Appended, Contradicted}
use Rattle.flat_ir.specs.declared.names.FuncId.{FuncId}
use Rattle.flat_ir.specs.declared.names.NodeId.{NodeId}
use Rattle.flat_ir.specs.declared.names.RegId.{RegId}
use Rattle.flat_ir.specs.declared.names.Location.{Location}
use Rattle.flat_ir.specs.declared.names.Location.TheVariants as location
use Rattle.flat_ir.specs.declared.names.ObjectName.{ObjectName}
use Rattle.flat_ir.specs.declared.nodes.MoveSet.{MoveSet}
use Rattle.flat_ir.specs.declared.nodes.Node.{Node}
use Rattle.flat_ir.specs.declared.nodes.Node.TheVariants as node
use Rattle.flat_ir.specs.declared.nodes.Operand.{Operand}
use Rattle.flat_ir.specs.declared.nodes.RegType.{RegType}
use Rattle.flat_ir.specs.declared.nodes.SwitchCase.{SwitchCase}
use Rattle.flat_ir.specs.declared.values.FaultKind.{FaultKind}
use Rattle.flat_ir.specs.declared.values.FaultKind.TheVariants as fault
use Rattle.flat_ir.specs.Machine.{type_at}
use Rattle.flat_ir.specs.Registers.{bytes_of_type}
use Rattle.flat_ir.specs.Skipped.{is_named}
use Rattle.flat_ir.specs.Steps.{made_by_malloc, call_result, width_of}
use Rattle.flat_ir.specs.Whole.{operands_of_part, results_of, successors_of}
use Rattle.flat_ir.proofs.MadeBasics.{each_append}
use Rattle.sym_bytes.specs.declared.names.Base.{Base}
use Rattle.sym_bytes.specs.declared.names.Base.TheVariants.{Null, Object}
use Rattle.sym_bytes.specs.declared.names.CallId.{CallId}
use Rattle.sym_bytes.specs.Answers.{Living, Alive, Dead, Byte, Undecided, Want, Join}
use Rattle.sym_bytes.specs.Answers as answers
use Rattle.sym_bytes.specs.Building.{behind, null, pointer_to, wide}
use Rattle.sym_bytes.specs.Byte.{SymByte}
use Rattle.sym_bytes.specs.Entry as entry
use Rattle.sym_bytes.specs.Entry.{Entry}
use Rattle.sym_bytes.specs.Pointers.{Pointer}
use Rattle.sym_bytes.specs.Value.{SymValue, Int, Ptr, Pending}
use Rattle.log_laws.specs.Logs.{life, position}
use Rattle.log_laws.specs.Needs.{need, location_of}
use Rattle.log_laws.specs.Reading.{read_byte}
use Rattle.leaves.specs.declared.options.Cause.TheVariants.{Shares, Steps}
use Rattle.leaves.specs.Events as events
use Rattle.sym_states.specs.declared.frames.Place.{Place}
use Rattle.sym_states.specs.declared.frames.Place.TheVariants.{At, End, Never}
use Rattle.sym_states.specs.declared.frames.Target.{Target}
use Rattle.sym_states.specs.Attempts.{knows, firm, faulted, fails_in, fails, passed, must, Reached, reached, access_alive, access_base, access, ReadBytes, either_way, read_on, read_one, before, read_all, reads, Valued, valued, joins, join_read, loaded, loads, writes, copies, makes, frees_object, frees_made, frees_alive, frees_base, frees, divides_by, divides, gives_term, picks, selects, mallocs, enters, skips, is_skipped, calls, took, ended, completed, completes, ends_first, leaves_to, ends_frame, is_main_end, returns, exits, computes, compares, casts, places, chooses, asks_memory, loads_at, stores_at, copies_from, takes_input, puts, branches, switches, executes, with_left, attempt_at, attempt}
use Rattle.sym_states.specs.Sides.{Offspring, Lives, Spends, by_verdict, offspring_of, offsprings, held_if, held_side, Offer, Alone, Several, alone, offer, share_of, child_of, children_of, forks, stays, Tested, Good, Bad, Answered, tested, test, taken, choose_way}
use Rattle.sym_states.specs.States.{Frame, State, Context, Child, Go, Stop, Step, Goes, Forks, Needs, Ends, Flow, On, Over, then_flow, then_step, opens, in_frame, appended, shown, here, code_of, made_now, counted, name_below, set, set_if, moved, node_of, gives, goes_on, unless_needed}
use Rattle.sym_states.specs.Terms.{byte_resolved, value_in, number_in, address_in, pending_in, term_in, calculated, compared_values, cast_to, chosen, low_byte, truth_of, size_in, moved_by_all, input_at, is_nonzero, has_quotient, is_small, is_within, is_start, branch_sides, case_sides, none_of, switch_sides, bytes_of_value, stored_bytes, joined_as, set_all}
use Rattle.sym_states.specs.Verdicts.{Verdict, Sat, Unsat, Spent}
use Rattle.typed_runs.specs.TypedRuns.{IsCallOf}
use Rattle.agreement.specs.Premises.{IsPlain, IsSetFrame, IsSetState, WaitAtCalls}
use Rattle.agreement.proofs.SetEnds.{GivesValue, gives_some, gives_set, moves_set, counted_set, waits_as, callee_is, entered_set, resumed_set}

-- ---- what is kept

-- what is set is so in the state, and its globals are the program's
pub record IsKept (c : Context) (s : State) : Type 0 where
  pub set : IsSetState c.program s
  pub globals : s.memory.globals ≡ c.program.globals

abbrev pub ChildIsKept : Context → Child → Type 0
ChildIsKept c (Go s) = IsKept c s
ChildIsKept c (Stop l) = Unit {0}

abbrev pub StepIsKept : Context → Step → Type 0
StepIsKept c (Goes s) = IsKept c s
StepIsKept c (Forks cs) = Each (ChildIsKept c) cs
StepIsKept c (Needs s calls) = IsKept c s
StepIsKept c (Ends l) = Unit {0}

-- during the attempt of a node: its frame stands there
record IsAt (c : Context) (x : Node) (s : State) : Type 0 where
  set : IsSetState c.program s
  globals : s.memory.globals ≡ c.program.globals
  code : code_of c.program s.frame ≡ x

abbrev FlowIsAt : {A : Type 0} → Context → (A → Type 0) → Flow A → Type 0
FlowIsAt c P (On x) = P x
FlowIsAt c P (Over step) = StepIsKept c step

then_flow-set : {A B : Type 0} (c : Context) (P : A → Type 0) (Q : B → Type 0) (flow : Flow A) (next : A → Flow B) → FlowIsAt c P flow → ((x : A) → P x → FlowIsAt c Q (next x)) → FlowIsAt c Q (then_flow flow next)
then_flow-set c P Q (On x) next h k = k x h
then_flow-set c P Q (Over step) next h k = h

then_step-set : {A : Type 0} (c : Context) (P : A → Type 0) (flow : Flow A) (next : A → Step) → FlowIsAt c P flow → ((x : A) → P x → StepIsKept c (next x)) → StepIsKept c (then_step flow next)
then_step-set c P (On x) next h k = k x h
then_step-set c P (Over step) next h k = h

-- ---- what is done to a state

kept-at : (c : Context) (x : Node) (s : State) → IsAt c x s → IsKept c s
kept-at c x s h = record { set = h.set; globals = h.globals }

-- a state whose frames and globals are those of another
as-before : (c : Context) (x : Node) (s u : State) → s.frame ≡ u.frame → s.callers ≡ u.callers → s.memory.globals ≡ u.memory.globals → IsAt c x s → IsAt c x u
as-before c x s u frame callers globals h = record {
  set = record {
    frame = subst (IsSetFrame c.program) frame h.set.frame;
    callers = subst (Each (IsSetFrame c.program)) callers h.set.callers;
    calls = subst (λ f. WaitAtCalls c.program f u.callers) frame (subst (λ fs. WaitAtCalls c.program s.frame fs) callers h.set.calls);
  };
  globals = sym globals ∙ h.globals;
  code = subst (λ f. code_of c.program f ≡ x) frame h.code;
}

added : (c : Context) (x : Node) (e : Entry) (s : State) → IsAt c x s → IsAt c x (appended e s)
added c x e s h = as-before c x s (appended e s) refl refl refl h

more-shown : (c : Context) (x : Node) (e : events.Event) (s : State) → IsAt c x s → IsAt c x (shown e s)
more-shown c x e s h = as-before c x s (shown e s) refl refl refl h

conditioned : (c : Context) (x : Node) (condition : List Tree) (kept : List ℕ) (shares : ℕ) (s : State) → IsAt c x s → IsAt c x (record s { condition = condition; kept = kept; shares = shares })
conditioned c x condition kept shares s h = as-before c x s (record s { condition = condition; kept = kept; shares = shares }) refl refl refl h

-- the frame is another one, of the same function
framed : (c : Context) (s u : State) (f : Frame) → u ≡ in_frame f s → f.func ≡ s.frame.func → IsSetFrame c.program f → IsKept c s → IsKept c u
framed c s u f e func set h = subst (IsKept c) (sym e) (record {
  set = record { frame = set; callers = h.set.callers; calls = waits_as c.program s.frame f s.callers (sym func) h.set.calls };
  globals = h.globals;
})

-- the node is done
gives-kept : (c : Context) (x : Node) (m : NodeId) (result : Option RegId) (v : Option SymValue) (s : State) → IsPlain c → slice_get (successors_of x) 0 ≡ Some m → results_of x ≡ option_to_list result → GivesValue result v
    → IsAt c x s → StepIsKept c (gives c result v s)
gives-kept c x m result v s plain leads results given h =
    framed c s _ _ refl (same_func c result v s) (gives_set c s.frame x 0 m result v (counted s.frame).counts plain h.set.frame h.code leads results given) (kept-at c x s h)
  where
    same_func : (c : Context) (result : Option RegId) (v : Option SymValue) (s : State) → (moved c 0 (set_if result v (counted s.frame))).func ≡ s.frame.func
    same_func c None v s = refl
    same_func c (Some r) None s = refl
    same_func c (Some r) (Some v) s = refl

-- ---- what is needed first, faults and tests

unless_needed-set : (c : Context) (x : Node) (at : Location) (needed : List CallId) (s : State) → IsAt c x s → FlowIsAt c (IsAt c x) (unless_needed at needed s)
unless_needed-set c x at [] s h = h
unless_needed-set c x at (call ∷ needed) s h = kept-at c x s h

knows-set : (c : Context) (x : Node) (w : Want) (s : State) → IsAt c x s → FlowIsAt c (IsAt c x) (knows w s)
knows-set c x w s h = unless_needed-set c x (location_of w) (need w s.memory.log) s h

after-firm : (c : Context) (x : Node) (operands : List Operand) (s : State) (next : State → Step) → IsAt c x s → ((u : State) → IsAt c x u → StepIsKept c (next u)) → StepIsKept c (then_step (firm operands s) next)
after-firm c x operands s next h k = then_step-set c (IsAt c x) (firm operands s) next (unless_needed-set c x location.Result (pending_in s operands) s h) k

fails_in-set : (c : Context) (x : Node) (target : Option Target) (kind : FaultKind) (s : State) → IsAt c x s → StepIsKept c (fails_in target kind s)
fails_in-set c x None kind s h = then_step-set c (IsAt c x) (knows answers.Output s) (faulted kind) (knows-set c x answers.Output s h) (λ u g. tt)
fails_in-set c x (Some target) kind s h = tt

fails-set : (c : Context) (x : Node) (kind : FaultKind) (s : State) → IsAt c x s → StepIsKept c (fails kind s)
fails-set c x kind s h = fails_in-set c x s.target kind s h

abbrev TestedIsAt : Context → Node → Tested → Type 0
TestedIsAt c x (Good s) = IsAt c x s
TestedIsAt c x (Bad s) = IsAt c x s
TestedIsAt c x (Answered step) = StepIsKept c step

-- each side is one of so many
abbrev OffspringWithin : ℕ → Offspring → Type 0
OffspringWithin limit (Lives side condition kept) = side < limit
OffspringWithin limit (Spends condition) = Unit {0}

abbrev OfferWithin : Context → Node → ℕ → Offer → Type 0
OfferWithin c x limit (Alone side s) = (side < limit) × IsAt c x s
OfferWithin c x limit (Several os) = Each (OffspringWithin limit) os

verdict-within : (v : Verdict) (limit side : ℕ) (condition : List Tree) → side < limit → Each (OffspringWithin limit) (by_verdict v side condition)
verdict-within (Sat input) limit side condition h = (h, tt)
verdict-within Unsat limit side condition h = tt
verdict-within Spent limit side condition h = (tt, tt)

offspring-within : (c : Context) (a : Added) (s : State) (t : Tree) (limit side : ℕ) → side < limit → Each (OffspringWithin limit) (offspring_of c a s t side)
offspring-within c Appended s t limit side h =
    let condition : List Tree = s.condition ++ t ∷ [] in
    elim (is_met_by s.kept t) as (λ b. Each (OffspringWithin limit) (elim b [ true ↦ Lives side condition s.kept ∷ [] | false ↦ by_verdict (c.verdict condition (length s.kept)) side condition ]))
    [ true ↦ (h, tt) | false ↦ verdict-within (c.verdict condition (length s.kept)) limit side condition h ]
offspring-within c Held s t limit side h = (h, tt)
offspring-within c Contradicted s t limit side h = tt

offsprings-within : (c : Context) (s : State) (limit side : ℕ) (ts : List Tree) → side + length ts ≤ limit → Each (OffspringWithin limit) (offsprings c s side ts)
offsprings-within c s limit side [] h = tt
offsprings-within c s limit side (t ∷ ts) h =
    each_append (OffspringWithin limit) (offspring_of c (answer s.condition t) s t side) (offsprings c s (side + 1) ts)
    (offspring-within c (answer s.condition t) s t limit side (omega (arith, h))) (offsprings-within c s limit (side + 1) ts (omega (arith, h)))

held-within : (a : Added) (limit side : ℕ) (more : Option ℕ) → side < limit → IfSome more (λ k. k < limit) → IfSome (held_if a side more) (λ k. k < limit)
held-within Held limit side more h k = h
held-within Appended limit side more h k = k
held-within Contradicted limit side more h k = k

held_side-within : (condition : List Tree) (limit side : ℕ) (ts : List Tree) → side + length ts ≤ limit → IfSome (held_side condition side ts) (λ k. k < limit)
held_side-within condition limit side [] h = tt
held_side-within condition limit side (t ∷ ts) h = held-within (answer condition t) limit side (held_side condition (side + 1) ts) (omega (arith, h)) (held_side-within condition limit (side + 1) ts (omega (arith, h)))

alone-set : (c : Context) (x : Node) (limit : ℕ) (os : List Offspring) (s : State) → IsAt c x s → Each (OffspringWithin limit) os → OfferWithin c x limit (alone os s)
alone-set c x limit [] s h k = tt
alone-set c x limit (Lives side condition kept ∷ []) s h k = (k.0, conditioned c x condition kept s.shares s h)
alone-set c x limit (Lives side condition kept ∷ o ∷ os) s h k = k
alone-set c x limit (Spends condition ∷ os) s h k = k

offer-set : (c : Context) (x : Node) (sides : List Tree) (s : State) → IsAt c x s → OfferWithin c x (length sides) (offer c sides s)
offer-set c x sides s h =
    elim (held_side s.condition 0 sides) as (λ o. IfSome o (λ k. k < length sides) → OfferWithin c x (length sides) (elim o [ Some side ↦ Alone side s | None ↦ alone (offsprings c s 0 sides) s ])) [
      | Some side ↦ λ within. (within, h)
      | None ↦ λ within. alone-set c x (length sides) (offsprings c s 0 sides) s h (offsprings-within c s (length sides) 0 sides (omega arith))
    ] (held_side-within s.condition (length sides) 0 sides (omega arith))

-- what is taken of a side is kept
abbrev TakesKept : Context → Node → ℕ → (ℕ → State → State) → Type 0
TakesKept c x limit take = (side : ℕ) (t : State) → side < limit → IsAt c x t → IsKept c (take side t)

child-kept : (c : Context) (x : Node) (limit : ℕ) (take : ℕ → State → State) (s : State) (shares : ℕ) (o : Offspring) → TakesKept c x limit take → OffspringWithin limit o → IsAt c x s → ChildIsKept c (child_of take s shares o)
child-kept c x limit take s shares (Lives side condition kept) takes within h = takes side (record s { condition = condition; kept = kept; shares = shares }) within (conditioned c x condition kept shares s h)
child-kept c x limit take s shares (Spends condition) takes within h = tt

children-kept : (c : Context) (x : Node) (limit : ℕ) (take : ℕ → State → State) (s : State) (k j : ℕ) (os : List Offspring) → TakesKept c x limit take → Each (OffspringWithin limit) os → IsAt c x s
    → Each (ChildIsKept c) (children_of take s k j os)
children-kept c x limit take s k j [] takes within h = tt
children-kept c x limit take s k j (o ∷ os) takes within h = (child-kept c x limit take s (share_of s.shares k j) o takes within.0 h, children-kept c x limit take s k (j + 1) os takes within.1 h)

forks-kept : (c : Context) (x : Node) (limit : ℕ) (take : ℕ → State → State) (s : State) (os : List Offspring) → TakesKept c x limit take → Each (OffspringWithin limit) os → IsAt c x s → StepIsKept c (forks take s os)
forks-kept c x limit take s os takes within h =
    elim (nat_lt s.shares (length os)) as (λ b. StepIsKept c (elim b [ true ↦ opens Shares s | false ↦ Forks (children_of take s (length os) 0 os) ]))
    [ true ↦ tt | false ↦ children-kept c x limit take s (length os) 0 os takes within h ]

tested-if : (c : Context) (x : Node) (b : Bool) (t : State) → IsAt c x t → TestedIsAt c x (cond b (Good t) (Bad t))
tested-if c x true t h = h
tested-if c x false t h = h

tested-set : (c : Context) (x : Node) (limit : ℕ) (s : State) (o : Offer) → IsAt c x s → OfferWithin c x limit o → TestedIsAt c x (tested s o)
tested-set c x limit s (Alone side t) h k = tested-if c x (side == 0) t k.1
tested-set c x limit s (Several os) h k = forks-kept c x limit stays s os (λ side t within g. kept-at c x t g) k h

test-set : (c : Context) (x : Node) (t : Tree) (s : State) → IsAt c x s → TestedIsAt c x (test c t s)
test-set c x t s h = tested-set c x 2 s (offer c (t ∷ negation t ∷ []) s) h (offer-set c x (t ∷ negation t ∷ []) s h)

taken-kept : (c : Context) (x : Node) (limit : ℕ) (take : ℕ → State → State) (s : State) (o : Offer) → TakesKept c x limit take → IsAt c x s → OfferWithin c x limit o → StepIsKept c (taken take s o)
taken-kept c x limit take s (Alone side t) takes h k = takes side t k.0 k.1
taken-kept c x limit take s (Several os) takes h k = forks-kept c x limit take s os takes k h

choose_way-kept : (c : Context) (x : Node) (sides : List Tree) (s : State) (take : ℕ → State → State) → TakesKept c x (length sides) take → IsAt c x s → StepIsKept c (choose_way c sides s take)
choose_way-kept c x sides s take takes h = taken-kept c x (length sides) take s (offer c sides s) takes h (offer-set c x sides s h)

passed-set : (c : Context) (x : Node) (kind : FaultKind) (t : Tested) → TestedIsAt c x t → FlowIsAt c (IsAt c x) (passed kind t)
passed-set c x kind (Good s) h = h
passed-set c x kind (Bad s) h = fails-set c x kind s h
passed-set c x kind (Answered step) h = h

must-set : (c : Context) (x : Node) (t : Tree) (kind : FaultKind) (s : State) → IsAt c x s → FlowIsAt c (IsAt c x) (must c t kind s)
must-set c x t kind s h = passed-set c x kind (test c t s) (test-set c x t s h)

-- ---- memory

abbrev ReachedAt : Context → Node → Reached → Type 0
ReachedAt c x r = IsAt c x r.state

access_alive-set : (c : Context) (x : Node) (living : Living) (count : ℕ) (y : ObjectName) (offset : Tree) (s : State) → IsAt c x s → FlowIsAt c (ReachedAt c x) (access_alive c living count y offset s)
access_alive-set c x Dead count y offset s h = fails-set c x fault.UseAfterFree s h
access_alive-set c x (Alive size) count y offset s h =
    then_flow-set c (IsAt c x) (ReachedAt c x) (must c (is_within size count offset) fault.OutOfBounds s) (reached y offset) (must-set c x (is_within size count offset) fault.OutOfBounds s h) (λ u g. g)

access_base-set : (c : Context) (x : Node) (count : ℕ) (base : Base) (offset : Tree) (s : State) → IsAt c x s → FlowIsAt c (ReachedAt c x) (access_base c count base offset s)
access_base-set c x count Null offset s h = fails-set c x fault.NullAccess s h
access_base-set c x count (Object y) offset s h =
    then_flow-set c (IsAt c x) (ReachedAt c x) (knows (answers.Life y) s) (λ u. access_alive c (life u.memory.globals y u.memory.log) count y offset u)
    (knows-set c x (answers.Life y) s h) (λ u g. access_alive-set c x (life u.memory.globals y u.memory.log) count y offset u g)

access-set : (c : Context) (x : Node) (count : ℕ) (p : Pointer) (s : State) → IsAt c x s → FlowIsAt c (ReachedAt c x) (access c count p s)
access-set c x count p s h = access_base-set c x count p.base p.offset s h

abbrev ReadAt : Context → Node → ReadBytes → Type 0
ReadAt c x r = IsAt c x r.state

either_way-set : {A : Type 0} (c : Context) (x : Node) (P : A → Type 0) (t : Tested) (next : State → Flow A) → TestedIsAt c x t → ((u : State) → IsAt c x u → FlowIsAt c P (next u)) → FlowIsAt c P (either_way t next)
either_way-set c x P (Good s) next h k = k s h
either_way-set c x P (Bad s) next h k = k s h
either_way-set c x P (Answered step) next h k = h

read_on-set : (c : Context) (x : Node) (y : ObjectName) (at : Tree) (tests : ℕ) (s : State) → IsAt c x s → FlowIsAt c (ReadAt c x) (read_on c y at tests s)
read_on-set c x y at zero s h = tt
read_on-set c x y at (suc tests) s h =
    elim (read_byte s.memory.globals s.condition y at s.memory.log)
    as (λ r. FlowIsAt c (ReadAt c x) (elim r [ Byte b ↦ On (record { bytes = b ∷ []; state = s }) | Undecided t ↦ either_way (test c t s) (λ u. read_on c y at tests u) ])) [
      | Byte b ↦ h
      | Undecided t ↦ either_way-set c x (ReadAt c x) (test c t s) (λ u. read_on c y at tests u) (test-set c x t s h) (λ u g. read_on-set c x y at tests u g)
    ]

read_all-set : (c : Context) (x : Node) (y : ObjectName) (offset : Tree) (count j : ℕ) (s : State) → IsAt c x s → FlowIsAt c (ReadAt c x) (read_all c y offset count j s)
read_all-set c x y offset zero j s h = h
read_all-set c x y offset (suc count) j s h =
    then_flow-set c (ReadAt c x) (ReadAt c x) (read_one c y (behind offset j) s) (λ r. then_flow (read_all c y offset count (j + 1) r.state) (before r.bytes))
    (read_on-set c x y (behind offset j) (2 ^ 64 - 1) s h)
    (λ r g. then_flow-set c (ReadAt c x) (ReadAt c x) (read_all c y offset count (j + 1) r.state) (before r.bytes) (read_all-set c x y offset count (j + 1) r.state g) (λ more f. f))

reads-set : (c : Context) (x : Node) (count : ℕ) (r : Reached) → ReachedAt c x r → FlowIsAt c (ReadAt c x) (reads c count r)
reads-set c x count r h =
    then_flow-set c (IsAt c x) (ReadAt c x) (knows (answers.Bytes r.object r.offset count) r.state) (read_all c r.object r.offset count 0)
    (knows-set c x (answers.Bytes r.object r.offset count) r.state h) (λ u g. read_all-set c x r.object r.offset count 0 u g)

abbrev ValuedAt : Context → Node → Valued → Type 0
ValuedAt c x v = IsAt c x v.state

joins-set : (c : Context) (x : Node) (j : Join) (s : State) → IsAt c x s → FlowIsAt c (ValuedAt c x) (joins c j s)
joins-set c x (answers.Value v) s h = h
joins-set c x (answers.Needs needed) s h = then_flow-set c (IsAt c x) (ValuedAt c x) (unless_needed location.Result needed s) (valued null) (unless_needed-set c x location.Result needed s h) (λ u g. g)
joins-set c x (answers.Test t v) s h = then_flow-set c (IsAt c x) (ValuedAt c x) (must c t fault.MixedBytes s) (valued v) (must-set c x t fault.MixedBytes s h) (λ u g. g)
joins-set c x answers.Mixed s h = fails-set c x fault.MixedBytes s h

loads-kept : (c : Context) (x : Node) (m : NodeId) (result : RegId) (t : RegType) (r : Reached) → IsPlain c → slice_get (successors_of x) 0 ≡ Some m → results_of x ≡ result ∷ [] → ReachedAt c x r → StepIsKept c (loads c result t r)
loads-kept c x m result t r plain leads results h =
    then_step-set c (ValuedAt c x) (then_flow (reads c (bytes_of_type t) r) (join_read c t)) (loaded c result)
    (then_flow-set c (ReadAt c x) (ValuedAt c x) (reads c (bytes_of_type t) r) (join_read c t) (reads-set c x (bytes_of_type t) r h)
    (λ b g. joins-set c x (joined_as t (map (byte_resolved b.state.snapshots) b.bytes)) b.state g))
    (λ v g. let event = events.Load v.state.frame.func (here v.state) v.value in
    gives-kept c x m (Some result) (Some v.value) (shown event v.state) plain leads results tt (more-shown c x event v.state g))

writes-kept : (c : Context) (x : Node) (m : NodeId) (bytes : List SymByte) (r : Reached) → IsPlain c → slice_get (successors_of x) 0 ≡ Some m → results_of x ≡ [] → ReachedAt c x r → StepIsKept c (writes c bytes r)
writes-kept c x m bytes r plain leads results h =
    let e = entry.Write r.object r.offset bytes in
    gives-kept c x m None None (appended e r.state) plain leads results tt (added c x e r.state h)

makes-kept : (c : Context) (x : Node) (m : NodeId) (result : Option RegId) (size : Tree) (s : State) → IsPlain c → slice_get (successors_of x) 0 ≡ Some m → results_of x ≡ option_to_list result → IsAt c x s → StepIsKept c (makes c result size s)
makes-kept c x m result size s plain leads results h =
    let v = pointer_to (made_now s.frame) 0 in
    let e = entry.Alloc (made_now s.frame) size in
    gives-kept c x m result (Some v) (appended e s) plain leads results (gives_some result v) (added c x e s h)

frees_made-kept : (c : Context) (x : Node) (m : NodeId) (made : Bool) (y : ObjectName) (offset : Tree) (s : State) → IsPlain c → slice_get (successors_of x) 0 ≡ Some m → results_of x ≡ [] → IsAt c x s → StepIsKept c (frees_made c made y offset s)
frees_made-kept c x m true y offset s plain leads results h =
    then_step-set c (IsAt c x) (must c (is_start offset) fault.BadFree s) (frees_object c y) (must-set c x (is_start offset) fault.BadFree s h)
    (λ u g. gives-kept c x m None None (appended (entry.Free y) u) plain leads results tt (added c x (entry.Free y) u g))
frees_made-kept c x m false y offset s plain leads results h = fails-set c x fault.BadFree s h

frees_alive-kept : (c : Context) (x : Node) (m : NodeId) (living : Living) (y : ObjectName) (offset : Tree) (s : State) → IsPlain c → slice_get (successors_of x) 0 ≡ Some m → results_of x ≡ [] → IsAt c x s → StepIsKept c (frees_alive c living y offset s)
frees_alive-kept c x m Dead y offset s plain leads results h = fails-set c x fault.UseAfterFree s h
frees_alive-kept c x m (Alive size) y offset s plain leads results h = frees_made-kept c x m (made_by_malloc c.program y) y offset s plain leads results h

frees_base-kept : (c : Context) (x : Node) (m : NodeId) (base : Base) (offset : Tree) (s : State) → IsPlain c → slice_get (successors_of x) 0 ≡ Some m → results_of x ≡ [] → IsAt c x s → StepIsKept c (frees_base c base offset s)
frees_base-kept c x m Null offset s plain leads results h =
    then_step-set c (IsAt c x) (must c (is_start offset) fault.BadFree s) (goes_on c) (must-set c x (is_start offset) fault.BadFree s h) (λ u g. gives-kept c x m None None u plain leads results tt g)
frees_base-kept c x m (Object y) offset s plain leads results h =
    then_step-set c (IsAt c x) (knows (answers.Life y) s) (λ u. frees_alive c (life u.memory.globals y u.memory.log) y offset u)
    (knows-set c x (answers.Life y) s h) (λ u g. frees_alive-kept c x m (life u.memory.globals y u.memory.log) y offset u plain leads results g)

-- ---- numbers

divides_signed-set : (c : Context) (x : Node) (a b : Tree) (s : State) → IsAt c x s → FlowIsAt c (IsAt c x) (then_flow (divides_by c b s) (must c (has_quotient a b) fault.DivideOverflow))
divides_signed-set c x a b s h =
    then_flow-set c (IsAt c x) (IsAt c x) (divides_by c b s) (must c (has_quotient a b) fault.DivideOverflow) (must-set c x (is_nonzero b) fault.DivideByZero s h) (λ u g. must-set c x (has_quotient a b) fault.DivideOverflow u g)

divides-set : (c : Context) (x : Node) (o : BinOp) (a b : Tree) (s : State) → IsAt c x s → FlowIsAt c (IsAt c x) (divides c o a b s)
divides-set c x op.Udiv a b s h = must-set c x (is_nonzero b) fault.DivideByZero s h
divides-set c x op.Urem a b s h = must-set c x (is_nonzero b) fault.DivideByZero s h
divides-set c x op.Sdiv a b s h = divides_signed-set c x a b s h
divides-set c x op.Srem a b s h = divides_signed-set c x a b s h
divides-set c x _ a b s h = h

picks-kept : (c : Context) (x : Node) (m : NodeId) (result : RegId) (a b : SymValue) (t : Tested) → IsPlain c → slice_get (successors_of x) 0 ≡ Some m → results_of x ≡ result ∷ [] → TestedIsAt c x t → StepIsKept c (picks c result a b t)
picks-kept c x m result a b (Good s) plain leads results h = gives-kept c x m (Some result) (Some a) s plain leads results tt h
picks-kept c x m result a b (Bad s) plain leads results h = gives-kept c x m (Some result) (Some b) s plain leads results tt h
picks-kept c x m result a b (Answered step) plain leads results h = h

selects-kept : (c : Context) (x : Node) (m : NodeId) (result : RegId) (condition : Tree) (a b : SymValue) (s : State) → IsPlain c → slice_get (successors_of x) 0 ≡ Some m → results_of x ≡ result ∷ [] → IsAt c x s
    → StepIsKept c (selects c result condition a b s)
selects-kept c x m result condition (Int a) b s plain leads results h = gives-kept c x m (Some result) (Some (Int (chosen condition a (term_in b)))) s plain leads results tt h
selects-kept c x m result condition (Ptr p) b s plain leads results h = picks-kept c x m result (Ptr p) b (test c (truth_of condition) s) plain leads results (test-set c x (truth_of condition) s h)
selects-kept c x m result condition (Pending call t) b s plain leads results h = picks-kept c x m result (Pending call t) b (test c (truth_of condition) s) plain leads results (test-set c x (truth_of condition) s h)

mallocs-kept : (c : Context) (x : Node) (m : NodeId) (result : Option RegId) (size : Tree) (t : Tested) → IsPlain c → slice_get (successors_of x) 0 ≡ Some m → results_of x ≡ option_to_list result → TestedIsAt c x t → StepIsKept c (mallocs c result size t)
mallocs-kept c x m result size (Good s) plain leads results h = makes-kept c x m result size s plain leads results h
mallocs-kept c x m result size (Bad s) plain leads results h = gives-kept c x m result (Some null) s plain leads results (gives_some result null) h
mallocs-kept c x m result size (Answered step) plain leads results h = h

-- ---- calls and ends

pub none-skipped : (c : Context) (f : FuncId) (target : Option Target) → c.skips ≡ [] → is_skipped c f target ≡ false
none-skipped c f None e = ap (λ names. is_named names f) e
none-skipped c f (Some target) e = refl

calls-kept : (c : Context) (callee : FuncId) (args : List Operand) (result : Option RegId) (next : NodeId) (s : State) → IsPlain c → IsAt c (node.Call callee args result next) s → StepIsKept c (calls c callee (map (value_in s) args) result s)
calls-kept c callee args result next s plain h =
    let values = map (value_in s) args in
    let f = callee_is c s.frame callee args result next plain h.code in
    subst (λ b. StepIsKept c (elim b [ true ↦ skips c callee values result s | false ↦ enters c callee values s ])) (sym (none-skipped c callee s.target plain.no_skips)) (record {
      set = record {
        frame = entered_set c callee f.code values (name_below s.frame) plain f.there (length-map args (value_in s) ∙ f.size) f.few;
        callers = (counted_set c.program s.frame h.set.frame, h.set.callers);
        calls = (subst (λ (x : Node). IsCallOf callee x) (sym h.code) refl, waits_as c.program s.frame (counted s.frame) s.callers refl h.set.calls);
      };
      globals = h.globals;
    })

took-kept : (c : Context) (x : Node) (limit : ℕ) → IsPlain c → limit ≤ length (successors_of x) → results_of x ≡ [] → TakesKept c x limit (took c)
took-kept c x limit plain few results side s within h =
    let event = events.Branch s.frame.func (here s) side in
    let there = next_there (successors_of x) side (omega (arith, within, few)) in
    framed c (shown event s) (took c side s) (moved c side (counted s.frame)) refl refl
    (gives_set c s.frame x side there.0 None None (counted s.frame).counts plain h.set.frame h.code there.1 results tt)
    (kept-at c x (shown event s) (more-shown c x event s h))
  where
    next_there : (ms : List NodeId) (k : ℕ) → k < length ms → (m : NodeId) × (slice_get ms k ≡ Some m)
    next_there [] k within = absurd (omega (arith, within))
    next_there (m ∷ ms) zero within = (m, refl)
    next_there (m ∷ ms) (suc k) within = next_there ms k (omega (arith, within))

completes-kept : (c : Context) (x : Node) (v : Option SymValue) (s : State) → IsAt c x s → StepIsKept c (completes v s)
completes-kept c x v s h = then_step-set c (IsAt c x) (knows answers.Output s) (completed v) (knows-set c x answers.Output s h) (λ u g. tt)

ends_first-kept : (c : Context) (x : Node) (target : Option Target) (v : Option SymValue) (s : State) → IsAt c x s → StepIsKept c (ends_first target v s)
ends_first-kept c x None v s h = completes-kept c x v s h
ends_first-kept c x (Some target) v s h = tt

-- a frame that is counted ends
leaves_to-kept : (c : Context) (value : Option Operand) (callers : List Frame) (s u : State) → IsPlain c → IsAt c (node.Ret value) s → IsAt c (node.Ret value) u → callers ≡ s.callers → StepIsKept c (leaves_to c (option_map (value_in s) value) callers u)
leaves_to-kept c value [] s u plain h k e = ends_first-kept c (node.Ret value) u.target (option_map (value_in s) value) u k
leaves_to-kept c value (caller ∷ callers) s u plain h k e =
    let set = subst (Each (IsSetFrame c.program)) (sym e) h.set.callers in
    let waits = subst (WaitAtCalls c.program s.frame) (sym e) h.set.calls in
    record {
      set = record {
        frame = resumed_set c s value caller plain set.0 waits.0 h.code;
        callers = set.1;
        calls = waits_as c.program caller _ callers (resumed_func c (call_result (code_of c.program caller)) (option_map (value_in s) value) caller) waits.1;
      };
      globals = k.globals;
    }
  where
    resumed_func : (c : Context) (result : Option RegId) (v : Option SymValue) (f : Frame) → f.func ≡ (moved c 0 (set_if result v f)).func
    resumed_func c None v f = refl
    resumed_func c (Some r) None f = refl
    resumed_func c (Some r) (Some v) f = refl

counted-at : (c : Context) (x : Node) (s : State) → IsAt c x s → IsAt c x (in_frame (counted s.frame) s)
counted-at c x s h = record {
  set = record { frame = counted_set c.program s.frame h.set.frame; callers = h.set.callers; calls = waits_as c.program s.frame (counted s.frame) s.callers refl h.set.calls };
  globals = h.globals;
  code = h.code;
}

returns-kept : (c : Context) (value : Option Operand) (s : State) → IsPlain c → IsAt c (node.Ret value) s → StepIsKept c (returns c value s)
returns-kept c value s plain h =
    let x = node.Ret value in
    let u = in_frame (counted s.frame) s in
    elim (is_main_end s.target s.callers) as (λ b. StepIsKept c (elim b [
      | true ↦ then_step (firm (option_to_list value) s) (λ u. completes (option_map (value_in u) value) u)
      | false ↦ ends_frame c (option_map (value_in s) value) (in_frame (counted s.frame) s)
    ])) [
      | true ↦ after-firm c x (option_to_list value) s (λ u. completes (option_map (value_in u) value) u) h (λ u g. completes-kept c x (option_map (value_in u) value) u g)
      | false ↦ leaves_to-kept c value s.callers s (ended c u) plain h (as-before c x u (ended c u) refl refl refl (counted-at c x s h)) refl
    ]

exits-kept : (c : Context) (x : Node) (target : Option Target) (v : SymValue) (s : State) → IsAt c x s → StepIsKept c (exits target v s)
exits-kept c x None v s h = completes-kept c x (Some v) s h
exits-kept c x (Some target) v s h = fails-set c x fault.NoReturn s h

-- ---- nodes

moves-kept : (c : Context) (ms : List MoveSet) (next : NodeId) (s : State) → IsPlain c → IsAt c (node.Moves ms next) s → StepIsKept c (goes_on c (in_frame (set_all s ms s.frame) s))
moves-kept c ms next s plain h =
    let f = set_all s ms s.frame in
    framed c s _ _ refl (all_func s ms s.frame) (moves_set c s ms next (counted f).counts plain h.set.frame h.code) (kept-at c (node.Moves ms next) s h)
  where
    all_func : (old : State) (ms : List MoveSet) (f : Frame) → (set_all old ms f).func ≡ f.func
    all_func old [] f = refl
    all_func old (m ∷ ms) f = all_func old ms (set m.register (value_in old m.value) f)

-- a switch has as many sides as successors
switch-size : (v : Tree) (cs : List SwitchCase) (otherwise : NodeId) → length (switch_sides v cs) ≤ length (map (λ k. k.to) cs ++ otherwise ∷ [])
switch-size v cs otherwise =
    let few = sides-size v cs in
    omega (arith, few, length-append (case_sides v cs) (none_of (case_sides v cs) ∷ []), length-append (map (λ k. k.to) cs) (otherwise ∷ []), length-map cs (λ (k : SwitchCase). k.to))
  where
    sides-size : (v : Tree) (cs : List SwitchCase) → length (case_sides v cs) ≡ length cs
    sides-size v [] = refl
    sides-size v (k ∷ cs) = ap suc (sides-size v cs)

executes-kept : (c : Context) (x : Node) (s : State) → IsPlain c → IsAt c x s → StepIsKept c (executes c x s)
executes-kept c (node.Bin o a b result next) s plain h =
    let x = node.Bin o a b result next in
    after-firm c x (a ∷ b ∷ []) s (computes c o a b result) h (λ u g.
    then_step-set c (IsAt c x) (divides c o (number_in u a) (number_in u b) u) (gives_term c result (calculated o (number_in u a) (number_in u b)))
    (divides-set c x o (number_in u a) (number_in u b) u g) (λ v f. gives-kept c x next (Some result) (Some (Int (calculated o (number_in u a) (number_in u b)))) v plain refl refl tt f))
executes-kept c (node.Cmp p a b result next) s plain h =
    let x = node.Cmp p a b result next in
    after-firm c x (a ∷ b ∷ []) s (compares c p a b result) h (λ u g. gives-kept c x next (Some result) (Some (Int (compared_values p (value_in u a) (value_in u b)))) u plain refl refl tt g)
executes-kept c (node.Cast o a result next) s plain h =
    let x = node.Cast o a result next in
    after-firm c x (a ∷ []) s (casts c o a result) h (λ u g. gives-kept c x next (Some result) (Some (Int (cast_to o (width_of (type_at c.program u.frame.func result)) (number_in u a)))) u plain refl refl tt g)
executes-kept c (node.Gep base parts result next) s plain h =
    let x = node.Gep base parts result next in
    after-firm c x (base ∷ flat_map operands_of_part parts) s (places c base parts result) h (λ u g.
    gives-kept c x next (Some result) (Some (Ptr (record { base = (address_in u base).base; offset = moved_by_all u (address_in u base).offset parts }))) u plain refl refl tt g)
executes-kept c (node.Select condition a b result next) s plain h =
    let x = node.Select condition a b result next in
    after-firm c x (condition ∷ a ∷ b ∷ []) s (chooses c condition a b result) h (λ u g. selects-kept c x next result (number_in u condition) (value_in u a) (value_in u b) u plain refl refl g)
executes-kept c (node.Alloca size result next) s plain h = makes-kept c (node.Alloca size result next) next (Some result) (wide size) s plain refl refl h
executes-kept c (node.Malloc size result next) s plain h =
    let x = node.Malloc size result next in
    after-firm c x (size ∷ []) s (asks_memory c size result) h (λ u g.
    mallocs-kept c x next result (size_in (number_in u size)) (test c (is_small (size_in (number_in u size))) u) plain refl refl (test-set c x (is_small (size_in (number_in u size))) u g))
executes-kept c (node.Free pointer next) s plain h =
    let x = node.Free pointer next in
    after-firm c x (pointer ∷ []) s (λ u. frees c (address_in u pointer) u) h (λ u g. frees_base-kept c x next (address_in u pointer).base (address_in u pointer).offset u plain refl refl g)
executes-kept c (node.Load pointer result next) s plain h =
    let x = node.Load pointer result next in
    after-firm c x (pointer ∷ []) s (λ u. loads_at c pointer result (type_at c.program u.frame.func result) u) h (λ u g.
    let t = type_at c.program u.frame.func result in
    then_step-set c (ReachedAt c x) (access c (bytes_of_type t) (address_in u pointer) u) (loads c result t) (access-set c x (bytes_of_type t) (address_in u pointer) u g) (λ r f. loads-kept c x next result t r plain refl refl f))
executes-kept c (node.Store value pointer next) s plain h =
    let x = node.Store value pointer next in
    after-firm c x (pointer ∷ []) s (stores_at c value pointer) h (λ u g.
    then_step-set c (ReachedAt c x) (access c (bytes_of_value (value_in u value)) (address_in u pointer) u) (writes c (stored_bytes (value_in u value)))
    (access-set c x (bytes_of_value (value_in u value)) (address_in u pointer) u g) (λ r f. writes-kept c x next (stored_bytes (value_in u value)) r plain refl refl f))
executes-kept c (node.Copy from there next) s plain h =
    let x = node.Copy from there next in
    after-firm c x (from ∷ there ∷ []) s (copies_from c from there) h (λ u g.
    then_step-set c (ReadAt c x) (then_flow (access c 1 (address_in u from) u) (reads c 1)) (copies c (address_in u there))
    (then_flow-set c (ReachedAt c x) (ReadAt c x) (access c 1 (address_in u from) u) (reads c 1) (access-set c x 1 (address_in u from) u g) (λ r f. reads-set c x 1 r f))
    (λ r f. then_step-set c (ReachedAt c x) (access c 1 (address_in u there) r.state) (writes c r.bytes) (access-set c x 1 (address_in u there) r.state f) (λ q k. writes-kept c x next r.bytes q plain refl refl k)))
executes-kept c (node.In result next) s plain h =
    let x = node.In result next in
    then_step-set c (IsAt c x) (knows answers.Input s) (takes_input c result) (knows-set c x answers.Input s h) (λ u g.
    gives-kept c x next (Some result) (Some (Int (input_at (length u.kept) (position u.memory.log)))) (appended entry.Get u) plain refl refl tt (added c x entry.Get u g))
executes-kept c (node.Put value next) s plain h =
    let x = node.Put value next in
    after-firm c x (value ∷ []) s (puts c value) h (λ u g. let e = entry.Put (low_byte (number_in u value)) in gives-kept c x next None None (appended e u) plain refl refl tt (added c x e u g))
executes-kept c (node.Call callee args result next) s plain h = calls-kept c callee args result next s plain h
executes-kept c (node.Moves ms next) s plain h = moves-kept c ms next s plain h
executes-kept c (node.Jump next) s plain h = gives-kept c (node.Jump next) next None None s plain refl refl tt h
executes-kept c (node.Branch condition first second) s plain h =
    let x = node.Branch condition first second in
    after-firm c x (condition ∷ []) s (branches c condition) h (λ u g. choose_way-kept c x (branch_sides (number_in u condition)) u (took c) (took-kept c x 2 plain (lit≤ tt) refl) g)
executes-kept c (node.Switch value cases otherwise) s plain h =
    let x = node.Switch value cases otherwise in
    after-firm c x (value ∷ []) s (switches c value cases) h (λ u g.
    choose_way-kept c x (switch_sides (number_in u value) cases) u (took c) (took-kept c x (length (switch_sides (number_in u value) cases)) plain (switch-size (number_in u value) cases otherwise) refl) g)
executes-kept c (node.Ret value) s plain h = returns-kept c value s plain h
executes-kept c (node.Exit status) s plain h =
    let x = node.Exit status in
    after-firm c x (status ∷ []) s (λ u. exits u.target (value_in u status) u) h (λ u g. exits-kept c x u.target (value_in u status) u g)
executes-kept c node.Abort s plain h = fails-set c node.Abort fault.Abort s h
executes-kept c (node.Assert args) s plain h = after-firm c (node.Assert args) args s (fails fault.Assert) h (λ u g. fails-set c (node.Assert args) fault.Assert u g)
executes-kept c node.Unreachable s plain h = fails-set c node.Unreachable fault.Unreachable s h

-- ---- attempts

attempt_at-kept : (c : Context) (place : Place) (at : NodeId) (s : State) → IsPlain c → IsKept c s → place ≡ At at → StepIsKept c (attempt_at c place s)
attempt_at-kept c (At n) at s plain h e =
    let x = code_of c.program s.frame in
    elim s.left as (λ k. StepIsKept c (elim k [ zero ↦ opens Steps s | suc left ↦ executes c (code_of c.program s.frame) (with_left left s) ])) [
      | zero ↦ tt
      | suc left ↦ executes-kept c x (with_left left s) plain (as-before c x s (with_left left s) refl refl refl (record { set = h.set; globals = h.globals; code = refl }))
    ]
attempt_at-kept c End at s plain h e = absurd (no at e)
  where
    no : (at : NodeId) → End ≡ At at → ⊥
    no at e = cc
attempt_at-kept c (Never n) at s plain h e = absurd (no n at e)
  where
    no : (n at : NodeId) → Never n ≡ At at → ⊥
    no n at e = cc

-- what is set stays so
pub attempt-kept : (c : Context) (s : State) → IsPlain c → IsKept c s → StepIsKept c (attempt c s)
attempt-kept c s plain h = attempt_at-kept c s.frame.place (node_of s.frame.place) s plain h h.set.frame.at'
