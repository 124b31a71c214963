-- What an attempt gives splits the inputs that meet the state's condition, and keeps the least ones.
use Rattle.std.proofs.Common.{ℕ, zero, suc, Bool, true, false, ◌+◌, ◌-◌, ◌^◌, ◌<◌, ◌≤◌, List, [], ◌∷◌, map, Option, Some, None, refl, ◌∙◌, arith, lit≤}
use Rattle.std.proofs.lemmas.List.{length-map}
use Rattle.std.specs.Option.{option_map, option_to_list}
use Rattle.std.specs.List.{flat_map, IsDistinct}
use Rattle.bitnum.specs.declared.BinOp.{BinOp}
use Rattle.bitnum.specs.declared.BinOp.TheVariants as op
use Rattle.terms.specs.Tree.{Tree}
use Rattle.flat_ir.specs.declared.names.FuncId.{FuncId}
use Rattle.flat_ir.specs.declared.names.RegId.{RegId}
use Rattle.flat_ir.specs.declared.names.Location.{Location}
use Rattle.flat_ir.specs.declared.names.Location.TheVariants as location
use Rattle.flat_ir.specs.declared.names.ObjectName.{ObjectName}
use Rattle.flat_ir.specs.declared.nodes.Node.{Node}
use Rattle.flat_ir.specs.declared.nodes.Node.TheVariants as node
use Rattle.flat_ir.specs.declared.nodes.Operand.{Operand}
use Rattle.flat_ir.specs.declared.nodes.RegType.{RegType}
use Rattle.flat_ir.specs.declared.nodes.SwitchCase.{SwitchCase}
use Rattle.flat_ir.specs.declared.values.FaultKind.{FaultKind}
use Rattle.flat_ir.specs.declared.values.FaultKind.TheVariants as fault
use Rattle.flat_ir.specs.Machine.{type_at}
use Rattle.flat_ir.specs.Registers.{bytes_of_type}
use Rattle.flat_ir.specs.Steps.{made_by_malloc}
use Rattle.flat_ir.specs.Whole.{operands_of_part}
use Rattle.sym_bytes.specs.declared.names.Base.{Base}
use Rattle.sym_bytes.specs.declared.names.Base.TheVariants.{Null, Object}
use Rattle.sym_bytes.specs.declared.names.CallId.{CallId}
use Rattle.sym_bytes.specs.Answers.{Living, Alive, Dead, Byte, Undecided, Want, Join}
use Rattle.sym_bytes.specs.Answers as answers
use Rattle.sym_bytes.specs.Building.{behind, null}
use Rattle.sym_bytes.specs.Pointers.{Pointer}
use Rattle.sym_bytes.specs.Value.{SymValue, Int, Ptr, Pending}
use Rattle.log_laws.specs.Logs.{life}
use Rattle.log_laws.specs.Needs.{need, location_of}
use Rattle.log_laws.specs.Reading.{read_byte}
use Rattle.leaves.specs.declared.options.Cause.TheVariants.{Steps}
use Rattle.leaves.specs.Fitting.{IsTerm, IsTermOf}
use Rattle.sym_states.specs.declared.frames.Place.{Place}
use Rattle.sym_states.specs.declared.frames.Place.TheVariants.{At, End, Never}
use Rattle.sym_states.specs.declared.frames.Target.{Target}
use Rattle.sym_states.specs.Attempts.{knows, firm, faulted, fails_in, fails, passed, must, Reached, reached, access_alive, access_base, access, ReadBytes, either_way, read_on, read_one, before, read_all, reads, Valued, valued, joins, join_read, loaded, loads, writes, copies, frees_object, frees_made, frees_alive, frees_base, frees, divides_by, divides_signed, divides, gives_term, picks, selects, mallocs, enters, skips, is_skipped, calls, took, ended, completed, completes, ends_first, leaves_to, ends_frame, is_main_end, returns, exits, computes, chooses, asks_memory, loads_at, stores_at, copies_from, takes_input, puts, branches, switches, executes, with_left, attempt_at, attempt}
use Rattle.sym_states.specs.Fitting.{LivingFits, ReadFits}
use Rattle.sym_states.specs.Sides.{Tested, Good, Bad, Answered, test}
use Rattle.sym_states.specs.States.{Frame, State, Context, Step, Flow, On, Over, then_flow, then_step, unless_needed, in_frame, counted, code_of, opens}
use Rattle.sym_states.specs.Terms.{value_in, number_in, address_in, pending_in, calculated, is_within, is_start, is_nonzero, has_quotient, is_small, size_in, truth_of, branch_sides, switch_sides, byte_resolved, joined_as, bytes_of_value, stored_bytes}
use Rattle.sym_states.proofs.Widths.{behind-fits}
use Rattle.state_laws.specs.Kept.{IsFitting, IsShortType, OperandFits, NodeFits, HaveShortRegs, CasesFit, StateFitsAt, FlowFits, TestedFits, ReachedFits, ReadBytesFits, JoinFits}
use Rattle.state_laws.proofs.Terms.{is_within-fits, is_start-fits, is_nonzero-fits, has_quotient-fits, is_small-fits, size_in-fits, truth_of-fits, branch_sides-fits, switch_sides-fits}
use Rattle.state_laws.proofs.Values.{bytes_of_value-few, bytes_resolved-fit, joined_as-fits}
use Rattle.state_laws.proofs.States.{parts_of, value_in-fits, number_in-fits, address_in-fits, then_flow-fits}
use Rattle.state_laws.proofs.Sides.{test-fits}
use Rattle.state_laws.proofs.Accesses.{access-fits, life-at, read_byte-at, read_one-fits, reads-fits}
use Rattle.state_laws.proofs.Ends.{divides_by-fits}
use Rattle.state_laws.proofs.Programs.{type_at-short}
use Rattle.state_laws.proofs.Attempted.{with_left-fits}
use Rattle.agreement.specs.Premises.{NodeHasDistinctCases, same_number}
use Rattle.right_leaves.specs.Right.{AreRightVerdicts}
use Rattle.right_leaves.proofs.Counts.{branch-sides, switch-sides}
use Rattle.right_leaves.proofs.Sides.{Keeps, StepKeeps, FlowKeeps, TestedKeeps, IsSteady, test-keeps, choose_way-keeps}

small : (count : ℕ) → count ≤ 8 → count < 2 ^ 64
small count h = omega (arith, h)

few : (count : ℕ) → count ≤ 8 → count ≤ 2 ^ 64
few count h = omega (arith, h)

module _ (c : Context) (n : ℕ) (i : List ℕ) (k : ℕ) (fitting : IsFitting c) (right : AreRightVerdicts c.verdict n) where
  -- ---- parts that go on

  -- behind a part that fits
  then_flow-keeps : {A B : Type 0} (P : A → Type 0) (f : A → State) (g : B → State) (flow : Flow A) (next : A → Flow B)
      → FlowFits n P flow → FlowKeeps n i k f flow → ((x : A) → P x → Keeps n i k (f x) → FlowKeeps n i k g (next x)) → FlowKeeps n i k g (then_flow flow next)
  then_flow-keeps P f g (On x) next fit h more = more x fit h
  then_flow-keeps P f g (Over step) next fit h more = h

  then_step-keeps : {A : Type 0} (P : A → Type 0) (f : A → State) (flow : Flow A) (next : A → Step)
      → FlowFits n P flow → FlowKeeps n i k f flow → ((x : A) → P x → Keeps n i k (f x) → StepKeeps n i k (next x)) → StepKeeps n i k (then_step flow next)
  then_step-keeps P f (On x) next fit h more = more x fit h
  then_step-keeps P f (Over step) next fit h more = h

  -- where nothing of it is needed further on
  flow-keeps : {A B : Type 0} (f : A → State) (g : B → State) (flow : Flow A) (next : A → Flow B)
      → FlowKeeps n i k f flow → ((x : A) → Keeps n i k (f x) → FlowKeeps n i k g (next x)) → FlowKeeps n i k g (then_flow flow next)
  flow-keeps f g (On x) next h more = more x h
  flow-keeps f g (Over step) next h more = h

  step-keeps : {A : Type 0} (f : A → State) (flow : Flow A) (next : A → Step)
      → FlowKeeps n i k f flow → ((x : A) → Keeps n i k (f x) → StepKeeps n i k (next x)) → StepKeeps n i k (then_step flow next)
  step-keeps f (On x) next h more = more x h
  step-keeps f (Over step) next h more = h

  -- behind what is needed first the state is the same
  needed-flow : {B : Type 0} (g : B → State) (at : Location) (calls : List CallId) (s : State) (next : State → Flow B) → Keeps n i k s → FlowKeeps n i k g (next s) → FlowKeeps n i k g (then_flow (unless_needed at calls s) next)
  needed-flow g at [] s next h more = more
  needed-flow g at (call ∷ calls) s next h more = h

  needed-step : (at : Location) (calls : List CallId) (s : State) (next : State → Step) → Keeps n i k s → StepKeeps n i k (next s) → StepKeeps n i k (then_step (unless_needed at calls s) next)
  needed-step at [] s next h more = more
  needed-step at (call ∷ calls) s next h more = h

  after-firm : (operands : List Operand) (s : State) (next : State → Step) → Keeps n i k s → StepKeeps n i k (next s) → StepKeeps n i k (then_step (firm operands s) next)
  after-firm operands s next h more = needed-step location.Result (pending_in s operands) s next h more

  after-known : (w : Want) (s : State) (next : State → Step) → Keeps n i k s → StepKeeps n i k (next s) → StepKeeps n i k (then_step (knows w s) next)
  after-known w s next h more = needed-step (location_of w) (need w s.memory.log) s next h more

  -- ---- faults and tests

  fails_in-keeps : (target : Option Target) (kind : FaultKind) (s : State) → Keeps n i k s → StepKeeps n i k (fails_in target kind s)
  fails_in-keeps None kind s h = after-known answers.Output s (faulted kind) h h
  fails_in-keeps (Some target) kind s h = h

  fails-keeps : (kind : FaultKind) (s : State) → Keeps n i k s → StepKeeps n i k (fails kind s)
  fails-keeps kind s h = fails_in-keeps s.target kind s h

  passed-keeps : (kind : FaultKind) (t : Tested) → TestedKeeps n i k t → FlowKeeps n i k (λ u. u) (passed kind t)
  passed-keeps kind (Good s) h = h
  passed-keeps kind (Bad s) h = fails-keeps kind s h
  passed-keeps kind (Answered step) h = h

  must-keeps : (t : Tree) (kind : FaultKind) (s : State) → IsTermOf n 1 t → StateFitsAt n s → Keeps n i k s → FlowKeeps n i k (λ u. u) (must c t kind s)
  must-keeps t kind s truth fit h = passed-keeps kind (test c t s) (test-keeps c n i right k t s truth fit h)

  -- ---- accesses

  access_alive-keeps : (living : Living) (count : ℕ) (x : ObjectName) (offset : Tree) (s : State) → LivingFits n living → count < 2 ^ 64 → IsTermOf n 64 offset → StateFitsAt n s → Keeps n i k s
      → FlowKeeps n i k (λ r. r.state) (access_alive c living count x offset s)
  access_alive-keeps Dead count x offset s alive few at fit h = fails-keeps fault.UseAfterFree s h
  access_alive-keeps (Alive size) count x offset s alive few at fit h =
      flow-keeps (λ u. u) (λ (r : Reached). r.state) (must c (is_within size count offset) fault.OutOfBounds s) (reached x offset)
      (must-keeps (is_within size count offset) fault.OutOfBounds s (is_within-fits n size count offset alive few at) fit h) (λ u g. g)

  access_base-keeps : (count : ℕ) (base : Base) (offset : Tree) (s : State) → count < 2 ^ 64 → IsTermOf n 64 offset → StateFitsAt n s → Keeps n i k s → FlowKeeps n i k (λ r. r.state) (access_base c count base offset s)
  access_base-keeps count Null offset s few at fit h = fails-keeps fault.NullAccess s h
  access_base-keeps count (Object x) offset s few at fit h =
      needed-flow (λ (r : Reached). r.state) (location_of (answers.Life x)) (need (answers.Life x) s.memory.log) s (λ u. access_alive c (life u.memory.globals x u.memory.log) count x offset u) h
      (access_alive-keeps (life s.memory.globals x s.memory.log) count x offset s (life-at n x s fit) few at fit h)

  access-keeps : (count : ℕ) (p : Pointer) (s : State) → count < 2 ^ 64 → IsTermOf n 64 p.offset → StateFitsAt n s → Keeps n i k s → FlowKeeps n i k (λ r. r.state) (access c count p s)
  access-keeps count p s few at fit h = access_base-keeps count p.base p.offset s few at fit h

  -- ---- bytes that are read

  either_way-keeps : {A : Type 0} (g : A → State) (t : Tested) (next : State → Flow A) → TestedFits n t → TestedKeeps n i k t → ((u : State) → StateFitsAt n u → Keeps n i k u → FlowKeeps n i k g (next u)) → FlowKeeps n i k g (either_way t next)
  either_way-keeps g (Good s) next fit h more = more s fit h
  either_way-keeps g (Bad s) next fit h more = more s fit h
  either_way-keeps g (Answered step) next fit h more = h

  read_on-keeps : (x : ObjectName) (at : Tree) (tests : ℕ) (s : State) → IsTermOf n 64 at → StateFitsAt n s → Keeps n i k s → FlowKeeps n i k (λ r. r.state) (read_on c x at tests s)
  read_on-keeps x at zero s there fit h = h
  read_on-keeps x at (suc tests) s there fit h =
      elim (read_byte s.memory.globals s.condition x at s.memory.log)
      as (λ r. ReadFits n r → FlowKeeps n i k (λ (b : ReadBytes). b.state) (elim r [ Byte b ↦ On (record { bytes = b ∷ []; state = s }) | Undecided t ↦ either_way (test c t s) (λ u. read_on c x at tests u) ])) [
        | Byte b ↦ (λ read. h)
        | Undecided t ↦ (λ read. either_way-keeps (λ (b : ReadBytes). b.state) (test c t s) (λ u. read_on c x at tests u) (test-fits c n t s fitting read fit) (test-keeps c n i right k t s read fit h) (λ u g m. read_on-keeps x at tests u there g m))
      ]
      (read_byte-at n x at s there fit)

  read_one-keeps : (x : ObjectName) (at : Tree) (s : State) → IsTermOf n 64 at → StateFitsAt n s → Keeps n i k s → FlowKeeps n i k (λ r. r.state) (read_one c x at s)
  read_one-keeps x at s there fit h = read_on-keeps x at (2 ^ 64 - 1) s there fit h

  read_all-keeps : (x : ObjectName) (offset : Tree) (count j : ℕ) (s : State) → IsTermOf n 64 offset → j + count ≤ 2 ^ 64 → StateFitsAt n s → Keeps n i k s → FlowKeeps n i k (λ r. r.state) (read_all c x offset count j s)
  read_all-keeps x offset zero j s at most fit h = h
  read_all-keeps x offset (suc count) j s at most fit h =
      let below : j < 2 ^ 64 = omega (arith, most) in
      let more : (j + 1) + count ≤ 2 ^ 64 = omega (arith, most) in
      let there = behind-fits n offset j at below in
      then_flow-keeps (ReadBytesFits n 1) (λ (b : ReadBytes). b.state) (λ (b : ReadBytes). b.state) (read_one c x (behind offset j) s) (λ r. then_flow (read_all c x offset count (j + 1) r.state) (before r.bytes))
      (read_one-fits c n x (behind offset j) s fitting there fit)
      (read_one-keeps x (behind offset j) s there fit h)
      (λ r g m. flow-keeps (λ (b : ReadBytes). b.state) (λ (b : ReadBytes). b.state) (read_all c x offset count (j + 1) r.state) (before r.bytes) (read_all-keeps x offset count (j + 1) r.state at more g.state m) (λ b f. f))

  reads-keeps : (count : ℕ) (r : Reached) → count ≤ 2 ^ 64 → ReachedFits n r → Keeps n i k r.state → FlowKeeps n i k (λ b. b.state) (reads c count r)
  reads-keeps count r most fit h =
      needed-flow (λ (b : ReadBytes). b.state) (location_of (answers.Bytes r.object r.offset count)) (need (answers.Bytes r.object r.offset count) r.state.memory.log) r.state (read_all c r.object r.offset count 0) h
      (read_all-keeps r.object r.offset count 0 r.state fit.offset (omega (arith, most)) fit.state h)

  -- ---- values that are loaded

  joins-keeps : (j : Join) (s : State) → JoinFits n j → StateFitsAt n s → Keeps n i k s → FlowKeeps n i k (λ v. v.state) (joins c j s)
  joins-keeps (answers.Value v) s join fit h = h
  joins-keeps (answers.Needs calls) s join fit h = needed-flow (λ (v : Valued). v.state) location.Result calls s (valued null) h h
  joins-keeps (answers.Test t v) s join fit h = flow-keeps (λ u. u) (λ (w : Valued). w.state) (must c t fault.MixedBytes s) (valued v) (must-keeps t fault.MixedBytes s join.0 fit h) (λ u g. g)
  joins-keeps answers.Mixed s join fit h = fails-keeps fault.MixedBytes s h

  join_read-keeps : (t : RegType) (r : ReadBytes) → IsShortType t → ReadBytesFits n (bytes_of_type t) r → Keeps n i k r.state → FlowKeeps n i k (λ v. v.state) (join_read c t r)
  join_read-keeps t r short fit h =
      let bs = map (byte_resolved r.state.snapshots) r.bytes in
      joins-keeps (joined_as t bs) r.state
      (joined_as-fits n t bs short (length-map r.bytes (byte_resolved r.state.snapshots) ∙ fit.size) (bytes_resolved-fit n r.state.snapshots r.bytes (parts_of n r.state fit.state).snapshots fit.bytes))
      fit.state h

  loads-keeps : (result : RegId) (t : RegType) (r : Reached) → IsShortType t → ReachedFits n r → Keeps n i k r.state → StepKeeps n i k (loads c result t r)
  loads-keeps result t r short fit h =
      step-keeps (λ (v : Valued). v.state) (then_flow (reads c (bytes_of_type t) r) (join_read c t)) (loaded c result)
      (then_flow-keeps (ReadBytesFits n (bytes_of_type t)) (λ (b : ReadBytes). b.state) (λ (v : Valued). v.state) (reads c (bytes_of_type t) r) (join_read c t)
      (reads-fits c n (bytes_of_type t) r fitting (few (bytes_of_type t) short) fit)
      (reads-keeps (bytes_of_type t) r (few (bytes_of_type t) short) fit h)
      (λ b g m. join_read-keeps t b short g m))
      (λ v m. m)

  -- ---- what is written and freed

  copies-keeps : (there : Pointer) (r : ReadBytes) → IsTermOf n 64 there.offset → ReadBytesFits n 1 r → Keeps n i k r.state → StepKeeps n i k (copies c there r)
  copies-keeps there r at fit h = step-keeps (λ (u : Reached). u.state) (access c 1 there r.state) (writes c r.bytes) (access-keeps 1 there r.state (lit≤ tt) at fit.state h) (λ u m. m)

  frees_made-keeps : (made : Bool) (x : ObjectName) (offset : Tree) (s : State) → IsTermOf n 64 offset → StateFitsAt n s → Keeps n i k s → StepKeeps n i k (frees_made c made x offset s)
  frees_made-keeps true x offset s at fit h = step-keeps (λ u. u) (must c (is_start offset) fault.BadFree s) (frees_object c x) (must-keeps (is_start offset) fault.BadFree s (is_start-fits n offset at) fit h) (λ u m. m)
  frees_made-keeps false x offset s at fit h = fails-keeps fault.BadFree s h

  frees_alive-keeps : (living : Living) (x : ObjectName) (offset : Tree) (s : State) → IsTermOf n 64 offset → StateFitsAt n s → Keeps n i k s → StepKeeps n i k (frees_alive c living x offset s)
  frees_alive-keeps Dead x offset s at fit h = fails-keeps fault.UseAfterFree s h
  frees_alive-keeps (Alive size) x offset s at fit h = frees_made-keeps (made_by_malloc c.program x) x offset s at fit h

  frees_base-keeps : (base : Base) (offset : Tree) (s : State) → IsTermOf n 64 offset → StateFitsAt n s → Keeps n i k s → StepKeeps n i k (frees_base c base offset s)
  frees_base-keeps Null offset s at fit h = step-keeps (λ u. u) (must c (is_start offset) fault.BadFree s) _ (must-keeps (is_start offset) fault.BadFree s (is_start-fits n offset at) fit h) (λ u m. m)
  frees_base-keeps (Object x) offset s at fit h =
      after-known (answers.Life x) s (λ u. frees_alive c (life u.memory.globals x u.memory.log) x offset u) h (frees_alive-keeps (life s.memory.globals x s.memory.log) x offset s at fit h)

  -- ---- numbers

  divides_by-keeps : (b : Tree) (s : State) → IsTerm n b → StateFitsAt n s → Keeps n i k s → FlowKeeps n i k (λ u. u) (divides_by c b s)
  divides_by-keeps b s term fit h = must-keeps (is_nonzero b) fault.DivideByZero s (is_nonzero-fits n b term) fit h

  divides_signed-keeps : (a b : Tree) (s : State) → IsTerm n a → IsTerm n b → StateFitsAt n s → Keeps n i k s → FlowKeeps n i k (λ u. u) (divides_signed c a b s)
  divides_signed-keeps a b s g f fit h =
      then_flow-keeps (StateFitsAt n) (λ u. u) (λ u. u) (divides_by c b s) (must c (has_quotient a b) fault.DivideOverflow) (divides_by-fits c n b s fitting f fit) (divides_by-keeps b s f fit h)
      (λ u e m. must-keeps (has_quotient a b) fault.DivideOverflow u (has_quotient-fits n a b g f) e m)

  divides-keeps : (o : BinOp) (a b : Tree) (s : State) → IsTerm n a → IsTerm n b → StateFitsAt n s → Keeps n i k s → FlowKeeps n i k (λ u. u) (divides c o a b s)
  divides-keeps op.Udiv a b s g f fit h = divides_by-keeps b s f fit h
  divides-keeps op.Urem a b s g f fit h = divides_by-keeps b s f fit h
  divides-keeps op.Sdiv a b s g f fit h = divides_signed-keeps a b s g f fit h
  divides-keeps op.Srem a b s g f fit h = divides_signed-keeps a b s g f fit h
  divides-keeps _ a b s g f fit h = h

  picks-keeps : (result : RegId) (a b : SymValue) (t : Tested) → TestedKeeps n i k t → StepKeeps n i k (picks c result a b t)
  picks-keeps result a b (Good s) h = h
  picks-keeps result a b (Bad s) h = h
  picks-keeps result a b (Answered step) h = h

  selects-keeps : (result : RegId) (condition : Tree) (a b : SymValue) (s : State) → IsTerm n condition → StateFitsAt n s → Keeps n i k s → StepKeeps n i k (selects c result condition a b s)
  selects-keeps result condition (Int a) b s term fit h = h
  selects-keeps result condition (Ptr p) b s term fit h = picks-keeps result (Ptr p) b (test c (truth_of condition) s) (test-keeps c n i right k (truth_of condition) s (truth_of-fits n condition term) fit h)
  selects-keeps result condition (Pending call t) b s term fit h = picks-keeps result (Pending call t) b (test c (truth_of condition) s) (test-keeps c n i right k (truth_of condition) s (truth_of-fits n condition term) fit h)

  mallocs-keeps : (result : Option RegId) (size : Tree) (t : Tested) → TestedKeeps n i k t → StepKeeps n i k (mallocs c result size t)
  mallocs-keeps result size (Good s) h = h
  mallocs-keeps result size (Bad s) h = h
  mallocs-keeps result size (Answered step) h = h

  -- ---- calls and ends

  calls-keeps : (f : FuncId) (args : List SymValue) (result : Option RegId) (s : State) → Keeps n i k s → StepKeeps n i k (calls c f args result s)
  calls-keeps f args result s h = elim (is_skipped c f s.target) as (λ b. StepKeeps n i k (elim b [ true ↦ skips c f args result s | false ↦ enters c f args s ])) [ true ↦ h | false ↦ h ]

  completes-keeps : (v : Option SymValue) (s : State) → Keeps n i k s → StepKeeps n i k (completes v s)
  completes-keeps v s h = after-known answers.Output s (completed v) h h

  ends_first-keeps : (target : Option Target) (v : Option SymValue) (s : State) → Keeps n i k s → StepKeeps n i k (ends_first target v s)
  ends_first-keeps None v s h = completes-keeps v s h
  ends_first-keeps (Some target) v s h = h

  leaves_to-keeps : (v : Option SymValue) (callers : List Frame) (s : State) → Keeps n i k s → StepKeeps n i k (leaves_to c v callers s)
  leaves_to-keeps v [] s h = ends_first-keeps s.target v s h
  leaves_to-keeps v (caller ∷ callers) s h = h

  ends_frame-keeps : (v : Option SymValue) (s : State) → Keeps n i k s → StepKeeps n i k (ends_frame c v s)
  ends_frame-keeps v s h = leaves_to-keeps v s.callers (ended c s) h

  returns-keeps : (value : Option Operand) (s : State) → Keeps n i k s → StepKeeps n i k (returns c value s)
  returns-keeps value s h =
      elim (is_main_end s.target s.callers) as (λ b. StepKeeps n i k (elim b [
        | true ↦ then_step (firm (option_to_list value) s) (λ u. completes (option_map (value_in u) value) u)
        | false ↦ ends_frame c (option_map (value_in s) value) (in_frame (counted s.frame) s)
      ])) [
        | true ↦ after-firm (option_to_list value) s (λ u. completes (option_map (value_in u) value) u) h (completes-keeps (option_map (value_in s) value) s h)
        | false ↦ ends_frame-keeps (option_map (value_in s) value) (in_frame (counted s.frame) s) h
      ]

  exits-keeps : (target : Option Target) (v : SymValue) (s : State) → Keeps n i k s → StepKeeps n i k (exits target v s)
  exits-keeps None v s h = completes-keeps (Some v) s h
  exits-keeps (Some target) v s h = fails-keeps fault.NoReturn s h

  -- ---- nodes

  computes-keeps : (o : BinOp) (a b : Operand) (result : RegId) (s : State) → OperandFits a → OperandFits b → StateFitsAt n s → Keeps n i k s → StepKeeps n i k (computes c o a b result s)
  computes-keeps o a b result s g f fit h =
      step-keeps (λ u. u) (divides c o (number_in s a) (number_in s b) s) (gives_term c result (calculated o (number_in s a) (number_in s b)))
      (divides-keeps o (number_in s a) (number_in s b) s (number_in-fits n s a fit g) (number_in-fits n s b fit f) fit h) (λ u m. m)

  asks_memory-keeps : (size : Operand) (result : Option RegId) (s : State) → OperandFits size → StateFitsAt n s → Keeps n i k s → StepKeeps n i k (asks_memory c size result s)
  asks_memory-keeps size result s g fit h =
      let t = size_in (number_in s size) in
      mallocs-keeps result t (test c (is_small t) s) (test-keeps c n i right k (is_small t) s (is_small-fits n t (size_in-fits n (number_in s size) (number_in-fits n s size fit g))) fit h)

  loads_at-keeps : (pointer : Operand) (result : RegId) (t : RegType) (s : State) → OperandFits pointer → IsShortType t → StateFitsAt n s → Keeps n i k s → StepKeeps n i k (loads_at c pointer result t s)
  loads_at-keeps pointer result t s g short fit h =
      let at = address_in-fits n s pointer fit g in
      then_step-keeps (ReachedFits n) (λ (r : Reached). r.state) (access c (bytes_of_type t) (address_in s pointer) s) (loads c result t)
      (access-fits c n (bytes_of_type t) (address_in s pointer) s fitting (small (bytes_of_type t) short) at fit)
      (access-keeps (bytes_of_type t) (address_in s pointer) s (small (bytes_of_type t) short) at fit h)
      (λ r e m. loads-keeps result t r short e m)

  stores_at-keeps : (value pointer : Operand) (s : State) → OperandFits value → OperandFits pointer → StateFitsAt n s → Keeps n i k s → StepKeeps n i k (stores_at c value pointer s)
  stores_at-keeps value pointer s g f fit h =
      step-keeps (λ (r : Reached). r.state) (access c (bytes_of_value (value_in s value)) (address_in s pointer) s) (writes c (stored_bytes (value_in s value)))
      (access-keeps (bytes_of_value (value_in s value)) (address_in s pointer) s (small (bytes_of_value (value_in s value)) (bytes_of_value-few n (value_in s value) (value_in-fits n s value fit g))) (address_in-fits n s pointer fit f) fit h)
      (λ r m. m)

  copies_from-keeps : (from there : Operand) (s : State) → OperandFits from → OperandFits there → StateFitsAt n s → Keeps n i k s → StepKeeps n i k (copies_from c from there s)
  copies_from-keeps from there s g f fit h =
      let at = address_in-fits n s from fit g in
      then_step-keeps (ReadBytesFits n 1) (λ (b : ReadBytes). b.state) (then_flow (access c 1 (address_in s from) s) (reads c 1)) (copies c (address_in s there))
      (then_flow-fits n (ReachedFits n) (ReadBytesFits n 1) (access c 1 (address_in s from) s) (reads c 1) (access-fits c n 1 (address_in s from) s fitting (lit≤ tt) at fit) (λ r e. reads-fits c n 1 r fitting (lit≤ tt) e))
      (then_flow-keeps (ReachedFits n) (λ (r : Reached). r.state) (λ (b : ReadBytes). b.state) (access c 1 (address_in s from) s) (reads c 1)
      (access-fits c n 1 (address_in s from) s fitting (lit≤ tt) at fit) (access-keeps 1 (address_in s from) s (lit≤ tt) at fit h) (λ r e m. reads-keeps 1 r (lit≤ tt) e m))
      (λ r e m. copies-keeps (address_in s there) r (address_in-fits n s there fit f) e m)

  took-steady : IsSteady (took c)
  took-steady side t = (refl, refl)

  branches-keeps : (condition : Operand) (s : State) → OperandFits condition → StateFitsAt n s → Keeps n i k s → StepKeeps n i k (branches c condition s)
  branches-keeps condition s g fit h =
      let term = number_in-fits n s condition fit g in
      choose_way-keeps c n i right k (branch_sides (number_in s condition)) s (took c) (branch_sides-fits n (number_in s condition) term) (branch-sides n (number_in s condition) i term) took-steady fit h

  switches-keeps : (value : Operand) (cases : List SwitchCase) (s : State) → OperandFits value → CasesFit cases → IsDistinct same_number (map (λ x. x.number) cases) → StateFitsAt n s → Keeps n i k s → StepKeeps n i k (switches c value cases s)
  switches-keeps value cases s g f distinct fit h =
      let term = number_in-fits n s value fit g in
      choose_way-keeps c n i right k (switch_sides (number_in s value) cases) s (took c) (switch_sides-fits n (number_in s value) cases term f) (switch-sides n (number_in s value) cases i term f distinct) took-steady fit h

  executes-keeps : (x : Node) (s : State) → HaveShortRegs c.program.funcs → NodeFits c.program x → NodeHasDistinctCases x → StateFitsAt n s → Keeps n i k s → StepKeeps n i k (executes c x s)
  executes-keeps (node.Bin o a b result next) s regs node distinct fit h = after-firm (a ∷ b ∷ []) s (computes c o a b result) h (computes-keeps o a b result s node.operands.0 node.operands.1.0 fit h)
  executes-keeps (node.Cmp p a b result next) s regs node distinct fit h = after-firm (a ∷ b ∷ []) s _ h h
  executes-keeps (node.Cast o a result next) s regs node distinct fit h = after-firm (a ∷ []) s _ h h
  executes-keeps (node.Gep base parts result next) s regs node distinct fit h = after-firm (base ∷ flat_map operands_of_part parts) s _ h h
  executes-keeps (node.Select condition a b result next) s regs node distinct fit h =
      after-firm (condition ∷ a ∷ b ∷ []) s (chooses c condition a b result) h (selects-keeps result (number_in s condition) (value_in s a) (value_in s b) s (number_in-fits n s condition fit node.operands.0) fit h)
  executes-keeps (node.Alloca size result next) s regs node distinct fit h = h
  executes-keeps (node.Malloc size result next) s regs node distinct fit h = after-firm (size ∷ []) s (asks_memory c size result) h (asks_memory-keeps size result s node.operands.0 fit h)
  executes-keeps (node.Free pointer next) s regs node distinct fit h =
      after-firm (pointer ∷ []) s (λ u. frees c (address_in u pointer) u) h (frees_base-keeps (address_in s pointer).base (address_in s pointer).offset s (address_in-fits n s pointer fit node.operands.0) fit h)
  executes-keeps (node.Load pointer result next) s regs node distinct fit h =
      after-firm (pointer ∷ []) s (λ u. loads_at c pointer result (type_at c.program u.frame.func result) u) h
      (loads_at-keeps pointer result (type_at c.program s.frame.func result) s node.operands.0 (type_at-short c.program s.frame.func result regs) fit h)
  executes-keeps (node.Store value pointer next) s regs node distinct fit h = after-firm (pointer ∷ []) s (stores_at c value pointer) h (stores_at-keeps value pointer s node.operands.0 node.operands.1.0 fit h)
  executes-keeps (node.Copy from there next) s regs node distinct fit h = after-firm (from ∷ there ∷ []) s (copies_from c from there) h (copies_from-keeps from there s node.operands.0 node.operands.1.0 fit h)
  executes-keeps (node.In result next) s regs node distinct fit h = after-known answers.Input s (takes_input c result) h h
  executes-keeps (node.Put value next) s regs node distinct fit h = after-firm (value ∷ []) s (puts c value) h h
  executes-keeps (node.Call callee args result next) s regs node distinct fit h = calls-keeps callee (map (value_in s) args) result s h
  executes-keeps (node.Moves sets next) s regs node distinct fit h = h
  executes-keeps (node.Jump next) s regs node distinct fit h = h
  executes-keeps (node.Branch condition first second) s regs node distinct fit h = after-firm (condition ∷ []) s (branches c condition) h (branches-keeps condition s node.operands.0 fit h)
  executes-keeps (node.Switch value cases otherwise) s regs node distinct fit h = after-firm (value ∷ []) s (switches c value cases) h (switches-keeps value cases s node.operands.0 node.names distinct fit h)
  executes-keeps (node.Ret value) s regs node distinct fit h = returns-keeps value s h
  executes-keeps (node.Exit status) s regs node distinct fit h = after-firm (status ∷ []) s (λ u. exits u.target (value_in u status) u) h (exits-keeps s.target (value_in s status) s h)
  executes-keeps node.Abort s regs node distinct fit h = fails-keeps fault.Abort s h
  executes-keeps (node.Assert args) s regs node distinct fit h = after-firm args s (fails fault.Assert) h (fails-keeps fault.Assert s h)
  executes-keeps node.Unreachable s regs node distinct fit h = fails-keeps fault.Unreachable s h

  -- ---- attempts

  attempt_at-keeps : (place : Place) (s : State) → HaveShortRegs c.program.funcs → NodeFits c.program (code_of c.program s.frame) → NodeHasDistinctCases (code_of c.program s.frame) → StateFitsAt n s → Keeps n i k s
      → StepKeeps n i k (attempt_at c place s)
  attempt_at-keeps (At at) s regs node distinct fit h =
      elim s.left as (λ m. StepKeeps n i k (elim m [ zero ↦ opens Steps s | suc left ↦ executes c (code_of c.program s.frame) (with_left left s) ]))
      [ zero ↦ h | suc left ↦ executes-keeps (code_of c.program s.frame) (with_left left s) regs node distinct (with_left-fits n left s fit) h ]
  attempt_at-keeps End s regs node distinct fit h = ends_frame-keeps None s h
  attempt_at-keeps (Never at) s regs node distinct fit h = fails-keeps fault.NoReturn s h

  pub attempt-keeps : (s : State) → HaveShortRegs c.program.funcs → NodeFits c.program (code_of c.program s.frame) → NodeHasDistinctCases (code_of c.program s.frame) → StateFitsAt n s → Keeps n i k s → StepKeeps n i k (attempt c s)
  attempt-keeps s regs node distinct fit h = attempt_at-keeps s.frame.place s regs node distinct fit h
