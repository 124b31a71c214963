-- What an attempt gives is from its state: conditions grow, and the steps left and the recovery stay.
use Rattle.std.proofs.Common.{◌≡◌, ℕ, zero, suc, Bool, true, false, ◌+◌, ◌-◌, ◌^◌, List, [], ◌∷◌, map, ◌++◌, length, reverse, take, Option, Some, None, refl, subst}
use Rattle.std.specs.Prelude.{cond}
use Rattle.std.specs.List.{AllByRecursion as Each, flat_map}
use Rattle.std.specs.Option.{option_map, option_to_list}
use Rattle.bitnum.specs.declared.BinOp.{BinOp}
use Rattle.bitnum.specs.declared.BinOp.TheVariants as op
use Rattle.terms.specs.Tree.{Tree}
use Rattle.flat_ir.specs.declared.names.FuncId.{FuncId}
use Rattle.flat_ir.specs.declared.names.RegId.{RegId}
use Rattle.flat_ir.specs.declared.names.Location.{Location}
use Rattle.flat_ir.specs.declared.names.Location.TheVariants as location
use Rattle.flat_ir.specs.declared.names.ObjectName.{ObjectName}
use Rattle.flat_ir.specs.declared.nodes.Node.{Node}
use Rattle.flat_ir.specs.declared.nodes.Node.TheVariants as node
use Rattle.flat_ir.specs.declared.nodes.Operand.{Operand}
use Rattle.flat_ir.specs.declared.nodes.RegType.{RegType}
use Rattle.flat_ir.specs.declared.values.FaultKind.{FaultKind}
use Rattle.flat_ir.specs.declared.values.FaultKind.TheVariants as fault
use Rattle.flat_ir.specs.Machine.{func_at, nodes_of, type_at}
use Rattle.flat_ir.specs.Registers.{bytes_of_type}
use Rattle.flat_ir.specs.Steps.{made_by_malloc, width_of}
use Rattle.flat_ir.specs.Whole.{operands_of_part}
use Rattle.sym_bytes.specs.declared.names.Base.{Base}
use Rattle.sym_bytes.specs.declared.names.Base.TheVariants.{Null, Object}
use Rattle.sym_bytes.specs.declared.names.CallId.{CallId}
use Rattle.sym_bytes.specs.Answers.{Living, Alive, Dead, Byte, Undecided, Want, Join}
use Rattle.sym_bytes.specs.Answers as answers
use Rattle.sym_bytes.specs.Building.{behind, null, pointer_to, wide}
use Rattle.sym_bytes.specs.Byte.{SymByte}
use Rattle.sym_bytes.specs.Entry as entry
use Rattle.sym_bytes.specs.Entry.{Entry}
use Rattle.sym_bytes.specs.Pointers.{Pointer}
use Rattle.sym_bytes.specs.Value.{SymValue, Int, Ptr, Pending}
use Rattle.log_laws.specs.Logs.{Log, Did, Marked, life, position, lies_in, entries_in, entries_since}
use Rattle.log_laws.specs.Needs.{need, location_of}
use Rattle.log_laws.specs.Reading.{read_byte}
use Rattle.write_log.specs.Memory.{with_item}
use Rattle.leaves.specs.declared.options.Cause.TheVariants.{Steps}
use Rattle.sym_states.specs.declared.frames.Target.{Target}
use Rattle.sym_states.specs.Attempts.{knows, firm, faulted, fails_in, fails, passed, must, Reached, reached, access_alive, access_base, access, ReadBytes, either_way, read_on, read_one, before, read_all, reads, Valued, valued, joins, join_read, loaded, loads, writes, copies, frees_object, frees_made, frees_alive, frees_base, frees, divides_by, divides_signed, divides, gives_term, compares, casts, places, picks, selects, mallocs, enters, skips, is_skipped, calls, took, ended, frees_from, next_call, snapshot_of, mods_of, result_type, completed, completes, if_result, ends_first, leaves_to, ends_frame, is_main_end, returns, exits, computes, chooses, asks_memory, loads_at, stores_at, copies_from, takes_input, puts, branches, switches, executes}
use Rattle.sym_states.specs.Sides.{Tested, Good, Bad, Answered, test}
use Rattle.skip_records.specs.Snapshots.{Snapshot}
use Rattle.sym_states.specs.States.{Frame, State, Context, Step, Flow, On, Over, then_flow, then_step, unless_needed, in_frame, appended, made_now, counted, set_if, gives, goes_on, place_after, place_first}
use Rattle.sym_states.specs.Terms.{value_in, number_in, address_in, pending_in, term_in, calculated, compared_values, cast_to, moved_by_all, input_at, chosen, set_all, is_within, is_start, low_byte, is_nonzero, has_quotient, is_small, size_in, truth_of, branch_sides, switch_sides, byte_resolved, joined_as, bytes_of_value, stored_bytes}
use Rattle.exploration_laws.specs.Falls.{IsPlacedIn}
use Rattle.exploration_laws.specs.Has.{IsOutside, ResultLiesIn, DoneLiesIn}
use Rattle.exploration_laws.proofs.Givers.{Giver, Keeps, IsFrom, StepIsFrom, FlowIsFrom, TestedIsFrom, IsTakenFrom, opens-from, test-from, choose_way-from}

-- ---- what a recovery gives lies in its location

in-if : (at : Location) (b : Bool) (e : Entry) (es : List Entry) → lies_in at e ≡ b → Each (λ x. lies_in at x ≡ true) es → Each (λ x. lies_in at x ≡ true) (cond b (e ∷ es) es)
in-if at true e es is h = (is, h)
in-if at false e es is h = h

pub entries-lie : (at : Location) (log : Log) → Each (λ e. lies_in at e ≡ true) (entries_in at log)
entries-lie at [] = tt
entries-lie at (Did e ∷ log) = in-if at (lies_in at e) e (entries_in at log) refl (entries-lie at log)
entries-lie at (Marked call mods fills ∷ log) = entries-lie at log

result-lies : (at : Location) (v : Option SymValue) → ResultLiesIn at (if_result at v)
result-lies location.Result v = tt
result-lies _ v = refl

module _ (c : Context) (g : Giver) (moves : (k : ℕ) (frame : Frame) → IsPlacedIn g.within (place_after c.program c.residual k frame)) (starts : (f : FuncId) → IsPlacedIn g.within (place_first c.residual f)) (keeps : Keeps c g.holds) where
  -- ---- the log

  with_entry : (e : Entry) (s : State) → IsFrom g s → IsFrom g (appended e s)
  with_entry e s from = (from.0, (from.1.0, ((from.1.1.0.0, keeps.entry e s.memory.log s.snapshots from.1.1.0.1), from.1.1.1)))

  with_entries : (es : List Entry) (log : Log) (shots : List Snapshot) → g.holds log shots → g.holds (map Did es ++ log) shots
  with_entries [] log shots h = h
  with_entries (e ∷ es) log shots h = keeps.entry e (map Did es ++ log) shots (with_entries es log shots h)

  ended-from : (s : State) → IsFrom g s → IsFrom g (ended c s)
  ended-from s from =
      let freed = reverse (frees_from s.frame 0 (nodes_of (func_at c.program s.frame.func))) in
      (from.0, (from.1.0, ((from.1.1.0.0, with_entries freed s.memory.log s.snapshots from.1.1.0.1), from.1.1.1)))

  -- ---- parts that go on

  flow-from : {A B : Type 0} (f : A → State) (h : B → State) (flow : Flow A) (next : A → Flow B)
      → FlowIsFrom g f flow → ((x : A) → IsFrom g (f x) → FlowIsFrom g h (next x)) → FlowIsFrom g h (then_flow flow next)
  flow-from f h (On x) next from more = more x from
  flow-from f h (Over step) next from more = from

  step-from : {A : Type 0} (f : A → State) (flow : Flow A) (next : A → Step)
      → FlowIsFrom g f flow → ((x : A) → IsFrom g (f x) → StepIsFrom g (next x)) → StepIsFrom g (then_step flow next)
  step-from f (On x) next from more = more x from
  step-from f (Over step) next from more = from

  -- what is needed is some call
  needed-flow : {B : Type 0} (h : B → State) (at : Location) (calls : List CallId) (s : State) (next : State → Flow B) → IsFrom g s → FlowIsFrom g h (next s) → FlowIsFrom g h (then_flow (unless_needed at calls s) next)
  needed-flow h at [] s next from more = more
  needed-flow h at (call ∷ calls) s next from more = (from, λ e. cc)

  needed-step : (at : Location) (calls : List CallId) (s : State) (next : State → Step) → IsFrom g s → StepIsFrom g (next s) → StepIsFrom g (then_step (unless_needed at calls s) next)
  needed-step at [] s next from more = more
  needed-step at (call ∷ calls) s next from more = (from, λ e. cc)

  after-firm : (operands : List Operand) (s : State) (next : State → Step) → IsFrom g s → StepIsFrom g (next s) → StepIsFrom g (then_step (firm operands s) next)
  after-firm operands s next from more = needed-step location.Result (pending_in s operands) s next from more

  after-known : (w : Want) (s : State) (next : State → Step) → IsFrom g s → StepIsFrom g (next s) → StepIsFrom g (then_step (knows w s) next)
  after-known w s next from more = needed-step (location_of w) (need w s.memory.log) s next from more

  gives-from : (r : Option RegId) (v : Option SymValue) (s : State) → IsFrom g s → StepIsFrom g (gives c r v s)
  gives-from r v s from = (from.0, (from.1.0, (from.1.1.0, moves 0 (set_if r v (counted s.frame)))))

  goes_on-from : (s : State) → IsFrom g s → StepIsFrom g (goes_on c s)
  goes_on-from s from = gives-from None None s from

  -- ---- faults and tests

  fails_in-from : (target : Option Target) (kind : FaultKind) (s : State) → IsFrom g s → StepIsFrom g (fails_in target kind s)
  fails_in-from None kind s from = after-known answers.Output s (faulted kind) from (from.0, (from.1.0, tt))
  fails_in-from (Some target) kind s from = (from.0, (from.1.0, tt))

  pub fails-from : (kind : FaultKind) (s : State) → IsFrom g s → StepIsFrom g (fails kind s)
  fails-from kind s from = fails_in-from s.target kind s from

  passed-from : (kind : FaultKind) (t : Tested) → TestedIsFrom g t → FlowIsFrom g (λ u. u) (passed kind t)
  passed-from kind (Good s) from = from
  passed-from kind (Bad s) from = fails-from kind s from
  passed-from kind (Answered step) from = from

  must-from : (t : Tree) (kind : FaultKind) (s : State) → IsFrom g s → FlowIsFrom g (λ u. u) (must c t kind s)
  must-from t kind s from = passed-from kind (test c t s) (test-from c g t s from)

  -- ---- accesses

  access_alive-from : (living : Living) (count : ℕ) (x : ObjectName) (offset : Tree) (s : State) → IsFrom g s → FlowIsFrom g (λ r. r.state) (access_alive c living count x offset s)
  access_alive-from Dead count x offset s from = fails-from fault.UseAfterFree s from
  access_alive-from (Alive size) count x offset s from =
      flow-from (λ u. u) (λ (r : Reached). r.state) (must c (is_within size count offset) fault.OutOfBounds s) (reached x offset) (must-from (is_within size count offset) fault.OutOfBounds s from) (λ u h. h)

  access_base-from : (count : ℕ) (base : Base) (offset : Tree) (s : State) → IsFrom g s → FlowIsFrom g (λ r. r.state) (access_base c count base offset s)
  access_base-from count Null offset s from = fails-from fault.NullAccess s from
  access_base-from count (Object x) offset s from =
      needed-flow (λ (r : Reached). r.state) (location_of (answers.Life x)) (need (answers.Life x) s.memory.log) s (λ u. access_alive c (life u.memory.globals x u.memory.log) count x offset u) from
      (access_alive-from (life s.memory.globals x s.memory.log) count x offset s from)

  access-from : (count : ℕ) (p : Pointer) (s : State) → IsFrom g s → FlowIsFrom g (λ r. r.state) (access c count p s)
  access-from count p s from = access_base-from count p.base p.offset s from

  -- ---- bytes that are read

  either_way-from : {A : Type 0} (h : A → State) (t : Tested) (next : State → Flow A) → TestedIsFrom g t → ((u : State) → IsFrom g u → FlowIsFrom g h (next u)) → FlowIsFrom g h (either_way t next)
  either_way-from h (Good s) next from more = more s from
  either_way-from h (Bad s) next from more = more s from
  either_way-from h (Answered step) next from more = from

  read_on-from : (x : ObjectName) (at : Tree) (tests : ℕ) (s : State) → IsFrom g s → FlowIsFrom g (λ r. r.state) (read_on c x at tests s)
  read_on-from x at zero s from = opens-from g Steps s from
  read_on-from x at (suc tests) s from =
      elim (read_byte s.memory.globals s.condition x at s.memory.log)
      as (λ r. FlowIsFrom g (λ (b : ReadBytes). b.state) (elim r [ Byte b ↦ On (record { bytes = b ∷ []; state = s }) | Undecided t ↦ either_way (test c t s) (λ u. read_on c x at tests u) ])) [
        | Byte b ↦ from
        | Undecided t ↦ either_way-from (λ (b : ReadBytes). b.state) (test c t s) (λ u. read_on c x at tests u) (test-from c g t s from) (λ u h. read_on-from x at tests u h)
      ]

  read_one-from : (x : ObjectName) (at : Tree) (s : State) → IsFrom g s → FlowIsFrom g (λ r. r.state) (read_one c x at s)
  read_one-from x at s from = read_on-from x at (2 ^ 64 - 1) s from

  read_all-from : (x : ObjectName) (offset : Tree) (count j : ℕ) (s : State) → IsFrom g s → FlowIsFrom g (λ r. r.state) (read_all c x offset count j s)
  read_all-from x offset zero j s from = from
  read_all-from x offset (suc count) j s from =
      flow-from (λ (b : ReadBytes). b.state) (λ (b : ReadBytes). b.state) (read_one c x (behind offset j) s) (λ r. then_flow (read_all c x offset count (j + 1) r.state) (before r.bytes))
      (read_one-from x (behind offset j) s from)
      (λ r h. flow-from (λ (b : ReadBytes). b.state) (λ (b : ReadBytes). b.state) (read_all c x offset count (j + 1) r.state) (before r.bytes) (read_all-from x offset count (j + 1) r.state h) (λ b k. k))

  reads-from : (count : ℕ) (r : Reached) → IsFrom g r.state → FlowIsFrom g (λ b. b.state) (reads c count r)
  reads-from count r from =
      needed-flow (λ (b : ReadBytes). b.state) (location_of (answers.Bytes r.object r.offset count)) (need (answers.Bytes r.object r.offset count) r.state.memory.log) r.state (read_all c r.object r.offset count 0) from
      (read_all-from r.object r.offset count 0 r.state from)

  -- ---- values that are loaded

  -- where a join needs calls, some were pending
  joins-from : (j : Join) (s : State) → IsFrom g s → FlowIsFrom g (λ v. v.state) (joins c j s)
  joins-from (answers.Value v) s from = from
  joins-from (answers.Needs calls) s from = needed-flow (λ (v : Valued). v.state) location.Result calls s (valued null) from from
  joins-from (answers.Test t v) s from = flow-from (λ u. u) (λ (w : Valued). w.state) (must c t fault.MixedBytes s) (valued v) (must-from t fault.MixedBytes s from) (λ u h. h)
  joins-from answers.Mixed s from = fails-from fault.MixedBytes s from

  join_read-from : (t : RegType) (r : ReadBytes) → IsFrom g r.state → FlowIsFrom g (λ v. v.state) (join_read c t r)
  join_read-from t r from = joins-from (joined_as t (map (byte_resolved r.state.snapshots) r.bytes)) r.state from

  loads-from : (result : RegId) (t : RegType) (r : Reached) → IsFrom g r.state → StepIsFrom g (loads c result t r)
  loads-from result t r from =
      step-from (λ (v : Valued). v.state) (then_flow (reads c (bytes_of_type t) r) (join_read c t)) (loaded c result)
      (flow-from (λ (b : ReadBytes). b.state) (λ (v : Valued). v.state) (reads c (bytes_of_type t) r) (join_read c t) (reads-from (bytes_of_type t) r from) (λ b h. join_read-from t b h))
      (λ v h. gives-from (Some result) (Some v.value) v.state h)

  -- ---- what is written and freed

  writes-from : (bytes : List SymByte) (r : Reached) → IsFrom g r.state → StepIsFrom g (writes c bytes r)
  writes-from bytes r from = let e = entry.Write r.object r.offset bytes in goes_on-from (appended e r.state) (with_entry e r.state from)

  copies-from : (there : Pointer) (r : ReadBytes) → IsFrom g r.state → StepIsFrom g (copies c there r)
  copies-from there r from = step-from (λ (u : Reached). u.state) (access c 1 there r.state) (writes c r.bytes) (access-from 1 there r.state from) (λ u h. writes-from r.bytes u h)

  frees_made-from : (made : Bool) (x : ObjectName) (offset : Tree) (s : State) → IsFrom g s → StepIsFrom g (frees_made c made x offset s)
  frees_made-from true x offset s from = step-from (λ u. u) (must c (is_start offset) fault.BadFree s) (frees_object c x) (must-from (is_start offset) fault.BadFree s from) (λ u h. goes_on-from (appended (entry.Free x) u) (with_entry (entry.Free x) u h))
  frees_made-from false x offset s from = fails-from fault.BadFree s from

  frees_alive-from : (living : Living) (x : ObjectName) (offset : Tree) (s : State) → IsFrom g s → StepIsFrom g (frees_alive c living x offset s)
  frees_alive-from Dead x offset s from = fails-from fault.UseAfterFree s from
  frees_alive-from (Alive size) x offset s from = frees_made-from (made_by_malloc c.program x) x offset s from

  frees_base-from : (base : Base) (offset : Tree) (s : State) → IsFrom g s → StepIsFrom g (frees_base c base offset s)
  frees_base-from Null offset s from = step-from (λ u. u) (must c (is_start offset) fault.BadFree s) (goes_on c) (must-from (is_start offset) fault.BadFree s from) (λ u h. goes_on-from u h)
  frees_base-from (Object x) offset s from =
      after-known (answers.Life x) s (λ u. frees_alive c (life u.memory.globals x u.memory.log) x offset u) from (frees_alive-from (life s.memory.globals x s.memory.log) x offset s from)

  -- ---- numbers

  divides_by-from : (b : Tree) (s : State) → IsFrom g s → FlowIsFrom g (λ u. u) (divides_by c b s)
  divides_by-from b s from = must-from (is_nonzero b) fault.DivideByZero s from

  divides_signed-from : (a b : Tree) (s : State) → IsFrom g s → FlowIsFrom g (λ u. u) (divides_signed c a b s)
  divides_signed-from a b s from = flow-from (λ u. u) (λ u. u) (divides_by c b s) (must c (has_quotient a b) fault.DivideOverflow) (divides_by-from b s from) (λ u h. must-from (has_quotient a b) fault.DivideOverflow u h)

  divides-from : (o : BinOp) (a b : Tree) (s : State) → IsFrom g s → FlowIsFrom g (λ u. u) (divides c o a b s)
  divides-from op.Udiv a b s from = divides_by-from b s from
  divides-from op.Urem a b s from = divides_by-from b s from
  divides-from op.Sdiv a b s from = divides_signed-from a b s from
  divides-from op.Srem a b s from = divides_signed-from a b s from
  divides-from _ a b s from = from

  gives_term-from : (result : RegId) (t : Tree) (s : State) → IsFrom g s → StepIsFrom g (gives_term c result t s)
  gives_term-from result t s from = gives-from (Some result) (Some (Int t)) s from

  picks-from : (result : RegId) (a b : SymValue) (t : Tested) → TestedIsFrom g t → StepIsFrom g (picks c result a b t)
  picks-from result a b (Good s) from = gives-from (Some result) (Some a) s from
  picks-from result a b (Bad s) from = gives-from (Some result) (Some b) s from
  picks-from result a b (Answered step) from = from

  selects-from : (result : RegId) (condition : Tree) (a b : SymValue) (s : State) → IsFrom g s → StepIsFrom g (selects c result condition a b s)
  selects-from result condition (Int a) b s from = gives_term-from result (chosen condition a (term_in b)) s from
  selects-from result condition (Ptr p) b s from = picks-from result (Ptr p) b (test c (truth_of condition) s) (test-from c g (truth_of condition) s from)
  selects-from result condition (Pending call t) b s from = picks-from result (Pending call t) b (test c (truth_of condition) s) (test-from c g (truth_of condition) s from)

  mallocs-from : (result : Option RegId) (size : Tree) (t : Tested) → TestedIsFrom g t → StepIsFrom g (mallocs c result size t)
  mallocs-from result size (Good s) from =
      let e = entry.Alloc (made_now s.frame) size in gives-from result (Some (pointer_to (made_now s.frame) 0)) (appended e s) (with_entry e s from)
  mallocs-from result size (Bad s) from = gives-from result (Some null) s from
  mallocs-from result size (Answered step) from = from

  -- ---- calls and ends

  calls-from : (f : FuncId) (args : List SymValue) (result : Option RegId) (s : State) → IsFrom g s → StepIsFrom g (calls c f args result s)
  calls-from f args result s from =
      elim (is_skipped c f s.target) as (λ b. StepIsFrom g (elim b [ true ↦ skips c f args result s | false ↦ enters c f args s ])) [
        | true ↦ gives-from result (option_map (Pending (next_call s)) (result_type (func_at c.program f)))
            (record s { memory = with_item (Marked (next_call s) (mods_of c f) []) s.memory; snapshots = s.snapshots ++ snapshot_of f args s ∷ [] })
            (from.0, (from.1.0, ((from.1.1.0.0, keeps.skip f args s from.1.1.0.1), from.1.1.1)))
        | false ↦ (from.0, (from.1.0, (from.1.1.0, starts f)))
      ]

  completes-from : (v : Option SymValue) (s : State) → IsOutside g.at → IsFrom g s → StepIsFrom g (completes v s)
  completes-from v s outside from = after-known answers.Output s (completed v) from (from.0, (from.1.0, (outside, tt)))

  ends_first-from : (target : Option Target) (v : Option SymValue) (s : State) → target ≡ g.at → IsFrom g s → StepIsFrom g (ends_first target v s)
  ends_first-from None v s is from = completes-from v s (subst IsOutside is tt) from
  ends_first-from (Some target) v s is from =
      (from.0, (from.1.0, (subst (λ at. DoneLiesIn at (entries_since target.length target.at s.memory.log) (if_result target.at v)) is (entries-lie target.at (take (length s.memory.log - target.length) s.memory.log), result-lies target.at v), tt)))

  leaves_to-from : (v : Option SymValue) (callers : List Frame) (s : State) → IsFrom g s → StepIsFrom g (leaves_to c v callers s)
  leaves_to-from v [] s from = ends_first-from s.target v s from.1.1.0.0 from
  leaves_to-from v (caller ∷ callers) s from = (from.0, (from.1.0, (from.1.1.0, moves 0 (set_if _ v caller))))

  pub ends_frame-from : (v : Option SymValue) (s : State) → IsFrom g s → StepIsFrom g (ends_frame c v s)
  ends_frame-from v s from = leaves_to-from v s.callers (ended c s) (ended-from s from)

  main-outside : (target : Option Target) (callers : List Frame) → is_main_end target callers ≡ true → IsOutside target
  main-outside None callers is = tt
  main-outside (Some target) callers is = cc

  returns-from : (value : Option Operand) (s : State) → IsFrom g s → StepIsFrom g (returns c value s)
  returns-from value s from =
      elim (is_main_end s.target s.callers) as (λ b. is_main_end s.target s.callers ≡ b → StepIsFrom g (elim b [
        | true ↦ then_step (firm (option_to_list value) s) (λ u. completes (option_map (value_in u) value) u)
        | false ↦ ends_frame c (option_map (value_in s) value) (in_frame (counted s.frame) s)
      ])) [
        | true ↦ (λ is. after-firm (option_to_list value) s (λ u. completes (option_map (value_in u) value) u) from
            (completes-from (option_map (value_in s) value) s (subst IsOutside from.1.1.0.0 (main-outside s.target s.callers is)) from))
        | false ↦ (λ is. ends_frame-from (option_map (value_in s) value) (in_frame (counted s.frame) s) from)
      ]
      refl

  exits-from : (target : Option Target) (v : SymValue) (s : State) → target ≡ g.at → IsFrom g s → StepIsFrom g (exits target v s)
  exits-from None v s is from = completes-from (Some v) s (subst IsOutside is tt) from
  exits-from (Some target) v s is from = fails-from fault.NoReturn s from

  -- ---- nodes

  computes-from : (o : BinOp) (a b : Operand) (result : RegId) (s : State) → IsFrom g s → StepIsFrom g (computes c o a b result s)
  computes-from o a b result s from =
      step-from (λ u. u) (divides c o (number_in s a) (number_in s b) s) (gives_term c result (calculated o (number_in s a) (number_in s b)))
      (divides-from o (number_in s a) (number_in s b) s from) (λ u h. gives_term-from result (calculated o (number_in s a) (number_in s b)) u h)

  asks_memory-from : (size : Operand) (result : Option RegId) (s : State) → IsFrom g s → StepIsFrom g (asks_memory c size result s)
  asks_memory-from size result s from =
      let t = size_in (number_in s size) in
      mallocs-from result t (test c (is_small t) s) (test-from c g (is_small t) s from)

  loads_at-from : (pointer : Operand) (result : RegId) (t : RegType) (s : State) → IsFrom g s → StepIsFrom g (loads_at c pointer result t s)
  loads_at-from pointer result t s from =
      step-from (λ (r : Reached). r.state) (access c (bytes_of_type t) (address_in s pointer) s) (loads c result t)
      (access-from (bytes_of_type t) (address_in s pointer) s from) (λ r h. loads-from result t r h)

  stores_at-from : (value pointer : Operand) (s : State) → IsFrom g s → StepIsFrom g (stores_at c value pointer s)
  stores_at-from value pointer s from =
      step-from (λ (r : Reached). r.state) (access c (bytes_of_value (value_in s value)) (address_in s pointer) s) (writes c (stored_bytes (value_in s value)))
      (access-from (bytes_of_value (value_in s value)) (address_in s pointer) s from) (λ r h. writes-from (stored_bytes (value_in s value)) r h)

  copies_from-from : (source there : Operand) (s : State) → IsFrom g s → StepIsFrom g (copies_from c source there s)
  copies_from-from source there s from =
      step-from (λ (b : ReadBytes). b.state) (then_flow (access c 1 (address_in s source) s) (reads c 1)) (copies c (address_in s there))
      (flow-from (λ (r : Reached). r.state) (λ (b : ReadBytes). b.state) (access c 1 (address_in s source) s) (reads c 1) (access-from 1 (address_in s source) s from) (λ r h. reads-from 1 r h))
      (λ r h. copies-from (address_in s there) r h)

  took-from : IsTakenFrom g (took c)
  took-from side t from = (from.0, (from.1.0, (from.1.1.0, moves side (counted t.frame))))

  pub executes-from : (x : Node) (s : State) → IsFrom g s → StepIsFrom g (executes c x s)
  executes-from (node.Bin o a b result next) s from = after-firm (a ∷ b ∷ []) s (computes c o a b result) from (computes-from o a b result s from)
  executes-from (node.Cmp p a b result next) s from = after-firm (a ∷ b ∷ []) s (compares c p a b result) from (gives_term-from result (compared_values p (value_in s a) (value_in s b)) s from)
  executes-from (node.Cast o a result next) s from = after-firm (a ∷ []) s (casts c o a result) from (gives_term-from result (cast_to o (width_of (type_at c.program s.frame.func result)) (number_in s a)) s from)
  executes-from (node.Gep base parts result next) s from =
      after-firm (base ∷ flat_map operands_of_part parts) s (places c base parts result) from
      (gives-from (Some result) (Some (Ptr (record { base = (address_in s base).base; offset = moved_by_all s (address_in s base).offset parts }))) s from)
  executes-from (node.Select condition a b result next) s from =
      after-firm (condition ∷ a ∷ b ∷ []) s (chooses c condition a b result) from (selects-from result (number_in s condition) (value_in s a) (value_in s b) s from)
  executes-from (node.Alloca size result next) s from = gives-from (Some result) (Some (pointer_to (made_now s.frame) 0)) (appended (entry.Alloc (made_now s.frame) (wide size)) s) (with_entry (entry.Alloc (made_now s.frame) (wide size)) s from)
  executes-from (node.Malloc size result next) s from = after-firm (size ∷ []) s (asks_memory c size result) from (asks_memory-from size result s from)
  executes-from (node.Free pointer next) s from =
      after-firm (pointer ∷ []) s (λ u. frees c (address_in u pointer) u) from (frees_base-from (address_in s pointer).base (address_in s pointer).offset s from)
  executes-from (node.Load pointer result next) s from =
      after-firm (pointer ∷ []) s (λ u. loads_at c pointer result (type_at c.program u.frame.func result) u) from (loads_at-from pointer result (type_at c.program s.frame.func result) s from)
  executes-from (node.Store value pointer next) s from = after-firm (pointer ∷ []) s (stores_at c value pointer) from (stores_at-from value pointer s from)
  executes-from (node.Copy source there next) s from = after-firm (source ∷ there ∷ []) s (copies_from c source there) from (copies_from-from source there s from)
  executes-from (node.In result next) s from =
      after-known answers.Input s (takes_input c result) from (gives-from (Some result) (Some (Int (input_at (length s.kept) (position s.memory.log)))) (appended entry.Get s) (with_entry entry.Get s from))
  executes-from (node.Put value next) s from = after-firm (value ∷ []) s (puts c value) from (let e = entry.Put (low_byte (number_in s value)) in goes_on-from (appended e s) (with_entry e s from))
  executes-from (node.Call callee args result next) s from = calls-from callee (map (value_in s) args) result s from
  executes-from (node.Moves sets next) s from = (from.0, (from.1.0, (from.1.1.0, moves 0 (counted (set_all s sets s.frame)))))
  executes-from (node.Jump next) s from = goes_on-from s from
  executes-from (node.Branch condition first second) s from = after-firm (condition ∷ []) s (branches c condition) from (choose_way-from c g (branch_sides (number_in s condition)) s (took c) took-from from)
  executes-from (node.Switch value cases otherwise) s from = after-firm (value ∷ []) s (switches c value cases) from (choose_way-from c g (switch_sides (number_in s value) cases) s (took c) took-from from)
  executes-from (node.Ret value) s from = returns-from value s from
  executes-from (node.Exit status) s from = after-firm (status ∷ []) s (λ u. exits u.target (value_in u status) u) from (exits-from s.target (value_in s status) s from.1.1.0.0 from)
  executes-from node.Abort s from = fails-from fault.Abort s from
  executes-from (node.Assert args) s from = after-firm args s (fails fault.Assert) from (fails-from fault.Assert s from)
  executes-from node.Unreachable s from = fails-from fault.Unreachable s from
