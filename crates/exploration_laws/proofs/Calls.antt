-- Calls are kept by attempts, roots and merges.
use Rattle.std.proofs.Common.{◌≡◌, ℕ, zero, suc, Bool, true, false, ◌+◌, ◌-◌, ◌<◌, ◌≤◌, List, [], ◌∷◌, ◌++◌, length, map, Option, Some, None, refl, sym, ◌∙◌, ap, subst, arith}
use Rattle.std.specs.Prelude.{cond, filter, nat_lt, slice_get}
use Rattle.std.specs.List.{AllByRecursion as Each}
use Rattle.std.proofs.lemmas.Bool.{eqb-true, eqb-false, ltb-true, ltb-false}
use Rattle.std.proofs.lemmas.List.Elements.{filter-append}
use Rattle.std.proofs.lemmas.List.{append-nil, map-append, length-append, length-map}
use Rattle.flat_ir.specs.declared.names.FuncId.{FuncId}
use Rattle.flat_ir.specs.declared.names.Location.{Location}
use Rattle.flat_ir.specs.declared.names.Location.TheVariants as location
use Rattle.sym_bytes.specs.declared.names.CallId.{CallId}
use Rattle.sym_bytes.specs.Building.{same_call}
use Rattle.sym_bytes.specs.Entry.{Entry}
use Rattle.sym_bytes.specs.Value.{SymValue}
use Rattle.leaves.specs.declared.options.Cause.{Cause}
use Rattle.leaves.specs.declared.options.Cause.TheVariants as cause
use Rattle.leaves.specs.Events.{Leaf}
use Rattle.leaves.specs.Events as leaf
use Rattle.log_laws.specs.Logs.{Log, Did, Marked, fill, cut}
use Rattle.sym_states.specs.Attempts.{attempt, next_call, snapshot_of, mods_of}
use Rattle.sym_states.specs.Exploring.{Setting, before_call, recovery_if}
use Rattle.sym_states.specs.Merging.{Partial, folded, first_partial, Where, fault_of, cause_of, first_some, has_recovered, filled_by, filled_all, state_of, child_by_cause, child_by_fault, child_of, children_of, merged}
use Rattle.sym_states.specs.Sides.{share_of}
use Rattle.skip_records.specs.Snapshots.{Snapshot}
use Rattle.sym_states.specs.States.{State, Context, Child, Go, Stop, Step, Goes, Forks, Needs, Ends, Needed, told_with, opens}
use Rattle.exploration_laws.specs.Calls.{Skip, marks_of, skip_of, skips_of, NumberedFrom, AreKept, CallsAreKept, ChildKeepsCalls, StepKeepsCalls, FirstsKeepCalls, AttemptsKeepCalls, RootsKeepCalls, MergesKeepCalls, NeedsAreCalls}
use Rattle.exploration_laws.specs.Open.{MarksFall}
use Rattle.exploration_laws.proofs.Attempts.{anywhere, giver_of, attempt-given}
use Rattle.exploration_laws.proofs.Givers.{Keeps, ChildrenAreFrom, StepIsFrom}
use Rattle.exploration_laws.proofs.Open.{needs-rise}

-- ---- numbered calls

more-by-one : (n k m : ℕ) → n ≡ (k + 1) + m → n ≡ k + suc m
more-by-one n k m h = omega (arith, h)

first-by-one : (n k m : ℕ) → n ≡ k + suc m → n ≡ (k + 1) + m
first-by-one n k m h = omega (arith, h)

none-added : (n k : ℕ) → n ≡ k + 0 → n ≡ k
none-added n k h = omega (arith, h)

-- a call more, with the next number
numbered-more : (k : ℕ) (ss : List Skip) (s : Skip) → NumberedFrom k ss → s.call.0 ≡ k + length ss → NumberedFrom k (ss ++ s ∷ [])
numbered-more k [] s h is = (none-added s.call.0 k is, tt)
numbered-more k (t ∷ ss) s h is = (h.0, numbered-more (k + 1) ss s h.1 (first-by-one s.call.0 k (length ss) is))

zero-added : (n k : ℕ) → n ≡ k → n ≡ k + 0
zero-added n k h = omega (arith, h)

-- the calls before the last, and its number
numbered-parts : (k : ℕ) (ss : List Skip) (s : Skip) → NumberedFrom k (ss ++ s ∷ []) → NumberedFrom k ss × (s.call.0 ≡ k + length ss)
numbered-parts k [] s h = (tt, zero-added s.call.0 k h.0)
numbered-parts k (t ∷ ss) s h = let p = numbered-parts (k + 1) ss s h.1 in ((h.0, p.0), more-by-one s.call.0 k (length ss) p.1)

numbered-below : (n k m : ℕ) → n ≡ k → n < k + suc m
numbered-below n k m h = omega (arith, h)

below-by-one : (n k m : ℕ) → n < (k + 1) + m → n < k + suc m
below-by-one n k m h = omega (arith, h)

-- the number of a snapshot is below the next one
abbrev pub IsBelowIf : ℕ → Option Snapshot → Type 0
IsBelowIf bound None = Unit {0}
IsBelowIf bound (Some s) = s.call.0 < bound

below-if : (k m : ℕ) (o : Option Snapshot) → IsBelowIf ((k + 1) + m) o → IsBelowIf (k + suc m) o
below-if k m None h = tt
below-if k m (Some s) h = below-by-one s.call.0 k m h

pub snapshot-below : (mods : List (List Location)) (k i : ℕ) (shots : List Snapshot) → NumberedFrom k (skips_of mods shots) → IsBelowIf (k + length shots) (slice_get shots i)
snapshot-below mods k i [] h = tt
snapshot-below mods k zero (s ∷ shots) h = numbered-below s.call.0 k (length shots) h.0
snapshot-below mods k (suc i) (s ∷ shots) h = below-if k (length shots) (slice_get shots i) (snapshot-below mods (k + 1) i shots h.1)

-- ---- marks

abbrev mark : CallId → List Location → Skip
mark call mods = record { call = call; mods = mods }

marks-fall : (log : Log) → NumberedFrom 1 (marks_of log) → MarksFall (1 + length (marks_of log)) log
marks-fall [] h = tt
marks-fall (Did e ∷ log) h = marks-fall log h
marks-fall (Marked c mods fills ∷ log) h =
    let p = numbered-parts 1 (marks_of log) (mark c mods) h in
    (less c.0 (length (marks_of log)) (length (marks_of log ++ mark c mods ∷ [])) p.1 (length-append (marks_of log) (mark c mods ∷ [])), subst (λ n. MarksFall n log) (sym p.1) (marks-fall log p.0))
  where
    less : (n m all : ℕ) → n ≡ 1 + m → all ≡ m + 1 → n < 1 + all
    less n m all h k = omega (arith, h, k)

filled-marks : (call : CallId) (at : Location) (es : List Entry) (log : Log) → marks_of (fill call at es log) ≡ marks_of log
filled-marks call at es [] = refl
filled-marks call at es (Did e ∷ log) = filled-marks call at es log
filled-marks call at es (Marked c mods fills ∷ log) =
    elim (same_call call c) as (λ b. marks_of (cond b (Marked c mods (fills ++ record { at = at; entries = es } ∷ []) ∷ log) (Marked c mods fills ∷ fill call at es log)) ≡ marks_of log ++ mark c mods ∷ [])
    [ true ↦ refl | false ↦ ap (λ ms. ms ++ mark c mods ∷ []) (filled-marks call at es log) ]

skip-if : (mods : List (List Location)) (b : Bool) (t s : Snapshot) → skip_of mods t ≡ skip_of mods s → skip_of mods (cond b t s) ≡ skip_of mods s
skip-if mods true t s h = h
skip-if mods false t s h = refl

recovered-skip : (mods : List (List Location)) (n : Needed) (v : Option SymValue) (s : Snapshot) → skip_of mods (has_recovered n v s) ≡ skip_of mods s
recovered-skip mods n v s = skip-if mods (same_call n.call s.call) (record s { recovered = s.recovered ++ n.at ∷ []; result = elim n.at [ location.Result ↦ v | _ ↦ s.result ] }) s refl

pub recovered-skips : (mods : List (List Location)) (n : Needed) (v : Option SymValue) (shots : List Snapshot) → skips_of mods (map (has_recovered n v) shots) ≡ skips_of mods shots
recovered-skips mods n v [] = refl
recovered-skips mods n v (s ∷ shots) =
    ap (λ t. t ∷ skips_of mods (map (has_recovered n v) shots)) (recovered-skip mods n v s) ∙ ap (λ ss. skip_of mods s ∷ ss) (recovered-skips mods n v shots)

-- ---- a log cut before a call, and the snapshots before it

abbrev is-before : CallId → Skip → Bool
is-before call s = nat_lt s.call.0 call.0

no-less : (n m : ℕ) → n < m → m ≤ n → ⊥
no-less n m h k = omega (arith, h, k)

kept-if : (call : CallId) (s : Skip) (front ss : List Skip) (b : Bool) → nat_lt s.call.0 call.0 ≡ b → s.call.0 < call.0 → front ≡ ss → cond b (s ∷ front) front ≡ s ∷ ss
kept-if call s front ss true is less h = ap (λ ts. s ∷ ts) h
kept-if call s front ss false is less h = absurd (no-less s.call.0 call.0 less (ltb-false s.call.0 call.0 is))

left-if : (call : CallId) (s : Skip) (b : Bool) → nat_lt s.call.0 call.0 ≡ b → call.0 ≤ s.call.0 → cond b (s ∷ []) [] ≡ []
left-if call s true is more = absurd (no-less s.call.0 call.0 (ltb-true s.call.0 call.0 is) more)
left-if call s false is more = refl

first-less : (n k m bound : ℕ) → n ≡ k → k + suc m ≤ bound → n < bound
first-less n k m bound is h = omega (arith, is, h)

rest-less : (k m bound : ℕ) → k + suc m ≤ bound → (k + 1) + m ≤ bound
rest-less k m bound h = omega (arith, h)

all-before : (call : CallId) (k : ℕ) (ss : List Skip) → NumberedFrom k ss → k + length ss ≤ call.0 → filter (is-before call) ss ≡ ss
all-before call k [] h low = refl
all-before call k (s ∷ ss) h low =
    kept-if call s (filter (is-before call) ss) ss (nat_lt s.call.0 call.0) refl (first-less s.call.0 k (length ss) call.0 h.0 low)
    (all-before call (k + 1) ss h.1 (rest-less k (length ss) call.0 low))

last-behind : (call : CallId) (ss : List Skip) (s : Skip) → call.0 ≤ s.call.0 → filter (is-before call) (ss ++ s ∷ []) ≡ filter (is-before call) ss
last-behind call ss s more =
    filter-append (is-before call) ss (s ∷ []) ∙ ap (λ ts. filter (is-before call) ss ++ ts) (left-if call s (nat_lt s.call.0 call.0) refl more) ∙ append-nil (filter (is-before call) ss)

-- a call that isn't the last is an older one
older-call : (n m c all : ℕ) → n < 1 + all → all ≡ m + 1 → c ≡ 1 + m → (n ≡ c → ⊥) → n < 1 + m
older-call n m c all low total is other = by-test (nat_lt n (1 + m)) refl
  where
    equal : 1 + m ≤ n → n ≡ c
    equal h = omega (arith, low, total, is, h)

    by-test : (b : Bool) → nat_lt n (1 + m) ≡ b → n < 1 + m
    by-test true e = ltb-true n (1 + m) e
    by-test false e = absurd (other (equal (ltb-false n (1 + m) e)))

no-more : (n m : ℕ) → n ≡ m → n ≤ m
no-more n m h = omega (arith, h)

whole : (n c m : ℕ) → n ≡ c → c ≡ 1 + m → 1 + m ≤ n
whole n c m h k = omega (arith, h, k)

at-most : (n c m : ℕ) → n < 1 + m → c ≡ 1 + m → n ≤ c
at-most n c m h k = omega (arith, h, k)

at-mark : (call c : CallId) (mods : List Location) (log : Log) (b : Bool) → same_call call c ≡ b → NumberedFrom 1 (marks_of log ++ mark c mods ∷ []) → call.0 < 1 + length (marks_of log ++ mark c mods ∷ [])
    → (call.0 < 1 + length (marks_of log) → marks_of (cut call log) ≡ filter (is-before call) (marks_of log)) → marks_of (cond b log (cut call log)) ≡ filter (is-before call) (marks_of log ++ mark c mods ∷ [])
at-mark call c mods log true e h low older =
    let is = eqb-true call.0 c.0 e in
    let p = numbered-parts 1 (marks_of log) (mark c mods) h in
    sym (last-behind call (marks_of log) (mark c mods) (no-more call.0 c.0 is) ∙ all-before call 1 (marks_of log) p.0 (whole call.0 c.0 (length (marks_of log)) is p.1))
at-mark call c mods log false e h low older =
    let p = numbered-parts 1 (marks_of log) (mark c mods) h in
    let less = older-call call.0 (length (marks_of log)) c.0 (length (marks_of log ++ mark c mods ∷ [])) low (length-append (marks_of log) (mark c mods ∷ [])) p.1 (eqb-false call.0 c.0 e) in
    older less ∙ sym (last-behind call (marks_of log) (mark c mods) (at-most call.0 c.0 (length (marks_of log)) less p.1))

marks-cut : (call : CallId) (log : Log) → NumberedFrom 1 (marks_of log) → call.0 < 1 + length (marks_of log) → marks_of (cut call log) ≡ filter (is-before call) (marks_of log)
marks-cut call [] h low = refl
marks-cut call (Did e ∷ log) h low = marks-cut call log h low
marks-cut call (Marked c mods fills ∷ log) h low =
    let p = numbered-parts 1 (marks_of log) (mark c mods) h in
    at-mark call c mods log (same_call call c) refl h low (λ less. marks-cut call log p.0 less)

before-skips : (mods : List (List Location)) (call : CallId) (shots : List Snapshot) → skips_of mods (before_call call shots) ≡ filter (is-before call) (skips_of mods shots)
before-skips mods call [] = refl
before-skips mods call (s ∷ shots) =
    elim (nat_lt s.call.0 call.0) as (λ b. skips_of mods (cond b (s ∷ before_call call shots) (before_call call shots)) ≡ cond b (skip_of mods s ∷ filter (is-before call) (skips_of mods shots)) (filter (is-before call) (skips_of mods shots)))
    [ true ↦ ap (λ ss. skip_of mods s ∷ ss) (before-skips mods call shots) | false ↦ before-skips mods call shots ]

numbered-if : (b : Bool) (log more : Log) → NumberedFrom 1 (marks_of log) → NumberedFrom 1 (marks_of more) → NumberedFrom 1 (marks_of (cond b log more))
numbered-if true log more h k = h
numbered-if false log more h k = k

numbered-cut : (call : CallId) (log : Log) → NumberedFrom 1 (marks_of log) → NumberedFrom 1 (marks_of (cut call log))
numbered-cut call [] h = tt
numbered-cut call (Did e ∷ log) h = numbered-cut call log h
numbered-cut call (Marked c mods fills ∷ log) h =
    let p = numbered-parts 1 (marks_of log) (mark c mods) h in
    numbered-if (same_call call c) log (cut call log) p.0 (numbered-cut call log p.0)

-- ---- logs and snapshots

module _ (mods : List (List Location)) where
  marks-numbered : (log : Log) (shots : List Snapshot) → AreKept mods log shots → NumberedFrom 1 (marks_of log)
  marks-numbered log shots h = subst (NumberedFrom 1) (sym h.marked) h.numbered

  as-many : (log : Log) (shots : List Snapshot) → AreKept mods log shots → length (marks_of log) ≡ length shots
  as-many log shots h = ap (λ ms. length ms) h.marked ∙ length-map shots (skip_of mods)

  pub cut-kept : (call : CallId) (log : Log) (shots : List Snapshot) → call.0 < 1 + length shots → AreKept mods log shots → AreKept mods (cut call log) (before_call call shots)
  cut-kept call log shots low h =
      let numbered = marks-numbered log shots h in
      let below = subst (λ n. call.0 < 1 + n) (sym (as-many log shots h)) low in
      let is = marks-cut call log numbered below ∙ ap (filter (is-before call)) h.marked ∙ sym (before-skips mods call shots) in
      record { numbered = subst (NumberedFrom 1) is (numbered-cut call log numbered); marked = is }

  pub filled-kept : (n : Needed) (es : List Entry) (v : Option SymValue) (log : Log) (shots : List Snapshot) → AreKept mods log shots → AreKept mods (fill n.call n.at es log) (map (has_recovered n v) shots)
  filled-kept n es v log shots h =
      let same = sym (recovered-skips mods n v shots) in
      record { numbered = subst (NumberedFrom 1) same h.numbered; marked = filled-marks n.call n.at es log ∙ h.marked ∙ same }

-- ---- attempts

next-number : (n m : ℕ) → m ≡ n → n + 1 ≡ 1 + m
next-number n m h = omega (arith, h)

pub skip-kept : (c : Context) (f : FuncId) (args : List SymValue) (s : State) → CallsAreKept c.mods s → AreKept c.mods (Marked (next_call s) (mods_of c f) [] ∷ s.memory.log) (s.snapshots ++ snapshot_of f args s ∷ [])
skip-kept c f args s h =
    let both = sym (map-append (skip_of c.mods) s.snapshots (snapshot_of f args s ∷ [])) in
    record {
      numbered = subst (NumberedFrom 1) both (numbered-more 1 (skips_of c.mods s.snapshots) (skip_of c.mods (snapshot_of f args s)) h.numbered (next-number (length s.snapshots) (length (skips_of c.mods s.snapshots)) (length-map s.snapshots (skip_of c.mods))));
      marked = ap (λ ms. ms ++ skip_of c.mods (snapshot_of f args s) ∷ []) h.marked ∙ both;
    }

calls-kept : (c : Context) → Keeps c (AreKept c.mods)
calls-kept c = record { entry = λ e log shots h. record { numbered = h.numbered; marked = h.marked }; skip = skip-kept c }

children-given : (mods : List (List Location)) (s : State) (left : ℕ) (cs : List Child) → ChildrenAreFrom (giver_of (AreKept mods) s left anywhere) cs → Each (ChildKeepsCalls mods) cs
children-given mods s left [] h = tt
children-given mods s left (Go t ∷ cs) h = (h.0.1.1.0.1, children-given mods s left cs h.1)
children-given mods s left (Stop l ∷ cs) h = (tt, children-given mods s left cs h.1)

step-given : (mods : List (List Location)) (s : State) (left : ℕ) (a : Step) → StepIsFrom (giver_of (AreKept mods) s left anywhere) a → StepKeepsCalls mods a
step-given mods s left (Goes t) h = h.1.1.0.1
step-given mods s left (Forks cs) h = children-given mods s left cs h
step-given mods s left (Needs t calls) h = h.0.1.1.0.1
step-given mods s left (Ends l) h = tt

pub attempts-keep : AttemptsKeepCalls
attempts-keep c s h = let given = attempt-given (AreKept c.mods) c (calls-kept c) s h in step-given c.mods s given.left (attempt c s) given.given

-- ---- the first state and roots

pub firsts-keep : FirstsKeepCalls
firsts-keep e = record { numbered = tt; marked = refl }

root-kept : (e : Setting) (s : State) (at : Location) (o : Option Snapshot) → IsBelowIf (1 + length s.snapshots) o → CallsAreKept e.mods s → ChildKeepsCalls e.mods (recovery_if e s at o)
root-kept e s at None low h = h
root-kept e s at (Some shot) low h = cut-kept e.mods shot.call s.memory.log s.snapshots low h

pub roots-keep : RootsKeepCalls
roots-keep e s [] h = tt
roots-keep e s (n ∷ needs) h =
    (root-kept e s n.at (slice_get s.snapshots (n.call.0 - 1)) (snapshot-below e.mods 1 (n.call.0 - 1) s.snapshots h.numbered) h, roots-keep e s needs h)

-- ---- merges

module _ (mods : List (List Location)) where
  filled_by-kept : (s : State) (n : Needed) (l : Leaf) → CallsAreKept mods s → CallsAreKept mods (filled_by s n l)
  filled_by-kept s n (leaf.Done t entries v) h = filled-kept mods n entries v s.memory.log s.snapshots h
  filled_by-kept s n _ h = h

  filled_all-kept : (s : State) (needs : List Needed) (ls : List Leaf) → CallsAreKept mods s → CallsAreKept mods (filled_all s needs ls)
  filled_all-kept s [] ls h = h
  filled_all-kept s (n ∷ needs) [] h = h
  filled_all-kept s (n ∷ needs) (l ∷ ls) h = filled_all-kept (filled_by s n l) needs ls (filled_by-kept s n l h)

  by_cause-kept : (o : Option Cause) (s : State) (needs : List Needed) (kept : List ℕ) (p : Partial) → CallsAreKept mods s → ChildKeepsCalls mods (child_by_cause o s needs kept p)
  by_cause-kept (Some why) s needs kept p h = tt
  by_cause-kept None s needs kept p h = filled_all-kept (record (state_of s p) { kept = kept }) needs p.used h

  by_fault-kept : (o : Option Where) (s : State) (needs : List Needed) (kept : List ℕ) (p : Partial) → CallsAreKept mods s → ChildKeepsCalls mods (child_by_fault o s needs kept p)
  by_fault-kept (Some f) s needs kept p h = tt
  by_fault-kept None s needs kept p h = by_cause-kept (first_some cause_of p.used) s needs kept p h

  child-kept : (s : State) (needs : List Needed) (p : Partial) → CallsAreKept mods s → ChildKeepsCalls mods (child_of s needs p)
  child-kept s needs p h =
      elim p.kept as (λ o. ChildKeepsCalls mods (elim o [
        | None ↦ Stop (leaf.Open (told_with None p.condition (state_of s p)) cause.Solver)
        | Some kept ↦ child_by_fault (first_some fault_of p.used) s needs kept p
      ])) [ None ↦ tt | Some kept ↦ by_fault-kept (first_some fault_of p.used) s needs kept p h ]

  children-kept : (s : State) (needs : List Needed) (k j : ℕ) (ps : List Partial) → CallsAreKept mods s → Each (ChildKeepsCalls mods) (children_of s needs k j ps)
  children-kept s needs k j [] h = tt
  children-kept s needs k j (p ∷ ps) h = (child-kept (record s { shares = share_of s.shares k j }) needs p h, children-kept s needs k (j + 1) ps h)

pub merges-keep : MergesKeepCalls
merges-keep c s needs results h =
    elim (folded c s results (first_partial s ∷ [])) as (λ o. StepKeepsCalls c.mods (elim o [
      | None ↦ opens cause.Shares s
      | Some partials ↦ Forks (children_of s needs (length partials) 0 partials)
    ])) [ None ↦ tt | Some partials ↦ children-kept c.mods s needs (length partials) 0 partials h ]

-- ---- what is needed

pub needs-are-calls : NeedsAreCalls
needs-are-calls mods w s h =
    let log = s.memory.log in
    let bound = sym (next-number (length s.snapshots) (length (marks_of log)) (as-many mods log s.snapshots h)) in
    needs-rise w log (length s.snapshots + 1) (subst (λ n. MarksFall n log) bound (marks-fall log (marks-numbered mods log s.snapshots h)))
