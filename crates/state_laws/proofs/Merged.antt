-- What a suspended state becomes fits, where the leaves of its recoveries do.
use Rattle.std.proofs.Common.{◌≡◌, ℕ, zero, suc, Bool, true, false, ◌+◌, ◌-◌, ◌≤◌, List, [], ◌∷◌, ◌++◌, length, map, drop, Option, Some, None, refl, sym, ◌∙◌, subst}
use Rattle.std.specs.Prelude.{cond, nat_lt}
use Rattle.std.specs.List.{flat_map}
use Rattle.terms.specs.Tree.{Tree}
use Rattle.term_store.specs.Condition.{answer}
use Rattle.term_store.specs.declared.conditions.Added.TheVariants.{Held, Appended, Contradicted}
use Rattle.flat_ir.specs.declared.names.Location.{Location}
use Rattle.flat_ir.specs.declared.names.Location.TheVariants as location
use Rattle.sym_bytes.specs.declared.names.CallId.{CallId}
use Rattle.sym_bytes.specs.Building.{same_call}
use Rattle.sym_bytes.specs.Entry.{Entry}
use Rattle.sym_bytes.specs.Value.{SymValue}
use Rattle.log_laws.specs.Logs.{Fill, Log, Did, Marked, fill}
use Rattle.leaves.specs.declared.options.Cause.{Cause}
use Rattle.leaves.specs.declared.options.Cause.TheVariants as cause
use Rattle.leaves.specs.Events.{Leaf, told_of}
use Rattle.leaves.specs.Events as leaf
use Rattle.leaves.specs.Fitting.{AreTermsOf, ValueFitsIf, EntriesFit, ToldFitsIn}
use Rattle.sym_states.specs.Fitting.{SnapshotFits, SnapshotsFit, FillsFit, LogFits}
use Rattle.sym_states.specs.Merging.{Partial, add_all, by_verdict, still_meets, joined_with, combined, combined_all, folded, first_partial, Where, fault_of, cause_of, first_some, steps_of, has_recovered, filled_by, filled_all, state_of, child_by_cause, child_by_fault, child_of, children_of, merged}
use Rattle.sym_states.specs.Sides.{share_of}
use Rattle.skip_records.specs.Snapshots.{Snapshot}
use Rattle.sym_states.specs.States.{State, Context, Stop, Forks, Needed, told_with, opens}
use Rattle.sym_states.specs.Verdicts.{Verdict, Sat, Unsat, Spent}
use Rattle.state_laws.specs.Kept.{IsFitting, IsShortIf, IsShortSnapshot, AreShortSnapshots, StateFitsAt, LeafFitsAt, ChildFits, ChildrenFit, StepFits}
use Rattle.state_laws.specs.Explored.{LeavesFitAt}
use Rattle.sym_states.proofs.Widths.{terms-append}
use Rattle.state_laws.proofs.Roots.{log-if}
use Rattle.state_laws.proofs.States.{parts_of, whole_of, told_with-fits, opens-fits}

-- ---- combinations

-- the input, if there is one, has n bytes
abbrev pub SizeIf : ℕ → Option (List ℕ) → Type 0
SizeIf n None = Unit {0}
SizeIf n (Some kept) = length kept ≡ n

pub record PartialFits (n : ℕ) (p : Partial) : Type 0 where
  pub condition : AreTermsOf n 1 p.condition
  pub size : SizeIf n p.kept
  pub used : LeavesFitAt n p.used

abbrev pub PartialsFit : ℕ → List Partial → Type 0
PartialsFit n [] = Unit {0}
PartialsFit n (p ∷ ps) = PartialFits n p × PartialsFit n ps

abbrev pub TermsFitIf : ℕ → Option (List Tree) → Type 0
TermsFitIf n None = Unit {0}
TermsFitIf n (Some ts) = AreTermsOf n 1 ts

pub add_all-fits : (n : ℕ) (condition ts : List Tree) → AreTermsOf n 1 condition → AreTermsOf n 1 ts → TermsFitIf n (add_all condition ts)
add_all-fits n condition [] h k = h
add_all-fits n condition (t ∷ ts) h k =
    elim (answer condition t) as (λ a. TermsFitIf n (elim a [ Contradicted ↦ None | Held ↦ add_all condition ts | Appended ↦ add_all (condition ++ t ∷ []) ts ]))
    [ Contradicted ↦ tt | Held ↦ add_all-fits n condition ts h k.1 | Appended ↦ add_all-fits n (condition ++ t ∷ []) ts (terms-append n 1 condition (t ∷ []) h (k.0, tt)) k.1 ]

pub leaves-append : (n : ℕ) (ls ms : List Leaf) → LeavesFitAt n ls → LeavesFitAt n ms → LeavesFitAt n (ls ++ ms)
leaves-append n [] ms h k = k
leaves-append n (l ∷ ls) ms h k = (h.0, leaves-append n ls ms h.1 k)

pub partials-append : (n : ℕ) (ps qs : List Partial) → PartialsFit n ps → PartialsFit n qs → PartialsFit n (ps ++ qs)
partials-append n [] qs h k = k
partials-append n (p ∷ ps) qs h k = (h.0, partials-append n ps qs h.1 k)

pub verdict-fits : (n : ℕ) (v : Verdict) (condition : List Tree) (used : List Leaf) → AreTermsOf n 1 condition → LeavesFitAt n used → ((input : List ℕ) → v ≡ Sat input → length input ≡ n) → PartialsFit n (by_verdict v condition used)
verdict-fits n (Sat input) condition used h k size = (record { condition = h; size = size input refl; used = k }, tt)
verdict-fits n Unsat condition used h k size = tt
verdict-fits n Spent condition used h k size = (record { condition = h; size = tt; used = k }, tt)

verdict-size : (n : ℕ) (c : Context) (kept : List ℕ) (condition : List Tree) (input : List ℕ) → IsFitting c → n ≤ 64 → length kept ≡ n → c.verdict condition (length kept) ≡ Sat input → length input ≡ n
verdict-size n c kept condition input fitting most size is = fitting.sizes condition (length kept) input (subst (λ m. m ≤ 64) (sym size) most) is ∙ size

pub joined_with-fits : (c : Context) (n : ℕ) (p : Partial) (kept : List ℕ) (o : Option (List Tree)) (l : Leaf) → IsFitting c → n ≤ 64 → PartialFits n p → length kept ≡ n → TermsFitIf n o → LeafFitsAt n l
    → PartialsFit n (joined_with c p kept o l)
joined_with-fits c n p kept None l fitting most h size k g = tt
joined_with-fits c n p kept (Some condition) l fitting most h size k g =
    let used = leaves-append n p.used (l ∷ []) h.used (g, tt) in
    elim (still_meets kept p.condition condition) as (λ b. PartialsFit n (elim b [
      | true ↦ record { condition = condition; kept = Some kept; used = p.used ++ l ∷ [] } ∷ []
      | false ↦ by_verdict (c.verdict condition (length kept)) condition (p.used ++ l ∷ [])
    ])) [
      | true ↦ (record { condition = k; size = size; used = used }, tt)
      | false ↦ verdict-fits n (c.verdict condition (length kept)) condition (p.used ++ l ∷ []) k used (λ input is. verdict-size n c kept condition input fitting most size is)
    ]

terms-drop : (n w k : ℕ) (ts : List Tree) → AreTermsOf n w ts → AreTermsOf n w (drop k ts)
terms-drop n w zero ts h = h
terms-drop n w (suc k) [] h = tt
terms-drop n w (suc k) (t ∷ ts) h = terms-drop n w k ts h.1

pub combined-fits : (c : Context) (n root : ℕ) (p : Partial) (kept : List ℕ) (l : Leaf) → IsFitting c → n ≤ 64 → PartialFits n p → length kept ≡ n → LeafFitsAt n l → PartialsFit n (combined c root p kept l)
combined-fits c n root p kept l fitting most h size g =
    let more = drop root (told_of l).condition in
    joined_with-fits c n p kept (add_all p.condition more) l fitting most h size (add_all-fits n p.condition more h.condition (terms-drop n 1 root (told_of l).condition g.told.condition)) g

combined-each : (c : Context) (n root : ℕ) (p : Partial) (kept : List ℕ) (ls : List Leaf) → IsFitting c → n ≤ 64 → PartialFits n p → length kept ≡ n → LeavesFitAt n ls → PartialsFit n (flat_map (combined c root p kept) ls)
combined-each c n root p kept [] fitting most h size g = tt
combined-each c n root p kept (l ∷ ls) fitting most h size g =
    partials-append n (combined c root p kept l) (flat_map (combined c root p kept) ls) (combined-fits c n root p kept l fitting most h size g.0) (combined-each c n root p kept ls fitting most h size g.1)

pub combined_all-fits : (c : Context) (n root : ℕ) (ls : List Leaf) (p : Partial) → IsFitting c → n ≤ 64 → PartialFits n p → LeavesFitAt n ls → PartialsFit n (combined_all c root ls p)
combined_all-fits c n root ls p fitting most h g =
    elim p.kept as (λ o. SizeIf n o → PartialsFit n (elim o [ None ↦ p ∷ [] | Some kept ↦ flat_map (combined c root p kept) ls ]))
    [ None ↦ (λ size. (h, tt)) | Some kept ↦ (λ size. combined-each c n root p kept ls fitting most h size g) ] h.size

all-combined : (c : Context) (n root : ℕ) (ls : List Leaf) (ps : List Partial) → IsFitting c → n ≤ 64 → PartialsFit n ps → LeavesFitAt n ls → PartialsFit n (flat_map (combined_all c root ls) ps)
all-combined c n root ls [] fitting most h g = tt
all-combined c n root ls (p ∷ ps) fitting most h g =
    partials-append n (combined_all c root ls p) (flat_map (combined_all c root ls) ps) (combined_all-fits c n root ls p fitting most h.0 g) (all-combined c n root ls ps fitting most h.1 g)

abbrev pub PartialsFitIf : ℕ → Option (List Partial) → Type 0
PartialsFitIf n None = Unit {0}
PartialsFitIf n (Some ps) = PartialsFit n ps

-- each list's leaves fit
abbrev pub ListsFit : ℕ → List (List Leaf) → Type 0
ListsFit n [] = Unit {0}
ListsFit n (ls ∷ lists) = LeavesFitAt n ls × ListsFit n lists

pub folded-fits : (c : Context) (n : ℕ) (s : State) (lists : List (List Leaf)) (ps : List Partial) → IsFitting c → n ≤ 64 → ListsFit n lists → PartialsFit n ps → PartialsFitIf n (folded c s lists ps)
folded-fits c n s [] ps fitting most g h = h
folded-fits c n s (ls ∷ lists) ps fitting most g h =
    let next = flat_map (combined_all c (length s.condition) ls) ps in
    elim (nat_lt s.shares (length next)) as (λ b. PartialsFitIf n (elim b [ true ↦ None | false ↦ folded c s lists next ]))
    [ true ↦ tt | false ↦ folded-fits c n s lists next fitting most g.1 (all-combined c n (length s.condition) ls ps fitting most h g.0) ]

-- ---- what was recovered

snapshot-if : (n : ℕ) (b : Bool) (s t : Snapshot) → SnapshotFits n s → SnapshotFits n t → SnapshotFits n (cond b s t)
snapshot-if n true s t h k = h
snapshot-if n false s t h k = k

short-if : (b : Bool) (s t : Snapshot) → IsShortSnapshot s → IsShortSnapshot t → IsShortSnapshot (cond b s t)
short-if true s t h k = h
short-if false s t h k = k

pub result-at : (P : Option SymValue → Type 0) (at : Location) (v old : Option SymValue) → P v → P old → P (elim at [ location.Result ↦ v | _ ↦ old ])
result-at P location.Result v old h k = h
result-at P _ v old h k = k

pub recovered-fits : (n : ℕ) (needed : Needed) (v : Option SymValue) (s : Snapshot) → ValueFitsIf n v → SnapshotFits n s → SnapshotFits n (has_recovered needed v s)
recovered-fits n needed v s h k =
    snapshot-if n (same_call needed.call s.call) (record s { recovered = s.recovered ++ needed.at ∷ []; result = elim needed.at [ location.Result ↦ v | _ ↦ s.result ] }) s
    (record { args = k.args; result = result-at (ValueFitsIf n) needed.at v s.result h k.result }) k

pub recovered-short : (needed : Needed) (v : Option SymValue) (s : Snapshot) → IsShortIf v → IsShortSnapshot s → IsShortSnapshot (has_recovered needed v s)
recovered-short needed v s h k =
    short-if (same_call needed.call s.call) (record s { recovered = s.recovered ++ needed.at ∷ []; result = elim needed.at [ location.Result ↦ v | _ ↦ s.result ] }) s
    (record { args = k.args; result = result-at IsShortIf needed.at v s.result h k.result }) k

pub all-recovered-fit : (n : ℕ) (needed : Needed) (v : Option SymValue) (shots : List Snapshot) → ValueFitsIf n v → SnapshotsFit n shots → SnapshotsFit n (map (has_recovered needed v) shots)
all-recovered-fit n needed v [] h k = tt
all-recovered-fit n needed v (s ∷ shots) h k = (recovered-fits n needed v s h k.0, all-recovered-fit n needed v shots h k.1)

pub all-recovered-short : (needed : Needed) (v : Option SymValue) (shots : List Snapshot) → IsShortIf v → AreShortSnapshots shots → AreShortSnapshots (map (has_recovered needed v) shots)
all-recovered-short needed v [] h k = tt
all-recovered-short needed v (s ∷ shots) h k = (recovered-short needed v s h k.0, all-recovered-short needed v shots h k.1)

pub fills-append : (n : ℕ) (fs : List Fill) (f : Fill) → FillsFit n fs → EntriesFit n f.entries → FillsFit n (fs ++ f ∷ [])
fills-append n [] f h k = (k, tt)
fills-append n (g ∷ fs) f h k = (h.0, fills-append n fs f h.1 k)

pub fill-fits : (n : ℕ) (call : CallId) (at : Location) (entries : List Entry) (log : Log) → EntriesFit n entries → LogFits n log → LogFits n (fill call at entries log)
fill-fits n call at entries [] h k = tt
fill-fits n call at entries (Did e ∷ log) h k = (k.0, fill-fits n call at entries log h k.1)
fill-fits n call at entries (Marked c mods fills ∷ log) h k =
    log-if n (same_call call c) (Marked c mods (fills ++ record { at = at; entries = entries } ∷ []) ∷ log) (Marked c mods fills ∷ fill call at entries log)
    (fills-append n fills (record { at = at; entries = entries }) k.0 h, k.1) (k.0, fill-fits n call at entries log h k.1)

pub filled_by-fits : (n : ℕ) (s : State) (needed : Needed) (l : Leaf) → StateFitsAt n s → LeafFitsAt n l → StateFitsAt n (filled_by s needed l)
filled_by-fits n s needed (leaf.Done t entries v) h g =
    let p = parts_of n s h in
    whole_of n (filled_by s needed (leaf.Done t entries v)) (record {
      most = p.most;
      size = p.size;
      frame = p.frame;
      callers = p.callers;
      globals = p.globals;
      log = fill-fits n needed.call needed.at entries s.memory.log g.recovered.0.entries_fit p.log;
      snapshots = all-recovered-fit n needed v s.snapshots g.recovered.0.result_fits p.snapshots;
      condition = p.condition;
      path = p.path;
      short = record { frame = p.short.frame; callers = p.short.callers; snapshots = all-recovered-short needed v s.snapshots g.recovered.1 p.short.snapshots };
    })
filled_by-fits n s needed _ h g = h

pub filled_all-fits : (n : ℕ) (s : State) (needs : List Needed) (ls : List Leaf) → StateFitsAt n s → LeavesFitAt n ls → StateFitsAt n (filled_all s needs ls)
filled_all-fits n s [] ls h g = h
filled_all-fits n s (needed ∷ needs) [] h g = h
filled_all-fits n s (needed ∷ needs) (l ∷ ls) h g = filled_all-fits n (filled_by s needed l) needs ls (filled_by-fits n s needed l h g.0) g.1

-- ---- children

-- the state with another condition, input and numbers
pub changed-fits : (n : ℕ) (condition : List Tree) (kept : List ℕ) (left shares : ℕ) (s : State) → AreTermsOf n 1 condition → length kept ≡ n → StateFitsAt n s
    → StateFitsAt n (record s { condition = condition; kept = kept; left = left; shares = shares })
changed-fits n condition kept left shares s h size k =
    let p = parts_of n s k in
    whole_of n (record s { condition = condition; kept = kept; left = left; shares = shares }) (record {
      most = p.most;
      size = size;
      frame = p.frame;
      callers = p.callers;
      globals = p.globals;
      log = p.log;
      snapshots = p.snapshots;
      condition = h;
      path = p.path;
      short = record { frame = p.short.frame; callers = p.short.callers; snapshots = p.short.snapshots };
    })

pub state_of-fits : (n : ℕ) (s : State) (p : Partial) → StateFitsAt n s → PartialFits n p → StateFitsAt n (state_of s p)
state_of-fits n s p h k = changed-fits n p.condition s.kept (s.left - steps_of s.left p.used) s.shares s k.condition h.size h

-- what a combination tells
told-both : (n : ℕ) (s : State) (kept : List ℕ) (p : Partial) → StateFitsAt n s → PartialFits n p → length kept ≡ n → ToldFitsIn (length kept) (told_with (Some kept) p.condition (state_of s p))
told-both n s kept p h k size =
    subst (λ m. ToldFitsIn m (told_with (Some kept) p.condition (state_of s p))) (sym size) (told_with-fits n (Some kept) p.condition (state_of s p) k.condition (state_of-fits n s p h k))

pub child_by_cause-fits : (n : ℕ) (o : Option Cause) (s : State) (needs : List Needed) (kept : List ℕ) (p : Partial) → StateFitsAt n s → PartialFits n p → length kept ≡ n → ChildFits n (child_by_cause o s needs kept p)
child_by_cause-fits n (Some why) s needs kept p h k size =
    record { fits = told-both n s kept p h k size; told = told_with-fits n (Some kept) p.condition (state_of s p) k.condition (state_of-fits n s p h k); size = size; recovered = tt }
child_by_cause-fits n None s needs kept p h k size =
    filled_all-fits n (record (state_of s p) { kept = kept }) needs p.used (changed-fits n p.condition kept (s.left - steps_of s.left p.used) s.shares s k.condition size h) k.used

pub child_by_fault-fits : (n : ℕ) (o : Option Where) (s : State) (needs : List Needed) (kept : List ℕ) (p : Partial) → StateFitsAt n s → PartialFits n p → length kept ≡ n → ChildFits n (child_by_fault o s needs kept p)
child_by_fault-fits n (Some f) s needs kept p h k size =
    record { fits = told-both n s kept p h k size; told = told_with-fits n (Some kept) p.condition (state_of s p) k.condition (state_of-fits n s p h k); size = size; recovered = tt }
child_by_fault-fits n None s needs kept p h k size = child_by_cause-fits n (first_some cause_of p.used) s needs kept p h k size

pub child_of-fits : (n : ℕ) (s : State) (needs : List Needed) (p : Partial) → StateFitsAt n s → PartialFits n p → ChildFits n (child_of s needs p)
child_of-fits n s needs p h k =
    elim p.kept as (λ o. SizeIf n o → ChildFits n (elim o [
      | None ↦ Stop (leaf.Open (told_with None p.condition (state_of s p)) cause.Solver)
      | Some kept ↦ child_by_fault (first_some fault_of p.used) s needs kept p
    ])) [
      | None ↦ (λ size. record { fits = tt; told = told_with-fits n None p.condition (state_of s p) k.condition (state_of-fits n s p h k); size = tt; recovered = tt })
      | Some kept ↦ (λ size. child_by_fault-fits n (first_some fault_of p.used) s needs kept p h k size)
    ]
    k.size

pub children_of-fits : (n : ℕ) (s : State) (needs : List Needed) (m j : ℕ) (ps : List Partial) → StateFitsAt n s → PartialsFit n ps → ChildrenFit n (children_of s needs m j ps)
children_of-fits n s needs m j [] h k = tt
children_of-fits n s needs m j (p ∷ ps) h k =
    (child_of-fits n (record s { shares = share_of s.shares m j }) needs p (changed-fits n s.condition s.kept s.left (share_of s.shares m j) s (parts_of n s h).condition h.size h) k.0, children_of-fits n s needs m (j + 1) ps h k.1)

pub first-fits : (n : ℕ) (s : State) → StateFitsAt n s → PartialFits n (first_partial s)
first-fits n s h = record { condition = (parts_of n s h).condition; size = h.size; used = tt }

pub merged-fits : (c : Context) (n : ℕ) (s : State) (needs : List Needed) (results : List (List Leaf)) → IsFitting c → StateFitsAt n s → ListsFit n results → StepFits n (merged c s needs results)
merged-fits c n s needs results fitting h g =
    elim (folded c s results (first_partial s ∷ [])) as (λ o. PartialsFitIf n o → StepFits n (elim o [
      | None ↦ opens cause.Shares s
      | Some partials ↦ Forks (children_of s needs (length partials) 0 partials)
    ]))
    [ None ↦ (λ k. opens-fits n cause.Shares s h) | Some partials ↦ (λ k. children_of-fits n s needs (length partials) 0 partials h k) ]
    (folded-fits c n s results (first_partial s ∷ []) fitting (parts_of n s h).most g (first-fits n s h, tt))
