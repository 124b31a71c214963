-- The first state, roots, merges and leaves name older calls, with their types.
use Rattle.std.proofs.Common.{◌≡◌, ℕ, zero, suc, Bool, true, false, ◌+◌, ◌-◌, ◌<◌, ◌≤◌, List, [], ◌∷◌, ◌++◌, length, map, drop, Option, Some, None, refl, sym, ◌∙◌, ap, subst, append_assoc, append-nil, arith}
use Rattle.std.specs.Prelude.{cond, filter, nat_lt, slice_get}
use Rattle.std.specs.List.{AllByRecursion as Each, flat_map}
use Rattle.std.proofs.lemmas.Bool.{eqb-true, ltb-true}
use Rattle.std.proofs.lemmas.List.{length-map}
use Rattle.terms.specs.Tree.{Tree}
use Rattle.flat_ir.specs.declared.names.Location.{Location}
use Rattle.flat_ir.specs.declared.names.Location.TheVariants as location
use Rattle.flat_ir.specs.declared.nodes.RegType.{RegType}
use Rattle.flat_ir.specs.declared.program.ProgramData.{ProgramData}
use Rattle.flat_ir.specs.Machine.{regs_of, func_at}
use Rattle.sym_bytes.specs.declared.names.CallId.{CallId}
use Rattle.sym_bytes.specs.Building.{same_call}
use Rattle.sym_bytes.specs.Entry.{Entry}
use Rattle.sym_bytes.specs.Value.{SymValue}
use Rattle.log_laws.specs.Logs.{Log, fill, cut}
use Rattle.leaves.specs.declared.options.Cause.{Cause}
use Rattle.leaves.specs.declared.options.Cause.TheVariants as cause
use Rattle.leaves.specs.Events.{Leaf, told_of}
use Rattle.leaves.specs.Events as leaf
use Rattle.skip_records.specs.Snapshots.{Snapshot}
use Rattle.sym_states.specs.declared.frames.Target.{Target}
use Rattle.sym_states.specs.Attempts.{attempt}
use Rattle.sym_states.specs.Exploring.{Setting, first_state, context_of, before_call, recovery_of, recovery_if, roots_of, Reaches, forks, needs, ends, goes, all_of, Evaluates, none, stop, leaf, fork, await, crowd}
use Rattle.sym_states.specs.Merging.{Partial, add_all, by_verdict, still_meets, joined_with, combined, combined_all, folded, first_partial, Where, fault_of, cause_of, first_some, has_recovered, filled_by, filled_all, state_of, child_by_cause, child_by_fault, child_of, children_of, merged}
use Rattle.sym_states.specs.Sides.{share_of}
use Rattle.sym_states.specs.States.{Frame, State, Context, Child, Go, Stop, Step, Goes, Forks, Needs, Ends, Needed, told_with, results_of, opens}
use Rattle.sym_states.specs.Verdicts.{Verdict, Sat, Unsat, Spent}
use Rattle.exploration_laws.specs.Calls.{AreKept}
use Rattle.exploration_laws.specs.Pending.{Kind, kind_of, kinds_of, Returns, Earlier, ValueNames, ValueNamesIf, FrameNames, EntryNames, EventNames, LogNames, SnapshotNames, bound_of, AreNamed, PendingsAreNamed, IsNeeded, Recovery, recovery_in, ResultsName, LeafNames, StateNames, ChildNames, StepNames, EachChildNames, ListsName, older, recovery_for, FirstsName, RootsName, MergesName, EvaluationsName, ExplorationsName}
use Rattle.exploration_laws.proofs.Calls.{IsBelowIf, snapshot-below, cut-kept, filled-kept, firsts-keep}
use Rattle.exploration_laws.proofs.NamedValues.{each-more, each-append, returns-older, returns-all, value-more, value-more-if, results-name, args-name, unset-name}
use Rattle.exploration_laws.proofs.NamedLogs.{entries-more, cut-names, fill-names}
use Rattle.exploration_laws.proofs.NamedCalls.{each-at}
use Rattle.exploration_laws.proofs.NamedSteps.{attempts-name}

-- ---- the first state

pub firsts-name : FirstsName
firsts-name e = record {
  calls = firsts-keep e;
  frame = unset-name (Earlier [] 1) (drop 0 (regs_of (func_at e.program e.program.main)));
  callers = tt;
  log = tt;
  snapshots = tt;
  path = tt;
}

-- ---- roots

kinds-before : (p : ProgramData) (call : CallId) (shots : List Snapshot) → kinds_of p (before_call call shots) ≡ older call (kinds_of p shots)
kinds-before p call [] = refl
kinds-before p call (s ∷ shots) =
    elim (nat_lt s.call.0 call.0) as (λ b. kinds_of p (cond b (s ∷ before_call call shots) (before_call call shots)) ≡ cond b (kind_of p s ∷ older call (kinds_of p shots)) (older call (kinds_of p shots)))
    [ true ↦ ap (λ ks. kind_of p s ∷ ks) (kinds-before p call shots) | false ↦ kinds-before p call shots ]

lower : (a b c : ℕ) → a < b → b < c → a < c
lower a b c h k = omega (arith, h, k)

module _ (call : CallId) (ks more : List Kind) (within : (d : CallId) (t : RegType) → d.0 < call.0 → Returns ks d t → Returns more d t) where
  own-more : (bound : ℕ) → bound < call.0 → (d : CallId) (t : RegType) → Earlier ks bound d t → Earlier more bound d t
  own-more bound less d t h = (h.0, within d t (lower d.0 bound call.0 h.0 less) h.1)

  before-if : (s : Snapshot) (shots : List Snapshot) (b : Bool) → nat_lt s.call.0 call.0 ≡ b → SnapshotNames ks s → Each (SnapshotNames more) shots → Each (SnapshotNames more) (cond b (s ∷ shots) shots)
  before-if s shots true is h k =
      let wider = own-more s.call.0 (ltb-true s.call.0 call.0 is) in (
        (
          each-more (ValueNames (Earlier ks s.call.0)) (ValueNames (Earlier more s.call.0)) (value-more (Earlier ks s.call.0) (Earlier more s.call.0) wider) s.args h.0,
          value-more-if (Earlier ks s.call.0) (Earlier more s.call.0) wider s.result h.1,
        ),
        k,
      )
  before-if s shots false is h k = k

  before-names : (shots : List Snapshot) → Each (SnapshotNames ks) shots → Each (SnapshotNames more) (before_call call shots)
  before-names [] h = tt
  before-names (s ∷ shots) h = before-if s (before_call call shots) (nat_lt s.call.0 call.0) refl h.0 (before-names shots h.1)

module _ (e : Setting) (s : State) (named : PendingsAreNamed e.program e.mods s) where
  abbrev all-kinds : List Kind
  all-kinds = kinds_of e.program s.snapshots

  recovery-names : (at : Location) (shot : Snapshot) → shot.call.0 < 1 + length s.snapshots → SnapshotNames all-kinds shot → PendingsAreNamed e.program e.mods (recovery_of e s at shot)
  recovery-names at shot low h =
      let front = before_call shot.call s.snapshots in
      let is = kinds-before e.program shot.call s.snapshots in
      let among : (d : CallId) (t : RegType) → d.0 < shot.call.0 → Returns all-kinds d t → Returns (kinds_of e.program front) d t
      = λ d t less r. subst (λ xs. Returns xs d t) (sym is) (returns-older shot.call all-kinds d t less r) in
      let own : (d : CallId) (t : RegType) → Earlier all-kinds shot.call.0 d t → Earlier (kinds_of e.program front) shot.call.0 d t = λ d t names. (names.0, among d t names.0 names.1) in
      let P = Earlier (kinds_of e.program front) shot.call.0 in
      let rest = drop (length shot.args) (regs_of (func_at e.program shot.func)) in
      record {
        calls = cut-kept e.mods shot.call s.memory.log s.snapshots low named.calls;
        frame = args-name P shot.args (map (λ r. None) rest) (each-more (ValueNames (Earlier all-kinds shot.call.0)) (ValueNames P) (value-more (Earlier all-kinds shot.call.0) P own) shot.args h.0) (unset-name P rest);
        callers = tt;
        log = subst (λ xs. LogNames xs shot.call.0 (cut shot.call s.memory.log)) (sym is) (cut-names all-kinds shot.call (bound_of s.target s.snapshots) s.memory.log named.log);
        snapshots = before-names shot.call all-kinds (kinds_of e.program front) among s.snapshots named.snapshots;
        path = tt;
      }

  root-names : (n : Needed) → IsNeeded e.mods s n → ChildNames e.program e.mods (recovery_for e.program s n) (recovery_if e s n.at (slice_get s.snapshots (n.call.0 - 1)))
  root-names n h =
      let shot = h.shot in
      let low = subst (IsBelowIf (1 + length s.snapshots)) h.found (snapshot-below e.mods 1 (n.call.0 - 1) s.snapshots named.calls.numbered) in
      let own = each-at (SnapshotNames all-kinds) s.snapshots (n.call.0 - 1) shot h.found named.snapshots in
      let same : recovery_in e.program (recovery_of e s n.at shot).target (before_call shot.call s.snapshots) ≡ recovery_for e.program s n
      = ap (λ xs. Some (record { kinds = xs; call = shot.call })) (kinds-before e.program shot.call s.snapshots) ∙ ap (λ k. Some (record { kinds = older (record { 0 = k }) all-kinds; call = record { 0 = k } })) h.is in
      subst (λ o. ChildNames e.program e.mods (recovery_for e.program s n) (recovery_if e s n.at o)) (sym h.found) (recovery-names n.at shot low own, same)

pub roots-name : RootsName
roots-name e s [] named h = tt
roots-name e s (n ∷ calls) named h = (root-names e s named n h.0, roots-name e s calls named h.1)

-- ---- combinations

-- the leaves that a combination used stand in the recoveries beside them
abbrev UsedBy : List (Option Recovery) → List Leaf → Type 0
UsedBy [] [] = Unit {0}
UsedBy [] (l ∷ ls) = ⊥
UsedBy (r ∷ rs) [] = ⊥
UsedBy (r ∷ rs) (l ∷ ls) = LeafNames r l × UsedBy rs ls

abbrev UsedIf : List (Option Recovery) → List Leaf → Option (List ℕ) → Type 0
UsedIf rs used None = Unit {0}
UsedIf rs used (Some kept) = UsedBy rs used

abbrev PartialsName : List (Option Recovery) → List Partial → Type 0
PartialsName rs ps = Each (λ p. UsedIf rs p.used p.kept) ps

used-more : (rs : List (Option Recovery)) (used : List Leaf) (r : Option Recovery) (l : Leaf) → UsedBy rs used → LeafNames r l → UsedBy (rs ++ r ∷ []) (used ++ l ∷ [])
used-more [] [] r l h k = (k, tt)
used-more [] (m ∷ used) r l h k = absurd h
used-more (q ∷ rs) [] r l h k = absurd h
used-more (q ∷ rs) (m ∷ used) r l h k = (h.0, used-more rs used r l h.1 k)

verdict-names : (rs : List (Option Recovery)) (v : Verdict) (condition : List Tree) (used : List Leaf) → UsedBy rs used → PartialsName rs (by_verdict v condition used)
verdict-names rs (Sat input) condition used h = (h, tt)
verdict-names rs Unsat condition used h = tt
verdict-names rs Spent condition used h = (tt, tt)

joined-names : (c : Context) (rs : List (Option Recovery)) (p : Partial) (kept : List ℕ) (o : Option (List Tree)) (l : Leaf) → UsedBy rs (p.used ++ l ∷ []) → PartialsName rs (joined_with c p kept o l)
joined-names c rs p kept None l h = tt
joined-names c rs p kept (Some condition) l h =
    elim (still_meets kept p.condition condition) as (λ b. PartialsName rs (elim b [
      | true ↦ record { condition = condition; kept = Some kept; used = p.used ++ l ∷ [] } ∷ []
      | false ↦ by_verdict (c.verdict condition (length kept)) condition (p.used ++ l ∷ [])
    ])) [ true ↦ (h, tt) | false ↦ verdict-names rs (c.verdict condition (length kept)) condition (p.used ++ l ∷ []) h ]

module _ (c : Context) (root : ℕ) (rs : List (Option Recovery)) (r : Option Recovery) where
  each-names : (p : Partial) (kept : List ℕ) (ls : List Leaf) → UsedBy rs p.used → Each (LeafNames r) ls → PartialsName (rs ++ r ∷ []) (flat_map (combined c root p kept) ls)
  each-names p kept [] h k = tt
  each-names p kept (l ∷ ls) h k =
      each-append (λ q. UsedIf (rs ++ r ∷ []) q.used q.kept) (combined c root p kept l) (flat_map (combined c root p kept) ls)
      (joined-names c (rs ++ r ∷ []) p kept (add_all p.condition (drop root (told_of l).condition)) l (used-more rs p.used r l h k.0)) (each-names p kept ls h k.1)

  combined-names : (ls : List Leaf) (p : Partial) → Each (LeafNames r) ls → UsedIf rs p.used p.kept → PartialsName (rs ++ r ∷ []) (combined_all c root ls p)
  combined-names ls p k h =
      elim p.kept as (λ o. p.kept ≡ o → UsedIf rs p.used o → PartialsName (rs ++ r ∷ []) (elim o [ None ↦ p ∷ [] | Some kept ↦ flat_map (combined c root p kept) ls ])) [
        | None ↦ (λ is used. (subst (UsedIf (rs ++ r ∷ []) p.used) (sym is) tt, tt))
        | Some kept ↦ (λ is used. each-names p kept ls used k)
      ] refl h

  all-names : (ls : List Leaf) (ps : List Partial) → Each (LeafNames r) ls → PartialsName rs ps → PartialsName (rs ++ r ∷ []) (flat_map (combined_all c root ls) ps)
  all-names ls [] k h = tt
  all-names ls (p ∷ ps) k h =
      each-append (λ q. UsedIf (rs ++ r ∷ []) q.used q.kept) (combined_all c root ls p) (flat_map (combined_all c root ls) ps) (combined-names ls p k h.0) (all-names ls ps k h.1)

abbrev PartialsNameIf : List (Option Recovery) → Option (List Partial) → Type 0
PartialsNameIf rs None = Unit {0}
PartialsNameIf rs (Some ps) = PartialsName rs ps

folded-names : (c : Context) (s : State) (front rs : List (Option Recovery)) (lists : List (List Leaf)) (ps : List Partial) → ListsName rs lists → PartialsName front ps → PartialsNameIf (front ++ rs) (folded c s lists ps)
folded-names c s front [] [] ps k h = subst (λ qs. PartialsName qs ps) (sym (append-nil front)) h
folded-names c s front [] (ls ∷ lists) ps k h = absurd k
folded-names c s front (r ∷ rs) [] ps k h = absurd k
folded-names c s front (r ∷ rs) (ls ∷ lists) ps k h =
    let next = flat_map (combined_all c (length s.condition) ls) ps in
    let more = folded-names c s (front ++ r ∷ []) rs lists next k.1 (all-names c (length s.condition) front r ls ps k.0 h) in
    elim (nat_lt s.shares (length next)) as (λ b. PartialsNameIf (front ++ r ∷ rs) (elim b [ true ↦ None | false ↦ folded c s lists next ]))
    [ true ↦ tt | false ↦ subst (λ qs. PartialsNameIf qs (folded c s lists next)) (append_assoc front (r ∷ []) rs) more ]

-- ---- what is filled

kind-if : (p : ProgramData) (b : Bool) (t s : Snapshot) → kind_of p t ≡ kind_of p s → kind_of p (cond b t s) ≡ kind_of p s
kind-if p true t s h = h
kind-if p false t s h = refl

kinds-recovered : (p : ProgramData) (n : Needed) (v : Option SymValue) (shots : List Snapshot) → kinds_of p (map (has_recovered n v) shots) ≡ kinds_of p shots
kinds-recovered p n v [] = refl
kinds-recovered p n v (s ∷ shots) =
    ap (λ k. k ∷ kinds_of p (map (has_recovered n v) shots)) (kind-if p (same_call n.call s.call) (record s { recovered = s.recovered ++ n.at ∷ []; result = elim n.at [ location.Result ↦ v | _ ↦ s.result ] }) s refl)
    ∙ ap (λ ks. kind_of p s ∷ ks) (kinds-recovered p n v shots)

bound-recovered : (target : Option Target) (f : Snapshot → Snapshot) (shots : List Snapshot) → bound_of target (map f shots) ≡ bound_of target shots
bound-recovered None f shots = ap (λ n. n + 1) (length-map shots f)
bound-recovered (Some target) f shots = refl

result-names : (P : CallId → RegType → Type 0) (at : Location) (v w : Option SymValue) → ValueNamesIf P v → ValueNamesIf P w → ValueNamesIf P (elim at [ location.Result ↦ v | _ ↦ w ])
result-names P location.Result v w h k = h
result-names P _ v w h k = k

recovered-if : (ks : List Kind) (n : Needed) (v : Option SymValue) (s : Snapshot) (b : Bool) → same_call n.call s.call ≡ b → ValueNamesIf (Earlier ks n.call.0) v → SnapshotNames ks s
    → SnapshotNames ks (cond b (record s { recovered = s.recovered ++ n.at ∷ []; result = elim n.at [ location.Result ↦ v | _ ↦ s.result ] }) s)
recovered-if ks n v s true is h k =
    (k.0, result-names (Earlier ks s.call.0) n.at v s.result (subst (λ m. ValueNamesIf (Earlier ks m) v) (eqb-true n.call.0 s.call.0 is) h) k.1)
recovered-if ks n v s false is h k = k

recovered-names : (ks : List Kind) (n : Needed) (v : Option SymValue) (shots : List Snapshot) → ValueNamesIf (Earlier ks n.call.0) v → Each (SnapshotNames ks) shots → Each (SnapshotNames ks) (map (has_recovered n v) shots)
recovered-names ks n v [] h k = tt
recovered-names ks n v (s ∷ shots) h k = (recovered-if ks n v s (same_call n.call s.call) refl h k.0, recovered-names ks n v shots h k.1)

module _ (p : ProgramData) (mods : List (List Location)) (r : Option Recovery) (ks : List Kind) where
  -- a suspended state, some of whose needed calls are recovered
  abbrev Fills : State → Type 0
  Fills s = StateNames p mods r s × (kinds_of p s.snapshots ≡ ks)

  abbrev recovery : Needed → Option Recovery
  recovery n = Some (record { kinds = older n.call ks; call = n.call })

  done-names : (s : State) (n : Needed) (entries : List Entry) (v : Option SymValue) → Each (EntryNames (Earlier (older n.call ks) n.call.0)) entries → ValueNamesIf (Earlier (older n.call ks) n.call.0) v → Fills s
      → AreNamed p mods s.frame s.callers (fill n.call n.at entries s.memory.log) (map (has_recovered n v) s.snapshots) s.path s.target
  done-names s n entries v es result h =
      let shots = map (has_recovered n v) s.snapshots in
      let old = kinds_of p s.snapshots in
      let bound = bound_of s.target s.snapshots in
      let named = h.0.0 in
      let among : (d : CallId) (t : RegType) → Earlier (older n.call ks) n.call.0 d t → Earlier old n.call.0 d t
      = λ d t names. (names.0, subst (λ xs. Returns xs d t) (sym h.1) (returns-all n.call ks d t names.1)) in
      let still : (F : List Kind → ℕ → Type 0) → F old bound → F (kinds_of p shots) (bound_of s.target shots)
      = λ F f. subst (F (kinds_of p shots)) (sym (bound-recovered s.target (has_recovered n v) s.snapshots)) (subst (λ xs. F xs bound) (sym (kinds-recovered p n v s.snapshots)) f) in
      record {
        calls = filled-kept mods n entries v s.memory.log s.snapshots named.calls;
        frame = still (λ xs b. FrameNames (Earlier xs b) s.frame) named.frame;
        callers = still (λ xs b. Each (FrameNames (Earlier xs b)) s.callers) named.callers;
        log = still (λ xs b. LogNames xs b (fill n.call n.at entries s.memory.log)) (fill-names old n.call n.at entries bound s.memory.log (entries-more (Earlier (older n.call ks) n.call.0) (Earlier old n.call.0) among entries es) named.log);
        snapshots = still (λ xs b. Each (SnapshotNames xs) shots) (recovered-names old n v s.snapshots (value-more-if (Earlier (older n.call ks) n.call.0) (Earlier old n.call.0) among v result) named.snapshots);
        path = still (λ xs b. Each (EventNames (Earlier xs b)) s.path) named.path;
      }

  same-recovery : (target : Option Target) (n : Needed) (v : Option SymValue) (shots : List Snapshot) → recovery_in p target (map (has_recovered n v) shots) ≡ recovery_in p target shots
  same-recovery None n v shots = refl
  same-recovery (Some target) n v shots = ap (λ xs. Some (record { kinds = xs; call = target.call })) (kinds-recovered p n v shots)

  filled_by-names : (s : State) (n : Needed) (l : Leaf) → LeafNames (recovery n) l → Fills s → Fills (filled_by s n l)
  filled_by-names s n (leaf.Done t entries v) g h =
      ((done-names s n entries v g.1.0 g.1.1 h, same-recovery s.target n v s.snapshots ∙ h.0.1), kinds-recovered p n v s.snapshots ∙ h.1)
  filled_by-names s n _ g h = h

  filled_all-names : (s : State) (calls : List Needed) (ls : List Leaf) → UsedBy (map recovery calls) ls → Fills s → Fills (filled_all s calls ls)
  filled_all-names s [] [] g h = h
  filled_all-names s [] (l ∷ ls) g h = h
  filled_all-names s (n ∷ calls) [] g h = h
  filled_all-names s (n ∷ calls) (l ∷ ls) g h = filled_all-names (filled_by s n l) calls ls g.1 (filled_by-names s n l g.0 h)

  -- ---- children

  told-names : (s : State) → Fills s → ResultsName (results_of s.snapshots)
  told-names s h = results-name (kinds_of p s.snapshots) s.snapshots h.0.0.snapshots

  by_cause-names : (o : Option Cause) (s : State) (calls : List Needed) (kept : List ℕ) (q : Partial) → UsedBy (map recovery calls) q.used → Fills s → ChildNames p mods r (child_by_cause o s calls kept q)
  by_cause-names (Some why) s calls kept q g h = (told-names s h, tt)
  by_cause-names None s calls kept q g h = (filled_all-names (record (state_of s q) { kept = kept }) calls q.used g h).0

  by_fault-names : (o : Option Where) (s : State) (calls : List Needed) (kept : List ℕ) (q : Partial) → UsedBy (map recovery calls) q.used → Fills s → ChildNames p mods r (child_by_fault o s calls kept q)
  by_fault-names (Some f) s calls kept q g h = (told-names s h, tt)
  by_fault-names None s calls kept q g h = by_cause-names (first_some cause_of q.used) s calls kept q g h

  child-names : (s : State) (calls : List Needed) (q : Partial) → UsedIf (map recovery calls) q.used q.kept → Fills s → ChildNames p mods r (child_of s calls q)
  child-names s calls q g h =
      elim q.kept as (λ o. UsedIf (map recovery calls) q.used o → ChildNames p mods r (elim o [
        | None ↦ Stop (leaf.Open (told_with None q.condition (state_of s q)) cause.Solver)
        | Some kept ↦ child_by_fault (first_some fault_of q.used) s calls kept q
      ])) [ None ↦ (λ used. (told-names s h, tt)) | Some kept ↦ (λ used. by_fault-names (first_some fault_of q.used) s calls kept q used h) ] g

  children-names : (s : State) (calls : List Needed) (k j : ℕ) (ps : List Partial) → PartialsName (map recovery calls) ps → Fills s → Each (ChildNames p mods r) (children_of s calls k j ps)
  children-names s calls k j [] g h = tt
  children-names s calls k j (q ∷ ps) g h = (child-names (record s { shares = share_of s.shares k j }) calls q g.0 h, children-names s calls k (j + 1) ps g.1 h)

pub merges-name : MergesName
merges-name c s calls results named lists =
    let r = recovery_in c.program s.target s.snapshots in
    let ks = kinds_of c.program s.snapshots in
    let rs = map (recovery_for c.program s) calls in
    elim (folded c s results (first_partial s ∷ [])) as (λ o. PartialsNameIf rs o → StepNames c.program c.mods r (elim o [
      | None ↦ opens cause.Shares s
      | Some partials ↦ Forks (children_of s calls (length partials) 0 partials)
    ])) [
      | None ↦ (λ h. (results-name ks s.snapshots named.snapshots, tt))
      | Some partials ↦ (λ h. children-names c.program c.mods r ks s calls (length partials) 0 partials h ((named, refl), refl))
    ]
    (folded-names c s [] rs results (first_partial s ∷ []) lists (tt, tt))

-- ---- leaves

module _ (e : Setting) where
  attempted-names : (r : Option Recovery) (s : State) (a : Step) → StateNames e.program e.mods r s → attempt (context_of e s) s ≡ a → StepNames e.program e.mods r a
  attempted-names r s a h is = subst (λ q. StepNames e.program e.mods q a) h.1 (subst (StepNames e.program e.mods (recovery_in e.program s.target s.snapshots)) is (attempts-name (context_of e s) s h.0))

  reaches-name : (r : Option Recovery) (s : State) (a : Step) → StateNames e.program e.mods r s → Reaches e s a → StepNames e.program e.mods r a
  reaches-name r s a h (forks _ children is) = attempted-names r s (Forks children) h is
  reaches-name r s a h (needs _ t calls is) = attempted-names r s (Needs t calls) h is
  reaches-name r s a h (ends _ l is) = attempted-names r s (Ends l) h is
  reaches-name r s a h (goes _ t _ is more) = reaches-name r t a (attempted-names r s (Goes t) h is) more

  -- children that all stand in this recovery, or in none
  abbrev alike : Option Recovery → List Child → List (Option Recovery)
  alike r [] = []
  alike r (c ∷ cs) = r ∷ alike r cs

  names-alike : (r : Option Recovery) (cs : List Child) → Each (ChildNames e.program e.mods r) cs → EachChildNames e.program e.mods (alike r cs) cs
  names-alike r [] h = tt
  names-alike r (c ∷ cs) h = (h.0, names-alike r cs h.1)

  all-name : (r : Option Recovery) (cs : List Child) (lists : List (List Leaf)) → ListsName (alike r cs) lists → Each (LeafNames r) (all_of lists)
  all-name r [] [] h = tt
  all-name r [] (ls ∷ lists) h = absurd h
  all-name r (c ∷ cs) [] h = absurd h
  all-name r (c ∷ cs) (ls ∷ lists) h = each-append (LeafNames r) ls (all_of lists) h.0 (all-name r cs lists h.1)

  merge-names : (r : Option Recovery) (t : State) (calls : List Needed) (results : List (List Leaf)) (a : Step) → StateNames e.program e.mods r t → ListsName (map (recovery_for e.program t) calls) results
      → merged (context_of e t) t calls results ≡ a → StepNames e.program e.mods r a
  merge-names r t calls results a h lists is =
      subst (λ q. StepNames e.program e.mods q a) h.1 (subst (StepNames e.program e.mods (recovery_in e.program t.target t.snapshots)) is (merges-name (context_of e t) t calls results h.0 lists))

  evaluates-name : {children : List Child} {lists : List (List Leaf)} {tasks : ℕ} → Evaluates e children lists tasks → (rs : List (Option Recovery)) → EachChildNames e.program e.mods rs children → ListsName rs lists
  evaluates-name none [] h = tt
  evaluates-name none (r ∷ rs) h = absurd h
  evaluates-name (stop l more lists tasks g) [] h = absurd h
  evaluates-name (stop l more lists tasks g) (r ∷ rs) h = ((h.0, tt), evaluates-name g rs h.1)
  evaluates-name (leaf s l more lists tasks reached g) [] h = absurd h
  evaluates-name (leaf s l more lists tasks reached g) (r ∷ rs) h = ((reaches-name r s (Ends l) h.0 reached, tt), evaluates-name g rs h.1)
  evaluates-name (fork s children below m more lists tasks reached f g) [] h = absurd h
  evaluates-name (fork s children below m more lists tasks reached f g) (r ∷ rs) h =
      (all-name r children below (evaluates-name f (alike r children) (names-alike r children (reaches-name r s (Forks children) h.0 reached))), evaluates-name g rs h.1)
  evaluates-name (await s t calls results k children below m more lists tasks reached roots is f g) [] h = absurd h
  evaluates-name (await s t calls results k children below m more lists tasks reached roots is f g) (r ∷ rs) h =
      let needed = reaches-name r s (Needs t calls) h.0 reached in
      let given = evaluates-name roots (map (recovery_for e.program t) calls) (roots-name e t calls needed.0.0 needed.1.0) in
      let forked : Each (ChildNames e.program e.mods r) children = merge-names r t calls results (Forks children) needed.0 given is in
      (all-name r children below (evaluates-name f (alike r children) (names-alike r children forked)), evaluates-name g rs h.1)
  evaluates-name (crowd s t calls results k l more lists tasks reached roots is g) [] h = absurd h
  evaluates-name (crowd s t calls results k l more lists tasks reached roots is g) (r ∷ rs) h =
      let needed = reaches-name r s (Needs t calls) h.0 reached in
      let given = evaluates-name roots (map (recovery_for e.program t) calls) (roots-name e t calls needed.0.0 needed.1.0) in
      let ended : LeafNames r l = merge-names r t calls results (Ends l) needed.0 given is in
      ((ended, tt), evaluates-name g rs h.1)

pub evaluations-name : EvaluationsName
evaluations-name e rs children lists tasks h k = evaluates-name e k rs h

told-alone : (r : Option Recovery) (ls : List Leaf) → Each (LeafNames r) ls → Each (λ l. ResultsName (told_of l).results) ls
told-alone r ls h = each-more (LeafNames r) (λ l. ResultsName (told_of l).results) (λ l g. g.0) ls h

pub explorations-name : ExplorationsName
explorations-name e leaves tasks h =
    told-alone None leaves (evaluations-name e (None ∷ []) (Go (first_state e) ∷ []) (leaves ∷ []) tasks ((firsts-name e, refl), tt) h).0
