-- Skipped calls are found by their numbers, and calls that wait or have open marks are needed.
use Rattle.std.proofs.Common.{◌≡◌, ◌⊎◌, ℕ, zero, suc, Bool, true, not, ◌+◌, ◌-◌, ◌<◌, ◌≤◌, List, [], ◌∷◌, ◌++◌, length, map, Option, Some, None, refl, sym, ◌∙◌, ap, subst, inl, inr, arith}
use Rattle.std.specs.Prelude.{slice_get, IfSome}
use Rattle.std.specs.List.{AllByRecursion as Each, list_any}
use Rattle.flat_ir.specs.declared.names.Location.{Location}
use Rattle.flat_ir.specs.declared.names.Location.TheVariants as location
use Rattle.flat_ir.specs.declared.nodes.RegType.{RegType}
use Rattle.flat_ir.specs.declared.program.ProgramData.{ProgramData}
use Rattle.flat_ir.specs.Locations.{same_location}
use Rattle.sym_bytes.specs.declared.names.CallId.{CallId}
use Rattle.sym_bytes.specs.Answers.{Want}
use Rattle.log_laws.specs.Logs.{Log, Did, Marked, is_filled}
use Rattle.log_laws.specs.Needs.{need, location_of}
use Rattle.skip_records.specs.Snapshots.{Snapshot}
use Rattle.sym_states.specs.States.{State, Needed, needs_at}
use Rattle.exploration_laws.specs.Calls.{Skip, marks_of, skip_of, skips_of, NumberedFrom, AreKept}
use Rattle.exploration_laws.specs.Open.{IsOpenIn, marked, behind, Rise}
use Rattle.exploration_laws.specs.Pending.{Kind, kinds_of, Returns, LogNames, IsUnknown, changed, returned, IsNeeded, NoneTwice, AreNeeded}
use Rattle.exploration_laws.proofs.NamedValues.{front, IsNotGiven, Waits, IsWaited, AreWaited}
use Rattle.exploration_laws.proofs.NamedLogs.{names-fall}
use Rattle.exploration_laws.proofs.Open.{needs-open, needs-rise}

-- one of the calls is such a one
abbrev IsCall : (Skip → Type 0) → List Skip → Type 0
IsCall Q [] = ⊥
IsCall Q (s ∷ ss) = Q s ⊎ IsCall Q ss

call-last : (Q : Skip → Type 0) (ss : List Skip) (s : Skip) → Q s → IsCall Q (ss ++ s ∷ [])
call-last Q [] s is = inl is
call-last Q (t ∷ ss) s is = inr (call-last Q ss s is)

call-more : (Q : Skip → Type 0) (ss more : List Skip) → IsCall Q ss → IsCall Q (ss ++ more)
call-more Q [] more h = absurd h
call-more Q (t ∷ ss) more (inl is) = inl is
call-more Q (t ∷ ss) more (inr h) = inr (call-more Q ss more h)

-- a call that may have changed the location
abbrev MayChange : CallId → Location → Skip → Type 0
MayChange c at s = (s.call.0 ≡ c.0) × (list_any (same_location at) s.mods ≡ true)

abbrev Names : CallId → Skip → Type 0
Names c s = s.call.0 ≡ c.0

open-marked : {c : CallId} {at : Location} {log : Log} → IsOpenIn c at log → IsCall (MayChange c at) (marks_of log)
open-marked {c = c} {at = at} (marked mods fills log is) = call-last (MayChange c at) (marks_of log) (record { call = c; mods = mods }) (refl, front (list_any (same_location at) mods) (not (is_filled at fills)) is)
open-marked (behind log (Did e) h) = open-marked h
open-marked {c = c} {at = at} (behind log (Marked d mods fills) h) = call-more (MayChange c at) (marks_of log) (record { call = d; mods = mods } ∷ []) (open-marked h)

returns-call : (p : ProgramData) (mods : List (List Location)) (c : CallId) (t : RegType) (shots : List Snapshot) → Returns (kinds_of p shots) c t → IsCall (Names c) (skips_of mods shots)
returns-call p mods c t [] h = absurd h
returns-call p mods c t (s ∷ shots) (inl h) = inl h.0
returns-call p mods c t (s ∷ shots) (inr h) = inr (returns-call p mods c t shots h)

-- ---- a call's snapshot

-- the snapshot of the call stands at its place, where calls are numbered from k on
record IsFound (mods : List (List Location)) (k : ℕ) (c : CallId) (shots : List Snapshot) (Q : Skip → Type 0) : Type 0 where
  shot : Snapshot
  found : slice_get shots (c.0 - k) ≡ Some shot
  is : shot.call.0 ≡ c.0
  low : k ≤ c.0
  so : Q (skip_of mods shot)

at-first : (c n k : ℕ) → n ≡ c → n ≡ k → c - k ≡ 0
at-first c n k h is = omega (arith, h, is)

first-low : (c n k : ℕ) → n ≡ c → n ≡ k → k ≤ c
first-low c n k h is = omega (arith, h, is)

at-next : (c k : ℕ) → k + 1 ≤ c → c - k ≡ suc (c - (k + 1))
at-next c k h = omega (arith, h)

next-low : (c k : ℕ) → k + 1 ≤ c → k ≤ c
next-low c k h = omega (arith, h)

find-call : (mods : List (List Location)) (k : ℕ) (c : CallId) (Q : Skip → Type 0) (shots : List Snapshot) → ((s : Skip) → Q s → s.call.0 ≡ c.0) → NumberedFrom k (skips_of mods shots) → IsCall Q (skips_of mods shots) → IsFound mods k c shots Q
find-call mods k c Q [] names numbered h = absurd h
find-call mods k c Q (s ∷ shots) names numbered (inl so) =
    let is = names (skip_of mods s) so in
    record { shot = s; found = ap (λ i. slice_get (s ∷ shots) i) (at-first c.0 s.call.0 k is numbered.0); is = is; low = first-low c.0 s.call.0 k is numbered.0; so = so }
find-call mods k c Q (s ∷ shots) names numbered (inr h) =
    let more = find-call mods (k + 1) c Q shots names numbered.1 h in
    record { shot = more.shot; found = ap (λ i. slice_get (s ∷ shots) i) (at-next c.0 k more.low) ∙ more.found; is = more.is; low = next-low c.0 k more.low; so = more.so }

same-some : {A : Type 0} (P : A → Type 0) (x y : A) → Some x ≡ Some y → P x → P y
same-some P x y is h = subst (λ o. IfSome o P) is h

none-some : {A : Type 0} (x : A) → None ≡ Some x → ⊥
none-some x is = cc

pub each-at : {A : Type 0} (P : A → Type 0) (xs : List A) (i : ℕ) (x : A) → slice_get xs i ≡ Some x → Each P xs → P x
each-at P [] i x is h = absurd (none-some x is)
each-at P (y ∷ xs) zero x is h = same-some P y x is h.0
each-at P (y ∷ xs) (suc i) x is h = each-at P xs i x is h.1

-- ---- calls are needed

other : (n m : ℕ) → n < m → m ≡ n → ⊥
other n m less is = omega (arith, less, is)

none-again : (at : Location) (c : CallId) (calls : List CallId) → Each (λ d. c.0 < d.0) calls → Each (λ m. m.call.0 ≡ c.0 → m.at ≡ at → ⊥) (needs_at at calls)
none-again at c [] h = tt
none-again at c (d ∷ calls) h = ((λ is there. other c.0 d.0 h.0 is), none-again at c calls h.1)

none-twice : (at : Location) (calls : List CallId) → Rise calls → NoneTwice (needs_at at calls)
none-twice at [] h = tt
none-twice at (c ∷ calls) h = (none-again at c calls h.0, none-twice at calls h.1)

each-needed : (mods : List (List Location)) (s : State) (at : Location) (Q : CallId → Type 0) (calls : List CallId) → ((c : CallId) → Q c → IsNeeded mods s (record { call = c; at = at })) → Each Q calls → Each (IsNeeded mods s) (needs_at at calls)
each-needed mods s at Q [] one h = tt
each-needed mods s at Q (c ∷ calls) one h = (one c h.0, each-needed mods s at Q calls one h.1)

module _ (p : ProgramData) (mods : List (List Location)) (s : State) (calls-kept : AreKept mods s.memory.log s.snapshots) where
  open-needed : (at : Location) (c : CallId) → IsOpenIn c at s.memory.log → IsNeeded mods s (record { call = c; at = at })
  open-needed at c h =
      let there = find-call mods 1 c (MayChange c at) s.snapshots (λ k g. g.0) calls-kept.numbered (subst (IsCall (MayChange c at)) calls-kept.marked (open-marked h)) in
      record { shot = there.shot; found = there.found; is = there.is; unknown = changed there.so.1 h }

  waiting-needed : (bound : ℕ) (c : CallId) → IsWaited (Waits (kinds_of p s.snapshots) bound s.snapshots) c → IsNeeded mods s (record { call = c; at = location.Result })
  waiting-needed bound c h =
      let there = find-call mods 1 c (Names c) s.snapshots (λ k g. g) calls-kept.numbered (returns-call p mods c h.0 s.snapshots h.1.0.1) in
      record {
        shot = there.shot;
        found = there.found;
        is = there.is;
        unknown = returned refl (each-at (λ t. t.call.0 ≡ c.0 → t.result ≡ None) s.snapshots (c.0 - 1) there.shot there.found h.1.1 there.is);
      }

  -- what the log needs
  pub wants-needed : (ks : List Kind) (bound : ℕ) (w : Want) → LogNames ks bound s.memory.log → AreNeeded mods s (needs_at (location_of w) (need w s.memory.log))
  wants-needed ks bound w h =
      let at = location_of w in
      let rise = needs-rise w s.memory.log bound (names-fall ks bound s.memory.log h) in
      (each-needed mods s at (λ c. IsOpenIn c at s.memory.log) (need w s.memory.log) (open-needed at) (needs-open w s.memory.log), none-twice at (need w s.memory.log) rise.1)

  -- results that wait
  pub waits-needed : (bound : ℕ) (calls : List CallId) → AreWaited (Waits (kinds_of p s.snapshots) bound s.snapshots) calls → AreNeeded mods s (needs_at location.Result calls)
  waits-needed bound calls h =
      (each-needed mods s location.Result (IsWaited (Waits (kinds_of p s.snapshots) bound s.snapshots)) calls (waiting-needed bound) h.0, none-twice location.Result calls h.1)
