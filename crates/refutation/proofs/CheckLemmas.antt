-- Steps of a check.
use Rattle.std.proofs.Common.{◌≡◌, ◌↔◌, ◌<◌, ◌≤◌, ◌+◌, ℕ, zero, suc, get_or, take, drop, Bool, true, false, Option, Some, None, List, [], ◌∷◌, ◌++◌, length, refl, sym, ap, subst, ◌∙◌, inl, inr, All, Contains, arith, Vec, Global, take_all, append_assoc, append-nil, ◌⊎◌, ⊎_elim}
use Rattle.std.proofs.lemmas.Bool.{or_left, or_right, false≢true}
use Rattle.std.proofs.lemmas.List.{take-append-drop, take_more, get_or-map, length-map}
use Rattle.std.proofs.lemmas.List.Elements.{All-append, All-contains, All-more, Contains-append_left, Contains-append_right, Contains-get_or}
use mathlib.Core.Bool.{beq}
use Rattle.cnf.specs.declared.Lit.{Lit}
use Rattle.cnf.specs.Literals.{negated, same, among, holds_of}
use Rattle.cnf.specs.Forced.{Conflicts}
use Rattle.cnf.specs.Rup.{negation_of, IsRup, AllRup, IsRefutation}
use Rattle.cnf.proofs.SetLemmas.{same-refl}
use Rattle.cnf.proofs.ForcedLemmas.{Forced-given, Forced-wider, Conflicts-more, Conflicts-wider, among-append_left}
use Rattle.cnf.proofs.RupLemmas.{AllRup-append, negation-append, refuted_has_none}
use Rattle.std.proofs.Common.{vec_len, ◌==◌, le_of_eq}
use Rattle.std.proofs.lemmas.Bool.{eq-eqb}
use Rattle.std.proofs.lemmas.List.Elements.{All-take}
use Rattle.cnf.proofs.PropagateLemmas.{below_at}
use Rattle.cnf.specs.Cnf.{IsBelow, lists_of}
use Rattle.cnf.specs.Models.{HasNoModel}
use Rattle.cnf.specs.Passes.{IsQuiet, Grows, Assigns, FindsNone, IsPass}
use Rattle.cnf.specs.declared.Pass.{Pass}
use Rattle.cnf.specs.declared.Pass.TheVariants.{Conflict, Changed, Quiet}
use Rattle.cnf.proofs.PassLemmas.{grows_more, conflict_grown}
use Rattle.refutation.specs.declared.Checked.{Checked}
use Rattle.refutation.specs.declared.Checked.TheVariants.{Yes, No}
use Rattle.refutation.specs.Checks.{IsChecked, IsTautology, Negates, StopsAt}

-- one pass over two lists

in_left : (C E : List (List Lit)) (c : List Lit) → Contains C c → Contains (C ++ E) c
in_left C E c h = Contains-append_left C E c h

in_right : (C E : List (List Lit)) (c : List Lit) → Contains E c → Contains (C ++ E) c
in_right C E c h = Contains-append_right C E c h

grows_wider : (F G : List (List Lit)) (a b : List (Option Bool)) → ((c : List Lit) → Contains F c → Contains G c) → Grows F a b → Grows G a b
grows_wider F G a b part h = record {
  given = h.given;
  forced_alone = λ l e. Forced-wider F G part (holds_of a) l (h.forced_alone l e);
}

pub first_conflict : (C E : List (List Lit)) (a : List (Option Bool)) → Conflicts C (holds_of a) → Conflicts (C ++ E) (holds_of a)
first_conflict C E a h = Conflicts-wider C (C ++ E) (in_left C E) (holds_of a) h

second_conflict : (C E : List (List Lit)) (a : List (Option Bool)) → Conflicts E (holds_of a) → Conflicts (C ++ E) (holds_of a)
second_conflict C E a h = Conflicts-wider E (C ++ E) (in_right C E) (holds_of a) h

from_same : (C E : List (List Lit)) (a c : List (Option Bool)) (r : Pass) → All (IsQuiet (holds_of a)) C → IsPass E a c r → IsPass (C ++ E) a c r
from_same C E a c Conflict quiet h = second_conflict C E a h
from_same C E a c Changed quiet h = record {
  grows = grows_wider E (C ++ E) a c (in_right C E) h.grows;
  fewer = h.fewer;
}
from_same C E a c Quiet quiet h = record {
  unchanged = h.unchanged;
  quiet = All-append (IsQuiet (holds_of a)) C E quiet h.quiet;
}

pub after_quiet : (C E : List (List Lit)) (a b c : List (Option Bool)) (r : Pass) → FindsNone C a b → IsPass E b c r → IsPass (C ++ E) a c r
after_quiet C E a b c r first second =
    let P : List (Option Bool) → Type 0 = λ x. IsPass E x c r in
    from_same C E a c r first.quiet (subst P first.unchanged second)

pub after_change_conflict : (C E : List (List Lit)) (a b : List (Option Bool)) → Assigns C a b → Conflicts E (holds_of b) → Conflicts (C ++ E) (holds_of a)
after_change_conflict C E a b first second =
    conflict_grown (C ++ E) a b (grows_wider C (C ++ E) a b (in_left C E) first.grows) (second_conflict C E b second)

pub after_change : (C E : List (List Lit)) (a b c : List (Option Bool)) (r : Pass) → Assigns C a b → IsPass E b c r → (r ≡ Changed) ⊎ (r ≡ Quiet) → Assigns (C ++ E) a c
after_change C E a b c r first second (inl e) =
    let P : Pass → Type 0 = IsPass E b c in
    let changed : Assigns E b c = subst P e second in
    record {
      grows = grows_more (C ++ E) a b c (grows_wider C (C ++ E) a b (in_left C E) first.grows) (grows_wider E (C ++ E) b c (in_right C E) changed.grows);
      fewer = let one = first.fewer in let two = changed.fewer in omega arith;
    }
after_change C E a b c r first second (inr e) =
    let P : Pass → Type 0 = IsPass E b c in
    let none : FindsNone E b c = subst P e second in
    let Q : List (Option Bool) → Type 0 = Assigns (C ++ E) a in
    let here : Assigns (C ++ E) a b = record {
      grows = grows_wider C (C ++ E) a b (in_left C E) first.grows;
      fewer = first.fewer;
    } in subst Q (sym none.unchanged) here

negation_among : (c : List Lit) (l : Lit) → Contains c l → among (negation_of c) (negated l) ≡ true
negation_among c l there = at_place c there.0 there.1 there.2
  where
    at_place : (ms : List Lit) (k : ℕ) → k < length ms → get_or ms k l ≡ l → among (negation_of ms) (negated l) ≡ true
    at_place [] k below is = absurd (omega arith)
    at_place (m ∷ ms) zero below is =
        or_left (same (negated l) (negated m)) (among (negation_of ms) (negated l)) (subst (λ x. same (negated l) (negated x) ≡ true) (sym is) (same-refl (negated l)))
    at_place (m ∷ ms) (suc k) below is =
        or_right (same (negated l) (negated m)) (among (negation_of ms) (negated l)) (at_place ms k (omega arith) is)

pub tautology_found : (assigned : List (Option Bool)) (c : List Lit) (i : ℕ) (d : Lit) (a : Bool) → i < length c → Negates assigned (take i c) → get_or assigned (get_or c i d).var None ≡ Some a → beq a (get_or c i d).positive ≡ true → IsTautology c
tautology_found assigned c i d a below so_far is equal =
    let l = get_or c i d in
    let holds : holds_of assigned l ≡ true = rw is equal in
    let early = (so_far l).0 holds in
    let whole : among (negation_of (take i c ++ drop i c)) l ≡ true = rw (negation-append (take i c) (drop i c)) (among-append_left (negation_of (take i c)) (negation_of (drop i c)) l early) in
    let stands : among (negation_of c) l ≡ true = subst (λ x. among (negation_of x) l ≡ true) (take-append-drop i c) whole in
    (l, stands, negation_among c l (Contains-get_or c i d below))

pub tautology_conflicts : (F : List (List Lit)) (c : List Lit) → IsTautology c → IsRup F c
tautology_conflicts F c h = inr (h.0, Forced-given F (among (negation_of c)) h.0 h.1, Forced-given F (among (negation_of c)) (negated h.0) h.2)

pub rup_by_assigned : (F : List (List Lit)) (assigned : List (Option Bool)) (c : List Lit) (r : Bool) → Negates assigned c → (r ≡ true) ↔ Conflicts F (holds_of assigned) → (r ≡ true) ↔ IsRup F c
rup_by_assigned F assigned c r negates h =
    (λ e. Conflicts-more F (holds_of assigned) (among (negation_of c)) (λ l k. Forced-given F (among (negation_of c)) l ((negates l).0 k)) (h.0 e), λ k. h.1 (Conflicts-more F (among (negation_of c)) (holds_of assigned) (λ l e. Forced-given F (holds_of assigned) l ((negates l).1 e)) k))

-- the clauses of a log

pub lists-take : (n : ℕ) (log : List (Vec Lit Global)) → lists_of (take n log) ≡ take n (lists_of log)
lists-take zero log = refl
lists-take (suc n) [] = refl
lists-take (suc n) (c ∷ log) = ap (λ x. c.items ∷ x) (lists-take n log)

pub clause_at : (log : List (Vec Lit Global)) (i : ℕ) (clause : Vec Lit Global) (d : List Lit) → i < length log → clause ≡ get_or log i clause → get_or (lists_of log) i d ≡ clause.items
clause_at log i clause d below is = get_or-map (λ c. c.items) log i clause d below ∙ ap (λ c. c.items) (sym is)

one_rup : (F : List (List Lit)) (c : List Lit) → IsRup F c → AllRup F (c ∷ [])
unfolding AllRup
one_rup F c h = (h, tt)

pub no_steps : (F log : List (List Lit)) → AllRup F (take 0 log)
unfolding AllRup
no_steps F log = tt

-- after one step more
pub step_more : (F : List (List Lit)) (log : List (Vec Lit Global)) (i : ℕ) (clause : Vec Lit Global) (earlier : List (Vec Lit Global)) (c : List Lit) → i < length log → clause ≡ get_or log i clause → earlier ≡ take i log → c ≡ clause.items → AllRup F (take i (lists_of log)) → IsRup (F ++ lists_of earlier) c → AllRup F (take (i + 1) (lists_of log))
step_more F log i clause earlier c below is front same so_far rup =
    let long : i < length (lists_of log) = rw (length-map log (λ x. x.items)) below in
    let here : IsRup (F ++ take i (lists_of log)) clause.items = subst (λ x. IsRup (F ++ x) clause.items) (ap lists_of front ∙ lists-take i log) (subst (IsRup (F ++ lists_of earlier)) same rup) in
    let at : get_or (lists_of log) i [] ≡ clause.items = clause_at log i clause [] below is in
    rw (take_more (lists_of log) i [] long, at) (AllRup-append (take i (lists_of log)) (clause.items ∷ []) F so_far (one_rup (F ++ take i (lists_of log)) clause.items here))

pub stops_at_step : (F : List (List Lit)) (log : List (Vec Lit Global)) (i : ℕ) (clause : Vec Lit Global) (earlier : List (Vec Lit Global)) (c : List Lit) → i < length log → clause ≡ get_or log i clause → earlier ≡ take i log → c ≡ clause.items → AllRup F (take i (lists_of log)) → (IsRup (F ++ lists_of earlier) c → ⊥) → StopsAt F (lists_of log) i
stops_at_step F log i clause earlier c below is front same so_far fails = record {
  before = so_far;
  reason = inl (rw (length-map log (λ x. x.items)) below, λ h. fails (subst (IsRup (F ++ lists_of earlier)) (sym same) (subst (λ x. IsRup (F ++ x) clause.items) (sym (ap lists_of front ∙ lists-take i log)) (subst (IsRup (F ++ take i (lists_of log))) (clause_at log i clause [] below is) h))));
}

pub item_not_empty : (clause : Vec Lit Global) → false ≡ (vec_len clause == 0) → clause.items ≡ [] → ⊥
item_not_empty clause long is =
    let none : vec_len clause ≡ 0 = clause.ok.0 ∙ ap length is in false≢true (long ∙ eq-eqb (vec_len clause) 0 none)

abbrev IsNotEmpty : List Lit → Type 0
IsNotEmpty c = c ≡ [] → ⊥

pub not_empty_more : (log : List (Vec Lit Global)) (i : ℕ) (clause : Vec Lit Global) → i < length log → clause ≡ get_or log i clause → All (λ (c : List Lit). c ≡ [] → ⊥) (take i (lists_of log)) → (clause.items ≡ [] → ⊥) → All (λ (c : List Lit). c ≡ [] → ⊥) (take (i + 1) (lists_of log))
not_empty_more log i clause below is so_far here =
    All-more (λ (c : List Lit). c ≡ [] → ⊥) (lists_of log) i clause.items (rw (length-map log (λ x. x.items)) below) so_far (λ e. here (sym (clause_at log i clause clause.items below is) ∙ e))

pub none_empty : (log : List (Vec Lit Global)) (i : ℕ) → length log ≤ i → All (λ (c : List Lit). c ≡ [] → ⊥) (take i (lists_of log)) → Contains (lists_of log) [] → ⊥
none_empty log i past h there =
    let long : length (lists_of log) ≤ i = rw (length-map log (λ x. x.items)) past in
    let all = rw (take_all i (lists_of log) long) at h in
    All-contains (λ (c : List Lit). c ≡ [] → ⊥) (lists_of log) [] all there refl

pub below_front : (n m : ℕ) (log : List (Vec Lit Global)) (i : ℕ) → n ≡ m → IsBelow m (lists_of log) → IsBelow n (lists_of (take i log))
below_front n m log i same h =
    rw (lists-take i log, same) (All-take (λ c. All (λ l. l.var < m) c) i (lists_of log) h)

pub below_clause : (n m : ℕ) (log : List (Vec Lit Global)) (i : ℕ) (clause : Vec Lit Global) (c : List Lit) → n ≡ m → IsBelow m (lists_of log) → i < length log → clause ≡ get_or log i clause → c ≡ clause.items → All (λ l. l.var < n) c
below_clause n m log i clause c same h below is items = rw (items, same) (below_at m log i clause h below is)

pub all_steps : (F : List (List Lit)) (log : List (Vec Lit Global)) (i : ℕ) → length log ≤ i → AllRup F (take i (lists_of log)) → AllRup F (lists_of log)
all_steps F log i past h =
    let long : length (lists_of log) ≤ i = rw (length-map log (λ x. x.items)) past in
    rw (take_all i (lists_of log) long) at h

pub refuted_at_end : (F : List (List Lit)) (log : List (Vec Lit Global)) (i : ℕ) → length log ≤ i → AllRup F (take i (lists_of log)) → Contains (lists_of log) [] → IsRefutation F (lists_of log)
refuted_at_end F log i past h there = record { each_step = all_steps F log i past h; has_empty = there }

pub stops_at_end : (F : List (List Lit)) (log : List (Vec Lit Global)) (i : ℕ) → length log ≤ i → AllRup F (take i (lists_of log)) → (Contains (lists_of log) [] → ⊥) → StopsAt F (lists_of log) (length log)
stops_at_end F log i past h none =
    let long : length (lists_of log) ≡ length log = length-map log (λ x. x.items) in
    record {
      before = rw (take_all (length log) (lists_of log) (le_of_eq long)) (all_steps F log i past h);
      reason = inr (sym long, none);
    }

-- a refutation has no step at which a check stops

step_follows : (F log : List (List Lit)) (k : ℕ) → AllRup F log → k < length log → IsRup (F ++ take k log) (get_or log k [])
unfolding AllRup
step_follows F [] k all below = absurd (omega arith)
step_follows F (c ∷ log) zero all below = subst (λ G. IsRup G c) (sym (append-nil F)) all.0
step_follows F (c ∷ log) (suc k) all below =
    subst (λ G. IsRup G (get_or log k [])) (append_assoc F (c ∷ []) (take k log)) (step_follows (F ++ c ∷ []) log k all.1 (omega arith))

pub accepted : (F log : List (List Lit)) (r : Checked) → IsChecked F log r → IsRefutation F log → r ≡ Yes
accepted F log Yes h refutes = refl
accepted F log (No step) h refutes =
    absurd (⊎_elim (λ x. x.1 (step_follows F log step refutes.each_step x.0)) (λ x. x.1 refutes.has_empty) h.reason)

pub yes_refutes : (F log : List (List Lit)) (r : Checked) → IsChecked F log r → r ≡ Yes → HasNoModel F
yes_refutes F log r h e =
    let P : Checked → Type 0 = IsChecked F log in refuted_has_none F log (subst P e h)
