-- Passes over all clauses.
use Rattle.std.proofs.Common.{◌≡◌, ◌<◌, ℕ, get_or, set, Bool, true, false, Option, Some, None, is_none, count_by, List, length, refl, sym, subst, ◌∙◌, ⊎_elim, Contains, arith}
use Rattle.std.proofs.lemmas.Grind.{common_steps}
use Rattle.cnf.specs.declared.Lit.{Lit}
use Rattle.cnf.specs.Literals.{holds_of}
use Rattle.cnf.specs.UnitRule.{HasOneOpen}
use Rattle.cnf.specs.Forced.{Forced, Conflicts}
use Rattle.cnf.proofs.ForcedLemmas.{Forced-given, Forced-more, Conflicts-more}
use Rattle.std.proofs.Common.{Vec, Global}
use Rattle.std.proofs.lemmas.List.{length-map}
use Rattle.std.proofs.lemmas.List.Elements.{Contains-get_or}
use Rattle.cnf.specs.Cnf.{lists_of}
use Rattle.cnf.specs.Passes.{Grows}
use Rattle.cnf.specs.Cnf.{IsBelow}
use Rattle.cnf.proofs.PropagateLemmas.{unit_is_forced, holds-set_cases, holds-set_keeps, none_when_open, var_below, list_at}

pub grows_none : (F : List (List Lit)) (a : List (Option Bool)) → Grows F a a
grows_none F a = record { given = λ l e. e; forced_alone = λ l e. Forced-given F (holds_of a) l e }

pub grows_more : (F : List (List Lit)) (a b c : List (Option Bool)) → Grows F a b → Grows F b c → Grows F a c
grows_more F a b c first second = record {
  given = λ l e. second.given l (first.given l e);
  forced_alone = λ l e. Forced-more F (holds_of b) (holds_of a) first.forced_alone l (second.forced_alone l e);
}

pub grows_one : (F : List (List Lit)) (a b : List (Option Bool)) (c : List Lit) (l : Lit) → Grows F a b → IsBelow (length b) F → Contains F c → HasOneOpen (holds_of b) c l → Grows F a (set b l.var (Some l.positive))
grows_one F a b c l h below there one =
    let in_range = var_below (length b) F c l below there one.stands in
    let none = none_when_open b l one.open_itself in
    let is_forced = unit_is_forced F (holds_of a) (holds_of b) h.forced_alone c l there one in
    record {
      given = λ m e. holds-set_keeps b l m in_range none (h.given m e);
      forced_alone = λ m e. ⊎_elim (λ is. subst (Forced F (holds_of a)) (sym is) is_forced) (λ was. h.forced_alone m was) (holds-set_cases b l m in_range e);
    }

pub fewer_one : (F : List (List Lit)) (b : List (Option Bool)) (c : List Lit) (l : Lit) → IsBelow (length b) F → Contains F c → HasOneOpen (holds_of b) c l → count_by is_none (set b l.var (Some l.positive)) < count_by is_none b
fewer_one F b c l below there one =
    fewer b l.var l.positive (var_below (length b) F c l below there one.stands) (none_when_open b l one.open_itself)
  where
    fewer : (xs : List (Option Bool)) (i : ℕ) (s : Bool) → i < length xs → get_or xs i None ≡ None → count_by is_none (set xs i (Some s)) < count_by is_none xs
    fewer xs i s k none = grind (arith, common_steps)

pub conflict_grown : (F : List (List Lit)) (a b : List (Option Bool)) → Grows F a b → Conflicts F (holds_of b) → Conflicts F (holds_of a)
conflict_grown F a b h = Conflicts-more F (holds_of b) (holds_of a) h.forced_alone

pub clause_in : (clauses : List (Vec Lit Global)) (i : ℕ) (clause : Vec Lit Global) (c : List Lit) → i < length clauses → clause ≡ get_or clauses i clause → c ≡ clause.items → Contains (lists_of clauses) c
clause_in clauses i clause c below is items =
    let long : i < length (lists_of clauses) = rw (length-map clauses (λ x. x.items)) below in
    subst (Contains (lists_of clauses)) (list_at clauses i clause below is ∙ sym items) (Contains-get_or (lists_of clauses) i clause.items long)

pub below_same : (n m : ℕ) (F : List (List Lit)) → n ≡ m → IsBelow m F → IsBelow n F
below_same n m F e h = rw e h

-- fewer than before, whether or not some were assigned already
pub fewer_than : (changed : Bool) (new now first : ℕ) → new < now → (changed ≡ true → now < first) → (changed ≡ false → now ≡ first) → new < first
fewer_than true new now first less h k = let before = h refl in omega arith
fewer_than false new now first less h k = let before = k refl in omega arith
