-- A store of the first globals.
use Rattle.std.proofs.Common.{◌≡◌, ℕ, ◌+◌, ◌<◌, ◌≤◌, Bool, true, false, cond, List, [], Option, Some, None, slice_get, length, refl, sym, ◌∙◌, ap, subst, arith, get_or}
use Rattle.concrete_memory.proofs.Places.{get_at}
use Rattle.std.proofs.lemmas.Bool.{eqb-true}
use Rattle.std.proofs.lemmas.Bool.Decides.{nat_tests}
use Rattle.std.specs.HashMap.{get, HashMap}
use Rattle.std.specs.declared.hash.FoldHasher.{FoldHasher}
use Rattle.std.specs.declared.hash.BuildHasherDefault.{BuildHasherDefault}
use Rattle.flat_ir.specs.declared.names.ObjectName.{ObjectName}
use Rattle.flat_ir.specs.declared.names.ObjectName.TheVariants.{Global, Made}
use Rattle.flat_ir.specs.declared.program.ProgramData.{ProgramData}
use Rattle.flat_ir.specs.declared.program.GlobalVar.{GlobalVar}
use Rattle.flat_ir.specs.declared.values.ConcreteByte.{ConcreteByte}
use Rattle.flat_ir.specs.History.{same_object}
use Rattle.concrete_memory.specs.declared.objects.Store.{Store}
use Rattle.concrete_memory.specs.declared.objects.Life.{Life}
use Rattle.concrete_memory.specs.declared.objects.Life.TheVariants.{Live, Ended}
use Rattle.concrete_memory.specs.Objects.{AreInitial}
use Rattle.concrete_memory.specs.Standing.{Holds, StandsFor, life_of}

-- a global, with its first bytes
pub record IsGlobal (p : ProgramData) (g : ℕ) (bytes : List ConcreteByte) : Type 0 where
  pub var : GlobalVar
  pub there : slice_get p.globals g ≡ Some var
  pub first : AreInitial var bytes

-- of the objects only the first n globals are there
abbrev pub Starts : ProgramData → ℕ → ObjectName → Option Life → Type 0
Starts p n (Global g) None = n ≤ g
Starts p n (Global g) (Some (Live bytes)) = (g < n) × IsGlobal p g bytes
Starts p n (Global g) (Some Ended) = ⊥
Starts p n (Made frame made) None = Unit {0}
Starts p n (Made frame made) (Some life) = ⊥

abbrev pub Objects : Type 0
Objects = HashMap ObjectName Life (BuildHasherDefault FoldHasher)

starts_on : (p : ProgramData) (n : ℕ) (x : ObjectName) (life : Option Life) → same_object (Global n) x ≡ false → Starts p n x life → Starts p (n + 1) x life
starts_on p n (Global g) None e starts = grind (arith, nat_tests)
starts_on p n (Global g) (Some (Live bytes)) e starts = (omega (arith, starts.0), starts.1)
starts_on p n (Global g) (Some Ended) e starts = absurd starts
starts_on p n (Made frame made) None e starts = tt
starts_on p n (Made frame made) (Some life) e starts = absurd starts

starts_here : (p : ProgramData) (n : ℕ) (bytes : List ConcreteByte) (x : ObjectName) → same_object (Global n) x ≡ true → IsGlobal p n bytes → Starts p (n + 1) x (Some (Live bytes))
starts_here p n bytes (Global g) e is =
    let same = eqb-true n g e in
    let P : ℕ → Type 0 = λ m. IsGlobal p m bytes in
    (omega (arith, same), subst P same is)
starts_here p n bytes (Made frame made) e is = cc

-- one more global is there
pub starts_next : (p : ProgramData) (n : ℕ) (old new : Objects) (bytes : List ConcreteByte) → IsGlobal p n bytes → ((x : ObjectName) → get same_object new x ≡ cond (same_object (Global n) x) (Some (Live bytes)) (get same_object old x)) → ((x : ObjectName) → Starts p n x (get same_object old x)) → (x : ObjectName) → Starts p (n + 1) x (get same_object new x)
starts_next p n old new bytes is puts starts x = rw (puts x) (at (same_object (Global n) x) refl)
  where
    at : (b : Bool) → same_object (Global n) x ≡ b → Starts p (n + 1) x (cond b (Some (Live bytes)) (get same_object old x))
    at true e = starts_here p n bytes x e is
    at false e = starts_on p n x (get same_object old x) e (starts x)

-- with all globals there, the store stands for the empty history
all_start : (p : ProgramData) (x : ObjectName) (life : Option Life) → Starts p (length p.globals) x life → Holds p [] x life
all_start p (Global g) None starts = grind (arith, nat_tests)
all_start p (Global g) (Some (Live bytes)) starts = record {
  named = grind (arith, nat_tests);
  alive = refl;
  size = rw starts.1.there starts.1.first.size;
  byte_is = λ k within. rw starts.1.there (starts.1.first.initial_at k within);
}
all_start p (Global g) (Some Ended) starts = absurd starts
all_start p (Made frame made) None starts = refl
all_start p (Made frame made) (Some life) starts = absurd starts

pub starts_stands : (p : ProgramData) (store : Store) (n : ℕ) → n ≡ length p.globals → ((x : ObjectName) → Starts p n x (life_of store x)) → StandsFor p store []
starts_stands p store n all starts = record {
  orderly = tt;
  objects = λ x. let P : ℕ → Type 0 = λ m. Starts p m x (life_of store x) in all_start p x (life_of store x) (subst P all (starts x));
}

pub global_here : (p parts : ProgramData) (globals : List GlobalVar) (n : ℕ) (var : GlobalVar) (bytes : List ConcreteByte) → parts ≡ p → globals ≡ parts.globals → n < length globals → var ≡ get_or globals n var → AreInitial var bytes → IsGlobal p n bytes
global_here p parts globals n var bytes same are within is first = record {
  var = var;
  there = rw (← same, ← are) (get_at globals n var within ∙ ap (λ v. Some v) (sym is));
  first = first;
}
