-- What an access finds.
use Rattle.flat_ir.specs.Orderly.{is_named}
use Rattle.std.specs.Prelude.{nat_lt}
use Rattle.std.proofs.Common.{◌≡◌, ℕ, zero, suc, ◌+◌, ◌%◌, ◌^◌, ◌<◌, ◌≤◌, true, false, List, [], ◌∷◌, Some, None, slice_get, length, take, drop, refl, sym, ◌∙◌, ap, arith, Result, Ok, Err, IfOk, IfSome}
use Rattle.std.proofs.lemmas.Bool.Decides.{nat_tests}
use Rattle.flat_ir.specs.declared.names.ObjectName.{ObjectName}
use Rattle.flat_ir.specs.declared.names.ObjectName.TheVariants.{Global, Made}
use Rattle.flat_ir.specs.declared.program.ProgramData.{ProgramData}
use Rattle.flat_ir.specs.declared.values.Address.{Address}
use Rattle.flat_ir.specs.declared.values.ConcreteByte.{ConcreteByte}
use Rattle.flat_ir.specs.declared.values.FaultKind.TheVariants as fault
use Rattle.flat_ir.specs.History.{History}
use Rattle.flat_ir.specs.Registers.{first_of}
use Rattle.flat_ir.specs.Steps.{is_within, access_fault, byte_there}
use Rattle.concrete_memory.specs.Objects.{IsLive, IsEnded}
use Rattle.concrete_memory.specs.Accesses.{Reaches, fault_of_missing}
use Rattle.concrete_memory.specs.declared.objects.Store.{Store}
use Rattle.concrete_memory.specs.declared.objects.Life.TheVariants.{Live, Ended}
use Rattle.concrete_memory.specs.Standing.{StandsFor, life_of, HasPlaces}

take_here : {A : Type 0} (xs : List A) (k n : ℕ) (a : A) → slice_get xs k ≡ Some a → take (suc n) (drop k xs) ≡ a ∷ take n (drop (suc k) xs)
take_here [] k n a e = cc
take_here (x ∷ xs) zero n a e = let same : x ≡ a = cc in ap (λ y. y ∷ take n xs) same
take_here (x ∷ xs) (suc k) n a e = take_here xs k n a e

-- the n items from a place on are f i and so on
part_is : {A : Type 0} (xs : List A) (place n i : ℕ) (f : ℕ → A) → place + i + n ≤ length xs → ((j : ℕ) → place + j < length xs → slice_get xs (place + j) ≡ Some (f j)) → take n (drop (place + i) xs) ≡ first_of n i f
part_is xs place zero i f within items = refl
part_is xs place (suc n) i f within items =
    let here = take_here xs (place + i) n (f i) (items i (omega arith)) in
    let on : place + (i + 1) ≡ suc (place + i) = omega arith in
    let rest = part_is xs place n (i + 1) f (omega arith) items in
    here ∙ ap (λ ys. f i ∷ ys) (ap (λ k. take n (drop k xs)) (sym on) ∙ rest)

within_facts : (offset n size : ℕ) → is_within offset n size ≡ true → offset + n ≤ size
within_facts offset n size e = grind (arith, nat_tests)

-- an access inside a live object reaches its bytes
pub reaches_live : (p : ProgramData) (h : History) (x : ObjectName) (at : Address) (n : ℕ) (bytes part : List ConcreteByte) → at.base ≡ Some x → IsLive p h x bytes → length bytes < 2 ^ 64 → is_within at.offset n (length bytes) ≡ true → part ≡ take n (drop at.offset bytes) → Reaches p h n at part
reaches_live p h x at n bytes part base live fits within is = record {
  passes = rw (base, live.alive) (rw (← live.size) (rw within refl));
  bytes_are = is ∙ (ap (λ k. take n (drop k bytes)) (plain) ∙ part_is bytes at.offset n 0 (byte_there p h at) (omega (arith, within_facts at.offset n (length bytes) within)) found);
}
  where
    plain : at.offset ≡ at.offset + 0
    plain = omega arith

    found : (j : ℕ) → at.offset + j < length bytes → slice_get bytes (at.offset + j) ≡ Some (byte_there p h at j)
    found j inside =
        let small : (at.offset + j) % 2 ^ 64 ≡ at.offset + j = omega arith in
        rw (base, small) (live.byte_is (at.offset + j) inside)

pub outside_live : (p : ProgramData) (h : History) (x : ObjectName) (at : Address) (n : ℕ) (bytes : List ConcreteByte) → at.base ≡ Some x → IsLive p h x bytes → is_within at.offset n (length bytes) ≡ false → access_fault p h n at ≡ Some fault.OutOfBounds
outside_live p h x at n bytes base live outside = rw (base, live.alive) (rw (← live.size) (rw outside refl))

pub ended_faults : (p : ProgramData) (h : History) (x : ObjectName) (at : Address) (n : ℕ) → at.base ≡ Some x → IsEnded p h x → access_fault p h n at ≡ Some fault.UseAfterFree
ended_faults p h x at n base ended = rw (base, ended.dead) refl

pub null_faults : (p : ProgramData) (h : History) (at : Address) (n : ℕ) → at.base ≡ None → access_fault p h n at ≡ Some fault.NullAccess
null_faults p h at n base = rw base refl

beyond : {A : Type 0} (xs : List A) (k : ℕ) → nat_lt k (length xs) ≡ false → slice_get xs k ≡ None
beyond [] k e = refl
beyond (x ∷ xs) zero e = let no : ⊥ = grind (arith, nat_tests) in absurd no
beyond (x ∷ xs) (suc k) e = beyond xs k (grind (arith, nat_tests))

pub missing_faults : (p : ProgramData) (h : History) (x : ObjectName) (at : Address) (n : ℕ) → at.base ≡ Some x → 1 ≤ n → is_named p x h ≡ false → access_fault p h n at ≡ Some (fault_of_missing x)
missing_faults p h (Global g) at n base some none =
    let no : is_within at.offset n 0 ≡ false = grind (arith, nat_tests) in
    rw base (rw (beyond p.globals g none) (rw no refl))
missing_faults p h (Made frame made) at n base some none = rw base (rw none refl)

-- what a store says of a name, by the history
pub live_at : (p : ProgramData) (h : History) (store : Store) (x : ObjectName) (bytes : List ConcreteByte) → StandsFor p store h → life_of store x ≡ Some (Live bytes) → IsLive p h x bytes
live_at p h store x bytes stands e = rw e at (stands.objects x)

pub ended_at : (p : ProgramData) (h : History) (store : Store) (x : ObjectName) → StandsFor p store h → life_of store x ≡ Some Ended → IsEnded p h x
ended_at p h store x stands e = rw e at (stands.objects x)

pub none_at : (p : ProgramData) (h : History) (store : Store) (x : ObjectName) → StandsFor p store h → life_of store x ≡ None → is_named p x h ≡ false
none_at p h store x stands e = rw e at (stands.objects x)

pub if_ok_on : {T E : Type 0} (r : Result T E) (P Q : T → Type 0) → ((x : T) → P x → Q x) → IfOk r P → IfOk r Q
if_ok_on (Ok x) P Q f h = f x h
if_ok_on (Err e) P Q f h = tt

pub has_places : (store : Store) (at : Address) (x : ObjectName) (n : ℕ) (bytes : List ConcreteByte) → at.base ≡ Some x → life_of store x ≡ Some (Live bytes) → is_within at.offset n (length bytes) ≡ true → length bytes < 2 ^ 64 → IfSome at.base (λ y. HasPlaces store y at.offset n)
has_places store at x n bytes base lives within fits = rw base (record { bytes = bytes; lives = lives; within = within_facts at.offset n (length bytes) within; fits = fits })
