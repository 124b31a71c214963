-- What a store stands for after a change.
use Rattle.flat_ir.specs.Orderly.{IsKnown, is_named, is_made, IsOrderly}
use Rattle.std.proofs.Common.{◌≡◌, ℕ, Bool, true, false, cond, List, ◌∷◌, Option, Some, None, IsSome, slice_get, slice_set, ◌<◌, length, refl, sym, ◌∙◌, ap, subst, ◌≢◌, arith, length-set}
use Rattle.std.specs.Prelude.{◌==◌}
use Rattle.std.proofs.lemmas.Bool.{eqb-true}
use Rattle.std.proofs.lemmas.Bool.Decides.{nat_tests}
use Rattle.concrete_memory.proofs.Places.{set_here, set_elsewhere}
use Rattle.flat_ir.specs.declared.names.CallStep.{CallStep}
use Rattle.flat_ir.specs.declared.names.ObjectName.{ObjectName}
use Rattle.flat_ir.specs.declared.names.ObjectName.TheVariants.{Global, Made}
use Rattle.flat_ir.specs.declared.program.ProgramData.{ProgramData}
use Rattle.flat_ir.specs.declared.values.ConcreteByte.{ConcreteByte}
use Rattle.flat_ir.specs.History.{History, Write, Alloc, Free, same_object, byte_at, is_alive, size_of}
use Rattle.flat_ir.specs.Same.{same_object-true, same_object_refl}
use Rattle.concrete_memory.specs.declared.objects.Store.{Store}
use Rattle.concrete_memory.specs.declared.objects.Life.{Life}
use Rattle.concrete_memory.specs.declared.objects.Life.TheVariants.{Live, Ended}
use Rattle.concrete_memory.specs.Objects.{AreZero, IsLive}
use Rattle.concrete_memory.specs.Standing.{Holds, StandsFor, life_of, IsMadeName, Puts}
use Rattle.flat_ir.proofs.MadeBasics.{unmade_unfreed}
use Rattle.concrete_memory.proofs.Unmade.{unmade_byte}
use Rattle.concrete_memory.proofs.Untouched.{SaysSame, holds_on, alloc_apart, free_apart}

-- so it stands for the longer history, where that says the same of every other object
pub stands_after : (p : ProgramData) (h later : History) (old new : Store) (y : ObjectName) (life : Life) → StandsFor p old h → Puts old new y life → IsOrderly later → Holds p later y (Some life) → ((x : ObjectName) → same_object y x ≡ false → SaysSame p h later x) → StandsFor p new later
stands_after p h later old new y life stands puts orderly here apart = record {
  orderly = orderly;
  objects = λ x. rw (puts x) (at x (same_object y x) refl);
}
  where
    at : (x : ObjectName) (b : Bool) → same_object y x ≡ b → Holds p later x (cond b (Some life) (life_of old x))
    at x true e = let P : ObjectName → Type 0 = λ z. Holds p later z (Some life) in subst P (same_object-true y x e) here
    at x false e = holds_on p h later x (life_of old x) (apart x e) (stands.objects x)

-- a made object lives, with zeros
made_lives : (p : ProgramData) (h : History) (frame : List CallStep) (made : CallStep) (size : ℕ) (bytes : List ConcreteByte) → IsOrderly h → is_made (Made frame made) h ≡ false → AreZero size bytes → IsLive p (Alloc (Made frame made) size ∷ h) (Made frame made) bytes
made_lives p h frame made size bytes orderly none zeros = record {
  named = rw (same_object_refl (Made frame made)) refl;
  alive = rw (same_object_refl (Made frame made), unmade_unfreed frame made h orderly none) refl;
  size = rw (same_object_refl (Made frame made)) zeros.size;
  byte_is = λ k within. zeros.zero_at k within ∙ ap (λ b. Some b) (sym (unmade_byte p frame made h k orderly none));
}

pub alloc_stands : (p : ProgramData) (h : History) (old new : Store) (y : ObjectName) (size : ℕ) (bytes : List ConcreteByte) → StandsFor p old h → IsMadeName y → life_of old y ≡ None → AreZero size bytes → Puts old new y (Live bytes) → StandsFor p new (Alloc y size ∷ h)
alloc_stands p h old new (Global g) size bytes stands is_made_name none zeros puts = absurd is_made_name
alloc_stands p h old new (Made frame made) size bytes stands is_made_name none zeros puts =
    let unmade : is_made (Made frame made) h ≡ false = rw none at (stands.objects (Made frame made)) in
    stands_after p h (Alloc (Made frame made) size ∷ h) old new (Made frame made) (Live bytes) stands puts (unmade, stands.orderly)
    (made_lives p h frame made size bytes stands.orderly unmade zeros) (λ x apart. alloc_apart p h (Made frame made) x size apart)

pub known : (p : ProgramData) (h : History) (y : ObjectName) (bytes : List ConcreteByte) → IsLive p h y bytes → IsKnown y h
known p h (Global g) bytes live = tt
known p h (Made frame made) bytes live = live.named

same_life : (p : ProgramData) (h : History) (y : ObjectName) (place : ℕ) (b : ConcreteByte) → (is_named p y (Write y place b ∷ h) ≡ is_named p y h) × (is_alive y (Write y place b ∷ h) ≡ is_alive y h) × (size_of p y (Write y place b ∷ h) ≡ size_of p y h)
same_life p h (Global g) place b = (refl, refl, refl)
same_life p h (Made frame made) place b = (refl, refl, refl)

-- a live object, with one more byte written
pub written_lives : (p : ProgramData) (h : History) (y : ObjectName) (place : ℕ) (b : ConcreteByte) (bytes : List ConcreteByte) → IsLive p h y bytes → place < length bytes → IsLive p (Write y place b ∷ h) y (slice_set bytes place b)
written_lives p h y place b bytes live within = record {
  named = (same_life p h y place b).0 ∙ live.named;
  alive = (same_life p h y place b).1 ∙ live.alive;
  size = length-set bytes place b ∙ (live.size ∙ sym (same_life p h y place b).2);
  byte_is = λ k inside. byte_now k (omega (arith, length-set bytes place b)) (place == k) refl;
}
  where
    byte_now : (k : ℕ) → k < length bytes → (same : Bool) → (place == k) ≡ same → slice_get (slice_set bytes place b) k ≡ Some (byte_at p (Write y place b ∷ h) y k)
    byte_now k inside true e =
        let here : place ≡ k = eqb-true place k e in
        let P : ℕ → Type 0 = λ n. slice_get (slice_set bytes place b) n ≡ Some b in
        rw (same_object_refl y, e) (subst P here (set_here bytes place b within))
    byte_now k inside false e =
        let apart : place ≢ k = grind (arith, nat_tests) in
        rw (same_object_refl y, e) (set_elsewhere bytes place k b apart ∙ live.byte_is k inside)

-- an ended object is dead
made_ends : (p : ProgramData) (h : History) (frame : List CallStep) (made : CallStep) (life : Option Life) → IsSome life → Holds p h (Made frame made) life → is_made (Made frame made) h ≡ true
made_ends p h frame made None some holds = cc
made_ends p h frame made (Some (Live bytes)) some holds = holds.named
made_ends p h frame made (Some Ended) some holds = holds.named

pub free_stands : (p : ProgramData) (h : History) (old new : Store) (y : ObjectName) → StandsFor p old h → IsMadeName y → IsSome (life_of old y) → Puts old new y Ended → StandsFor p new (Free y ∷ h)
free_stands p h old new (Global g) stands is_made_name some puts = absurd is_made_name
free_stands p h old new (Made frame made) stands is_made_name some puts =
    let there = made_ends p h frame made (life_of old (Made frame made)) some (stands.objects (Made frame made)) in
    stands_after p h (Free (Made frame made) ∷ h) old new (Made frame made) Ended stands puts (there, stands.orderly)
    (record { named = there; dead = rw (there, same_object_refl (Made frame made)) refl })
    (λ x apart. free_apart p h (Made frame made) x apart)
