-- Facts on lists and histories on which the laws of made names stand.
use Rattle.std.specs.Prelude.{slice_set, slice_get, unwrap_or, reverse}
use Rattle.std.proofs.Common.{◌≡◌, ℕ, zero, suc, ◌<◌, Bool, true, false, not, ◌||◌, ◌&&◌, List, [], ◌∷◌, ◌++◌, length, Option, Some, None, refl, sym, ap, subst, ◌⊎◌, inl, inr, arith}
use mathlib.Core.List.{reverse_aux}
use Rattle.std.specs.List.{AllByRecursion as Each}
use Rattle.flat_ir.specs.declared.names.CallStep.{CallStep}
use Rattle.flat_ir.specs.declared.names.ObjectName.{ObjectName}
use Rattle.flat_ir.specs.declared.names.ObjectName.TheVariants.{Global, Made}
use Rattle.flat_ir.specs.declared.program.ProgramData.{ProgramData}
use Rattle.flat_ir.specs.declared.values.ConcreteByte.{ConcreteByte}
use Rattle.flat_ir.specs.declared.values.ConcreteByte.TheVariants as byte
use Rattle.flat_ir.specs.declared.values.ConcreteValue.{ConcreteValue}
use Rattle.flat_ir.specs.declared.values.ConcreteValue.TheVariants.{Int, Ptr}
use Rattle.flat_ir.specs.History.{History, Change, Write, Alloc, Free, Get, Put, same_object, is_alloc_of, is_alive}
use Rattle.flat_ir.specs.Same.{same_object-true}
use Rattle.flat_ir.specs.Orderly.{is_made, is_freed, is_named, IsKnown, IsOrderly}
use Rattle.flat_ir.specs.MadeNames.{IsKnownBase, IsKnownValue, IsKnownByte}

pub cases : (b : Bool) → (b ≡ true) ⊎ (b ≡ false)
cases true = inl refl
cases false = inr refl

pub or_right : (p q : Bool) → q ≡ true → p || q ≡ true
or_right true q e = refl
or_right false q e = e

pub neither : (p q : Bool) → p || q ≡ false → (p ≡ false) × (q ≡ false)
neither true q e = cc
neither false q e = (refl, e)

pub both : (p q : Bool) → p && q ≡ true → (p ≡ true) × (q ≡ true)
both true q e = (refl, e)
both false q e = cc

pub not_true : (p : Bool) → not p ≡ true → p ≡ false
not_true true e = cc
not_true false e = refl

pub each_map : {A : Type 0} (P Q : A → Type 0) → ((x : A) → P x → Q x) → (xs : List A) → Each P xs → Each Q xs
each_map P Q f [] all = tt
each_map P Q f (x ∷ xs) all = (f x all.0, each_map P Q f xs all.1)

pub each_append : {A : Type 0} (P : A → Type 0) → (xs ys : List A) → Each P xs → Each P ys → Each P (xs ++ ys)
each_append P [] ys xs' ys' = ys'
each_append P (x ∷ xs) ys xs' ys' = (xs'.0, each_append P xs ys xs'.1 ys')

each_onto : {A : Type 0} (P : A → Type 0) → (xs ys : List A) → Each P xs → Each P ys → Each P (reverse_aux xs ys)
each_onto P [] ys xs' ys' = ys'
each_onto P (x ∷ xs) ys xs' ys' = each_onto P xs (x ∷ ys) xs'.1 (xs'.0, ys')

pub each_reverse : {A : Type 0} (P : A → Type 0) → (xs : List A) → Each P xs → Each P (reverse xs)
each_reverse P xs all = each_onto P xs [] all tt

pub each_set : {A : Type 0} (P : A → Type 0) → (xs : List A) (k : ℕ) (a : A) → Each P xs → P a → Each P (slice_set xs k a)
each_set P [] k a all it = tt
each_set P (x ∷ xs) zero a all it = (it, all.1)
each_set P (x ∷ xs) (suc k) a all it = (all.0, each_set P xs k a all.1 it)

pub each_read : {A : Type 0} (P : A → Type 0) → (xs : List A) (k : ℕ) (d : A) → Each P xs → P d → P (unwrap_or (slice_get xs k) d)
each_read P [] k d all it = it
each_read P (x ∷ xs) zero d all it = all.0
each_read P (x ∷ xs) (suc k) d all it = each_read P xs k d all.1 it

pub set_here : {A : Type 0} (xs : List A) (k : ℕ) (a d : A) → k < length xs → unwrap_or (slice_get (slice_set xs k a) k) d ≡ a
set_here [] k a d within = absurd (omega arith)
set_here (x ∷ xs) zero a d within = refl
set_here (x ∷ xs) (suc k) a d within = set_here xs k a d (omega arith)

pub set_elsewhere : {A : Type 0} (xs : List A) (j k : ℕ) (a d : A) → (j ≡ k → ⊥) → unwrap_or (slice_get (slice_set xs j a) k) d ≡ unwrap_or (slice_get xs k) d
set_elsewhere [] j k a d apart = refl
set_elsewhere (x ∷ xs) zero zero a d apart = absurd (apart refl)
set_elsewhere (x ∷ xs) zero (suc k) a d apart = refl
set_elsewhere (x ∷ xs) (suc j) zero a d apart = refl
set_elsewhere (x ∷ xs) (suc j) (suc k) a d apart = set_elsewhere xs j k a d (λ e. apart (ap (λ n. suc n) e))

-- what is named stays named
pub named_more : (p : ProgramData) (x : ObjectName) (c : Change) (h : History) → is_named p x h ≡ true → is_named p x (c ∷ h) ≡ true
named_more p (Global g) c h e = e
named_more p (Made frame made) c h e = or_right (is_alloc_of (Made frame made) c) (is_made (Made frame made) h) e

pub base_more : (p : ProgramData) (b : Option ObjectName) (c : Change) (h : History) → IsKnownBase p h b → IsKnownBase p (c ∷ h) b
base_more p None c h known = tt
base_more p (Some x) c h known = named_more p x c h known

pub value_more : (p : ProgramData) (c : Change) (h : History) (v : ConcreteValue) → IsKnownValue p h v → IsKnownValue p (c ∷ h) v
value_more p c h (Int n) known = tt
value_more p c h (Ptr a) known = base_more p a.base c h known

pub byte_more : (p : ProgramData) (c : Change) (h : History) (b : ConcreteByte) → IsKnownByte p h b → IsKnownByte p (c ∷ h) b
byte_more p c h (byte.Int b) known = tt
byte_more p c h (byte.PtrByte a j) known = base_more p a.base c h known

-- a known object is another than one that was never made
pub known_apart : (frame : List CallStep) (made : CallStep) (y : ObjectName) (h : History) → IsKnown y h → is_made (Made frame made) h ≡ false → same_object (Made frame made) y ≡ false
known_apart frame made y h known none =
    elim (cases (same_object (Made frame made) y)) [
      | inl e ↦
          let K : ObjectName → Type 0 = λ z. IsKnown z h in
          let there : is_made (Made frame made) h ≡ true = subst K (sym (same_object-true (Made frame made) y e)) known in
          cc
      | inr e ↦ e
    ]

-- what an orderly history doesn't allocate it doesn't free
pub unmade_unfreed : (frame : List CallStep) (made : CallStep) (h : History) → IsOrderly h → is_made (Made frame made) h ≡ false → is_freed (Made frame made) h ≡ false
unmade_unfreed frame made [] o none = refl
unmade_unfreed frame made (Write y j b ∷ h) o none = unmade_unfreed frame made h o.1 none
unmade_unfreed frame made (Alloc y size ∷ h) o none = unmade_unfreed frame made h o.1 (neither (same_object (Made frame made) y) (is_made (Made frame made) h) none).1
unmade_unfreed frame made (Free y ∷ h) o none = rw (known_apart frame made y h o.0 none) (unmade_unfreed frame made h o.1 none)
unmade_unfreed frame made (Get ∷ h) o none = unmade_unfreed frame made h o none
unmade_unfreed frame made (Put b ∷ h) o none = unmade_unfreed frame made h o none

-- an object that isn't a global is alive exactly where it was made and not freed
pub alive_made : (frame : List CallStep) (made : CallStep) (h : History) → is_alive (Made frame made) h ≡ true → (is_made (Made frame made) h ≡ true) × (is_freed (Made frame made) h ≡ false)
alive_made frame made h e =
    let parts = both (is_made (Made frame made) h) (not (is_freed (Made frame made) h)) e in
    (parts.0, not_true (is_freed (Made frame made) h) parts.1)

pub made_alive : (frame : List CallStep) (made : CallStep) (h : History) → is_made (Made frame made) h ≡ true → is_freed (Made frame made) h ≡ false → is_alive (Made frame made) h ≡ true
made_alive frame made h there unfreed = rw (there, unfreed) refl

-- an object that is alive may be written and freed
pub alive_known : (x : ObjectName) (h : History) → is_alive x h ≡ true → IsKnown x h
alive_known (Global g) h e = tt
alive_known (Made frame made) h e = (alive_made frame made h e).0
