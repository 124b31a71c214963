-- What a change leaves of another object.
use Rattle.flat_ir.specs.Orderly.{is_named}
use Rattle.std.specs.Prelude.{◌==◌, ◌&&◌, if◌then◌else◌}
use Rattle.std.proofs.Common.{◌≡◌, ℕ, Bool, false, ◌∷◌, Option, Some, None, refl, sym, ◌∙◌, ap}
use Rattle.flat_ir.specs.declared.names.ObjectName.{ObjectName}
use Rattle.flat_ir.specs.declared.names.ObjectName.TheVariants.{Global, Made}
use Rattle.flat_ir.specs.declared.program.ProgramData.{ProgramData}
use Rattle.flat_ir.specs.declared.values.ConcreteByte.{ConcreteByte}
use Rattle.flat_ir.specs.History.{History, Write, Alloc, Free, Get, Put, same_object, byte_at, is_alive, size_of}
use Rattle.flat_ir.specs.Same.{same_object_symmetric}
use Rattle.concrete_memory.specs.declared.objects.Life.{Life}
use Rattle.concrete_memory.specs.declared.objects.Life.TheVariants.{Live, Ended}
use Rattle.concrete_memory.specs.declared.objects.Store.{Store}
use Rattle.concrete_memory.specs.Standing.{Holds, StandsFor, life_of}

-- the later history says of an object what the former says
pub record SaysSame (p : ProgramData) (old new : History) (x : ObjectName) : Type 0 where
  pub named : is_named p x new ≡ is_named p x old
  pub alive : is_alive x new ≡ is_alive x old
  pub size : size_of p x new ≡ size_of p x old
  pub byte_is : (k : ℕ) → byte_at p new x k ≡ byte_at p old x k

pub holds_on : (p : ProgramData) (old new : History) (x : ObjectName) (life : Option Life) → SaysSame p old new x → Holds p old x life → Holds p new x life
holds_on p old new x None same holds = same.named ∙ holds
holds_on p old new x (Some (Live bytes)) same holds = record {
  named = same.named ∙ holds.named;
  alive = same.alive ∙ holds.alive;
  size = holds.size ∙ sym same.size;
  byte_is = λ k within. holds.byte_is k within ∙ ap (λ b. Some b) (sym (same.byte_is k));
}
holds_on p old new x (Some Ended) same holds = record { named = same.named ∙ holds.named; dead = same.alive ∙ holds.dead }

pub alloc_apart : (p : ProgramData) (h : History) (y x : ObjectName) (size : ℕ) → same_object y x ≡ false → SaysSame p h (Alloc y size ∷ h) x
alloc_apart p h y (Global g) size e = record { named = refl; alive = refl; size = refl; byte_is = λ k. refl }
alloc_apart p h y (Made frame made) size e =
    let apart : same_object (Made frame made) y ≡ false = same_object_symmetric (Made frame made) y ∙ e in
    record { named = rw apart refl; alive = rw apart refl; size = rw apart refl; byte_is = λ k. refl }

pub free_apart : (p : ProgramData) (h : History) (y x : ObjectName) → same_object y x ≡ false → SaysSame p h (Free y ∷ h) x
free_apart p h y (Global g) e = record { named = refl; alive = refl; size = refl; byte_is = λ k. refl }
free_apart p h y (Made frame made) e =
    let apart : same_object (Made frame made) y ≡ false = same_object_symmetric (Made frame made) y ∙ e in
    record { named = refl; alive = rw apart refl; size = refl; byte_is = λ k. refl }

written_elsewhere : (p : ProgramData) (h : History) (y x : ObjectName) (j k : ℕ) (b : ConcreteByte) → same_object y x ≡ false → byte_at p (Write y j b ∷ h) x k ≡ byte_at p h x k
written_elsewhere p h y x j k b e = ap (λ (t : Bool). if t && (j == k) then b else byte_at p h x k) (same_object_symmetric x y ∙ e)

pub write_apart : (p : ProgramData) (h : History) (y x : ObjectName) (j : ℕ) (b : ConcreteByte) → same_object y x ≡ false → SaysSame p h (Write y j b ∷ h) x
write_apart p h y (Global g) j b e = record { named = refl; alive = refl; size = refl; byte_is = λ k. written_elsewhere p h y (Global g) j k b e }
write_apart p h y (Made frame made) j b e = record { named = refl; alive = refl; size = refl; byte_is = λ k. written_elsewhere p h y (Made frame made) j k b e }

same_put : (p : ProgramData) (h : History) (b : ℕ) (x : ObjectName) → SaysSame p h (Put b ∷ h) x
same_put p h b (Global g) = record { named = refl; alive = refl; size = refl; byte_is = λ k. refl }
same_put p h b (Made frame made) = record { named = refl; alive = refl; size = refl; byte_is = λ k. refl }

same_get : (p : ProgramData) (h : History) (x : ObjectName) → SaysSame p h (Get ∷ h) x
same_get p h (Global g) = record { named = refl; alive = refl; size = refl; byte_is = λ k. refl }
same_get p h (Made frame made) = record { named = refl; alive = refl; size = refl; byte_is = λ k. refl }

-- input and output leave memory alone
pub stands_put : (p : ProgramData) (store : Store) (h : History) (b : ℕ) → StandsFor p store h → StandsFor p store (Put b ∷ h)
stands_put p store h b stands = record { orderly = stands.orderly; objects = λ x. holds_on p h (Put b ∷ h) x (life_of store x) (same_put p h b x) (stands.objects x) }

pub stands_get : (p : ProgramData) (store : Store) (h : History) → StandsFor p store h → StandsFor p store (Get ∷ h)
stands_get p store h stands = record { orderly = stands.orderly; objects = λ x. holds_on p h (Get ∷ h) x (life_of store x) (same_get p h x) (stands.objects x) }
