-- Bytes written one after another.
use Rattle.flat_ir.specs.Orderly.{IsKnown, IsOrderly}
use Rattle.std.proofs.Common.{◌≡◌, ℕ, ◌+◌, ◌≤◌, false, List, [], ◌∷◌, length, refl, ◌∙◌, arith, length-set, slice_set}
use Rattle.flat_ir.specs.declared.names.ObjectName.{ObjectName}
use Rattle.flat_ir.specs.declared.names.ObjectName.TheVariants.{Global, Made}
use Rattle.flat_ir.specs.declared.program.ProgramData.{ProgramData}
use Rattle.flat_ir.specs.declared.values.ConcreteByte.{ConcreteByte}
use Rattle.flat_ir.specs.History.{History, Write, same_object}
use Rattle.concrete_memory.specs.Objects.{IsLive}
use Rattle.concrete_memory.specs.declared.objects.Store.{Store}
use Rattle.concrete_memory.specs.declared.objects.Life.TheVariants.{Live}
use Rattle.concrete_memory.specs.Standing.{StandsFor, PutsBytes, Puts, HasPlaces, all_written, overwritten}
use Rattle.concrete_memory.proofs.Changes.{known, stands_after, written_lives}
use Rattle.concrete_memory.proofs.Untouched.{SaysSame, write_apart}

-- a live object lives on, with its bytes overwritten
all_written_lives : (p : ProgramData) (y : ObjectName) (bs : List ConcreteByte) (place : ℕ) (h : History) (bytes : List ConcreteByte)
    → IsLive p h y bytes → place + length bs ≤ length bytes → IsLive p (all_written y place bs h) y (overwritten place bs bytes)
all_written_lives p y [] place h bytes live within = live
all_written_lives p y (b ∷ bs) place h bytes live within =
    all_written_lives p y bs (place + 1) (Write y place b ∷ h) (slice_set bytes place b)
    (written_lives p h y place b bytes live (omega (arith, within))) (omega (arith, within, length-set bytes place b))

known_more : (y : ObjectName) (place : ℕ) (b : ConcreteByte) (h : History) → IsKnown y h → IsKnown y (Write y place b ∷ h)
known_more (Global g) place b h known = tt
known_more (Made frame made) place b h known = known

all_written_orderly : (y : ObjectName) (bs : List ConcreteByte) (place : ℕ) (h : History) → IsKnown y h → IsOrderly h → IsOrderly (all_written y place bs h)
all_written_orderly y [] place h known orderly = orderly
all_written_orderly y (b ∷ bs) place h known orderly = all_written_orderly y bs (place + 1) (Write y place b ∷ h) (known_more y place b h known) (known, orderly)

says_same_by : (p : ProgramData) (a b c : History) (x : ObjectName) → SaysSame p a b x → SaysSame p b c x → SaysSame p a c x
says_same_by p a b c x first second = record {
  named = second.named ∙ first.named;
  alive = second.alive ∙ first.alive;
  size = second.size ∙ first.size;
  byte_is = λ k. second.byte_is k ∙ first.byte_is k;
}

all_written_apart : (p : ProgramData) (y x : ObjectName) (bs : List ConcreteByte) (place : ℕ) (h : History) → same_object y x ≡ false → SaysSame p h (all_written y place bs h) x
all_written_apart p y x [] place h apart = record { named = refl; alive = refl; size = refl; byte_is = λ k. refl }
all_written_apart p y x (b ∷ bs) place h apart =
    says_same_by p h (Write y place b ∷ h) (all_written y (place + 1) bs (Write y place b ∷ h)) x
    (write_apart p h y x place b apart) (all_written_apart p y x bs (place + 1) (Write y place b ∷ h) apart)

-- so the store stands for the history with the bytes written
pub writes_stand : (p : ProgramData) (h : History) (old new : Store) (y : ObjectName) (place n : ℕ) (bs : List ConcreteByte)
    → StandsFor p old h → length bs ≡ n → HasPlaces old y place n → PutsBytes old new y place bs → StandsFor p new (all_written y place bs h)
writes_stand p h old new y place n bs stands size places puts =
    let live : IsLive p h y places.bytes = rw places.lives at (stands.objects y) in
    let put : Puts old new y (Live (overwritten place bs places.bytes)) = rw places.lives at puts in
    stands_after p h (all_written y place bs h) old new y (Live (overwritten place bs places.bytes)) stands put
    (all_written_orderly y bs place h (known p h y places.bytes live) stands.orderly)
    (all_written_lives p y bs place h places.bytes live (omega (arith, places.within, size)))
    (λ x apart. all_written_apart p y x bs place h apart)
