-- What a byte of memory is behind some changes, where another byte stood before them.
use Rattle.std.specs.Prelude.{◌≡◌, ℕ, ◌==◌, ◌&&◌, Bool, true, false, List, [], ◌∷◌, Option, None, Some, if◌then◌else◌}
use Rattle.std.specs.List.{list_any}
use Rattle.flat_ir.specs.declared.names.ObjectName.{ObjectName}
use Rattle.flat_ir.specs.declared.values.ConcreteByte.{ConcreteByte}
use Rattle.flat_ir.specs.declared.program.ProgramData.{ProgramData}
use Rattle.flat_ir.specs.History.{Change, Write, Alloc, Free, History, same_object, is_alive, size_of}
use Rattle.sym_bytes.specs.Answers.{Living}
use Rattle.sym_bytes.specs.Answers.{Alive, Dead}
use Rattle.sym_bytes.specs.Under.{bits_under}

-- the byte last written there, or the one that stood there before
abbrev pub byte_over : ConcreteByte → History → ObjectName → ℕ → ConcreteByte
byte_over before [] x k = before
byte_over before (Write y j b ∷ h) x k = if same_object x y && (j == k) then b else byte_over before h x k
byte_over before (_ ∷ h) x k = byte_over before h x k

-- nothing is written to the object
abbrev pub Unwritten : ObjectName → History → Type 0
Unwritten x [] = Unit {0}
Unwritten x (Write y j b ∷ h) = (same_object x y ≡ false) × Unwritten x h
Unwritten x (_ ∷ h) = Unwritten x h

-- what is written to the object is written behind its Alloc
abbrev pub IsBorn : ObjectName → History → Type 0
IsBorn x [] = Unit {0}
IsBorn x (Alloc y size ∷ h) = (same_object x y ≡ true → Unwritten x h) × IsBorn x h
IsBorn x (_ ∷ h) = IsBorn x h

-- the offset is one of those wanted, or some wanted one isn't constant
abbrev pub Wants : ℕ → Option (List ℕ) → Type 0
Wants k None = Unit {0}
Wants k (Some ks) = list_any (λ n. n == k) ks ≡ true

-- what is said of an object's life is so in the history
abbrev pub LifeIs : ProgramData → List ℕ → ObjectName → History → Living → Type 0
LifeIs p input x h (Alive size) = (is_alive x h ≡ true) × (bits_under input size ≡ size_of p x h)
LifeIs p input x h Dead = is_alive x h ≡ false

-- a change of the object's life
abbrev pub is_life_of : ObjectName → Change → Bool
is_life_of x (Alloc y size) = same_object x y
is_life_of x (Free y) = same_object x y
is_life_of x _ = false

-- before the object's Alloc its life has no change
abbrev pub IsOnce : ObjectName → History → Type 0
IsOnce x [] = Unit {0}
IsOnce x (Alloc y size ∷ h) = (same_object x y ≡ true → list_any (is_life_of x) h ≡ false) × IsOnce x h
IsOnce x (_ ∷ h) = IsOnce x h
