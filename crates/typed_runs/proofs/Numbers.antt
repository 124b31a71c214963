-- Values that nodes give fit.
use Rattle.std.specs.Prelude.{slice_get, ◌^◌, map, drop}
use Rattle.std.proofs.Common.{◌≡◌, ℕ, zero, suc, ◌+◌, ◌<◌, Bool, true, false, List, [], ◌∷◌, arith}
use Rattle.std.proofs.Math.Nat.{mod-lt}
use Rattle.std.proofs.lemmas.Bool.{ltb-true}
use Rattle.std.proofs.lemmas.Nat.{pow_pos}
use Rattle.std.specs.List.{AllByRecursion as Each}
use Rattle.bitnum.specs.Number.{Number, IsNumber}
use Rattle.bitnum.specs.Number as number
use Rattle.bitnum.proofs.Fits.{widened_is, sign_widened_is, narrowed_is}
use Rattle.checks.specs.Types.{resizes}
use Rattle.flat_ir.specs.declared.nodes.CastOp.{CastOp}
use Rattle.flat_ir.specs.declared.nodes.CastOp.TheVariants.{Trunc, Zext, Sext}
use Rattle.flat_ir.specs.declared.nodes.GepPart.{GepPart}
use Rattle.flat_ir.specs.declared.nodes.GepPart.TheVariants.{Field, Index}
use Rattle.flat_ir.specs.declared.nodes.Operand.{Operand}
use Rattle.flat_ir.specs.declared.nodes.Operand.TheVariants as operand
use Rattle.flat_ir.specs.declared.nodes.RegType.{RegType}
use Rattle.flat_ir.specs.declared.nodes.RegType.TheVariants as type
use Rattle.flat_ir.specs.declared.values.ConcreteValue.{ConcreteValue}
use Rattle.flat_ir.specs.declared.values.ConcreteValue.TheVariants.{Int, Ptr}
use Rattle.flat_ir.specs.History.{History, position}
use Rattle.flat_ir.specs.Registers.{null, number as number_in, address, zero_of}
use Rattle.flat_ir.specs.Machine.{Frame, State, value_in}
use Rattle.flat_ir.specs.Steps.{bit, cast_to, moved_by, moved_by_all, unsigned_byte, next_byte}
use Rattle.flat_ir.specs.Whole.{IsWidth}
use Rattle.flat_ir.proofs.MadeBasics.{each_read}
use Rattle.typed_runs.specs.FittingRuns.{Fits, OperandFits, HoldsFitting}

pub none_offset : 0 < 2 ^ 64
none_offset = pow_pos 64

-- a width, as numbers have it
pub width_is : (w : ℕ) → IsWidth (type.Int w) → number.IsWidth w
width_is w width = record { least = width.0; most = width.1 }

no_bits : (w : ℕ) → number.IsWidth w → IsNumber (record { width = w; bits = 0 })
no_bits w width = record { width_is = width; fits = pow_pos w }

-- the number of a value that fits
pub number_fits : (v : ConcreteValue) → Fits v → IsNumber (number_in v)
number_fits (Int n) fits = fits
number_fits (Ptr a) fits = no_bits 64 (record { least = omega arith; most = omega arith })

-- its offset
pub offset_fits : (v : ConcreteValue) → Fits v → (address v).offset < 2 ^ 64
offset_fits (Int n) fits = none_offset
offset_fits (Ptr a) fits = fits

-- an operand's value
pub operand_fits : (f : Frame) (a : Operand) → HoldsFitting f → OperandFits a → Fits (value_in f a)
operand_fits f (operand.Reg r) holds it = each_read Fits f.regs r.0 (Ptr null) holds none_offset
operand_fits f (operand.Int n) holds it = it
operand_fits f operand.Null holds it = none_offset
operand_fits f (operand.Global g offset) holds it = it

-- zeros
pub zeros_fit : (ts : List RegType) → Each IsWidth ts → Each Fits (map zero_of ts)
zeros_fit [] all = tt
zeros_fit (type.Int w ∷ ts) all = (no_bits w (width_is w all.0), zeros_fit ts all.1)
zeros_fit (type.Ptr ∷ ts) all = (none_offset, zeros_fit ts all.1)

pub each_drop : {A : Type 0} (P : A → Type 0) → (n : ℕ) (xs : List A) → Each P xs → Each P (drop n xs)
each_drop P zero xs all = all
each_drop P (suc n) [] all = tt
each_drop P (suc n) (x ∷ xs) all = each_drop P n xs all.1

-- arguments
pub args_fit : (f : Frame) (args : List Operand) → HoldsFitting f → Each OperandFits args → Each Fits (map (value_in f) args)
args_fit f [] holds all = tt
args_fit f (a ∷ args) holds all = (operand_fits f a holds all.0, args_fit f args holds all.1)

-- one bit
pub bit_fits : (b : Bool) → Fits (bit b)
bit_fits true = record { width_is = record { least = omega arith; most = omega arith }; fits = omega arith }
bit_fits false = no_bits 1 (record { least = omega arith; most = omega arith })

-- a cast
pub cast_fits : (op : CastOp) (n : Number) (w : ℕ) → IsNumber n → IsWidth (type.Int w) → resizes op n.width w ≡ true → IsNumber (cast_to op w n)
cast_fits Trunc n w fits width e = narrowed_is n w (width_is w width)
cast_fits Zext n w fits width e = widened_is n w fits (width_is w width) (omega (arith, ltb-true n.width w e))
cast_fits Sext n w fits width e = sign_widened_is n w fits (width_is w width) (omega (arith, ltb-true n.width w e))

-- an offset that is moved
moved_by_fits : (s : State) (offset : ℕ) (part : GepPart) → moved_by s offset part < 2 ^ 64
moved_by_fits s offset (Field by) = mod-lt (offset + by) none_offset
moved_by_fits s offset (Index scale index) = mod-lt _ none_offset

pub moved_fits : (s : State) (offset : ℕ) (parts : List GepPart) → offset < 2 ^ 64 → moved_by_all s offset parts < 2 ^ 64
moved_fits s offset [] fits = fits
moved_fits s offset (part ∷ parts) fits = moved_fits s (moved_by s offset part) parts (moved_by_fits s offset part)

-- a byte of the input
byte_of_fits : (input : List ℕ) (k : ℕ) → Each (λ b. b < 256) input → unsigned_byte (slice_get input k) < 2 ^ 32
byte_of_fits [] k all = omega arith
byte_of_fits (b ∷ bs) zero all = omega (arith, all.0)
byte_of_fits (b ∷ bs) (suc k) all = byte_of_fits bs k all.1

pub read_fits : (input : List ℕ) (h : History) → Each (λ b. b < 256) input → Fits (next_byte input h)
read_fits input h all = record { width_is = record { least = omega arith; most = omega arith }; fits = byte_of_fits input (position h) all }
