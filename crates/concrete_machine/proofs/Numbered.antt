-- Tests of divisions, and widths.
use Rattle.std.specs.Prelude.{◌-◌, ◌^◌, ◌==◌, if◌then◌else◌}
use Rattle.std.proofs.Common.{◌≡◌, Bool, true, false, ◌&&◌, ◌||◌, Some, None, refl}
use Rattle.bitnum.specs.Number.{Number}
use Rattle.bitnum.specs.Operations.{applied, divided}
use Rattle.bitnum.specs.declared.BinOp.TheVariants.{Sdiv}
use Rattle.flat_ir.specs.declared.values.FaultKind.TheVariants as fault
use Rattle.flat_ir.specs.Steps.{by_zero_or_overflow}

-- a signed division without a quotient, of which the divisor isn't 0, is the one that overflows
pub overflows : (a b : Number) → (b.bits == 0) ≡ false → divided Sdiv a b ≡ None → by_zero_or_overflow a b ≡ Some fault.DivideOverflow
overflows a b nonzero none = rw nonzero (by_test ((a.bits == 2 ^ (a.width - 1)) && (b.bits == 2 ^ b.width - 1)) (rw nonzero at none))
  where
    by_test : (t : Bool) → (if (false || (true && t)) then None else Some (applied Sdiv a b)) ≡ None → (if t then Some fault.DivideOverflow else None) ≡ Some fault.DivideOverflow
    by_test true e = refl
    by_test false e = cc

pub divides : (a b q : Number) → (b.bits == 0) ≡ false → divided Sdiv a b ≡ Some q → by_zero_or_overflow a b ≡ None
divides a b q nonzero some = rw nonzero (by_test ((a.bits == 2 ^ (a.width - 1)) && (b.bits == 2 ^ b.width - 1)) (rw nonzero at some))
  where
    by_test : (t : Bool) → (if (false || (true && t)) then None else Some (applied Sdiv a b)) ≡ Some q → (if t then Some fault.DivideOverflow else None) ≡ None
    by_test true e = cc
    by_test false e = refl
