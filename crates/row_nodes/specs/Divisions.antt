-- One place of a division.
use Rattle.std.specs.Prelude.{◌-◌, List, length, take}
use Rattle.gates.specs.Bits.{Bit, fold_not}
use Rattle.rows.specs.Rows.{chosen, less, subtracted}

-- whether the divisor fits into what is left, and what is left then, without its highest bit
pub record Trial : Type 0 where
  pub fits : Bit
  pub remainder : List Bit

abbrev pub trial : List Bit → List Bit → Trial
trial rest divisor =
    let fits = fold_not (less rest divisor) in
    record { fits = fits; remainder = take (length rest - 1) (chosen fits (subtracted rest divisor) rest) }
