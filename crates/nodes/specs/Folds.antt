-- What folding looks at.
use Rattle.std.specs.Prelude.{Bool, Option, Some, None}
use Rattle.gates.specs.Bits.{Bit, constant, negation}

abbrev pub constant_of : Bit → Option Bool
constant_of (constant b) = Some b
constant_of _ = None

abbrev pub inside_not : Bit → Option Bit
inside_not (negation e) = Some e
inside_not _ = None
