-- The widths of terms, and the bytes that values have.
use Rattle.std.proofs.Common.{ℕ, ◌*◌, ◌%◌, ◌-◌, ◌^◌, ◌<◌, [], subst, arith}
use Rattle.std.proofs.Math.Pow.{pow-lt}
use Rattle.bitnum.specs.Number.{IsWidth}
use Rattle.terms.specs.Tree.{Tree, IsTree, width_of}
use Rattle.terms.proofs.Numbers.{value_is, width-value_of}

-- a term has 1 to 64 bits
pub tree_width : (t : Tree) → IsTree t → IsWidth (width_of t)
tree_width t h = subst IsWidth (width-value_of t [] h) (value_is t [] h).width_is

-- the least signed number fits its width, also as the code makes it
pub half_fits : (w : ℕ) → IsWidth w → 1 * 2 ^ (w - 1) % 18446744073709551616 < 2 ^ w
half_fits w h = let lt : 2 ^ (w - 1) < 2 ^ w = pow-lt (omega arith) in omega (arith, lt)
