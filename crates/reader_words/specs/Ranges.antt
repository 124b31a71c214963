-- The ranges in which an integer may lie, as values of the code.
use Rattle.std.specs.Prelude.{Bool, nat_le, true}
use Rattle.ir_tree.specs.declared.constants.Integer.{Integer}
use Rattle.ir_grammar.specs.Numbers.{fits_any, fits_width, fits_offset, fits_length, fits_index}
use Rattle.reader_words.specs.declared.numbers.Range.{Range}
use Rattle.reader_words.specs.declared.numbers.Range.TheVariants as ranges

abbrev pub fits : Range → Integer → Bool
fits ranges.Any = fits_any
fits ranges.Offset = fits_offset
fits ranges.Length = fits_length
fits (ranges.Width w) = fits_width w
fits (ranges.Index w) = fits_index w

-- no range goes beyond 64 bits
abbrev pub is_small : Range → Bool
is_small ranges.Any = true
is_small ranges.Offset = true
is_small ranges.Length = true
is_small (ranges.Width w) = nat_le w 64
is_small (ranges.Index w) = nat_le w 64
