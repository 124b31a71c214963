-- Classes of bytes that runs are made of.
use Rattle.std.specs.Prelude.{ℕ, Bool}
use Rattle.ir_lexer.specs.declared.classes.Class.{Class}
use Rattle.ir_lexer.specs.declared.classes.Class.TheVariants as classes
use Rattle.ir_lexer.specs.Forms.{is_word_byte, is_name_byte, is_digit, is_unquoted}

abbrev pub in_class : Class → ℕ → Bool
in_class classes.Word = is_word_byte
in_class classes.Name = is_name_byte
in_class classes.Digit = is_digit
in_class classes.Unquoted = is_unquoted
