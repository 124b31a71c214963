-- Which refused token is called unsupported, and not only out of place.
use Rattle.std.specs.Prelude.{◌≡◌, ℕ, Bool, true, false, not, ◌&&◌, ◌==◌, nat_le, List, [], ◌∷◌, ◌⊎◌, codes}
use Rattle.ir_lexer.specs.declared.token.TokenKind.TheVariants as kinds
use Rattle.phrases.specs.Piece.{Piece, Class, such, starts}
use Rattle.phrases.specs.Phrase.{Phrase}
use Rattle.phrases.specs.Reading.{IsNamed}
use Rattle.ir_grammar.specs.Tokens.{number_of, words, mark, names_integer}
use Rattle.ir_grammar.specs.Words.{unsupported_words}
use Rattle.ir_grammar.specs.Numbers.{number_after_i}

-- `#` with a name behind it
abbrev pub is_hash_name : List ℕ → Bool
is_hash_name [] = false
is_hash_name (b ∷ rest) = b == 35

-- `iN` where N is not 1 to 64
abbrev pub is_wide_integer : List ℕ → Bool
is_wide_integer t = names_integer t && not (nat_le 1 (number_after_i t) && nat_le (number_after_i t) 64)

-- tokens that are unsupported wherever they are refused
abbrev pub unsupported_tokens : List Class
unsupported_tokens =
    record { kind = number_of kinds.Word; texts = such is_wide_integer }
    ∷ mark (codes "...") ∷ mark (codes "<") ∷ mark (codes "*")
    ∷ record { kind = number_of kinds.Punct; texts = such is_hash_name }
    ∷ words unsupported_words

-- The token that is refused is one of these, or the grammar names it where it stands.
abbrev pub IsUnsupported : {A : Type 0} → Phrase A → List Piece → List Piece → Type 0
IsUnsupported p before rest = IsNamed p before rest ⊎ (starts unsupported_tokens rest ≡ true)
