-- What an error says of tokens that are refused, whatever source they come from.
use Rattle.std.specs.Prelude.{◌≡◌, ℕ, Bool, List, [], ◌∷◌, Some, None, codes}
use Rattle.ir_lexer.specs.declared.token.TokenKind.TheVariants as kinds
use Rattle.phrases.specs.Piece.{Piece, Class, such}
use Rattle.ir_grammar.specs.Tokens.{number_of, mark}
use Rattle.ir_grammar.specs.Unsupported.{is_wide_integer, is_hash_name}
use Rattle.ir_grammar.specs.Laws.{IsRefused}
use Rattle.ir_reader.specs.declared.text.SyntaxError.{SyntaxError}
use Rattle.ir_reader.specs.declared.text.SyntaxError.TheVariants as errors
use Rattle.ir_reader.specs.Reading.{place_of, unsupported_text}

-- an integer type of no bits, or of more than 64
abbrev pub wide_integer : Class
wide_integer = record { kind = number_of kinds.Word; texts = such is_wide_integer }

abbrev pub unsupported_marks : List Class
unsupported_marks = mark (codes "...") ∷ mark (codes "<") ∷ mark (codes "*") ∷ []

-- `#` with a name behind it
abbrev pub hash_name : Class
hash_name = record { kind = number_of kinds.Punct; texts = such is_hash_name }

-- the place of the first token that is left, and its text where it is unsupported
abbrev pub Tells : List ℕ → Bool → List Piece → SyntaxError → Type 0
Tells bytes named rest (errors.Syntax at) = (at ≡ place_of bytes rest) × (unsupported_text named rest ≡ None)
Tells bytes named rest (errors.Unsupported at what) = (at ≡ place_of bytes rest) × (unsupported_text named rest ≡ Some what)
Tells bytes named rest errors.Memory = Unit {0}

-- the tokens are refused as the error tells
abbrev pub TellsOf : List ℕ → List Piece → SyntaxError → Type 0
TellsOf bytes ts errors.Memory = Unit {0}
TellsOf bytes ts (errors.Syntax at) = (rest : List Piece) × (named : Bool) × IsRefused ts rest named × Tells bytes named rest (errors.Syntax at)
TellsOf bytes ts (errors.Unsupported at what) = (rest : List Piece) × (named : Bool) × IsRefused ts rest named × Tells bytes named rest (errors.Unsupported at what)
