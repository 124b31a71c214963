-- Tokens of a module's text as the grammar sees them, and the classes that productions name.
use Rattle.std.specs.Prelude.{ℕ, Bool, true, false, not, ◌&&◌, ◌==◌, nat_le, if◌then◌else◌, List, [], ◌∷◌, length, map, slice_range, Option, Some, None, codes}
use Rattle.ir_lexer.specs.declared.token.TokenKind.{TokenKind}
use Rattle.ir_lexer.specs.declared.token.TokenKind.TheVariants as kinds
use Rattle.ir_lexer.specs.declared.token.Token.{Token}
use Rattle.phrases.specs.Piece.{Piece, Class, the, such, any, same_text, matches}

abbrev pub number_of : TokenKind → ℕ
number_of kinds.Word = 0
number_of kinds.Global = 1
number_of kinds.Local = 2
number_of kinds.Label = 3
number_of kinds.Int = 4
number_of kinds.Str = 5
number_of kinds.CStr = 6
number_of kinds.AttrGroup = 7
number_of kinds.Meta = 8
number_of kinds.Punct = 9
number_of kinds.Bad = 10

abbrev pub a_global : Class
a_global = any (number_of kinds.Global)

abbrev pub a_local : Class
a_local = any (number_of kinds.Local)

abbrev pub a_label : Class
a_label = any (number_of kinds.Label)

abbrev pub an_int : Class
an_int = any (number_of kinds.Int)

abbrev pub a_str : Class
a_str = any (number_of kinds.Str)

abbrev pub a_cstr : Class
a_cstr = any (number_of kinds.CStr)

abbrev pub an_attr_group : Class
an_attr_group = any (number_of kinds.AttrGroup)

abbrev pub a_meta : Class
a_meta = any (number_of kinds.Meta)

-- the word, the mark, of a text
abbrev pub word : List ℕ → Class
word s = record { kind = number_of kinds.Word; texts = the s }

abbrev pub mark : List ℕ → Class
mark s = record { kind = number_of kinds.Punct; texts = the s }

abbrev pub words : List (List ℕ) → List Class
words [] = []
words (s ∷ ss) = word s ∷ words ss

-- what a word means by a table
abbrev pub meaning : {A : Type 0} → List (List ℕ × A) → Piece → Option A
meaning [] p = None
meaning (row ∷ rows) p = if matches (word row.0) p then Some row.1 else meaning rows p

-- the words of a table
abbrev pub heads : {A : Type 0} → List (List ℕ × A) → List Class
heads [] = []
heads (row ∷ rows) = word row.0 ∷ heads rows

-- every token but a Bad one and the mark
abbrev pub all_but : List ℕ → List Class
all_but s =
    any (number_of kinds.Word) ∷ a_global ∷ a_local ∷ a_label ∷ an_int ∷ a_str ∷ a_cstr ∷ an_attr_group ∷ a_meta
    ∷ record { kind = number_of kinds.Punct; texts = such (λ t. not (same_text t s)) } ∷ []

-- ---- types of integers: `i` and a number without a leading zero

abbrev pub are_digits : List ℕ → Bool
are_digits [] = true
are_digits (d ∷ ds) = nat_le 48 d && nat_le d 57 && are_digits ds

abbrev pub is_plain_number : List ℕ → Bool
is_plain_number [] = false
is_plain_number (d ∷ []) = are_digits (d ∷ [])
is_plain_number (d ∷ e ∷ es) = not (d == 48) && are_digits (d ∷ e ∷ es)

abbrev pub names_integer : List ℕ → Bool
names_integer [] = false
names_integer (i ∷ ds) = i == 105 && is_plain_number ds

abbrev pub integer_type : Class
integer_type = record { kind = number_of kinds.Word; texts = such names_integer }

-- those that no memory holds
abbrev pub is_odd : List ℕ → Bool
is_odd t = names_integer t && not (same_text t (codes "i8")) && not (same_text t (codes "i16")) && not (same_text t (codes "i32")) && not (same_text t (codes "i64"))

abbrev pub odd_integer_type : Class
odd_integer_type = record { kind = number_of kinds.Word; texts = such is_odd }

-- ---- marks

abbrev pub comma : Class
comma = mark (codes ",")

abbrev pub equals : Class
equals = mark (codes "=")

abbrev pub round : Class
round = mark (codes "(")

abbrev pub round_end : Class
round_end = mark (codes ")")

abbrev pub square : Class
square = mark (codes "[")

abbrev pub square_end : Class
square_end = mark (codes "]")

abbrev pub brace : Class
brace = mark (codes "{")

abbrev pub brace_end : Class
brace_end = mark (codes "}")

abbrev pub packed_brace : Class
packed_brace = mark (codes "<{")

abbrev pub packed_brace_end : Class
packed_brace_end = mark (codes "}>")

-- ---- the tokens of a text

-- the bytes of a token; none where it doesn't lie in the source
abbrev pub bytes_of : List ℕ → Token → List ℕ
bytes_of bytes t = if nat_le t.start t.end && nat_le t.end (length bytes) then slice_range bytes t.start t.end else []

abbrev pub piece : List ℕ → Token → Piece
piece bytes t = record { kind = number_of t.kind; text = bytes_of bytes t; at = t.start }

abbrev pub seen : List ℕ → List Token → List Piece
seen bytes tokens = map (piece bytes) tokens
