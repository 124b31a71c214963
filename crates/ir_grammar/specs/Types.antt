-- Types (Language Reference, "Type System"), names and lists.
use Rattle.std.specs.Prelude.{ℕ, zero, suc, Bool, true, false, if◌then◌else◌, List, [], ◌∷◌, ◌++◌, Option, Some, None, codes}
use Rattle.ir_tree.specs.declared.types.Name.{Name}
use Rattle.ir_tree.specs.declared.types.IrType.{IrType, out-IrType}
use Rattle.ir_tree.specs.declared.types.IrType.TheOpen.{IrType-F}
use Rattle.ir_tree.specs.declared.types.IrType.TheVariants as types
use Rattle.ir_tree.specs.declared.constants.Integer.{Integer}
use Rattle.phrases.specs.Piece.{Piece, Class, among, matches}
use Rattle.phrases.specs.Phrase.{Phrase, one, skip, place, done, ◌>>=◌, ◌>>◌, either, many, skip_many, but}
use Rattle.ir_grammar.specs.Tokens.{a_global, a_local, a_label, word, mark, words, all_but, odd_integer_type, comma, square, brace, packed_brace}
use Rattle.ir_grammar.specs.Words.{flag_words, attribute_words, attribute_heads}
use Rattle.ir_grammar.specs.Numbers.{int_in, fits_any, fits_length, width_of}
use Rattle.ir_grammar.specs.Names.{name_in, after_sigil, before_colon}

-- ---- single tokens

abbrev pub skip_word : List ℕ → Phrase (Unit {0})
skip_word s = skip (word s ∷ [])

abbrev pub skip_mark : List ℕ → Phrase (Unit {0})
skip_mark s = skip (mark s ∷ [])

-- the byte at which a word stands
abbrev pub place_of : List ℕ → Phrase ℕ
place_of s = place (word s ∷ [])

abbrev pub global_name : Phrase Name
global_name = one (name_in a_global after_sigil)

abbrev pub local_name : Phrase Name
local_name = one (name_in a_local after_sigil)

abbrev pub label_name : Phrase Name
label_name = one (name_in a_label before_colon)

abbrev pub int : (Integer → Bool) → Phrase Integer
int fits = one (int_in fits)

abbrev pub width : Phrase ℕ
width = one width_of

-- ---- lists

-- any number, each behind a comma
abbrev pub behind_commas : {A : Type 0} → Phrase A → Phrase (List A)
behind_commas item = many (comma ∷ []) (skip_mark (codes ",") >> item)

-- any number with commas between them, and the closing mark
abbrev pub listed : {A : Type 0} → List ℕ → Phrase A → Phrase (List A)
listed closing item =
    either (mark closing ∷ []) (skip_mark closing >> done []) (do
      first ← item
      others ← behind_commas item
      skip_mark closing
      done (first ∷ others))

-- ---- what is read and ignored

-- Flag*
abbrev pub flags : Phrase (Unit {0})
flags = skip_many (words flag_words) (skip (words flag_words))

-- 'align' Int
abbrev pub alignment : Phrase (Unit {0})
alignment = skip_word (codes "align") >> (int fits_any >> done tt)

-- an attribute with parentheses, which reach to the first `)`
abbrev pub long_attribute : Phrase (Unit {0})
long_attribute = do
  skip (words attribute_heads)
  skip_mark (codes "(")
  skip_many (all_but (codes ")")) (skip (all_but (codes ")")))
  skip_mark (codes ")")

-- an attribute, or another of the words
abbrev pub attribute_or : List (List ℕ) → Phrase (Unit {0})
attribute_or others =
    either (words attribute_heads) long_attribute
    (either (word (codes "align") ∷ []) alignment
    (skip (words (attribute_words ++ others))))

abbrev pub attribute_starts : List (List ℕ) → List Class
attribute_starts others = words (attribute_heads ++ (codes "align" ∷ (attribute_words ++ others)))

-- Attr*
abbrev pub attributes : Phrase (Unit {0})
attributes = skip_many (attribute_starts []) (attribute_or [])

-- ---- types

-- iN | 'ptr'
abbrev pub integer_or : Bool → Option ℕ → Option IrType
integer_or pointer (Some n) = Some (types.Int n)
integer_or true None = Some types.Ptr
integer_or false None = None

abbrev pub type_of : Piece → Option IrType
type_of p = integer_or (matches (word (codes "ptr")) p) (width_of p)

-- Type, in a function: an aggregate or a name is named as unsupported.
unfoldable pub value_type : Phrase IrType
value_type = but (square ∷ brace ∷ packed_brace ∷ a_local ∷ []) (one type_of)

abbrev pub scalar_words : List Class
scalar_words = words (codes "i8" ∷ codes "i16" ∷ codes "i32" ∷ codes "i64" ∷ codes "ptr" ∷ [])

abbrev pub scalar_of : Piece → Option IrType
scalar_of p = if among scalar_words p then type_of p else None

-- Scalar, in a function: another integer type is named, too.
unfoldable pub scalar_type : Phrase IrType
scalar_type = but (square ∷ brace ∷ packed_brace ∷ a_local ∷ odd_integer_type ∷ []) (one scalar_of)

-- Scalar | Local
abbrev pub plain_of : Piece → Option IrType
plain_of p = if matches a_local p then Some (types.Named (after_sigil p.text) p.at) else scalar_of p

-- '[' Int 'x' MemType ']'
abbrev pub array_type : Phrase IrType → Phrase IrType
array_type inner = do
  at ← place (square ∷ [])
  len ← int fits_length
  skip_word (codes "x")
  t ← inner
  skip_mark (codes "]")
  done (types.Array at len.magnitude t)

-- '{' [MemType {',' MemType}] '}', and with '<{' and '}>'
abbrev pub struct_type : List ℕ → List ℕ → Bool → Phrase IrType → Phrase IrType
struct_type opening closing packed inner = do
  at ← place (mark opening ∷ [])
  fields ← listed closing inner
  done (types.Struct at fields packed)

-- MemType, with at most so many levels; the token that opens one more is named as unsupported, and so is an integer type that no
-- memory holds.
unfoldable pub mem_type : ℕ → Phrase IrType
mem_type zero = but (square ∷ brace ∷ packed_brace ∷ odd_integer_type ∷ []) (one plain_of)
mem_type (suc n) = but (odd_integer_type ∷ [])
    (either (square ∷ []) (array_type (mem_type n))
    (either (brace ∷ []) (struct_type (codes "{") (codes "}") false (mem_type n))
    (either (packed_brace ∷ []) (struct_type (codes "<{") (codes "}>") true (mem_type n))
    (one plain_of))))

-- how deep types and constants nest
abbrev pub nesting : ℕ
nesting = 64

-- the number of bits whose range an Int has where this type stands: any number for a pointer
abbrev pub width_at : IrType-F IrType → ℕ
width_at (IrType-F.Int n) = n
width_at _ = 64

abbrev pub width_in : IrType → ℕ
width_in t = width_at (out-IrType t)
