-- Operands and constants (Language Reference, "Constants").
use Rattle.std.specs.Prelude.{ℕ, zero, suc, Bool, true, false, ◌&&◌, if◌then◌else◌, List, [], ◌∷◌, Option, Some, None, codes}
use Rattle.ir_tree.specs.declared.types.IrType.{IrType}
use Rattle.ir_tree.specs.declared.constants.Integer.{Integer}
use Rattle.ir_tree.specs.declared.constants.Value.{Value}
use Rattle.ir_tree.specs.declared.constants.ValueForm.{ValueForm}
use Rattle.ir_tree.specs.declared.constants.ValueForm.TheVariants as forms
use Rattle.ir_tree.specs.declared.constants.ConstGep.{ConstGep}
use Rattle.ir_tree.specs.declared.constants.GepLevel.{GepLevel}
use Rattle.ir_tree.specs.declared.constants.ConstIndex.{ConstIndex}
use Rattle.ir_tree.specs.declared.constants.Constant.{Constant}
use Rattle.ir_tree.specs.declared.constants.Constant.TheVariants as constants
use Rattle.phrases.specs.Piece.{Piece, Class, matches}
use Rattle.phrases.specs.Phrase.{Phrase, one, place, done, ◌>>=◌, ◌>>◌, either, but}
use Rattle.ir_grammar.specs.Tokens.{a_global, a_local, a_cstr, an_int, word, meaning, square, brace, packed_brace}
use Rattle.ir_grammar.specs.Numbers.{written, int_in, fits_any, fits_width, fits_offset}
use Rattle.ir_grammar.specs.Names.{after_sigil, string_bytes}
use Rattle.ir_grammar.specs.Types.{skip_word, skip_mark, place_of, global_name, width, listed, behind_commas, flags, mem_type, nesting, width_in}

-- ---- constant expressions

abbrev pub gep_word : List Class
gep_word = word (codes "getelementptr") ∷ []

-- a number, and where it stands
abbrev pub placed : {A : Type 0} → (Integer → Bool) → (Integer → ℕ → A) → Piece → Option A
placed fits make p = if matches an_int p && fits (written p.text) then Some (make (written p.text) p.at) else None

-- iN Int
abbrev pub const_index : Phrase ConstIndex
const_index = do
  w ← width
  one (placed fits_offset (λ n at. record { width = w; value = n; at = at }))

-- 'getelementptr' Flag* '(' MemType ',' 'ptr' (Global | ConstGep) {',' iN Int} ')'
abbrev pub gep_level : Phrase ConstGep → Phrase ConstGep
gep_level inner = do
  at ← place_of (codes "getelementptr")
  flags
  skip_mark (codes "(")
  source ← mem_type nesting
  skip_mark (codes ",")
  skip_word (codes "ptr")
  base ← inner
  indices ← behind_commas const_index
  skip_mark (codes ")")
  done (record { levels = record { at = at; source = source; indices = indices } ∷ base.levels; base = base.base })

abbrev pub gep_global : Phrase ConstGep
gep_global = do
  g ← global_name
  done (record { levels = []; base = g })

-- Global | ConstGep, with at most so many levels; the word that opens one more is named as unsupported
unfoldable pub gep_base : ℕ → Phrase ConstGep
gep_base zero = but gep_word gep_global
gep_base (suc n) = either gep_word (gep_level (gep_base n)) gep_global

-- ---- operands

-- the constants that are words
abbrev pub constant_rows : List (List ℕ × ValueForm)
constant_rows =
    (codes "true", forms.True) ∷ (codes "false", forms.False) ∷ (codes "null", forms.Null) ∷ (codes "undef", forms.Undef) ∷ (codes "poison", forms.Poison)
    ∷ (codes "zeroinitializer", forms.ZeroInitializer) ∷ []

-- Val without Local and ConstGep, where an Int is in a range
abbrev pub form_or_int : Option ValueForm → Option Integer → Option ValueForm
form_or_int (Some form) n = Some form
form_or_int None (Some n) = Some (forms.Int n)
form_or_int None None = None

abbrev pub simple_form : (Integer → Bool) → Piece → Option ValueForm
simple_form fits p =
    if matches a_global p then Some (forms.Global (after_sigil p.text)) else form_or_int (meaning constant_rows p) (int_in fits p)

abbrev pub value_here : ℕ → Option ValueForm → Option Value
value_here at (Some form) = Some (record { at = at; form = form })
value_here at None = None

abbrev pub simple_of : (Integer → Bool) → Piece → Option Value
simple_of fits p = value_here p.at (simple_form fits p)

abbrev pub operand_of : (Integer → Bool) → Piece → Option Value
operand_of fits p = if matches a_local p then Some (record { at = p.at; form = forms.Local (after_sigil p.text) }) else simple_of fits p

-- the place of a constant expression is that of its outermost word
abbrev pub first_place : List GepLevel → ℕ
first_place [] = 0
first_place (l ∷ ls) = l.at

abbrev pub gep_value : ConstGep → Value
gep_value g = record { at = first_place g.levels; form = forms.Gep g }

abbrev pub gep_operand : ℕ → Phrase Value
gep_operand n = do
  g ← gep_level (gep_base n)
  done (gep_value g)

-- Val, where an Int is in a range
unfoldable pub operand_where : (Integer → Bool) → Phrase Value
operand_where fits = either gep_word (gep_operand 63) (one (operand_of fits))

-- Val of an iN: an Int is from -2^(N-1) to 2^N - 1
abbrev pub operand : ℕ → Phrase Value
operand w = operand_where (fits_width w)

-- Val of a type
abbrev pub operand_in : IrType → Phrase Value
operand_in t = operand (width_in t)

-- 'ptr' Val
abbrev pub pointer : Phrase Value
pointer = do
  skip_word (codes "ptr")
  operand_where fits_any

-- ---- constants of globals

abbrev pub simple_constant : IrType → Phrase Constant
simple_constant t = do
  v ← one (simple_of fits_any)
  done (constants.Value t v)

abbrev pub gep_constant : IrType → ℕ → Phrase Constant
gep_constant t n = do
  v ← gep_operand n
  done (constants.Value t v)

-- CStr
abbrev pub string_of : IrType → Piece → Option Constant
string_of t p = if matches a_cstr p then Some (constants.Bytes t p.at (string_bytes p.text)) else None

-- '[' [MemType Const {',' MemType Const}] ']'
abbrev pub array_constant : IrType → Phrase Constant → Phrase Constant
array_constant t inner = do
  at ← place (square ∷ [])
  elements ← listed (codes "]") inner
  done (constants.Array t at elements)

-- '{' [MemType Const {',' MemType Const}] '}', and with '<{' and '}>'
abbrev pub struct_constant : IrType → Class → List ℕ → Bool → Phrase Constant → Phrase Constant
struct_constant t opening closing packed inner = do
  at ← place (opening ∷ [])
  fields ← listed closing inner
  done (constants.Struct t at fields packed)

-- Const at no further level
abbrev pub flat_constant : IrType → Phrase Constant
flat_constant t = either (a_cstr ∷ []) (one (string_of t)) (simple_constant t)

-- Const of a type, its parts given
abbrev pub constant_of : ℕ → Phrase Constant → IrType → Phrase Constant
constant_of n inner t =
    either gep_word (gep_constant t n)
    (either (square ∷ []) (array_constant t inner)
    (either (brace ∷ []) (struct_constant t brace (codes "}") false inner)
    (either (packed_brace ∷ []) (struct_constant t packed_brace (codes "}>") true inner)
    (flat_constant t))))

-- MemType Const, with at most so many levels; the token that opens one more is named as unsupported
unfoldable pub typed_constant : ℕ → Phrase Constant
typed_constant zero = do
  t ← mem_type nesting
  but (word (codes "getelementptr") ∷ square ∷ brace ∷ packed_brace ∷ []) (flat_constant t)
typed_constant (suc n) = do
  t ← mem_type nesting
  constant_of n (typed_constant n) t
