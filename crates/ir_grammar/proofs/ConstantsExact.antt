-- Operands and constants are exact.
use Rattle.std.proofs.Common.{◌≡◌, ℕ, zero, suc, Bool, true, false, cond, ◌||◌, ◌&&◌, List, [], ◌∷◌, Option, Some, None, refl, ap}
use Rattle.std.specs.Prelude.{codes}
use Rattle.ir_lexer.specs.declared.token.TokenKind.TheVariants as kinds
use Rattle.ir_tree.specs.declared.types.IrType.{IrType}
use Rattle.ir_tree.specs.declared.constants.Integer.{Integer}
use Rattle.ir_tree.specs.declared.constants.Value.{Value}
use Rattle.ir_tree.specs.declared.constants.ValueForm.{ValueForm}
use Rattle.ir_tree.specs.declared.constants.ValueForm.TheVariants as forms
use Rattle.ir_tree.specs.declared.constants.ConstGep.{ConstGep}
use Rattle.ir_tree.specs.declared.constants.Constant.{Constant}
use Rattle.ir_tree.specs.declared.constants.Constant.TheVariants as constants
use Rattle.phrases.specs.Piece.{Piece, Class, matches, among}
use Rattle.phrases.specs.Phrase.{Phrase, one}
use Rattle.phrases.specs.Exact.{Exact}
use Rattle.phrases.proofs.Classes.{and_left, or_left, or_right}
use Rattle.phrases.proofs.Laws.{done_exact, one_exact}
use Rattle.phrases.proofs.Combinators.{seq, alt, naming, wider, some_when}
use Rattle.ir_grammar.specs.Tokens.{number_of, a_global, a_local, a_cstr, an_int, word, meaning, heads, integer_type, square, brace, packed_brace}
use Rattle.ir_grammar.specs.Numbers.{written, int_in, fits_any, fits_width, fits_offset}
use Rattle.ir_grammar.specs.Names.{after_sigil, string_bytes}
use Rattle.ir_grammar.specs.Types.{nesting, width_in}
use Rattle.ir_grammar.specs.Constants.{gep_word, placed, const_index, gep_level, gep_global, gep_base, constant_rows, form_or_int, value_here, simple_of, operand_of, gep_value, gep_operand, operand_where, operand, operand_in, pointer, simple_constant, gep_constant, string_of, array_constant, struct_constant, flat_constant, constant_of, typed_constant}
use Rattle.ir_grammar.proofs.Single.{spelled, a_piece, zero_piece, word_exact, mark_exact, place_of_exact, place_mark_exact, global_name_exact, width_exact, alone, int_within, meaning_within, commas_exact, listed_exact}
use Rattle.ir_grammar.proofs.TypesExact.{flags_exact, mem_type_exact, mem_starts, mem_names}

-- ---- constant expressions

-- where 0 is in the range
pub placed_exact : {A : Type 0} (fits : Integer → Bool) (make : Integer → ℕ → A) → fits (written (codes "0")) ≡ true → Exact (one (placed fits make)) (an_int ∷ []) false [] []
placed_exact {A = A} fits make h =
    one_exact (placed fits make) (an_int ∷ []) (λ p a e. alone an_int p (and_left (matches an_int p) (fits (written p.text)) (some_when (matches an_int p && fits (written p.text)) (made p) a e)))
    zero_piece (made zero_piece) (ap (λ b. cond b (Some (made zero_piece)) None) h)
  where
    made : Piece → A
    made p = make (written p.text) p.at

pub const_index_exact : Exact const_index (integer_type ∷ []) false [] []
const_index_exact = seq width_exact (λ w. placed_exact fits_offset (λ n at. record { width = w; value = n; at = at }) refl) refl refl

abbrev pub base_starts : List Class
base_starts = word (codes "getelementptr") ∷ a_global ∷ []

pub level_exact : {p : Phrase ConstGep} {bad : List Class} → Exact p base_starts false [] bad → Exact (gep_level p) gep_word false [] []
level_exact P =
    seq (place_of_exact (codes "getelementptr")) (λ at.
    seq flags_exact (λ _.
    seq (mark_exact (codes "(")) (λ _.
    seq (mem_type_exact nesting) (λ source.
    seq (mark_exact (codes ",")) (λ _.
    seq (word_exact (codes "ptr")) (λ _.
    seq P (λ base.
    seq (commas_exact const_index_exact refl) (λ indices.
    seq (mark_exact (codes ")")) (λ _. done_exact (record { levels = record { at = at; source = source; indices = indices } ∷ base.levels; base = base.base })) refl refl) refl refl) refl refl) refl refl) refl refl) refl refl) refl refl) refl refl) refl refl

gep_global_exact : Exact gep_global (a_global ∷ []) false [] []
gep_global_exact = seq global_name_exact (λ g. done_exact (record { levels = []; base = g })) refl refl

pub gep_base_exact : (n : ℕ) → Exact (gep_base n) base_starts false [] gep_word
unfolding gep_base
gep_base_exact zero = wider base_starts [] gep_word (1 ∷ []) [] (0 ∷ []) (naming gep_word gep_global_exact refl)
gep_base_exact (suc n) = wider base_starts [] gep_word (0 ∷ 1 ∷ []) [] [] (alt (level_exact (gep_base_exact n)) gep_global_exact refl refl)

pub gep_operand_exact : (n : ℕ) → Exact (gep_operand n) gep_word false [] []
gep_operand_exact n = seq (level_exact (gep_base_exact n)) (λ g. done_exact (gep_value g)) refl refl

-- ---- operands

abbrev pub simple_starts : List Class
simple_starts = a_global ∷ an_int ∷ heads constant_rows

abbrev pub operand_starts : List Class
operand_starts = word (codes "getelementptr") ∷ a_local ∷ simple_starts

simple_within : (fits : Integer → Bool) (p : Piece) (v : Value) → simple_of fits p ≡ Some v → among simple_starts p ≡ true
simple_within fits p v e = global (matches a_global p) refl e
  where
    second : (a b c : Bool) → b ≡ true → (a || (b || c)) ≡ true
    second true b c h = refl
    second false b c h = or_left b c h

    third : (a b c : Bool) → c ≡ true → (a || (b || c)) ≡ true
    third true b c h = refl
    third false b c h = or_right b c h

    inner : (o : Option ValueForm) (n : Option Integer) → meaning constant_rows p ≡ o → int_in fits p ≡ n → value_here p.at (form_or_int o n) ≡ Some v → among simple_starts p ≡ true
    inner (Some form) n q r h = third (matches a_global p) (matches an_int p) (among (heads constant_rows) p) (meaning_within constant_rows p form q)
    inner None (Some i) q r h = second (matches a_global p) (matches an_int p) (among (heads constant_rows) p) (int_within fits p i r)
    inner None None q r h = absurd cc

    global : (b : Bool) → matches a_global p ≡ b → value_here p.at (cond b (Some (forms.Global (after_sigil p.text))) (form_or_int (meaning constant_rows p) (int_in fits p))) ≡ Some v → among simple_starts p ≡ true
    global true q h = or_left (matches a_global p) (matches an_int p || among (heads constant_rows) p) q
    global false q h = inner (meaning constant_rows p) (int_in fits p) refl refl h

pub simple_exact : (fits : Integer → Bool) → Exact (one (simple_of fits)) simple_starts false [] []
simple_exact fits = one_exact (simple_of fits) simple_starts (simple_within fits) (spelled (codes "null")) (record { at = 0; form = forms.Null }) refl

plain_operand_exact : (fits : Integer → Bool) → Exact (one (operand_of fits)) (a_local ∷ simple_starts) false [] []
plain_operand_exact fits = one_exact (operand_of fits) (a_local ∷ simple_starts) (λ p v e. within p v e) (spelled (codes "null")) (record { at = 0; form = forms.Null }) refl
  where
    within : (p : Piece) (v : Value) → operand_of fits p ≡ Some v → among (a_local ∷ simple_starts) p ≡ true
    within p v e = go (matches a_local p) e
      where
        go : (b : Bool) → cond b (Some (record { at = p.at; form = forms.Local (after_sigil p.text) })) (simple_of fits p) ≡ Some v → (b || among simple_starts p) ≡ true
        go true h = refl
        go false h = simple_within fits p v h

pub operand_where_exact : (fits : Integer → Bool) → Exact (operand_where fits) operand_starts false [] []
unfolding operand_where
operand_where_exact fits = alt (gep_operand_exact 63) (plain_operand_exact fits) refl refl

pub operand_exact : (w : ℕ) → Exact (operand w) operand_starts false [] []
operand_exact w = operand_where_exact (fits_width w)

pub operand_in_exact : (t : IrType) → Exact (operand_in t) operand_starts false [] []
operand_in_exact t = operand_exact (width_in t)

pub pointer_exact : Exact pointer (word (codes "ptr") ∷ []) false [] []
pointer_exact = seq (word_exact (codes "ptr")) (λ _. operand_where_exact fits_any) refl refl

-- ---- constants of globals

simple_constant_exact : (t : IrType) → Exact (simple_constant t) simple_starts false [] []
simple_constant_exact t = seq (simple_exact fits_any) (λ v. done_exact (constants.Value t v)) refl refl

gep_constant_exact : (t : IrType) (n : ℕ) → Exact (gep_constant t n) gep_word false [] []
gep_constant_exact t n = seq (gep_operand_exact n) (λ v. done_exact (constants.Value t v)) refl refl

string_exact : (t : IrType) → Exact (one (string_of t)) (a_cstr ∷ []) false [] []
string_exact t =
    one_exact (string_of t) (a_cstr ∷ []) (λ p c e. alone a_cstr p (some_when (matches a_cstr p) (constants.Bytes t p.at (string_bytes p.text)) c e))
    (a_piece (number_of kinds.CStr) []) (constants.Bytes t 0 []) refl

flat_exact : (t : IrType) → Exact (flat_constant t) (a_cstr ∷ simple_starts) false [] []
flat_exact t = alt (string_exact t) (simple_constant_exact t) refl refl

array_exact : (t : IrType) {p : Phrase Constant} → Exact p mem_starts false [] mem_names → Exact (array_constant t p) (square ∷ []) false [] []
array_exact t P = seq (place_mark_exact (codes "[")) (λ at. seq (listed_exact (codes "]") P refl refl refl refl refl) (λ elements. done_exact (constants.Array t at elements)) refl refl) refl refl

braced_exact : (t : IrType) {p : Phrase Constant} → Exact p mem_starts false [] mem_names → Exact (struct_constant t brace (codes "}") false p) (brace ∷ []) false [] []
braced_exact t P = seq (place_mark_exact (codes "{")) (λ at. seq (listed_exact (codes "}") P refl refl refl refl refl) (λ fields. done_exact (constants.Struct t at fields false)) refl refl) refl refl

packed_exact : (t : IrType) {p : Phrase Constant} → Exact p mem_starts false [] mem_names → Exact (struct_constant t packed_brace (codes "}>") true p) (packed_brace ∷ []) false [] []
packed_exact t P = seq (place_mark_exact (codes "<{")) (λ at. seq (listed_exact (codes "}>") P refl refl refl refl refl) (λ fields. done_exact (constants.Struct t at fields true)) refl refl) refl refl

abbrev pub constant_starts : List Class
constant_starts = word (codes "getelementptr") ∷ square ∷ brace ∷ packed_brace ∷ a_cstr ∷ simple_starts

pub constant_exact : (n : ℕ) (t : IrType) {p : Phrase Constant} → Exact p mem_starts false [] mem_names → Exact (constant_of n p t) constant_starts false [] []
constant_exact n t P =
    alt (gep_constant_exact t n) (alt (array_exact t P) (alt (braced_exact t P) (alt (packed_exact t P) (flat_exact t) refl refl) refl refl) refl refl) refl refl

pub typed_constant_exact : (n : ℕ) → Exact (typed_constant n) mem_starts false [] mem_names
unfolding typed_constant
typed_constant_exact zero = seq (mem_type_exact nesting) (λ t. naming (word (codes "getelementptr") ∷ square ∷ brace ∷ packed_brace ∷ []) (flat_exact t) refl) refl refl
typed_constant_exact (suc n) = let P = typed_constant_exact n in seq (mem_type_exact nesting) (λ t. constant_exact n t P) refl refl
