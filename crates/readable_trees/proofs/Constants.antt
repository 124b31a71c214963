-- Constants that are read: each type in them, and each value.
use Rattle.std.proofs.Common.{◌≡◌, ℕ, zero, suc, Bool, true, false, List, Some, sym, ap, subst, ◌∙◌}
use Rattle.std.specs.Prelude.{codes}
use Rattle.std.specs.List.{AllByRecursion}
use Rattle.ir_tree.specs.declared.types.IrType.{IrType}
use Rattle.ir_tree.specs.declared.constants.Value.{Value}
use Rattle.ir_tree.specs.declared.constants.Constant.{Constant, fold-Constant, fold-roll-Constant}
use Rattle.ir_tree.specs.declared.constants.Constant.TheOpen.{Constant-F}
use Rattle.ir_tree.specs.declared.constants.Constant.TheViews as views
use Rattle.ir_tree.specs.declared.constants.Constant.TheVariants as constants
use Rattle.phrases.specs.Piece.{Piece, Class, matches}
use Rattle.phrases.specs.Phrase.{Phrase}
use Rattle.ir_grammar.specs.Tokens.{a_cstr, brace, packed_brace}
use Rattle.ir_grammar.specs.Numbers.{fits_any}
use Rattle.ir_grammar.specs.Names.{string_bytes}
use Rattle.ir_grammar.specs.Types.{nesting}
use Rattle.ir_grammar.specs.Constants.{simple_constant, gep_constant, string_of, array_constant, struct_constant, flat_constant, constant_of, typed_constant}
use Rattle.ir_programs.specs.Readable.{readable_level, is_readable_constant}
use Rattle.readable_trees.proofs.Gives.{Gives, step, over, made, or, token, between, both, all_mapped, when_some}
use Rattle.readable_trees.proofs.Types.{HasWidths, mem_gives}
use Rattle.readable_trees.proofs.Values.{IsReadable, gep_operand_gives, simple_gives}

-- ---- one level of a constant at a time

abbrev pub IsConstant : Constant → Type 0
IsConstant c = is_readable_constant c ≡ true

value_is : (t : IrType) (v : Value) → HasWidths t → IsReadable v → IsConstant (constants.Value t v)
unfolding is_readable_constant
value_is t v T V = ap (fold-Constant Bool readable_level) (sym (views.rolls-Value t v)) ∙ fold-roll-Constant Bool readable_level (Constant-F.Value t v) ∙ both T V

bytes_is : (t : IrType) (at : ℕ) (bytes : List ℕ) → HasWidths t → IsConstant (constants.Bytes t at bytes)
unfolding is_readable_constant
bytes_is t at bytes T = ap (fold-Constant Bool readable_level) (sym (views.rolls-Bytes t at bytes)) ∙ fold-roll-Constant Bool readable_level (Constant-F.Bytes t at bytes) ∙ T

array_is : (t : IrType) (at : ℕ) (cs : List Constant) → HasWidths t → AllByRecursion IsConstant cs → IsConstant (constants.Array t at cs)
unfolding is_readable_constant
array_is t at cs T C =
    ap (fold-Constant Bool readable_level) (sym (views.rolls-Array t at cs)) ∙ fold-roll-Constant Bool readable_level (Constant-F.Array t at cs)
    ∙ both T (all_mapped (fold-Constant Bool readable_level) cs C)

struct_is : (t : IrType) (at : ℕ) (cs : List Constant) (packed : Bool) → HasWidths t → AllByRecursion IsConstant cs → IsConstant (constants.Struct t at cs packed)
unfolding is_readable_constant
struct_is t at cs packed T C =
    ap (fold-Constant Bool readable_level) (sym (views.rolls-Struct t at cs packed)) ∙ fold-roll-Constant Bool readable_level (Constant-F.Struct t at cs packed)
    ∙ both T (all_mapped (fold-Constant Bool readable_level) cs C)

-- ---- constants behind their types

simple_constant_gives : (t : IrType) → HasWidths t → Gives (simple_constant t).derives IsConstant
simple_constant_gives t T = step (simple_gives fits_any) (λ v V. made (constants.Value t v) (value_is t v T V))

gep_constant_gives : (n : ℕ) (t : IrType) → HasWidths t → Gives (gep_constant t n).derives IsConstant
gep_constant_gives n t T = step (gep_operand_gives n) (λ v V. made (constants.Value t v) (value_is t v T V))

string_is : (t : IrType) → HasWidths t → (p : Piece) (c : Constant) → string_of t p ≡ Some c → IsConstant c
string_is t T p c e = subst IsConstant (when_some (matches a_cstr p) (constants.Bytes t p.at (string_bytes p.text)) c e).1 (bytes_is t p.at (string_bytes p.text) T)

flat_gives : (t : IrType) → HasWidths t → Gives (flat_constant t).derives IsConstant
flat_gives t T = or (token (string_of t) (string_is t T)) (simple_constant_gives t T)

array_gives : (inner : Phrase Constant) → Gives inner.derives IsConstant → (t : IrType) → HasWidths t → Gives (array_constant t inner).derives IsConstant
array_gives inner P t T = over (λ at. step (between (codes "]") inner P) (λ cs C. made (constants.Array t at cs) (array_is t at cs T C)))

struct_gives : (opening : Class) (closing : List ℕ) (packed : Bool) (inner : Phrase Constant) → Gives inner.derives IsConstant → (t : IrType) → HasWidths t → Gives (struct_constant t opening closing packed inner).derives IsConstant
struct_gives opening closing packed inner P t T = over (λ at. step (between closing inner P) (λ cs C. made (constants.Struct t at cs packed) (struct_is t at cs packed T C)))

constant_gives : (n : ℕ) (inner : Phrase Constant) → Gives inner.derives IsConstant → (t : IrType) → HasWidths t → Gives (constant_of n inner t).derives IsConstant
constant_gives n inner P t T =
    or (gep_constant_gives n t T)
    (or (array_gives inner P t T)
    (or (struct_gives brace (codes "}") false inner P t T)
    (or (struct_gives packed_brace (codes "}>") true inner P t T)
    (flat_gives t T))))

pub typed_constant_gives : (n : ℕ) → Gives (typed_constant n).derives IsConstant
unfolding typed_constant
typed_constant_gives zero = step (mem_gives nesting) (λ t T. record { told = λ c w d. (flat_gives t T).told c w d })
typed_constant_gives (suc n) = step (mem_gives nesting) (λ t T. constant_gives n (typed_constant n) (typed_constant_gives n) t T)
