-- Worked examples: what the grammar says of single texts, computed.
use Rattle.std.proofs.Common.{◌≡◌, ℕ, true, false, List, [], ◌∷◌, None, refl}
use Rattle.std.specs.Prelude.{codes}
use Rattle.ir_lexer.specs.declared.token.TokenKind.TheVariants as kinds
use Rattle.ir_tree.specs.declared.types.IrType.TheVariants as types
use Rattle.ir_tree.specs.declared.constants.Constant.TheVariants as constants
use Rattle.ir_tree.specs.declared.constants.ValueForm.TheVariants as forms
use Rattle.ir_tree.specs.declared.instructions.TerminatorForm.TheVariants as terminators
use Rattle.phrases.specs.Piece.{Piece}
use Rattle.phrases.specs.Phrase.{got, refused}
use Rattle.ir_grammar.specs.Tokens.{number_of}
use Rattle.ir_grammar.specs.Names.{unescaped, after_sigil}
use Rattle.ir_grammar.specs.Types.{value_type, scalar_type, mem_type}
use Rattle.ir_grammar.specs.Constants.{operand_where, typed_constant}
use Rattle.ir_grammar.specs.Instructions.{terminator, operation, call, call_alone, store, line, block}
use Rattle.ir_grammar.specs.Module.{entity, header, parameter, module_text}

abbrev a_word : ℕ → List ℕ → Piece
a_word at s = record { kind = number_of kinds.Word; text = s; at = at }

abbrev a_mark : ℕ → List ℕ → Piece
a_mark at s = record { kind = number_of kinds.Punct; text = s; at = at }

abbrev an_int : ℕ → List ℕ → Piece
an_int at s = record { kind = number_of kinds.Int; text = s; at = at }

abbrev a_global : ℕ → List ℕ → Piece
a_global at s = record { kind = number_of kinds.Global; text = s; at = at }

abbrev a_local : ℕ → List ℕ → Piece
a_local at s = record { kind = number_of kinds.Local; text = s; at = at }

-- `define void @main() { ret void }`
returns_nothing : module_text.reads (a_word 0 (codes "define") ∷ a_word 7 (codes "void") ∷ a_global 12 (codes "@main") ∷ a_mark 17 (codes "(") ∷ a_mark 18 (codes ")") ∷ a_mark 20 (codes "{") ∷ a_word 22 (codes "ret") ∷ a_word 26 (codes "void") ∷ a_mark 31 (codes "}") ∷ [])
    ≡ got (record {
      types = [];
      globals = [];
      declares = [];
      functions = record {
        header = record { result = None; name = record { text = codes "main"; at = 12 }; parameters = [] };
        blocks = record { label = None; phis = []; instructions = []; terminator = record { at = 22; form = terminators.Return None } } ∷ [];
      } ∷ [];
    }) []
unfolding module_text entity header parameter block line operation terminator value_type
returns_nothing = refl

-- `@g = global [65537 x i8] zeroinitializer`: the type has its place
places : module_text.reads (a_global 0 (codes "@g") ∷ a_mark 3 (codes "=") ∷ a_word 5 (codes "global") ∷ a_mark 12 (codes "[") ∷ an_int 13 (codes "65537") ∷ a_word 19 (codes "x") ∷ a_word 21 (codes "i8") ∷ a_mark 23 (codes "]") ∷ a_word 25 (codes "zeroinitializer") ∷ [])
    ≡ got (record {
      types = [];
      globals = record {
        name = record { text = codes "g"; at = 0 };
        value = constants.Value (types.Array 12 65537 (types.Int 8)) (record { at = 25; form = forms.ZeroInitializer });
      } ∷ [];
      declares = [];
      functions = [];
    }) []
unfolding module_text entity typed_constant mem_type
places = refl

-- `define i32 @main() { re`: the last word is refused
cut_word : module_text.reads (a_word 0 (codes "define") ∷ a_word 7 (codes "i32") ∷ a_global 11 (codes "@main") ∷ a_mark 16 (codes "(") ∷ a_mark 17 (codes ")") ∷ a_mark 19 (codes "{") ∷ a_word 21 (codes "re") ∷ []) ≡ refused false (a_word 21 (codes "re") ∷ [])
unfolding module_text entity header parameter block line operation terminator value_type store call_alone
cut_word = refl

-- `define i32 @main() { %x = ptrtoint ptr null to i64 ret i32 0 }`: the word is refused, and it is one of those that are unsupported wherever they are
unsupported_word : module_text.reads (a_word 0 (codes "define") ∷ a_word 7 (codes "i32") ∷ a_global 11 (codes "@main") ∷ a_mark 16 (codes "(") ∷ a_mark 17 (codes ")") ∷ a_mark 19 (codes "{") ∷ a_local 21 (codes "%x") ∷ a_mark 24 (codes "=") ∷ a_word 26 (codes "ptrtoint") ∷ a_word 35 (codes "ptr") ∷ a_word 39 (codes "null") ∷ a_word 44 (codes "to") ∷ a_word 47 (codes "i64") ∷ a_word 51 (codes "ret") ∷ a_word 55 (codes "i32") ∷ an_int 59 (codes "0") ∷ a_mark 61 (codes "}") ∷ []) ≡ refused false (a_word 26 (codes "ptrtoint") ∷ a_word 35 (codes "ptr") ∷ a_word 39 (codes "null") ∷ a_word 44 (codes "to") ∷ a_word 47 (codes "i64") ∷ a_word 51 (codes "ret") ∷ a_word 55 (codes "i32") ∷ an_int 59 (codes "0") ∷ a_mark 61 (codes "}") ∷ [])
unfolding module_text entity header parameter block line operation terminator value_type call scalar_type mem_type operand_where
unsupported_word = refl

-- `declare { i32, i32 } @f()`: the brace is named
aggregate_result : module_text.reads (a_word 0 (codes "declare") ∷ a_mark 8 (codes "{") ∷ a_word 10 (codes "i32") ∷ a_mark 13 (codes ",") ∷ a_word 15 (codes "i32") ∷ a_mark 19 (codes "}") ∷ a_global 21 (codes "@f") ∷ a_mark 23 (codes "(") ∷ a_mark 24 (codes ")") ∷ []) ≡ refused true (a_mark 8 (codes "{") ∷ a_word 10 (codes "i32") ∷ a_mark 13 (codes ",") ∷ a_word 15 (codes "i32") ∷ a_mark 19 (codes "}") ∷ a_global 21 (codes "@f") ∷ a_mark 23 (codes "(") ∷ a_mark 24 (codes ")") ∷ [])
unfolding module_text entity header parameter block line operation terminator value_type
aggregate_result = refl

-- `call i32 (`: a parenthesis in the callee's place is named
function_type : operation.reads (a_word 0 (codes "call") ∷ a_word 5 (codes "i32") ∷ a_mark 9 (codes "(") ∷ []) ≡ refused true (a_mark 9 (codes "(") ∷ [])
unfolding operation call value_type
function_type = refl

-- `call i32 %f`: a register in the callee's place is named
register_called : operation.reads (a_word 0 (codes "call") ∷ a_word 5 (codes "i32") ∷ a_local 9 (codes "%f") ∷ []) ≡ refused true (a_local 9 (codes "%f") ∷ [])
unfolding operation call value_type
register_called = refl

-- `alloca i32, i32 4`: a number of elements is named
many_elements : operation.reads (a_word 0 (codes "alloca") ∷ a_word 7 (codes "i32") ∷ a_mark 10 (codes ",") ∷ a_word 12 (codes "i32") ∷ an_int 16 (codes "4") ∷ []) ≡ refused true (a_word 12 (codes "i32") ∷ an_int 16 (codes "4") ∷ [])
unfolding operation mem_type
many_elements = refl

-- `add i1 2`: a number out of its range is refused
out_of_range : operation.reads (a_word 0 (codes "add") ∷ a_word 4 (codes "i1") ∷ an_int 7 (codes "2") ∷ []) ≡ refused false (an_int 7 (codes "2") ∷ [])
unfolding operation operand_where
out_of_range = refl

-- `add i8 -129`: and one below it
below_range : operation.reads (a_word 0 (codes "add") ∷ a_word 4 (codes "i8") ∷ an_int 7 (codes "-129") ∷ []) ≡ refused false (an_int 7 (codes "-129") ∷ [])
unfolding operation operand_where
below_range = refl

-- `[1 x [`: the token that opens one level more is named
too_deep : (mem_type 1).reads (a_mark 0 (codes "[") ∷ an_int 1 (codes "1") ∷ a_word 3 (codes "x") ∷ a_mark 5 (codes "[") ∷ []) ≡ refused true (a_mark 5 (codes "[") ∷ [])
unfolding mem_type
too_deep = refl

-- `[1 x i7`: an integer type that no memory holds is named
odd_element : (mem_type 1).reads (a_mark 0 (codes "[") ∷ an_int 1 (codes "1") ∷ a_word 3 (codes "x") ∷ a_word 5 (codes "i7") ∷ []) ≡ refused true (a_word 5 (codes "i7") ∷ [])
unfolding mem_type
odd_element = refl

-- `\22` is a quote, `\\` one backslash, and another backslash stands for itself
escapes : unescaped (codes "a\\22b\\\\c\\z\\") ≡ codes "a\"b\\c\\z\\"
escapes = refl

-- `%"a\20b"`
quoted_name : after_sigil (codes "%\"a\\20b\"") ≡ codes "a b"
quoted_name = refl
