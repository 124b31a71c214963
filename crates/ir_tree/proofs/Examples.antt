-- Worked examples: the lines of a text, one of each sort, computed.
use Rattle.std.proofs.Common.{◌≡◌, ℕ, true, false, Some, None, List, [], ◌∷◌, ◌++◌, refl}
use Rattle.std.specs.Prelude.{codes}
use Rattle.std.specs.Fmt.{digits}
use Rattle.bitnum.specs.declared.BinOp.TheVariants as ops
use Rattle.bitnum.specs.declared.Pred.TheVariants as preds
use Rattle.ir_tree.specs.declared.types.Name.{Name}
use Rattle.ir_tree.specs.declared.types.IrType.TheVariants as types
use Rattle.ir_tree.specs.declared.constants.Value.{Value}
use Rattle.ir_tree.specs.declared.constants.ValueForm.TheVariants as forms
use Rattle.ir_tree.specs.declared.constants.Constant.TheVariants as constants
use Rattle.ir_tree.specs.declared.instructions.Operation.TheVariants as operations
use Rattle.ir_tree.specs.declared.instructions.TerminatorForm.TheVariants as terminators
use Rattle.ir_tree.specs.Texts.{name_text, spaced}
use Rattle.ir_tree.specs.Printing.{line_text, text_of, type_line, global_line, declare_line, define_line, close_line, label_lines, phi_line, instruction_line, terminator_line}
use Rattle.ir_tree.proofs.Spelled.{int_tokens, ptr_tokens, array_tokens, struct_tokens, value_constant, bytes_constant}

-- no space behind `(` and `[`, and none before `(`, `,`, `)` and `]`
spacing : spaced (codes "phi" ∷ codes "i32" ∷ codes "[" ∷ codes "0" ∷ codes "," ∷ codes "%e" ∷ codes "]" ∷ codes "," ∷ codes "[" ∷ codes "%j" ∷ codes "," ∷ codes "%l" ∷ codes "]" ∷ []) ≡ codes "phi i32 [0, %e], [%j, %l]"
spacing = refl

-- a name with a blank and a quote
quoted_name : name_text (codes "a \"b") ≡ codes "\"a \\22b\""
quoted_name = refl

plain_name : name_text (codes "struct.s") ≡ codes "struct.s"
plain_name = refl

number : name_text (codes "10") ≡ codes "10"
number = refl

-- ---- lines

abbrev named : List ℕ → Name
named text = record { text = text; at = 0 }

abbrev register : List ℕ → Value
register name = record { at = 0; form = forms.Local name }

abbrev count : ℕ → Value
count n = record { at = 0; form = forms.Int (record { negative = false; magnitude = n }) }

type_example : line_text (type_line (record { name = named (codes "struct.s"); kind = types.Struct 7 (types.Int 32 ∷ types.Array 9 2 (types.Int 8) ∷ []) false })) ≡ codes "%struct.s = type { i32, [2 x i8] }" ++ 10 ∷ []
unfolding digits
type_example = simp (struct_tokens, array_tokens, int_tokens)

-- the byte 0 is escaped, with its capital letters
string_example : line_text (global_line (record { name = named (codes ".str"); value = constants.Bytes (types.Array 9 3 (types.Int 8)) 9 (104 ∷ 10 ∷ 0 ∷ []) })) ≡ codes "@.str = global [3 x i8] c\"h\\0A\\00\"" ++ 10 ∷ []
unfolding digits
string_example = simp (bytes_constant, array_tokens, int_tokens)

constant_example : line_text (global_line (record { name = named (codes "g"); value = constants.Value (types.Int 32) (record { at = 0; form = forms.Int (record { negative = true; magnitude = 1 }) }) })) ≡ codes "@g = global i32 -1" ++ 10 ∷ []
unfolding digits
constant_example = simp (value_constant, int_tokens)

declare_example : line_text (declare_line (record { result = None; name = named (codes "free"); parameters = record { kind = types.Ptr; name = Some (named (codes "0")) } ∷ [] })) ≡ codes "declare void @free(ptr %0)" ++ 10 ∷ []
declare_example = simp ptr_tokens

define_example : line_text (define_line (record { result = Some (types.Int 32); name = named (codes "main"); parameters = [] })) ≡ codes "define i32 @main() {" ++ 10 ∷ []
unfolding digits
define_example = simp int_tokens

close_example : line_text close_line ≡ 125 ∷ 10 ∷ []
close_example = refl

label_example : text_of (label_lines (Some (named (codes "0")))) ≡ codes "0:" ++ 10 ∷ []
label_example = refl

phi_example : line_text (phi_line (record { result = named (codes "i"); kind = types.Int 32; incoming = record { value = count 0; label = named (codes "e") } ∷ record { value = register (codes "j"); label = named (codes "l") } ∷ [] })) ≡ codes "  %i = phi i32 [0, %e], [%j, %l]" ++ 10 ∷ []
unfolding digits
phi_example = simp int_tokens

binary_example : line_text (instruction_line (record { at = 0; result = Some (named (codes "j")); operation = operations.Binary ops.Add 32 (register (codes "i")) (count 1) })) ≡ codes "  %j = add i32 %i, 1" ++ 10 ∷ []
unfolding digits
binary_example = refl

compare_example : line_text (instruction_line (record { at = 0; result = Some (named (codes "t")); operation = operations.Compare preds.Ult (types.Int 32) (register (codes "j")) (count 1000) })) ≡ codes "  %t = icmp ult i32 %j, 1000" ++ 10 ∷ []
unfolding digits
compare_example = simp int_tokens

address_example : line_text (instruction_line (record { at = 0; result = Some (named (codes "q")); operation = operations.GetElementPtr (types.Int 8) (register (codes "p")) (record { width = 64; value = count 1 } ∷ []) })) ≡ codes "  %q = getelementptr i8, ptr %p, i64 1" ++ 10 ∷ []
unfolding digits
address_example = simp int_tokens

call_example : line_text (instruction_line (record { at = 0; result = None; operation = operations.Call None (named (codes "note")) (record { kind = types.Int 32; value = register (codes "4") } ∷ []) })) ≡ codes "  call void @note(i32 %4)" ++ 10 ∷ []
unfolding digits
call_example = simp int_tokens

return_example : line_text (terminator_line (record { at = 0; form = terminators.Return (Some (record { kind = types.Int 32; value = count 0 })) })) ≡ codes "  ret i32 0" ++ 10 ∷ []
unfolding digits
return_example = simp int_tokens

branch_example : line_text (terminator_line (record { at = 0; form = terminators.Branch (register (codes "t")) (named (codes "l")) (named (codes "d")) })) ≡ codes "  br i1 %t, label %l, label %d" ++ 10 ∷ []
branch_example = refl

switch_example : line_text (terminator_line (record { at = 0; form = terminators.Switch 32 (register (codes "v")) (named (codes "d")) (record { width = 32; value = record { negative = false; magnitude = 1 }; at = 0; label = named (codes "a") } ∷ []) }))
    ≡ codes "  switch i32 %v, label %d [i32 1, label %a]" ++ 10 ∷ []
unfolding digits
switch_example = refl
