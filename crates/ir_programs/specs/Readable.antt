-- What a tree that was read has by its grammar: each integer type has 1 to 64 bits, each instruction that gives a value names its register,
-- and each function has a block.
use Rattle.std.specs.Prelude.{ℕ, Bool, true, false, not, ◌&&◌, ◌||◌, nat_le, List, [], ◌∷◌, Option, Some, None}
use Rattle.std.specs.List.{list_all}
use Rattle.std.specs.Option.{is_some}
use Rattle.ir_tree.specs.declared.types.Name.{Name}
use Rattle.ir_tree.specs.declared.types.IrType.{IrType, fold-IrType}
use Rattle.ir_tree.specs.declared.types.IrType.TheOpen.{IrType-F}
use Rattle.ir_tree.specs.declared.constants.GepLevel.{GepLevel}
use Rattle.ir_tree.specs.declared.constants.Value.{Value}
use Rattle.ir_tree.specs.declared.constants.ValueForm.{ValueForm}
use Rattle.ir_tree.specs.declared.constants.ValueForm.TheVariants as forms
use Rattle.ir_tree.specs.declared.constants.Constant.{Constant, fold-Constant}
use Rattle.ir_tree.specs.declared.constants.Constant.TheOpen.{Constant-F}
use Rattle.ir_tree.specs.declared.instructions.Typed.{Typed}
use Rattle.ir_tree.specs.declared.instructions.Index.{Index}
use Rattle.ir_tree.specs.declared.instructions.Operation.{Operation}
use Rattle.ir_tree.specs.declared.instructions.Operation.TheVariants as operations
use Rattle.ir_tree.specs.declared.instructions.Phi.{Phi}
use Rattle.ir_tree.specs.declared.instructions.TerminatorForm.{TerminatorForm}
use Rattle.ir_tree.specs.declared.instructions.TerminatorForm.TheVariants as terminators
use Rattle.ir_tree.specs.declared.instructions.Block.{Block}
use Rattle.ir_tree.specs.declared.instructions.Instruction.{Instruction}
use Rattle.ir_tree.specs.declared.module.Header.{Header}
use Rattle.ir_tree.specs.declared.module.FunctionDefinition.{FunctionDefinition}
use Rattle.ir_tree.specs.declared.module.IrTree.{IrTree}

abbrev pub is_width : ℕ → Bool
is_width n = nat_le 1 n && nat_le n 64

-- each integer type in a type
abbrev pub width_level : IrType-F Bool → Bool
width_level (IrType-F.Int width) = is_width width
width_level IrType-F.Ptr = true
width_level (IrType-F.Array at len element) = element
width_level (IrType-F.Struct at fields packed) = list_all (λ b. b) fields
width_level (IrType-F.Named name at) = true

unfoldable pub has_widths : IrType → Bool
has_widths t = fold-IrType Bool width_level t

abbrev pub has_widths_if_any : Option IrType → Bool
has_widths_if_any (Some t) = has_widths t
has_widths_if_any None = true

-- ---- values and constants

abbrev pub is_readable_level : GepLevel → Bool
is_readable_level l = has_widths l.source && list_all (λ i. is_width i.width) l.indices

abbrev pub is_readable_form : ValueForm → Bool
is_readable_form (forms.Gep g) = list_all is_readable_level g.levels
is_readable_form _ = true

abbrev pub is_readable_value : Value → Bool
is_readable_value v = is_readable_form v.form

abbrev pub is_readable_typed : Typed → Bool
is_readable_typed t = has_widths t.kind && is_readable_value t.value

abbrev pub readable_level : Constant-F Bool → Bool
readable_level (Constant-F.Value kind value) = has_widths kind && is_readable_value value
readable_level (Constant-F.Bytes kind at bytes) = has_widths kind
readable_level (Constant-F.Array kind at elements) = has_widths kind && list_all (λ b. b) elements
readable_level (Constant-F.Struct kind at fields packed) = has_widths kind && list_all (λ b. b) fields

unfoldable pub is_readable_constant : Constant → Bool
is_readable_constant c = fold-Constant Bool readable_level c

-- ---- functions

abbrev pub is_readable_index : Index → Bool
is_readable_index i = is_width i.width && is_readable_value i.value

abbrev pub is_readable_operation : Operation → Bool
is_readable_operation (operations.Binary op width a b) = is_width width && (is_readable_value a && is_readable_value b)
is_readable_operation (operations.Compare pred kind a b) = has_widths kind && (is_readable_value a && is_readable_value b)
is_readable_operation (operations.Cast op from value to) = is_width from && (is_readable_value value && is_width to)
is_readable_operation (operations.Select condition a b) = is_readable_value condition && (is_readable_typed a && is_readable_typed b)
is_readable_operation (operations.Alloca kind) = has_widths kind
is_readable_operation (operations.Load kind pointer) = has_widths kind && is_readable_value pointer
is_readable_operation (operations.Store kind value pointer) = has_widths kind && (is_readable_value value && is_readable_value pointer)
is_readable_operation (operations.GetElementPtr source pointer indices) = has_widths source && (is_readable_value pointer && list_all is_readable_index indices)
is_readable_operation (operations.Call result callee arguments) = has_widths_if_any result && list_all is_readable_typed arguments

-- an operation that has a register for its value
abbrev pub gives_value : Operation → Bool
gives_value (operations.Store kind value pointer) = false
gives_value (operations.Call result callee arguments) = is_some result
gives_value _ = true

abbrev pub is_readable_instruction : Instruction → Bool
is_readable_instruction i = is_readable_operation i.operation && (not (gives_value i.operation) || is_some i.result)

abbrev pub is_readable_phi : Phi → Bool
is_readable_phi p = has_widths p.kind && list_all (λ i. is_readable_value i.value) p.incoming

abbrev pub is_readable_terminator : TerminatorForm → Bool
is_readable_terminator (terminators.Return (Some t)) = is_readable_typed t
is_readable_terminator (terminators.Return None) = true
is_readable_terminator (terminators.Jump to) = true
is_readable_terminator (terminators.Branch condition if_true if_false) = is_readable_value condition
is_readable_terminator (terminators.Switch width value default cases) = is_width width && (is_readable_value value && list_all (λ c. is_width c.width) cases)
is_readable_terminator terminators.Unreachable = true

abbrev pub is_readable_block : Block → Bool
is_readable_block b = list_all is_readable_phi b.phis && (list_all is_readable_instruction b.instructions && is_readable_terminator b.terminator.form)

abbrev pub is_readable_header : Header → Bool
is_readable_header h = has_widths_if_any h.result && list_all (λ p. has_widths p.kind) h.parameters

abbrev pub has_block : List Block → Bool
has_block [] = false
has_block (b ∷ bs) = true

abbrev pub is_readable_function : FunctionDefinition → Bool
is_readable_function f = is_readable_header f.header && (has_block f.blocks && list_all is_readable_block f.blocks)

-- ---- modules

abbrev pub is_readable : IrTree → Bool
is_readable t =
    list_all (λ d. has_widths d.kind) t.types && (list_all (λ g. is_readable_constant g.value) t.globals && list_all is_readable_function t.functions)
