-- A tree with every place set to 0: two trees are equal without regard to places where these are equal.
use Rattle.std.specs.Prelude.{map, Option, Some, None}
use Rattle.ir_tree.specs.declared.types.Name.{Name}
use Rattle.ir_tree.specs.declared.types.IrType.{IrType, fold-IrType}
use Rattle.ir_tree.specs.declared.types.IrType.TheOpen.{IrType-F}
use Rattle.ir_tree.specs.declared.types.IrType.TheVariants as types
use Rattle.ir_tree.specs.declared.constants.Value.{Value}
use Rattle.ir_tree.specs.declared.constants.ValueForm.{ValueForm}
use Rattle.ir_tree.specs.declared.constants.ValueForm.TheVariants as forms
use Rattle.ir_tree.specs.declared.constants.GepLevel.{GepLevel}
use Rattle.ir_tree.specs.declared.constants.ConstGep.{ConstGep}
use Rattle.ir_tree.specs.declared.constants.ConstIndex.{ConstIndex}
use Rattle.ir_tree.specs.declared.constants.Constant.{Constant, fold-Constant}
use Rattle.ir_tree.specs.declared.constants.Constant.TheOpen.{Constant-F}
use Rattle.ir_tree.specs.declared.constants.Constant.TheVariants as constants
use Rattle.ir_tree.specs.declared.instructions.Typed.{Typed}
use Rattle.ir_tree.specs.declared.instructions.Index.{Index}
use Rattle.ir_tree.specs.declared.instructions.Operation.{Operation}
use Rattle.ir_tree.specs.declared.instructions.Operation.TheVariants as operations
use Rattle.ir_tree.specs.declared.instructions.Instruction.{Instruction}
use Rattle.ir_tree.specs.declared.instructions.Incoming.{Incoming}
use Rattle.ir_tree.specs.declared.instructions.Phi.{Phi}
use Rattle.ir_tree.specs.declared.instructions.Case.{Case}
use Rattle.ir_tree.specs.declared.instructions.TerminatorForm.{TerminatorForm}
use Rattle.ir_tree.specs.declared.instructions.TerminatorForm.TheVariants as terminators
use Rattle.ir_tree.specs.declared.instructions.Terminator.{Terminator}
use Rattle.ir_tree.specs.declared.instructions.Block.{Block}
use Rattle.ir_tree.specs.declared.module.TypeDefinition.{TypeDefinition}
use Rattle.ir_tree.specs.declared.module.GlobalDefinition.{GlobalDefinition}
use Rattle.ir_tree.specs.declared.module.Parameter.{Parameter}
use Rattle.ir_tree.specs.declared.module.Header.{Header}
use Rattle.ir_tree.specs.declared.module.FunctionDefinition.{FunctionDefinition}
use Rattle.ir_tree.specs.declared.module.IrTree.{IrTree}

abbrev pub on_some : {A : Type 0} → (A → A) → Option A → Option A
on_some f (Some a) = Some (f a)
on_some f None = None

abbrev pub bare_name : Name → Name
bare_name n = record { text = n.text; at = 0 }

-- ---- types

abbrev pub bare_level : IrType-F IrType → IrType
bare_level (IrType-F.Int width) = types.Int width
bare_level IrType-F.Ptr = types.Ptr
bare_level (IrType-F.Array at len element) = types.Array 0 len element
bare_level (IrType-F.Struct at fields packed) = types.Struct 0 fields packed
bare_level (IrType-F.Named name at) = types.Named name 0

unfoldable pub bare_type : IrType → IrType
bare_type t = fold-IrType IrType bare_level t

-- ---- operands and constants

abbrev pub bare_const_index : ConstIndex → ConstIndex
bare_const_index i = record { width = i.width; value = i.value; at = 0 }

abbrev pub bare_gep_level : GepLevel → GepLevel
bare_gep_level l = record { at = 0; source = bare_type l.source; indices = map bare_const_index l.indices }

abbrev pub bare_gep : ConstGep → ConstGep
bare_gep g = record { levels = map bare_gep_level g.levels; base = bare_name g.base }

abbrev pub bare_form : ValueForm → ValueForm
bare_form (forms.Gep g) = forms.Gep (bare_gep g)
bare_form form = form

abbrev pub bare_value : Value → Value
bare_value v = record { at = 0; form = bare_form v.form }

abbrev pub bare_constant_level : Constant-F Constant → Constant
bare_constant_level (Constant-F.Value kind value) = constants.Value (bare_type kind) (bare_value value)
bare_constant_level (Constant-F.Bytes kind at bytes) = constants.Bytes (bare_type kind) 0 bytes
bare_constant_level (Constant-F.Array kind at elements) = constants.Array (bare_type kind) 0 elements
bare_constant_level (Constant-F.Struct kind at fields packed) = constants.Struct (bare_type kind) 0 fields packed

unfoldable pub bare_constant : Constant → Constant
bare_constant c = fold-Constant Constant bare_constant_level c

-- ---- instructions

abbrev pub bare_typed : Typed → Typed
bare_typed t = record { kind = bare_type t.kind; value = bare_value t.value }

abbrev pub bare_index : Index → Index
bare_index i = record { width = i.width; value = bare_value i.value }

abbrev pub bare_operation : Operation → Operation
bare_operation (operations.Binary op width a b) = operations.Binary op width (bare_value a) (bare_value b)
bare_operation (operations.Compare pred kind a b) = operations.Compare pred (bare_type kind) (bare_value a) (bare_value b)
bare_operation (operations.Cast op from value to) = operations.Cast op from (bare_value value) to
bare_operation (operations.Select condition a b) = operations.Select (bare_value condition) (bare_typed a) (bare_typed b)
bare_operation (operations.Alloca kind) = operations.Alloca (bare_type kind)
bare_operation (operations.Load kind pointer) = operations.Load (bare_type kind) (bare_value pointer)
bare_operation (operations.Store kind value pointer) = operations.Store (bare_type kind) (bare_value value) (bare_value pointer)
bare_operation (operations.GetElementPtr source pointer indices) = operations.GetElementPtr (bare_type source) (bare_value pointer) (map bare_index indices)
bare_operation (operations.Call result callee arguments) = operations.Call (on_some bare_type result) (bare_name callee) (map bare_typed arguments)

abbrev pub bare_instruction : Instruction → Instruction
bare_instruction i = record { at = 0; result = on_some bare_name i.result; operation = bare_operation i.operation }

abbrev pub bare_incoming : Incoming → Incoming
bare_incoming i = record { value = bare_value i.value; label = bare_name i.label }

abbrev pub bare_phi : Phi → Phi
bare_phi p = record { result = bare_name p.result; kind = bare_type p.kind; incoming = map bare_incoming p.incoming }

abbrev pub bare_case : Case → Case
bare_case c = record { width = c.width; value = c.value; at = 0; label = bare_name c.label }

abbrev pub bare_end : TerminatorForm → TerminatorForm
bare_end (terminators.Return value) = terminators.Return (on_some bare_typed value)
bare_end (terminators.Jump to) = terminators.Jump (bare_name to)
bare_end (terminators.Branch condition if_true if_false) = terminators.Branch (bare_value condition) (bare_name if_true) (bare_name if_false)
bare_end (terminators.Switch width value default cases) = terminators.Switch width (bare_value value) (bare_name default) (map bare_case cases)
bare_end terminators.Unreachable = terminators.Unreachable

abbrev pub bare_terminator : Terminator → Terminator
bare_terminator t = record { at = 0; form = bare_end t.form }

abbrev pub bare_block : Block → Block
bare_block b = record { label = on_some bare_name b.label; phis = map bare_phi b.phis; instructions = map bare_instruction b.instructions; terminator = bare_terminator b.terminator }

-- ---- the module

abbrev pub bare_definition : TypeDefinition → TypeDefinition
bare_definition d = record { name = bare_name d.name; kind = bare_type d.kind }

abbrev pub bare_global : GlobalDefinition → GlobalDefinition
bare_global d = record { name = bare_name d.name; value = bare_constant d.value }

abbrev pub bare_parameter : Parameter → Parameter
bare_parameter p = record { kind = bare_type p.kind; name = on_some bare_name p.name }

abbrev pub bare_header : Header → Header
bare_header h = record { result = on_some bare_type h.result; name = bare_name h.name; parameters = map bare_parameter h.parameters }

abbrev pub bare_function : FunctionDefinition → FunctionDefinition
bare_function f = record { header = bare_header f.header; blocks = map bare_block f.blocks }

abbrev pub without_places : IrTree → IrTree
without_places t = record {
  types = map bare_definition t.types;
  globals = map bare_global t.globals;
  declares = map bare_header t.declares;
  functions = map bare_function t.functions;
}
