-- What stands in a tree: written types, values with the types that are written for them, labels, called names.
use Rattle.std.specs.Prelude.{List, [], ◌∷◌, ◌++◌, map, Some, None}
use Rattle.std.specs.List.{flat_map}
use Rattle.flat_ir.specs.declared.nodes.RegType.{RegType}
use Rattle.flat_ir.specs.declared.nodes.RegType.TheVariants as type
use Rattle.ir_tree.specs.declared.types.Name.{Name}
use Rattle.ir_tree.specs.declared.types.IrType.{IrType, fold-IrType, out-IrType}
use Rattle.ir_tree.specs.declared.types.IrType.TheOpen.{IrType-F}
use Rattle.ir_tree.specs.declared.types.IrType.TheVariants as types
use Rattle.ir_tree.specs.declared.constants.Value.{Value}
use Rattle.ir_tree.specs.declared.constants.ValueForm.{ValueForm}
use Rattle.ir_tree.specs.declared.constants.ValueForm.TheVariants as forms
use Rattle.ir_tree.specs.declared.constants.Constant.{Constant, fold-Constant}
use Rattle.ir_tree.specs.declared.constants.Constant.TheOpen.{Constant-F}
use Rattle.ir_tree.specs.declared.instructions.Typed.{Typed}
use Rattle.ir_tree.specs.declared.instructions.Operation.{Operation}
use Rattle.ir_tree.specs.declared.instructions.Operation.TheVariants as operations
use Rattle.ir_tree.specs.declared.instructions.Phi.{Phi}
use Rattle.ir_tree.specs.declared.instructions.TerminatorForm.{TerminatorForm}
use Rattle.ir_tree.specs.declared.instructions.TerminatorForm.TheVariants as terminators
use Rattle.ir_tree.specs.declared.instructions.Block.{Block}
use Rattle.ir_tree.specs.declared.instructions.Case.{Case}
use Rattle.ir_tree.specs.declared.instructions.Incoming.{Incoming}
use Rattle.ir_tree.specs.declared.instructions.Instruction.{Instruction}
use Rattle.ir_tree.specs.declared.module.FunctionDefinition.{FunctionDefinition}
use Rattle.ir_tree.specs.declared.module.IrTree.{IrTree}

-- ---- values

-- the type of a register or a value: a number of so many bits, or a pointer
abbrev pub register_level : IrType-F IrType → RegType
register_level (IrType-F.Int width) = type.Int width
register_level _ = type.Ptr

abbrev pub register_type : IrType → RegType
register_type t = register_level (out-IrType t)

-- a value, and the type that is written for it
pub record Written : Type 0 where
  pub kind : RegType
  pub value : Value

abbrev pub written : RegType → Value → Written
written kind value = record { kind = kind; value = value }

abbrev pub typed : Typed → Written
typed t = written (register_type t.kind) t.value

-- the values of an operation, in the order of the text
abbrev pub operation_values : Operation → List Written
operation_values (operations.Binary op width a b) = written (type.Int width) a ∷ written (type.Int width) b ∷ []
operation_values (operations.Compare pred kind a b) = written (register_type kind) a ∷ written (register_type kind) b ∷ []
operation_values (operations.Cast op from value to) = written (type.Int from) value ∷ []
operation_values (operations.Select condition a b) = written (type.Int 1) condition ∷ typed a ∷ typed b ∷ []
operation_values (operations.Alloca kind) = []
operation_values (operations.Load kind pointer) = written type.Ptr pointer ∷ []
operation_values (operations.Store kind value pointer) = written (register_type kind) value ∷ written type.Ptr pointer ∷ []
operation_values (operations.GetElementPtr source pointer indices) = written type.Ptr pointer ∷ map (λ i. written (type.Int i.width) i.value) indices
operation_values (operations.Call result callee arguments) = map typed arguments

abbrev pub phi_values : Phi → List Written
phi_values p = map (λ i. written (register_type p.kind) i.value) p.incoming

abbrev pub terminator_values : TerminatorForm → List Written
terminator_values (terminators.Return (Some t)) = typed t ∷ []
terminator_values (terminators.Return None) = []
terminator_values (terminators.Jump to) = []
terminator_values (terminators.Branch condition if_true if_false) = written (type.Int 1) condition ∷ []
terminator_values (terminators.Switch width value default cases) = written (type.Int width) value ∷ []
terminator_values terminators.Unreachable = []

abbrev pub block_values : Block → List Written
block_values b = flat_map phi_values b.phis ++ (flat_map (λ i. operation_values i.operation) b.instructions ++ terminator_values b.terminator.form)

abbrev pub function_values : FunctionDefinition → List Value
function_values f = map (λ w. w.value) (flat_map block_values f.blocks)

-- the values of a constant
abbrev pub constant_level : Constant-F (List Value) → List Value
constant_level (Constant-F.Value kind value) = value ∷ []
constant_level (Constant-F.Bytes kind at bytes) = []
constant_level (Constant-F.Array kind at elements) = flat_map (λ vs. vs) elements
constant_level (Constant-F.Struct kind at fields packed) = flat_map (λ vs. vs) fields

unfoldable pub constant_values : Constant → List Value
constant_values c = fold-Constant (List Value) constant_level c

-- all values of a module
abbrev pub module_values : IrTree → List Value
module_values t = flat_map (λ g. constant_values g.value) t.globals ++ flat_map function_values t.functions

-- ---- labels and called names

abbrev pub case_label : Case → Name
case_label c = c.label

abbrev pub incoming_label : Incoming → Name
incoming_label i = i.label

-- where a terminator leads, in the order of its successors: the cases of a switch before its default
abbrev pub targets : TerminatorForm → List Name
targets (terminators.Return value) = []
targets (terminators.Jump to) = to ∷ []
targets (terminators.Branch condition if_true if_false) = if_true ∷ if_false ∷ []
targets (terminators.Switch width value default cases) = map case_label cases ++ default ∷ []
targets terminators.Unreachable = []

abbrev pub phi_labels : Phi → List Name
phi_labels p = map incoming_label p.incoming

abbrev pub block_labels : Block → List Name
block_labels b = flat_map phi_labels b.phis ++ targets b.terminator.form

abbrev pub function_labels : FunctionDefinition → List Name
function_labels f = flat_map block_labels f.blocks

abbrev pub callees : Operation → List Name
callees (operations.Call result callee arguments) = callee ∷ []
callees _ = []

abbrev pub instruction_callees : Instruction → List Name
instruction_callees i = callees i.operation

abbrev pub block_callees : Block → List Name
block_callees b = flat_map instruction_callees b.instructions

abbrev pub function_callees : FunctionDefinition → List Name
function_callees f = flat_map block_callees f.blocks

-- ---- written types

-- a type, and the types that stand in it, itself first
pub record Nested : Type 0 where
  pub whole : IrType
  pub all : List IrType

abbrev pub nested : IrType → List IrType → Nested
nested t inner = record { whole = t; all = t ∷ inner }

abbrev pub nested_level : IrType-F Nested → Nested
nested_level (IrType-F.Int width) = nested (types.Int width) []
nested_level IrType-F.Ptr = nested types.Ptr []
nested_level (IrType-F.Array at len element) = nested (types.Array at len element.whole) element.all
nested_level (IrType-F.Struct at fields packed) = nested (types.Struct at (map (λ n. n.whole) fields) packed) (flat_map (λ n. n.all) fields)
nested_level (IrType-F.Named name at) = nested (types.Named name at) []

unfoldable pub types_in : IrType → List IrType
types_in t = (fold-IrType Nested nested_level t).all

-- the types that stand in values, operations and constants, each in one piece
abbrev pub form_types : ValueForm → List IrType
form_types (forms.Gep g) = map (λ l. l.source) g.levels
form_types _ = []

abbrev pub value_types : Value → List IrType
value_types v = form_types v.form

abbrev pub operation_types : Operation → List IrType
operation_types (operations.Alloca kind) = kind ∷ []
operation_types (operations.GetElementPtr source pointer indices) = source ∷ []
operation_types _ = []

abbrev pub function_types : FunctionDefinition → List IrType
function_types f = flat_map (λ b. flat_map (λ i. operation_types i.operation) b.instructions) f.blocks

abbrev pub constant_types_level : Constant-F (List IrType) → List IrType
constant_types_level (Constant-F.Value kind value) = kind ∷ []
constant_types_level (Constant-F.Bytes kind at bytes) = kind ∷ []
constant_types_level (Constant-F.Array kind at elements) = kind ∷ flat_map (λ ts. ts) elements
constant_types_level (Constant-F.Struct kind at fields packed) = kind ∷ flat_map (λ ts. ts) fields

unfoldable pub constant_types : Constant → List IrType
constant_types c = fold-Constant (List IrType) constant_types_level c

-- all types that a module writes, those within others too
abbrev pub module_types : IrTree → List IrType
module_types t =
    flat_map types_in (map (λ d. d.kind) t.types ++ (flat_map (λ g. constant_types g.value) t.globals ++ (flat_map function_types t.functions ++ flat_map value_types (module_values t))))
