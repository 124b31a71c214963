-- Where the types that a module's text writes don't fit, node by node: what the nodes themselves don't show of it.
use Rattle.std.specs.Prelude.{ℕ, ◌+◌, Bool, true, false, not, ◌&&◌, ◌||◌, List, [], ◌∷◌, ◌++◌, map, Option, Some, None, slice_get, unwrap_or}
use Rattle.std.specs.List.{flat_map, list_all}
use Rattle.std.specs.Option.{is_some, option_map}
use Rattle.flat_ir.specs.declared.names.NodeId.{NodeId}
use Rattle.flat_ir.specs.declared.nodes.RegType.{RegType}
use Rattle.flat_ir.specs.declared.nodes.RegType.TheVariants as type
use Rattle.ir_tree.specs.declared.types.IrType.{IrType}
use Rattle.ir_tree.specs.declared.types.Name.{Name}
use Rattle.ir_tree.specs.declared.constants.Value.{Value}
use Rattle.ir_tree.specs.declared.constants.ValueForm.{ValueForm}
use Rattle.ir_tree.specs.declared.constants.ValueForm.TheVariants as forms
use Rattle.ir_tree.specs.declared.instructions.Block.{Block}
use Rattle.ir_tree.specs.declared.instructions.Instruction.{Instruction}
use Rattle.ir_tree.specs.declared.instructions.Operation.{Operation}
use Rattle.ir_tree.specs.declared.instructions.Operation.TheVariants as operations
use Rattle.ir_tree.specs.declared.instructions.Phi.{Phi}
use Rattle.ir_tree.specs.declared.module.FunctionDefinition.{FunctionDefinition}
use Rattle.ir_tree.specs.declared.module.IrTree.{IrTree}
use Rattle.ir_programs.specs.Parts.{Written, written, typed, register_type, operation_values, terminator_values}
use Rattle.ir_programs.specs.Constants.{bad_gep_steps}
use Rattle.ir_programs.specs.Causes.{is_empty}
use Rattle.ir_programs.specs.Locals.{register_types}
use Rattle.ir_programs.specs.Registers.{register_of}
use Rattle.ir_programs.specs.Addresses.{all_steps_fit}
use Rattle.ir_programs.specs.Operands.{step_of}
use Rattle.ir_programs.specs.Calls.{same_type, is_signature, signature_of}
use Rattle.ir_programs.specs.Flow.{at, phis_of, Edge, edges_of, value_from}

-- ---- values

abbrev pub type_of_register : FunctionDefinition → List ℕ → RegType
type_of_register f name = unwrap_or (slice_get (register_types f) (register_of f name).0) type.Ptr

abbrev pub is_int : RegType → Bool
is_int (type.Int width) = true
is_int type.Ptr = false

-- a value has the type that is written for it; what has no value of its own has each
abbrev pub form_fits : IrTree → FunctionDefinition → RegType → ValueForm → Bool
form_fits t f kind (forms.Local name) = same_type (type_of_register f name) kind
form_fits t f kind (forms.Global name) = same_type type.Ptr kind
form_fits t f kind (forms.Int n) = is_int kind
form_fits t f kind forms.True = same_type (type.Int 1) kind
form_fits t f kind forms.False = same_type (type.Int 1) kind
form_fits t f kind forms.Null = same_type type.Ptr kind
form_fits t f kind forms.Undef = true
form_fits t f kind forms.Poison = true
form_fits t f kind forms.ZeroInitializer = true
form_fits t f kind (forms.Gep g) = same_type type.Ptr kind && is_empty (bad_gep_steps t.types g)

abbrev pub value_fits : IrTree → FunctionDefinition → Written → Bool
value_fits t f w = form_fits t f w.kind w.value.form

-- ---- nodes

-- a call has the types of its callee, and a name only where there is a result
abbrev pub call_fits : IrTree → Option Name → Option IrType → List ℕ → List Written → Bool
call_fits t name result callee arguments =
    is_signature (map (λ a. a.kind) arguments) (option_map register_type result) (signature_of t callee) && (is_some result || not (is_some name))

abbrev pub operation_fits : IrTree → FunctionDefinition → Option Name → Operation → Bool
operation_fits t f name (operations.GetElementPtr source pointer indices) = all_steps_fit t.types source (map (step_of t f) indices)
operation_fits t f name (operations.Call result callee arguments) = call_fits t name result callee.text (map typed arguments)
operation_fits t f name _ = true

abbrev pub instruction_fits : IrTree → FunctionDefinition → Instruction → Bool
instruction_fits t f i = list_all (value_fits t f) (operation_values i.operation) && operation_fits t f i.result i.operation

abbrev pub block_fits : IrTree → FunctionDefinition → Block → List Bool
block_fits t f b = map (instruction_fits t f) b.instructions ++ list_all (value_fits t f) (terminator_values b.terminator.form) ∷ []

abbrev pub set_fits : IrTree → FunctionDefinition → Phi → Option Value → Bool
set_fits t f p (Some value) = value_fits t f (written (register_type p.kind) value)
set_fits t f p None = true

abbrev pub edge_fits : IrTree → FunctionDefinition → Edge → Bool
edge_fits t f e = list_all (λ p. set_fits t f p (value_from e.source p.incoming)) (phis_of f e.target)

-- for each node whether its types fit
abbrev pub fits_of : IrTree → FunctionDefinition → List Bool
fits_of t f = flat_map (block_fits t f) f.blocks ++ map (edge_fits t f) (edges_of f)

-- the numbers of the places at which a list has false, from n on
abbrev pub where_false : ℕ → List Bool → List NodeId
where_false n [] = []
where_false n (true ∷ bs) = where_false (n + 1) bs
where_false n (false ∷ bs) = at n ∷ where_false (n + 1) bs

abbrev pub clashes_of : IrTree → FunctionDefinition → List NodeId
clashes_of t f = where_false 0 (fits_of t f)
