-- What is asked of the types of a tree.
use Rattle.std.specs.Prelude.{ℕ, not, if◌then◌else◌, List, [], ◌∷◌, ◌++◌, map, Option, Some, None}
use Rattle.std.specs.List.{flat_map}
use Rattle.ir_tree.specs.declared.types.IrType.{IrType, out-IrType}
use Rattle.ir_tree.specs.declared.types.Name.{Name}
use Rattle.ir_tree.specs.declared.constants.Constant.{Constant, fold-Constant}
use Rattle.ir_tree.specs.declared.constants.Constant.TheOpen.{Constant-F}
use Rattle.ir_tree.specs.declared.instructions.Operation.{Operation}
use Rattle.ir_tree.specs.declared.instructions.Operation.TheVariants as operations
use Rattle.ir_tree.specs.declared.instructions.Phi.{Phi}
use Rattle.ir_tree.specs.declared.instructions.TerminatorForm.{TerminatorForm}
use Rattle.ir_tree.specs.declared.instructions.TerminatorForm.TheVariants as terminators
use Rattle.ir_tree.specs.declared.instructions.Block.{Block}
use Rattle.ir_tree.specs.declared.module.FunctionDefinition.{FunctionDefinition}
use Rattle.ir_tree.specs.declared.module.TypeDefinition.{TypeDefinition}
use Rattle.ir_tree.specs.declared.module.IrTree.{IrTree}
use Rattle.ir_programs.specs.declared.refusals.Cause.{Cause}
use Rattle.ir_programs.specs.declared.refusals.Refusal.{Refusal}
use Rattle.ir_programs.specs.Parts.{value_types, function_types, constant_types}
use Rattle.ir_programs.specs.Refusals.{merged, first, refused}
use Rattle.ir_programs.specs.Texts.{places_where}
use Rattle.ir_programs.specs.Types.{name_level, is_type, holds_itself, place_level, is_too_large}
use Rattle.ir_programs.specs.Uses.{stands_before}

-- ---- the types that stand in values, each in one piece

abbrev pub operation_within : Operation → List IrType
operation_within (operations.Binary op width a b) = value_types a ++ value_types b
operation_within (operations.Compare pred kind a b) = value_types a ++ value_types b
operation_within (operations.Cast op from value to) = value_types value
operation_within (operations.Select condition a b) = value_types condition ++ (value_types a.value ++ value_types b.value)
operation_within (operations.Alloca kind) = []
operation_within (operations.Load kind pointer) = value_types pointer
operation_within (operations.Store kind value pointer) = value_types value ++ value_types pointer
operation_within (operations.GetElementPtr source pointer indices) = value_types pointer ++ flat_map (λ i. value_types i.value) indices
operation_within (operations.Call result callee arguments) = flat_map (λ a. value_types a.value) arguments

abbrev pub phi_within : Phi → List IrType
phi_within p = flat_map (λ i. value_types i.value) p.incoming

abbrev pub terminator_within : TerminatorForm → List IrType
terminator_within (terminators.Return (Some t)) = value_types t.value
terminator_within (terminators.Return None) = []
terminator_within (terminators.Jump to) = []
terminator_within (terminators.Branch condition if_true if_false) = value_types condition
terminator_within (terminators.Switch width value default cases) = value_types value
terminator_within terminators.Unreachable = []

abbrev pub block_within : Block → List IrType
block_within b = flat_map phi_within b.phis ++ (flat_map (λ i. operation_within i.operation) b.instructions ++ terminator_within b.terminator.form)

abbrev pub function_within : FunctionDefinition → List IrType
function_within f = flat_map block_within f.blocks

abbrev pub within_level : Constant-F (List IrType) → List IrType
within_level (Constant-F.Value kind value) = value_types value
within_level (Constant-F.Bytes kind at bytes) = []
within_level (Constant-F.Array kind at elements) = flat_map (λ ts. ts) elements
within_level (Constant-F.Struct kind at fields packed) = flat_map (λ ts. ts) fields

unfoldable pub constant_within : Constant → List IrType
constant_within c = fold-Constant (List IrType) within_level c

-- the types of a tree, each in one piece
abbrev pub pieces : IrTree → List IrType
pieces t =
    map (λ d. d.kind) t.types
    ++ (flat_map (λ g. constant_types g.value) t.globals
    ++ (flat_map function_types t.functions
    ++ (flat_map (λ g. constant_within g.value) t.globals
    ++ flat_map function_within t.functions)))

-- ---- what is told

-- what is told where more places fail
abbrev pub told_with : Option Refusal → Cause → List ℕ → Option Refusal
told_with told cause places = merged told (first (refused cause places))

-- where a type's own name isn't known
abbrev pub unknown_at : List TypeDefinition → IrType → List ℕ
unknown_at types t = places_where (λ n. not (is_type types n)) (name_level (out-IrType t))

-- where a type is too large
abbrev pub large_at : List TypeDefinition → IrType → List ℕ
large_at types t = if is_too_large types t then place_level (out-IrType t) else []

-- where a name stands that stands before
abbrev pub twice_at : List TypeDefinition → Name → List ℕ
twice_at types n = if stands_before (map (λ d. d.name) types) n then n.at ∷ [] else []

-- where a type holds itself
abbrev pub recursive_at : List TypeDefinition → TypeDefinition → List ℕ
recursive_at types d = if holds_itself types d then d.name.at ∷ [] else []
