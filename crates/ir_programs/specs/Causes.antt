-- Where each condition fails in a tree: the places of the tokens in question.
use Rattle.std.specs.Prelude.{ℕ, ◌%◌, ◌-◌, ◌^◌, Bool, true, false, not, ◌||◌, ◌&&◌, ◌==◌, if◌then◌else◌, List, [], ◌∷◌, ◌++◌, map, Option, Some, None, codes}
use Rattle.std.specs.List.{flat_map, filter}
use Rattle.ir_tree.specs.Texts.{same}
use Rattle.ir_tree.specs.declared.types.IrType.{IrType}
use Rattle.ir_tree.specs.declared.constants.Integer.{Integer}
use Rattle.ir_tree.specs.declared.instructions.Case.{Case}
use Rattle.ir_tree.specs.declared.instructions.TerminatorForm.{TerminatorForm}
use Rattle.ir_tree.specs.declared.instructions.TerminatorForm.TheVariants as terminators
use Rattle.ir_tree.specs.declared.module.FunctionDefinition.{FunctionDefinition}
use Rattle.ir_tree.specs.declared.module.Header.{Header}
use Rattle.ir_tree.specs.declared.module.IrTree.{IrTree}
use Rattle.flat_ir.specs.declared.nodes.RegType.{RegType}
use Rattle.flat_ir.specs.declared.nodes.RegType.TheVariants as type
use Rattle.ir_programs.specs.Texts.{among, places_where}
use Rattle.ir_programs.specs.Parts.{register_type, module_types, module_values, function_values, function_labels, function_callees}
use Rattle.ir_programs.specs.Types.{type_names, is_type, holds_itself, too_large}
use Rattle.ir_programs.specs.Locals.{register_names, labels_of, locals_of, wrong_numbers, repeated_locals}
use Rattle.ir_programs.specs.Constants.{bad_constants, wide_value_indices}
use Rattle.ir_programs.specs.Uses.{global_names, function_names, is_reserved, is_global, is_function, stands_before, local_uses, global_uses}

-- ---- names that aren't defined

abbrev pub unknown_types : IrTree → List ℕ
unknown_types t = places_where (λ n. not (is_type t.types n)) (type_names (module_types t))

abbrev pub unknown_registers : FunctionDefinition → List ℕ
unknown_registers f = places_where (λ n. not (among n.text (register_names f))) (local_uses (function_values f))

abbrev pub unknown_labels : FunctionDefinition → List ℕ
unknown_labels f = places_where (λ n. not (among n.text (labels_of f))) (function_labels f)

-- a global that a value names; one that is only declared isn't known
abbrev pub unknown_globals : IrTree → List ℕ
unknown_globals t = places_where (λ n. not (is_global t n.text || is_function t n.text)) (global_uses (module_values t))

abbrev pub unknown_names : IrTree → List ℕ
unknown_names t = unknown_types t ++ (flat_map unknown_registers t.functions ++ (flat_map unknown_labels t.functions ++ unknown_globals t))

abbrev pub unknown_functions : IrTree → List ℕ
unknown_functions t = places_where (λ n. not (is_function t n.text)) (flat_map function_callees t.functions)

-- ---- names and constants that stand twice

abbrev pub duplicate_types : IrTree → List ℕ
duplicate_types t = let names = map (λ d. d.name) t.types in places_where (stands_before names) names

abbrev pub duplicate_globals : IrTree → List ℕ
duplicate_globals t = let names = global_names t ++ function_names t in places_where (stands_before names) names

-- an integer in so many bits (two's complement)
abbrev pub bits_of : ℕ → Integer → ℕ
bits_of width n = if n.negative then (2 ^ width - n.magnitude) % 2 ^ width else n.magnitude % 2 ^ width

abbrev pub same_case : Case → Case → Bool
same_case a b = (a.width == b.width) && (bits_of a.width a.value == bits_of b.width b.value)

abbrev pub is_case_of : List Case → Case → Bool
is_case_of [] c = false
is_case_of (d ∷ ds) c = same_case d c || is_case_of ds c

-- the later numbers of a switch that an earlier one is equal to, of so many bits
abbrev pub repeated_cases : List Case → List Case → List ℕ
repeated_cases seen [] = []
repeated_cases seen (c ∷ cs) = if is_case_of seen c then c.at ∷ repeated_cases (c ∷ seen) cs else repeated_cases (c ∷ seen) cs

abbrev pub terminator_cases : TerminatorForm → List Case
terminator_cases (terminators.Switch width value default cases) = cases
terminator_cases _ = []

abbrev pub duplicate_cases : FunctionDefinition → List ℕ
duplicate_cases f = flat_map (λ b. repeated_cases [] (terminator_cases b.terminator.form)) f.blocks

abbrev pub duplicate_names : IrTree → List ℕ
duplicate_names t = duplicate_types t ++ (duplicate_globals t ++ (flat_map repeated_locals t.functions ++ flat_map duplicate_cases t.functions))

-- ---- the others

abbrev pub reserved_names : IrTree → List ℕ
reserved_names t = places_where (λ n. is_reserved n.text) (global_names t ++ function_names t)

abbrev pub large_types : IrTree → List ℕ
large_types t = too_large t.types (module_types t)

abbrev pub recursive_types : IrTree → List ℕ
recursive_types t = map (λ d. d.name.at) (filter (holds_itself t.types) t.types)

abbrev pub numbers_out_of_turn : IrTree → List ℕ
numbers_out_of_turn t = flat_map (λ f. wrong_numbers 0 (locals_of f)) t.functions

abbrev pub bad_initialisers : IrTree → List ℕ
bad_initialisers t = flat_map (λ g. bad_constants t.types g.value) t.globals ++ flat_map wide_value_indices (module_values t)

-- a function's name that stands as a value
abbrev pub function_values_of : IrTree → List ℕ
function_values_of t = places_where (λ n. is_function t n.text) (global_uses (module_values t))

-- `i32 @main()`
abbrev pub is_32 : RegType → Bool
is_32 (type.Int width) = width == 32
is_32 type.Ptr = false

abbrev pub returns_32 : Option IrType → Bool
returns_32 (Some kind) = is_32 (register_type kind)
returns_32 None = false

abbrev pub is_empty : {A : Type 0} → List A → Bool
is_empty [] = true
is_empty (x ∷ xs) = false

abbrev pub is_main : Header → Bool
is_main h = same h.name.text (codes "main")

abbrev pub is_entry : Header → Bool
is_entry h = is_empty h.parameters && returns_32 h.result

abbrev pub main_parameters : IrTree → List ℕ
main_parameters t = map (λ f. f.header.name.at) (filter (λ f. is_main f.header && not (is_entry f.header)) t.functions)
