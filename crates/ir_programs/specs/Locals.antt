-- The names of a function: its parameters, its blocks and what its phis and instructions set share one space (Language Reference, "Identifiers"
-- and "Functions"). In a tree that was read each has a name: its number, where the text leaves that out, and then its place is that of the function's name.
use Rattle.std.specs.Prelude.{ℕ, ◌+◌, not, ◌==◌, if◌then◌else◌, List, [], ◌∷◌, ◌++◌, map, Option, Some, None}
use Rattle.std.specs.Fmt.{decimal}
use Rattle.std.specs.List.{flat_map, filter}
use Rattle.flat_ir.specs.declared.nodes.RegType.{RegType}
use Rattle.flat_ir.specs.declared.nodes.RegType.TheVariants as type
use Rattle.ir_tree.specs.Texts.{same}
use Rattle.ir_tree.specs.declared.types.Name.{Name}
use Rattle.ir_tree.specs.declared.types.IrType.{IrType}
use Rattle.ir_tree.specs.declared.instructions.Operation.{Operation}
use Rattle.ir_tree.specs.declared.instructions.Operation.TheVariants as operations
use Rattle.ir_tree.specs.declared.instructions.Instruction.{Instruction}
use Rattle.ir_tree.specs.declared.instructions.Phi.{Phi}
use Rattle.ir_tree.specs.declared.instructions.Block.{Block}
use Rattle.ir_tree.specs.declared.module.Parameter.{Parameter}
use Rattle.ir_tree.specs.declared.module.FunctionDefinition.{FunctionDefinition}
use Rattle.ir_grammar.specs.Numbering.{is_number}
use Rattle.ir_programs.specs.declared.locals.Local.{Local}
use Rattle.ir_programs.specs.Texts.{among, name_or_none}
use Rattle.ir_programs.specs.Parts.{register_type}

abbrev pub local : Name → Option RegType → Local
local name register = record { name = name; register = register }

-- a name in front of a call of a void function has one bit; such a call is refused later
abbrev pub call_type : Option IrType → RegType
call_type (Some kind) = register_type kind
call_type None = type.Int 1

-- the type that an operation gives
abbrev pub result_type : Operation → RegType
result_type (operations.Binary op width a b) = type.Int width
result_type (operations.Compare pred kind a b) = type.Int 1
result_type (operations.Cast op from value to) = type.Int to
result_type (operations.Select condition a b) = register_type a.kind
result_type (operations.Alloca kind) = type.Ptr
result_type (operations.Load kind pointer) = register_type kind
result_type (operations.Store kind value pointer) = type.Int 1
result_type (operations.GetElementPtr source pointer indices) = type.Ptr
result_type (operations.Call result callee arguments) = call_type result

abbrev pub parameter_local : Parameter → Local
parameter_local p = local (name_or_none p.name) (Some (register_type p.kind))

abbrev pub phi_local : Phi → Local
phi_local p = local p.result (Some (register_type p.kind))

abbrev pub set_by : RegType → Option Name → List Local
set_by kind (Some name) = local name (Some kind) ∷ []
set_by kind None = []

abbrev pub instruction_locals : Instruction → List Local
instruction_locals i = set_by (result_type i.operation) i.result

abbrev pub block_locals : Block → List Local
block_locals b = local (name_or_none b.label) None ∷ (map phi_local b.phis ++ flat_map instruction_locals b.instructions)

-- the names of a function, in the order of the text
abbrev pub locals_of : FunctionDefinition → List Local
locals_of f = map parameter_local f.header.parameters ++ flat_map block_locals f.blocks

abbrev pub type_in : Option RegType → List RegType
type_in (Some kind) = kind ∷ []
type_in None = []

abbrev pub name_in : Option RegType → List ℕ → List (List ℕ)
name_in (Some kind) name = name ∷ []
name_in None name = []

-- the types, and the names, of the registers among names
abbrev pub types_among : List Local → List RegType
types_among [] = []
types_among (l ∷ ls) = type_in l.register ++ types_among ls

abbrev pub names_among : List Local → List (List ℕ)
names_among [] = []
names_among (l ∷ ls) = name_in l.register l.name.text ++ names_among ls

-- the types and the names of a function's registers, in the order of the text: its parameters are the first
abbrev pub register_types : FunctionDefinition → List RegType
register_types f = types_among (locals_of f)

abbrev pub register_names : FunctionDefinition → List (List ℕ)
register_names f = names_among (locals_of f)

-- the names of its blocks
abbrev pub label_of : Block → List ℕ
label_of b = (name_or_none b.label).text

abbrev pub labels_of : FunctionDefinition → List (List ℕ)
labels_of f = map label_of f.blocks

-- ---- numbers

-- where a number that stands for a name isn't the counter's next one; each number that stands counts
abbrev pub wrong_numbers : ℕ → List Local → List ℕ
wrong_numbers n [] = []
wrong_numbers n (l ∷ ls) =
    if is_number l.name.text then (if same l.name.text (decimal n) then wrong_numbers (n + 1) ls else l.name.at ∷ wrong_numbers (n + 1) ls) else wrong_numbers n ls

-- ---- names that stand twice

abbrev pub repeated : List (List ℕ) → List Local → List ℕ
repeated seen [] = []
repeated seen (l ∷ ls) = if among l.name.text seen then l.name.at ∷ repeated (seen ++ l.name.text ∷ []) ls else repeated (seen ++ l.name.text ∷ []) ls

-- where a name that is written stands for a second time
abbrev pub repeated_locals : FunctionDefinition → List ℕ
repeated_locals f = filter (λ at. not (at == f.header.name.at)) (repeated [] (locals_of f))
