-- The registers of a function: as many names as types, the parameters among them, and each has 1 to 64 bits or is a pointer.
use Rattle.std.proofs.Common.{◌≡◌, ℕ, ◌<◌, ◌≤◌, true, List, [], ◌∷◌, ◌++◌, length, Option, Some, None, subst, arith}
use Rattle.std.specs.Prelude.{map}
use Rattle.std.specs.List.{AllByRecursion, flat_map, list_all}
use Rattle.flat_ir.specs.declared.nodes.RegType.{RegType}
use Rattle.flat_ir.specs.declared.nodes.RegType.TheVariants as type
use Rattle.flat_ir.specs.Whole.{IsWidth}
use Rattle.ir_tree.specs.declared.types.Name.{Name}
use Rattle.ir_tree.specs.declared.instructions.Block.{Block}
use Rattle.ir_tree.specs.declared.instructions.Instruction.{Instruction}
use Rattle.ir_tree.specs.declared.instructions.Operation.{Operation}
use Rattle.ir_tree.specs.declared.instructions.Operation.TheVariants as operations
use Rattle.ir_tree.specs.declared.instructions.Phi.{Phi}
use Rattle.ir_tree.specs.declared.module.FunctionDefinition.{FunctionDefinition}
use Rattle.ir_tree.specs.declared.module.Parameter.{Parameter}
use Rattle.ir_programs.specs.declared.locals.Local.{Local}
use Rattle.ir_programs.specs.Texts.{among}
use Rattle.ir_programs.specs.Locals.{result_type, parameter_local, phi_local, set_by, instruction_locals, block_locals, locals_of, type_in, types_among, register_types, register_names}
use Rattle.ir_programs.specs.Registers.{number_of}
use Rattle.ir_programs.specs.Readable.{is_width, has_widths, is_readable_value, is_readable_typed, is_readable_operation, is_readable_instruction, is_readable_phi, is_readable_terminator, is_readable_block, is_readable_header, has_block, is_readable_function}
use Rattle.whole_programs.proofs.Lists.{left_true, right_true, together, listed, weaker, to_mapped, to_flat, each_back, each_front, of_flat, of_mapped}
use Rattle.whole_programs.proofs.Types.{width_is, register_is}
use Rattle.whole_programs.proofs.Names.{as_many, number_is_below, IsNamed, each_named}
use Rattle.whole_programs.proofs.Instructions.{IsSet}

pub number_in : (f : FunctionDefinition) (name : List ℕ) → among name (register_names f) ≡ true → number_of name (register_names f) < length (register_types f)
number_in f name h = subst (λ n. number_of name (register_names f) < n) (as_many (locals_of f)) (number_is_below name (register_names f) h)

parameters_first : (ps : List Parameter) (ls : List Local) → length ps ≤ length (types_among (map parameter_local ps ++ ls))
parameters_first [] ls = omega arith
parameters_first (p ∷ ps) ls = let more = parameters_first ps ls in omega (arith, more)

pub parameters_in : (f : FunctionDefinition) → length f.header.parameters ≤ length (register_types f)
parameters_in f = parameters_first f.header.parameters (flat_map block_locals f.blocks)

-- ---- widths

abbrev IsWideIf : Option RegType → Type 0
IsWideIf (Some kind) = IsWidth kind
IsWideIf None = Unit {0}

abbrev IsWide : Local → Type 0
IsWide l = IsWideIf l.register

types_wide : (ls : List Local) → AllByRecursion IsWide ls → AllByRecursion IsWidth (types_among ls)
types_wide [] h = tt
types_wide (l ∷ ls) h = go (types_wide ls h.1) l.register h.0
  where
    go : AllByRecursion IsWidth (types_among ls) → (o : Option RegType) → IsWideIf o → AllByRecursion IsWidth (type_in o ++ types_among ls)
    go more (Some kind) k = (k, more)
    go more None k = more

one_bit : IsWidth (type.Int 1)
one_bit = (omega arith, omega arith)

result_wide : (o : Operation) → is_readable_operation o ≡ true → IsWidth (result_type o)
result_wide (operations.Binary op w a b) h = width_is w (left_true (is_width w) _ h)
result_wide (operations.Compare pred kind a b) h = one_bit
result_wide (operations.Cast op from value to) h = width_is to (right_true (is_readable_value value) (is_width to) (right_true (is_width from) _ h))
result_wide (operations.Select c a b) h = register_is a.kind (left_true (has_widths a.kind) (is_readable_value a.value) (left_true (is_readable_typed a) (is_readable_typed b) (right_true (is_readable_value c) _ h)))
result_wide (operations.Alloca kind) h = tt
result_wide (operations.Load kind pointer) h = register_is kind (left_true (has_widths kind) (is_readable_value pointer) h)
result_wide (operations.Store kind value pointer) h = one_bit
result_wide (operations.GetElementPtr source pointer is) h = tt
result_wide (operations.Call (Some kind) callee arguments) h = register_is kind (left_true (has_widths kind) _ h)
result_wide (operations.Call None callee arguments) h = one_bit

set_wide : (kind : RegType) (o : Option Name) → IsWidth kind → AllByRecursion IsWide (set_by kind o)
set_wide kind (Some name) h = (h, tt)
set_wide kind None h = tt

pub block_parts : (b : Block) → is_readable_block b ≡ true → (list_all is_readable_phi b.phis ≡ true) × (list_all is_readable_instruction b.instructions ≡ true)
block_parts b h = (
  left_true (list_all is_readable_phi b.phis) _ h,
  left_true (list_all is_readable_instruction b.instructions) (is_readable_terminator b.terminator.form) (right_true (list_all is_readable_phi b.phis) _ h),
)

block_wide : (b : Block) → is_readable_block b ≡ true → AllByRecursion IsWide (block_locals b)
block_wide b h = (
  tt,
  together IsWide (map phi_local b.phis) (flat_map instruction_locals b.instructions)
      (to_mapped IsWide phi_local b.phis (weaker (λ (p : Phi) k. register_is p.kind (left_true (has_widths p.kind) _ k)) b.phis (listed is_readable_phi b.phis (block_parts b h).0)))
      (to_flat IsWide instruction_locals b.instructions
      (weaker (λ (i : Instruction) k. set_wide (result_type i.operation) i.result (result_wide i.operation (left_true (is_readable_operation i.operation) _ k))) b.instructions (listed is_readable_instruction b.instructions (block_parts b h).1))),
)

pub registers_wide : (f : FunctionDefinition) → is_readable_function f ≡ true → AllByRecursion IsWidth (register_types f)
registers_wide f h =
    let header = right_true _ (list_all (λ (p : Parameter). has_widths p.kind) f.header.parameters) (left_true (is_readable_header f.header) _ h) in
    let blocks = right_true (has_block f.blocks) (list_all is_readable_block f.blocks) (right_true (is_readable_header f.header) _ h) in
    types_wide (locals_of f)
    (together IsWide (map parameter_local f.header.parameters) (flat_map block_locals f.blocks)
    (to_mapped IsWide parameter_local f.header.parameters (weaker (λ (p : Parameter) k. register_is p.kind k) f.header.parameters (listed (λ (p : Parameter). has_widths p.kind) f.header.parameters header)))
    (to_flat IsWide block_locals f.blocks (weaker block_wide f.blocks (listed is_readable_block f.blocks blocks))))

-- ---- the names that a function sets are its registers'

pub record HasNames (f : FunctionDefinition) (b : Block) : Type 0 where
  pub phis : AllByRecursion (λ (p : Phi). among p.result.text (register_names f) ≡ true) b.phis
  pub instructions : AllByRecursion (λ (i : Instruction). IsSet f i.result) b.instructions

set_named : (f : FunctionDefinition) (kind : RegType) (o : Option Name) → AllByRecursion (IsNamed (register_names f)) (set_by kind o) → IsSet f o
set_named f kind (Some name) h = h.0
set_named f kind None h = tt

block_named : (f : FunctionDefinition) (b : Block) → AllByRecursion (IsNamed (register_names f)) (block_locals b) → HasNames f b
block_named f b h = record {
  phis = of_mapped (IsNamed (register_names f)) phi_local b.phis (each_front (IsNamed (register_names f)) (map phi_local b.phis) (flat_map instruction_locals b.instructions) h.1);
  instructions =
      weaker (λ (i : Instruction) k. set_named f (result_type i.operation) i.result k) b.instructions
      (of_flat (IsNamed (register_names f)) instruction_locals b.instructions (each_back (IsNamed (register_names f)) (map phi_local b.phis) (flat_map instruction_locals b.instructions) h.1));
}

pub blocks_named : (f : FunctionDefinition) → AllByRecursion (HasNames f) f.blocks
blocks_named f =
    weaker (block_named f) f.blocks
    (of_flat (IsNamed (register_names f)) block_locals f.blocks (each_back (IsNamed (register_names f)) (map parameter_local f.header.parameters) (flat_map block_locals f.blocks) (each_named (locals_of f))))
