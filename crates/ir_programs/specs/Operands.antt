-- The operand that a value is (Language Reference, "Constants").
use Rattle.std.specs.Prelude.{ℕ, List, map, Option, Some, None}
use Rattle.flat_ir.specs.declared.names.RegId.{RegId}
use Rattle.flat_ir.specs.declared.nodes.Operand.{Operand}
use Rattle.flat_ir.specs.declared.nodes.Operand.TheVariants as operand
use Rattle.flat_ir.specs.declared.nodes.RegType.{RegType}
use Rattle.flat_ir.specs.declared.nodes.RegType.TheVariants as type
use Rattle.ir_tree.specs.declared.constants.ValueForm.{ValueForm}
use Rattle.ir_tree.specs.declared.constants.ValueForm.TheVariants as forms
use Rattle.ir_tree.specs.declared.types.Name.{Name}
use Rattle.ir_tree.specs.declared.instructions.Index.{Index}
use Rattle.ir_tree.specs.declared.module.FunctionDefinition.{FunctionDefinition}
use Rattle.ir_tree.specs.declared.module.IrTree.{IrTree}
use Rattle.ir_programs.specs.Parts.{Written, written}
use Rattle.ir_programs.specs.Causes.{bits_of}
use Rattle.ir_programs.specs.Registers.{register_of, global_of}
use Rattle.ir_programs.specs.Addresses.{gep_offset, Step}

abbrev pub number : ℕ → ℕ → Operand
number width bits = operand.Int (record { width = width; bits = bits })

-- a number where a pointer is needed has 64 bits, and is refused
abbrev pub width_or_64 : RegType → ℕ
width_or_64 (type.Int width) = width
width_or_64 type.Ptr = 64

-- what has no value of its own is 0 or null
abbrev pub zero_operand : RegType → Operand
zero_operand (type.Int width) = number width 0
zero_operand type.Ptr = operand.Null

-- the operand of a value for which a type is written
abbrev pub form_operand : IrTree → FunctionDefinition → RegType → ValueForm → Operand
form_operand t f kind (forms.Local name) = operand.Reg (register_of f name)
form_operand t f kind (forms.Global name) = operand.Global (global_of t name) 0
form_operand t f kind (forms.Int n) = number (width_or_64 kind) (bits_of (width_or_64 kind) n)
form_operand t f kind forms.True = number 1 1
form_operand t f kind forms.False = number 1 0
form_operand t f kind forms.Null = operand.Null
form_operand t f kind forms.Undef = zero_operand kind
form_operand t f kind forms.Poison = zero_operand kind
form_operand t f kind forms.ZeroInitializer = zero_operand kind
form_operand t f kind (forms.Gep g) = operand.Global (global_of t g.base.text) (gep_offset t.types g)

abbrev pub operand_of : IrTree → FunctionDefinition → Written → Operand
operand_of t f w = form_operand t f w.kind w.value.form

abbrev pub operands_of : IrTree → FunctionDefinition → List Written → List Operand
operands_of t f ws = map (operand_of t f) ws

-- the register that a name in front of an instruction is
abbrev pub register_in : FunctionDefinition → Option Name → Option RegId
register_in f (Some name) = Some (register_of f name.text)
register_in f None = None

abbrev pub register_or_first : Option RegId → RegId
register_or_first (Some r) = r
register_or_first None = record { 0 = 0 }

-- the register that an instruction sets; in a tree that was read each that gives a value has a name
abbrev pub result_of : FunctionDefinition → Option Name → RegId
result_of f name = register_or_first (register_in f name)

abbrev pub step_of : IrTree → FunctionDefinition → Index → Step
step_of t f i = record { form = i.value.form; operand = operand_of t f (written (type.Int i.width) i.value) }
