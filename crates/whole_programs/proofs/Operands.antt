-- Operands: each value whose names are known is an operand that names registers and globals that there are.
use Rattle.std.proofs.Common.{◌≡◌, ℕ, ◌<◌, Bool, true, List, [], ◌∷◌, Option, Some, None}
use Rattle.std.specs.Prelude.{slice_get}
use Rattle.std.specs.List.{AllByRecursion, flat_map}
use Rattle.flat_ir.specs.declared.nodes.GepPart.{GepPart}
use Rattle.flat_ir.specs.declared.nodes.Operand.{Operand}
use Rattle.flat_ir.specs.declared.nodes.RegType.{RegType}
use Rattle.flat_ir.specs.declared.nodes.RegType.TheVariants as type
use Rattle.flat_ir.specs.Whole.{OperandIn, operands_of_part}
use Rattle.ir_tree.specs.declared.types.Name.{Name}
use Rattle.ir_tree.specs.declared.types.IrType.{IrType}
use Rattle.ir_tree.specs.declared.types.IrType.TheOpen.{IrType-F}
use Rattle.ir_tree.specs.declared.constants.Value.{Value}
use Rattle.ir_tree.specs.declared.constants.ValueForm.{ValueForm}
use Rattle.ir_tree.specs.declared.constants.ValueForm.TheVariants as forms
use Rattle.ir_tree.specs.declared.module.FunctionDefinition.{FunctionDefinition}
use Rattle.ir_tree.specs.declared.module.IrTree.{IrTree}
use Rattle.ir_tree.specs.declared.module.TypeDefinition.{TypeDefinition}
use Rattle.ir_programs.specs.Texts.{among}
use Rattle.ir_programs.specs.Parts.{Written}
use Rattle.ir_programs.specs.Constants.{head_of}
use Rattle.ir_programs.specs.Locals.{register_names}
use Rattle.ir_programs.specs.Uses.{is_global, form_locals, form_globals}
use Rattle.ir_programs.specs.Registers.{number_of, global_of}
use Rattle.ir_programs.specs.Addresses.{Step, Part, field_part, constant_of, constant_field, part_of, parts_within, parts_of}
use Rattle.ir_programs.specs.Operands.{zero_operand, form_operand, operand_of, operands_of}
use Rattle.ir_programs.specs.Calls.{argument}
use Rattle.whole_programs.proofs.Lists.{to_flat}

-- the globals, and the registers, that a value names are known
abbrev pub KnowsGlobals : IrTree → Value → Type 0
KnowsGlobals t v = AllByRecursion (λ (n : Name). is_global t n.text ≡ true) (form_globals v.at v.form)

abbrev pub KnowsRegisters : FunctionDefinition → Value → Type 0
KnowsRegisters f v = AllByRecursion (λ (n : Name). among n.text (register_names f) ≡ true) (form_locals v.at v.form)

pub record IsKnown (t : IrTree) (f : FunctionDefinition) (v : Value) : Type 0 where
  pub globals : KnowsGlobals t v
  pub registers : KnowsRegisters f v

abbrev pub AreKnown : IrTree → FunctionDefinition → List Written → Type 0
AreKnown t f ws = AllByRecursion (λ (w : Written). IsKnown t f w.value) ws

module _ (t : IrTree) (f : FunctionDefinition) (globals regs : ℕ) (global_in : (name : List ℕ) → is_global t name ≡ true → global_of t name < globals)
    (register_in : (name : List ℕ) → among name (register_names f) ≡ true → number_of name (register_names f) < regs) where
  abbrev pub In : Operand → Type 0
  In o = OperandIn globals regs o

  zero_in : (kind : RegType) → In (zero_operand kind)
  zero_in (type.Int width) = tt
  zero_in type.Ptr = tt

  form_in : (kind : RegType) (at : ℕ) (form : ValueForm) → AllByRecursion (λ (n : Name). is_global t n.text ≡ true) (form_globals at form) → AllByRecursion (λ (n : Name). among n.text (register_names f) ≡ true) (form_locals at form)
      → In (form_operand t f kind form)
  form_in kind at (forms.Local name) g l = register_in name l.0
  form_in kind at (forms.Global name) g l = global_in name g.0
  form_in kind at (forms.Int n) g l = tt
  form_in kind at forms.True g l = tt
  form_in kind at forms.False g l = tt
  form_in kind at forms.Null g l = tt
  form_in kind at forms.Undef g l = zero_in kind
  form_in kind at forms.Poison g l = zero_in kind
  form_in kind at forms.ZeroInitializer g l = zero_in kind
  form_in kind at (forms.Gep e) g l = global_in e.base.text g.0

  pub operand_in : (w : Written) → IsKnown t f w.value → In (operand_of t f w)
  operand_in w h = form_in w.kind w.value.at w.value.form h.globals h.registers

  pub operands_in : (ws : List Written) → AreKnown t f ws → AllByRecursion In (operands_of t f ws)
  operands_in [] h = tt
  operands_in (w ∷ ws) h = (operand_in w h.0, operands_in ws h.1)

  pub argument_in : (args : List Operand) → AllByRecursion In args → In (argument 0 args)
  argument_in [] h = tt
  argument_in (a ∷ args) h = h.0

  -- ---- pointers

  abbrev StepIn : Step → Type 0
  StepIn s = In s.operand

  abbrev PartIn : GepPart → Type 0
  PartIn p = AllByRecursion In (operands_of_part p)

  abbrev OnPart : Option Part → Type 0
  OnPart (Some p) = PartIn p.part
  OnPart None = Unit {0}

  field_in : (defined : List TypeDefinition) (fields : List IrType) (packed : Bool) (k : ℕ) (o : Option IrType) → OnPart (field_part defined fields packed k o)
  field_in defined fields packed k (Some inner) = tt
  field_in defined fields packed k None = tt

  constant_in : (defined : List TypeDefinition) (fields : List IrType) (packed : Bool) (o : Option ℕ) → OnPart (constant_field defined fields packed o)
  constant_in defined fields packed (Some k) = field_in defined fields packed k (slice_get fields k)
  constant_in defined fields packed None = tt

  part_in : (defined : List TypeDefinition) (x : IrType-F IrType) (s : Step) → StepIn s → OnPart (part_of defined x s)
  part_in defined (IrType-F.Array at len element) s h = (h, tt)
  part_in defined (IrType-F.Struct at fields packed) s h = constant_in defined fields packed (constant_of s.form)
  part_in defined (IrType-F.Int n) s h = tt
  part_in defined IrType-F.Ptr s h = tt
  part_in defined (IrType-F.Named name at) s h = tt

  within_in : (defined : List TypeDefinition) (ss : List Step) → AllByRecursion StepIn ss → (u : IrType) → AllByRecursion PartIn (parts_within defined u ss)
  within_in defined [] h u = tt
  within_in defined (s ∷ ss) h u = go (within_in defined ss h.1) (part_of defined (head_of defined u) s) (part_in defined (head_of defined u) s h.0)
    where
      go : ((v : IrType) → AllByRecursion PartIn (parts_within defined v ss)) → (o : Option Part) → OnPart o → AllByRecursion PartIn (elim o [ None ↦ [] | Some p ↦ p.part ∷ parts_within defined p.inner ss ])
      go more (Some p) k = (k, more p.inner)
      go more None k = tt

  pub parts_in : (defined : List TypeDefinition) (source : IrType) (ss : List Step) → AllByRecursion StepIn ss → AllByRecursion In (flat_map operands_of_part (parts_of defined source ss))
  parts_in defined source [] h = tt
  parts_in defined source (s ∷ ss) h = (h.0, to_flat In operands_of_part (parts_within defined source ss) (within_in defined ss h.1 source))
