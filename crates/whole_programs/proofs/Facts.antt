-- What a readable tree without refusals says of each function and of each block.
use Rattle.std.proofs.Common.{◌≡◌, ℕ, ◌<◌, true, not, ◌||◌, List, ◌++◌, None}
use Rattle.std.specs.Prelude.{map}
use Rattle.std.specs.Option.{is_some}
use Rattle.std.specs.List.{AllByRecursion, flat_map, list_all}
use Rattle.ir_tree.specs.declared.types.Name.{Name}
use Rattle.ir_tree.specs.declared.types.IrType.{IrType}
use Rattle.ir_tree.specs.declared.constants.Value.{Value}
use Rattle.ir_tree.specs.declared.instructions.Block.{Block}
use Rattle.ir_tree.specs.declared.instructions.Instruction.{Instruction}
use Rattle.ir_tree.specs.declared.instructions.Phi.{Phi}
use Rattle.ir_tree.specs.declared.module.FunctionDefinition.{FunctionDefinition}
use Rattle.ir_tree.specs.declared.module.GlobalDefinition.{GlobalDefinition}
use Rattle.ir_tree.specs.declared.module.TypeDefinition.{TypeDefinition}
use Rattle.ir_tree.specs.declared.module.IrTree.{IrTree}
use Rattle.prelude.specs.Primitives.{primitive_of}
use Rattle.ir_programs.specs.Texts.{among}
use Rattle.ir_programs.specs.Parts.{Written, operation_values, operation_types, phi_values, terminator_values, block_values, function_values, constant_values, module_values, types_in, function_types, constant_types, value_types, callees, instruction_callees, block_callees, function_callees}
use Rattle.ir_programs.specs.Locals.{register_names}
use Rattle.ir_programs.specs.Uses.{is_global, is_function, form_locals, form_globals}
use Rattle.ir_programs.specs.Registers.{function_of}
use Rattle.ir_programs.specs.Readable.{has_widths, is_readable_constant, gives_value, is_readable_operation, is_readable_instruction, is_readable_block, is_readable_header, has_block, is_readable_function, is_readable}
use Rattle.whole_programs.proofs.Lists.{right_true, weaker, with_both, each_front, each_back, of_mapped, of_flat, listed}
use Rattle.whole_programs.proofs.Types.{IsSmall, itself}
use Rattle.whole_programs.proofs.Names.{each_among}
use Rattle.whole_programs.proofs.Refused.{HoldsAll, each_global, each_register, each_callee, each_small}
use Rattle.whole_programs.proofs.Operands.{KnowsGlobals, KnowsRegisters, IsKnown, AreKnown}
use Rattle.whole_programs.proofs.Instructions.{IsSet, IsCallable, IsPlaced}
use Rattle.whole_programs.proofs.Blocks.{IsPhi, IsBlock}
use Rattle.whole_programs.proofs.Callees.{is_callee}
use Rattle.whole_programs.proofs.Registers.{block_parts, HasNames, blocks_named}

paired : {A : Type 0} (P Q : A → Type 0) (xs : List A) → AllByRecursion P xs → AllByRecursion Q xs → AllByRecursion (λ x. P x × Q x) xs
paired P Q xs h k = with_both P Q (λ x. P x × Q x) (λ x a b. (a, b)) xs h k

-- ---- functions

pub record IsFine (t : IrTree) (funcs : ℕ) (f : FunctionDefinition) : Type 0 where
  pub globals : AllByRecursion (KnowsGlobals t) (function_values f)
  pub registers : AllByRecursion (KnowsRegisters f) (function_values f)
  pub small : AllByRecursion (IsSmall t.types) (function_types f)
  pub callees : AllByRecursion (IsCallable t funcs) (function_callees f)
  pub readable : is_readable_function f ≡ true

module _ (t : IrTree) (h : HoldsAll t) where
  values_know : AllByRecursion (KnowsGlobals t) (module_values t)
  values_know = of_flat (λ (n : Name). is_global t n.text ≡ true) (λ (v : Value). form_globals v.at v.form) (module_values t) (each_global t h)

  abbrev whole_types : List IrType
  whole_types = map (λ (d : TypeDefinition). d.kind) t.types ++ (flat_map (λ (g : GlobalDefinition). constant_types g.value) t.globals ++ (flat_map function_types t.functions ++ flat_map value_types (module_values t)))

  abbrev behind_types : List IrType
  behind_types = flat_map (λ (g : GlobalDefinition). constant_types g.value) t.globals ++ (flat_map function_types t.functions ++ flat_map value_types (module_values t))

  types_small : AllByRecursion (IsSmall t.types) behind_types
  types_small =
      each_back (IsSmall t.types) (map (λ (d : TypeDefinition). d.kind) t.types) behind_types
      (weaker (λ (u : IrType) k. itself (IsSmall t.types) u k) whole_types (of_flat (IsSmall t.types) types_in whole_types (each_small t h)))

  -- what is said of globals
  pub globals_know : AllByRecursion (λ (g : GlobalDefinition). AllByRecursion (KnowsGlobals t) (constant_values g.value)) t.globals
  globals_know =
      of_flat (KnowsGlobals t) (λ (g : GlobalDefinition). constant_values g.value) t.globals
      (each_front (KnowsGlobals t) (flat_map (λ (g : GlobalDefinition). constant_values g.value) t.globals) (flat_map function_values t.functions) values_know)

  pub globals_small : AllByRecursion (λ (g : GlobalDefinition). AllByRecursion (IsSmall t.types) (constant_types g.value)) t.globals
  globals_small =
      of_flat (IsSmall t.types) (λ (g : GlobalDefinition). constant_types g.value) t.globals
      (each_front (IsSmall t.types) (flat_map (λ (g : GlobalDefinition). constant_types g.value) t.globals) (flat_map function_types t.functions ++ flat_map value_types (module_values t)) types_small)

  -- what is said of functions
  functions_know : AllByRecursion (λ (f : FunctionDefinition). AllByRecursion (KnowsGlobals t) (function_values f)) t.functions
  functions_know =
      of_flat (KnowsGlobals t) function_values t.functions
      (each_back (KnowsGlobals t) (flat_map (λ (g : GlobalDefinition). constant_values g.value) t.globals) (flat_map function_values t.functions) values_know)

  functions_own : AllByRecursion (λ (f : FunctionDefinition). AllByRecursion (KnowsRegisters f) (function_values f)) t.functions
  functions_own =
      weaker (λ (f : FunctionDefinition) k. of_flat (λ (n : Name). among n.text (register_names f) ≡ true) (λ (v : Value). form_locals v.at v.form) (function_values f) k) t.functions (each_register t h)

  functions_small : AllByRecursion (λ (f : FunctionDefinition). AllByRecursion (IsSmall t.types) (function_types f)) t.functions
  functions_small =
      of_flat (IsSmall t.types) function_types t.functions
      (each_front (IsSmall t.types) (flat_map function_types t.functions) (flat_map value_types (module_values t))
      (each_back (IsSmall t.types) (flat_map (λ (g : GlobalDefinition). constant_types g.value) t.globals) (flat_map function_types t.functions ++ flat_map value_types (module_values t)) types_small))

  module _ (funcs : ℕ) (callee_in : (name : List ℕ) → is_function t name ≡ true → is_callee t name ≡ true → primitive_of name ≡ None → (function_of t name).0 < funcs) where
    functions_call : AllByRecursion (λ (f : FunctionDefinition). AllByRecursion (IsCallable t funcs) (function_callees f)) t.functions
    functions_call =
        of_flat (IsCallable t funcs) function_callees t.functions
        (with_both (λ (n : Name). is_function t n.text ≡ true) (λ (n : Name). is_callee t n.text ≡ true) (IsCallable t funcs) (λ n a b. callee_in n.text a b) (flat_map function_callees t.functions) (each_callee t h)
        (each_among (flat_map function_callees t.functions)))

    pub functions_fine : is_readable t ≡ true → AllByRecursion (IsFine t funcs) t.functions
    functions_fine readable =
        let functions = right_true (list_all (λ (g : GlobalDefinition). is_readable_constant g.value) t.globals) (list_all is_readable_function t.functions) (right_true (list_all (λ (d : TypeDefinition). has_widths d.kind) t.types) _ readable) in
        let names = paired (λ (f : FunctionDefinition). AllByRecursion (KnowsGlobals t) (function_values f)) (λ (f : FunctionDefinition). AllByRecursion (KnowsRegisters f) (function_values f)) t.functions functions_know functions_own in
        let parts = paired (λ (f : FunctionDefinition). AllByRecursion (IsSmall t.types) (function_types f)) (λ (f : FunctionDefinition). AllByRecursion (IsCallable t funcs) (function_callees f)) t.functions functions_small functions_call in
        let all = paired (λ (f : FunctionDefinition). AllByRecursion (KnowsGlobals t) (function_values f) × AllByRecursion (KnowsRegisters f) (function_values f))
        (λ (f : FunctionDefinition). AllByRecursion (IsSmall t.types) (function_types f) × AllByRecursion (IsCallable t funcs) (function_callees f)) t.functions names parts in
        with_both (λ (f : FunctionDefinition). (AllByRecursion (KnowsGlobals t) (function_values f) × AllByRecursion (KnowsRegisters f) (function_values f)) × (AllByRecursion (IsSmall t.types) (function_types f) × AllByRecursion (IsCallable t funcs) (function_callees f)))
        (λ (f : FunctionDefinition). is_readable_function f ≡ true) (IsFine t funcs)
        (λ f a b. record { globals = a.0.0; registers = a.0.1; small = a.1.0; callees = a.1.1; readable = b }) t.functions all (listed is_readable_function t.functions functions)

-- ---- blocks

abbrev typed_in : Block → List IrType
typed_in b = flat_map (λ (i : Instruction). operation_types i.operation) b.instructions

record IsPart (t : IrTree) (f : FunctionDefinition) (funcs : ℕ) (b : Block) : Type 0 where
  values : AreKnown t f (block_values b)
  small : AllByRecursion (IsSmall t.types) (typed_in b)
  callees : AllByRecursion (IsCallable t funcs) (block_callees b)
  names : HasNames f b

part_is : (t : IrTree) (f : FunctionDefinition) (funcs : ℕ) (b : Block) → IsPart t f funcs b → is_readable_block b ≡ true → IsBlock t f funcs b
part_is t f funcs b p readable =
    let Known = λ (w : Written). IsKnown t f w.value in
    let phis = flat_map phi_values b.phis in
    let instructions = flat_map (λ (i : Instruction). operation_values i.operation) b.instructions in
    let behind = each_back Known phis (instructions ++ terminator_values b.terminator.form) p.values in
    let values = of_flat Known (λ (i : Instruction). operation_values i.operation) b.instructions (each_front Known instructions (terminator_values b.terminator.form) behind) in
    let small = of_flat (IsSmall t.types) (λ (i : Instruction). operation_types i.operation) b.instructions p.small in
    let called = of_flat (IsCallable t funcs) instruction_callees b.instructions p.callees in
    let tests = listed is_readable_instruction b.instructions (block_parts b readable).1 in
    record {
      phis =
          with_both (λ (x : Phi). AreKnown t f (phi_values x)) (λ (x : Phi). among x.result.text (register_names f) ≡ true) (IsPhi t f) (λ x a c. record { values = a; named = c }) b.phis
          (of_flat Known phi_values b.phis (each_front Known phis (instructions ++ terminator_values b.terminator.form) p.values)) p.names.phis;
      instructions =
          with_both (λ (i : Instruction). AreKnown t f (operation_values i.operation) × IsSet f i.result)
          (λ (i : Instruction). (is_readable_instruction i ≡ true) × (AllByRecursion (IsSmall t.types) (operation_types i.operation) × AllByRecursion (IsCallable t funcs) (callees i.operation))) (IsPlaced t f funcs)
          (λ i a c. record { values = a.0; result = a.1; named = right_true (is_readable_operation i.operation) (not (gives_value i.operation) || is_some i.result) c.0; small = c.1.0; callees = c.1.1 }) b.instructions
          (paired (λ (i : Instruction). AreKnown t f (operation_values i.operation)) (λ (i : Instruction). IsSet f i.result) b.instructions values p.names.instructions)
          (paired (λ (i : Instruction). is_readable_instruction i ≡ true) (λ (i : Instruction). AllByRecursion (IsSmall t.types) (operation_types i.operation) × AllByRecursion (IsCallable t funcs) (callees i.operation)) b.instructions tests
          (paired (λ (i : Instruction). AllByRecursion (IsSmall t.types) (operation_types i.operation)) (λ (i : Instruction). AllByRecursion (IsCallable t funcs) (callees i.operation)) b.instructions small called));
      terminator = each_back Known instructions (terminator_values b.terminator.form) behind;
    }

parts_are : (t : IrTree) (f : FunctionDefinition) (funcs : ℕ) → IsFine t funcs f → AllByRecursion (IsPart t f funcs) f.blocks
parts_are t f funcs h =
    let known = with_both (KnowsGlobals t) (KnowsRegisters f) (IsKnown t f) (λ v a b. record { globals = a; registers = b }) (function_values f) h.globals h.registers in
    let values = of_flat (λ (w : Written). IsKnown t f w.value) block_values f.blocks (of_mapped (IsKnown t f) (λ (w : Written). w.value) (flat_map block_values f.blocks) known) in
    let small = of_flat (IsSmall t.types) typed_in f.blocks h.small in
    let called = of_flat (IsCallable t funcs) block_callees f.blocks h.callees in
    with_both (λ (b : Block). AreKnown t f (block_values b) × AllByRecursion (IsSmall t.types) (typed_in b)) (λ (b : Block). AllByRecursion (IsCallable t funcs) (block_callees b) × HasNames f b) (IsPart t f funcs)
    (λ b a c. record { values = a.0; small = a.1; callees = c.0; names = c.1 }) f.blocks
    (paired (λ (b : Block). AreKnown t f (block_values b)) (λ (b : Block). AllByRecursion (IsSmall t.types) (typed_in b)) f.blocks values small)
    (paired (λ (b : Block). AllByRecursion (IsCallable t funcs) (block_callees b)) (λ (b : Block). HasNames f b) f.blocks called (blocks_named f))

pub blocks_are : (t : IrTree) (f : FunctionDefinition) (funcs : ℕ) → IsFine t funcs f → AllByRecursion (IsBlock t f funcs) f.blocks
blocks_are t f funcs h =
    let blocks = right_true (has_block f.blocks) (list_all is_readable_block f.blocks) (right_true (is_readable_header f.header) _ h.readable) in
    with_both (IsPart t f funcs) (λ (b : Block). is_readable_block b ≡ true) (IsBlock t f funcs) (λ b a c. part_is t f funcs b a c) f.blocks (parts_are t f funcs h) (listed is_readable_block f.blocks blocks)
