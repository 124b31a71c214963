-- Worked examples: what is answered of small modules.
use Rattle.std.proofs.Common.{◌≡◌, ℕ, List, [], ◌∷◌, Some, None, refl}
use Rattle.std.specs.Prelude.{codes}
use Rattle.std.specs.Fmt.{digits}
use Rattle.flat_ir.specs.declared.nodes.Node.TheVariants as node
use Rattle.flat_ir.specs.declared.nodes.Operand.TheVariants as operand
use Rattle.flat_ir.specs.declared.nodes.RegType.TheVariants as type
use Rattle.ir_tree.specs.declared.types.IrType.TheVariants as types
use Rattle.ir_tree.specs.declared.constants.ValueForm.TheVariants as forms
use Rattle.ir_tree.specs.declared.constants.Value.{Value}
use Rattle.ir_tree.specs.declared.instructions.Operation.TheVariants as operations
use Rattle.ir_tree.specs.declared.instructions.TerminatorForm.TheVariants as terminators
use Rattle.ir_tree.specs.declared.instructions.Instruction.{Instruction}
use Rattle.ir_tree.specs.declared.module.IrTree.{IrTree}
use Rattle.ir_programs.specs.declared.refusals.Cause.TheVariants.{UnknownName, UnknownFunction, MainParameters, WrongNumber}
use Rattle.ir_programs.specs.Answers.{answer, Resolved, Refused}
use Rattle.ir_programs.proofs.SmallTrees.{out_int, named_at, local, count, parameter, block, function, only}

-- main with these instructions, which returns a value
abbrev main_of : List ℕ → List Instruction → Value → IrTree
main_of label instructions value =
    only (function (codes "main") (Some (types.Int 32)) [] (block label [] instructions (terminators.Return (Some (record { kind = types.Int 32; value = value }))) ∷ []) ∷ [])

-- i32 @main() { ret i32 7 }
one_return : answer (main_of (codes "0") [] (count 7)) ≡ Resolved (record {
  globals = [];
  funcs = record {
    name = codes "main";
    params = 0;
    regs = [];
    reg_names = [];
    result = Some (type.Int 32);
    nodes = node.Ret (Some (operand.Int (record { width = 32; bits = 7 }))) ∷ [];
    clashes = [];
    bad_edges = [];
  } ∷ [];
  main = record { 0 = 0 };
  defined = 1;
})
unfolding digits
one_return = simp out_int

-- a register that isn't there, at place 20
an_unknown_register : answer (main_of (codes "e") [] (record { at = 20; form = forms.Local (codes "x") })) ≡ Refused (record { at = 20; cause = UnknownName })
an_unknown_register = simp out_int

-- a block is no register
a_block_as_a_value : answer (main_of (codes "e") [] (record { at = 20; form = forms.Local (codes "e") })) ≡ Refused (record { at = 20; cause = UnknownName })
a_block_as_a_value = simp out_int

-- a function that is only declared isn't known; its call stands at place 15, before an unknown register
an_unknown_function : answer (main_of (codes "e") (record { at = 9; result = None; operation = operations.Call None (named_at 15 (codes "foo")) [] } ∷ [])
    (record { at = 20; form = forms.Local (codes "x") })) ≡ Refused (record { at = 15; cause = UnknownFunction })
an_unknown_function = simp out_int

-- the first block would have number 0
a_wrong_number : answer (only (function (codes "main") (Some (types.Int 32)) [] (record {
  label = Some (named_at 30 (codes "1"));
  phis = [];
  instructions = [];
  terminator = record { at = 40; form = terminators.Return (Some (record { kind = types.Int 32; value = count 0 })) };
} ∷ []) ∷ [])) ≡ Refused (record { at = 30; cause = WrongNumber })
unfolding digits
a_wrong_number = simp out_int

main_with_a_parameter : answer (only (function (codes "main") (Some (types.Int 32)) (parameter (types.Int 32) (codes "x") ∷ [])
    (block (codes "e") [] [] (terminators.Return (Some (record { kind = types.Int 32; value = local (codes "x") }))) ∷ []) ∷ [])) ≡ Refused (record { at = 0; cause = MainParameters })
main_with_a_parameter = refl
