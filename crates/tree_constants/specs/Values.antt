-- The values of a tree, as they are collected.
use Rattle.std.specs.Prelude.{List, ◌++◌, map}
use Rattle.std.specs.Borrow.{Bor}
use Rattle.std.specs.List.{flat_map}
use Rattle.ir_tree.specs.declared.constants.Value.{Value}
use Rattle.ir_tree.specs.declared.instructions.Block.{Block}
use Rattle.ir_tree.specs.declared.instructions.Instruction.{Instruction}
use Rattle.ir_tree.specs.declared.instructions.Phi.{Phi}
use Rattle.ir_programs.specs.Parts.{Written, phi_values, operation_values, terminator_values}

-- what is lent
abbrev pub lent : List (Bor Value) → List Value
lent rs = map (λ r. r.now) rs

-- values without the types that are written for them
abbrev pub bare : List Written → List Value
bare ws = map (λ w. w.value) ws

abbrev pub values_of_phi : Phi → List Value
values_of_phi p = bare (phi_values p)

abbrev pub values_of_instruction : Instruction → List Value
values_of_instruction i = bare (operation_values i.operation)

abbrev pub values_of_block : Block → List Value
values_of_block b = flat_map values_of_phi b.phis ++ (flat_map values_of_instruction b.instructions ++ bare (terminator_values b.terminator.form))
