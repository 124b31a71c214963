-- What holds of each part of a node holds of all of its operands.
use Rattle.std.specs.Prelude.{All, map}
use Rattle.std.specs.List.{flat_map, AllByRecursion as Each}
use Rattle.std.proofs.Common.{List, [], ◌∷◌}
use Rattle.std.proofs.lemmas.List.Elements.{recursion_from_All, All-from_recursion}
use Rattle.flat_ir.specs.declared.nodes.GepPart.{GepPart}
use Rattle.flat_ir.specs.declared.nodes.MoveSet.{MoveSet}
use Rattle.flat_ir.specs.Whole.{operands_of_part}
use Rattle.flat_ir.proofs.MadeBasics.{each_append}
use Rattle.typed_runs.specs.FittingRuns.{OperandFits}

parts_each : (ps : List GepPart) → Each (λ p. All OperandFits (operands_of_part p)) ps → Each OperandFits (flat_map operands_of_part ps)
parts_each [] all = tt
parts_each (p ∷ ps) all =
    each_append OperandFits (operands_of_part p) (flat_map operands_of_part ps) (recursion_from_All OperandFits (operands_of_part p) all.0) (parts_each ps all.1)

pub parts_all : (ps : List GepPart) → Each (λ p. All OperandFits (operands_of_part p)) ps → All OperandFits (flat_map operands_of_part ps)
parts_all ps all = All-from_recursion OperandFits (flat_map operands_of_part ps) (parts_each ps all)

sets_each : (ss : List MoveSet) → Each (λ s. OperandFits s.value) ss → Each OperandFits (map (λ s. s.value) ss)
sets_each [] all = tt
sets_each (s ∷ ss) all = (all.0, sets_each ss all.1)

pub sets_all : (ss : List MoveSet) → Each (λ s. OperandFits s.value) ss → All OperandFits (map (λ s. s.value) ss)
sets_all ss all = All-from_recursion OperandFits (map (λ s. s.value) ss) (sets_each ss all)
