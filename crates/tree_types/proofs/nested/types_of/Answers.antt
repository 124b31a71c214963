use Rattle.std.proofs.Common.{◌∙◌, ◌++◌, List, Bor, map, ap}
use Rattle.std.specs.List.{flat_map}
use Rattle.ir_programs.specs.Parts.{types_in}
use Rattle.ir_tree.specs.declared.types.IrType.{IrType}
use Rattle.tree_types.proofs.Within.{pieces_are}
use Rattle.tree_types.proofs.nested.types_of.Goals as goal

pub returns : goal.returns
returns c =
    let seen : List (Bor IrType) → List IrType = λ rs. map (λ (r : Bor IrType). r.now) rs in
    c.in_ok-push_pieces.ensures
    ∙ (ap (λ (rs : List (Bor IrType)). seen rs ++ flat_map types_in (seen c.as_slice.result.now)) c.new-types.ensures.items
    ∙ (ap (λ (rs : List (Bor IrType)). flat_map types_in (seen rs)) c.as_slice.ensures.value
    ∙ (ap (λ (ts : List IrType). flat_map types_in ts) c.in_ok-pieces.ensures ∙ pieces_are c.args.tree.now)))
