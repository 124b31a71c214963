use Rattle.std.proofs.Common.{◌∙◌, List, ap}
use Rattle.ir_tree.specs.declared.module.TypeDefinition.{TypeDefinition}
use Rattle.ir_programs.specs.Constants.{head_of}
use Rattle.tree_constants.specs.Heads.{has_width}
use Rattle.tree_constants.proofs.Heads.{head_has}
use Rattle.tree_constants.proofs.bytes.push_typed.Goals as goal

pub push_integer-requires : goal.push_integer-requires
push_integer-requires c =
    ap has_width (c.head_of-head.ensures ∙ ap (λ (ts : List TypeDefinition). head_of ts c.args.kind.now) c.as_slice-types.ensures)
    ∙ head_has c.args.tree.now.types c.requires.types c.args.kind.now c.requires.kind
