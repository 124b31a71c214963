-- What is found of a constant.
use Rattle.std.specs.Prelude.{List}
use Rattle.ir_tree.specs.declared.constants.Constant.{Constant, fold-Constant}
use Rattle.ir_tree.specs.declared.module.TypeDefinition.{TypeDefinition}
use Rattle.ir_programs.specs.Constants.{Judged, judged_level}

-- a constant's type, and the places in it where something doesn't fit
unfoldable pub judged : List TypeDefinition → Constant → Judged
judged defined c = fold-Constant Judged (judged_level defined) c
