-- A tree that is read from tokens is readable once its unnamed things are numbered.
use Rattle.std.specs.Prelude.{◌≡◌, true, List}
use Rattle.ir_tree.specs.declared.module.IrTree.{IrTree}
use Rattle.phrases.specs.Piece.{Piece}
use Rattle.ir_grammar.specs.Numbering.{numbered}
use Rattle.ir_grammar.specs.Laws.{IsModule}
use Rattle.ir_programs.specs.Readable.{is_readable}

abbrev pub TreesAreReadable : Type 0
TreesAreReadable = (spelled : IrTree) (ts : List Piece) → IsModule spelled ts → is_readable (numbered spelled) ≡ true
