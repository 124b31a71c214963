use Rattle.std.proofs.Common.{◌≡◌, map, take}
use Rattle.ir_tree.specs.Spelling.{constant_tokens, separated}
use Rattle.ir_tree.specs.Pages.{after}
use Rattle.ir_tree.proofs.printing.operands.+constants.Given as goal

abbrev pub invariant-put_constants-loop-index : goal.invariant-put_constants-loop-index
invariant-put_constants-loop-index l = l.page ≡ after l.fn.page (separated (map constant_tokens (take l.index l.constants)))
