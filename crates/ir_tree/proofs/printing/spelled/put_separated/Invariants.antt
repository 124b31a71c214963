use Rattle.std.proofs.Common.{◌≡◌, map, take}
use Rattle.ir_tree.specs.Spelling.{separated}
use Rattle.ir_tree.specs.Pages.{after}
use Rattle.ir_tree.proofs.printing.spelled.put_separated.Given as goal

abbrev pub invariant-loop-index : goal.invariant-loop-index
invariant-loop-index g l = l.page ≡ after l.fn.page (separated (map g.T.Spelled.tokens (take l.index l.items)))
