use Rattle.std.proofs.Common.{◌≡◌, map, take}
use Rattle.ir_tree.specs.Spelling.{joined}
use Rattle.ir_tree.specs.Pages.{after}
use Rattle.ir_tree.proofs.printing.spelled.put_joined.Given as goal

abbrev pub invariant-loop-item : goal.invariant-loop-item
invariant-loop-item g l = l.page ≡ after l.fn.page (joined (map g.T.Spelled.tokens (take l.item-index l.items)))
