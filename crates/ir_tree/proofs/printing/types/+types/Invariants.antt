use Rattle.std.proofs.Common.{◌≡◌, map, take}
use Rattle.ir_tree.specs.Spelling.{type_tokens, separated}
use Rattle.ir_tree.specs.Pages.{after}
use Rattle.ir_tree.proofs.printing.types.+types.Given as goal

abbrev pub invariant-put_types-loop-index : goal.invariant-put_types-loop-index
invariant-put_types-loop-index l = l.page ≡ after l.fn.page (separated (map type_tokens (take l.index l.kinds)))
