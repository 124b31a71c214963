use Rattle.std.proofs.Common.{◌≡◌, ◌++◌, take, map}
use Rattle.ir_tree.specs.Spelling as spelling
use Rattle.tree_fits.proofs.spelled.+types.Given as goal

abbrev pub invariant-push_types-loop-index : goal.invariant-push_types-loop-index
invariant-push_types-loop-index l = l.tokens.items ≡ l.fn.tokens.items ++ spelling.separated (map spelling.type_tokens (take l.index l.kinds))
