use Rattle.std.proofs.Common.{◌≡◌, ◌++◌, drop, map}
use Rattle.ir_tree.specs.Spelling as spelling
use Rattle.tree_fits.proofs.spelled.push_indices.Given as goal

abbrev pub invariant-loop-index : goal.invariant-loop-index
invariant-loop-index l = l.tokens.items ++ spelling.others (map spelling.const_index_tokens (drop l.index-index l.indices)) ≡ l.initial.tokens.items ++ spelling.others (map spelling.const_index_tokens l.indices)
