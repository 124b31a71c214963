use Rattle.ir_grammar.proofs.each_text_is_decided.Goals as goal
use Rattle.ir_grammar.proofs.Decided.{one_tree, decided, never_both, once}

pub returns-clause-one_tree : goal.returns-clause-one_tree
returns-clause-one_tree c = one_tree

pub returns-clause-decided : goal.returns-clause-decided
returns-clause-decided c = decided

pub returns-clause-not_both : goal.returns-clause-not_both
returns-clause-not_both c = never_both

pub returns-clause-refused_once : goal.returns-clause-refused_once
returns-clause-refused_once c = once
