-- The tree that a node stands for, whose parts are trees already.
use Rattle.terms.specs.declared.term.Node.{Node}
use Rattle.terms.specs.declared.term.Node.TheVariants.{Constant, Input, One, Two, Choice}
use Rattle.terms.specs.Tree.{Tree, constant, input, one, two, choice}

abbrev pub tree_of : {X : Type 0} → Node X → Tree
tree_of (Constant n) = constant n
tree_of (Input k) = input k
tree_of (One op a) = one op a
tree_of (Two op a b) = two op a b
tree_of (Choice c a b) = choice c a b
