use Rattle.std.proofs.Common.{subst}
use Rattle.terms.specs.Tree.{IsTree}
use Rattle.terms.specs.Nodes.{tree_of}
use Rattle.terms.proofs.Numbers.{fits_one, fits_two}
use Rattle.terms.proofs.evaluate.+value_in.Goals as goal

pub one_of-n-requires : goal.one_of-n-requires
one_of-n-requires g t c =
    rw c.in_ok-value_in-in-One.ensures.value (fits_one c.in-One.op c.in-One.a c.args.input.now (subst (λ n. IsTree (tree_of n)) c.in-One.is c.node.ensures.parts))

pub two_of-requires : goal.two_of-requires
two_of-requires g t c =
    rw (c.in_ok-m-in-Two.ensures.value, c.in_ok-n-in-Two.ensures.value)
    (fits_two c.in-Two.op c.in-Two.a c.in-Two.b c.args.input.now (subst (λ n. IsTree (tree_of n)) c.in-Two.is c.node.ensures.parts))
