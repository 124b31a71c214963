use Rattle.std.proofs.Common.{subst}
use Rattle.terms.specs.Tree.{IsTree}
use Rattle.terms.specs.Nodes.{tree_of}
use Rattle.terms.proofs.Numbers.{fits_one, fits_two}
use Rattle.terms.proofs.evaluate.+value.Goals as goal

pub one_of-requires : goal.one_of-requires
one_of-requires g t c =
    rw c.value.ensures (fits_one c.in-One.op c.in-One.a c.args.input.now (subst (λ n. IsTree (tree_of n)) c.in-One.is c.node.ensures.parts))

pub two_of-requires : goal.two_of-requires
two_of-requires g t c =
    rw (c.value-in-Two.ensures, c.value-in-Two-2.ensures)
    (fits_two c.in-Two.op c.in-Two.a c.in-Two.b c.args.input.now (subst (λ n. IsTree (tree_of n)) c.in-Two.is c.node.ensures.parts))
