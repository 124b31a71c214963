use Rattle.terms.specs.declared.term.Unary.TheVariants.{Byte}
use Rattle.terms.specs.Tree.{one}
use Rattle.terms.specs.Same.{same_from_exact}
use Rattle.terms.proofs.joins.is_byte.Goals as goal

pub returns : goal.returns
returns g c = same_from_exact c.is_byte_of.result (one (Byte c.args.j) c.args.whole.now) c.args.t.now c.is_byte_of.ensures
