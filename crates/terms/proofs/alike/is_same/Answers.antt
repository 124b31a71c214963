use Rattle.terms.specs.Same.{same_from_exact}
use Rattle.terms.proofs.alike.is_same.Goals as goal

pub returns : goal.returns
returns g c = same_from_exact c.same.result c.args.a.now c.args.b.now c.same.ensures
