use Rattle.tree_types.proofs.Spelled.{one_type}
use Rattle.tree_types.proofs.alike.is_one_type.Goals as goal

pub returns : goal.returns
returns c = one_type c.args.types.now c.args.a.now c.args.b.now c.are_alike.result c.are_alike.ensures
