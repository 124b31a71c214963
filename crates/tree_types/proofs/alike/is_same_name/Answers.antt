use Rattle.tree_types.proofs.Spelled.{name_decides}
use Rattle.tree_types.proofs.alike.is_same_name.Goals as goal

pub returns : goal.returns
returns c = name_decides c.args.a.now c.args.b.now c.is_same.result c.is_same.ensures
