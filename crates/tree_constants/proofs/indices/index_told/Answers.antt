use Rattle.tree_constants.proofs.OneByOne.{index_told_on}
use Rattle.tree_constants.proofs.indices.index_told.Goals as goal

pub returns : goal.returns
returns c = index_told_on c.args.told c.noted_unless.result c.args.index.now c.is_of_width-fits.result c.is_of_width-fits.ensures c.noted_unless.ensures
