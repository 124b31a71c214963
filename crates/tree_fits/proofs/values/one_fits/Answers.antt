use Rattle.std.proofs.Common.{◌∙◌, sym}
use Rattle.tree_fits.proofs.Leading.{and_true}
use Rattle.tree_fits.proofs.values.one_fits.Goals as goal

pub returns : goal.returns
returns c = c.value_fits.ensures ∙ sym (and_true _)
