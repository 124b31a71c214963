use Rattle.slice_laws.proofs.OneSlice.{slices_same}
use Rattle.slice_laws.proofs.slices_are_one.Goals as goal

pub returns : goal.returns
returns c = slices_same
