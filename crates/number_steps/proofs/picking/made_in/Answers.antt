use Rattle.std.proofs.Common.{refl}
use Rattle.number_steps.proofs.picking.made_in.Goals as goal

pub same-size : goal.same-size
same-size g c = refl

pub alloc-requires : goal.alloc-requires
alloc-requires g c = c.requires
