use Rattle.std.proofs.Common.{refl}
use Rattle.number_steps.proofs.making.placed.Goals as goal

pub same-offset : goal.same-offset
same-offset g c = refl

pub new-requires : goal.new-requires
new-requires g c = c.in_ok-offset.ensures.width
