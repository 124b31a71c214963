use Rattle.std.proofs.Common.{refl}
use Rattle.sym_states.proofs.frames.Frame.set.Goals as goal

pub same-self : goal.same-self
same-self g c = refl
