use Rattle.std.proofs.Common.{refl}
use Rattle.number_steps.proofs.going.takes_input.Goals as goal

pub same-byte : goal.same-byte
same-byte g c = refl
