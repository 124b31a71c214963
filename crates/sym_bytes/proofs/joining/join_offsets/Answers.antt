use Rattle.std.proofs.Common.{refl}
use Rattle.sym_bytes.proofs.joining.join_offsets.Goals as goal

pub same-result : goal.same-result
same-result g c = refl
