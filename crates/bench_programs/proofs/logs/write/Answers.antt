use Rattle.std.proofs.Common.{refl}
use Rattle.bench_programs.proofs.logs.write.Goals as goal

pub same-write_at : goal.same-write_at
same-write_at g c = refl

pub write_at-requires : goal.write_at-requires
write_at-requires g c = c.in_ok-place.ensures
