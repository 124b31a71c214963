use Rattle.bench_programs.proofs.logs.first_byte.Goals as goal

pub read-requires : goal.read-requires
read-requires g c = c.in_ok-at.ensures
