use Rattle.bench_programs.proofs.shared_terms.walks.Goals as goal

pub walk_often-requires : goal.walk_often-requires
walk_often-requires g c = c.in_ok-term.ensures
