use Rattle.std.specs.Prelude.{All}
use Rattle.term_bits.specs.Conditions.{IsConjunct}
use Rattle.bench_programs.proofs.conditions.equalities.Given as goal

abbrev pub invariant-loop-k : goal.invariant-loop-k
invariant-loop-k g l = All IsConjunct l.all
