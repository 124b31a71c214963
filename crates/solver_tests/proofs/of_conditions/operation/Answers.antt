use Rattle.std.proofs.Common.{[], sym, subst}
use Rattle.std.specs.Prelude.{All}
use Rattle.std.proofs.lemmas.List.Elements.{All-from_recursion}
use Rattle.term_bits.specs.Conditions.{IsConjunct}
use Rattle.solver_tests.proofs.of_conditions.operation.Goals as goal

pub push_conjunct-requires-clause-all : goal.push_conjunct-requires-clause-all
push_conjunct-requires-clause-all g c =
    subst (All IsConjunct) (sym c.new-all.ensures) (All-from_recursion IsConjunct [] tt)
