use Rattle.std.proofs.Common.{sym, subst}
use Rattle.std.specs.Prelude.{All}
use Rattle.std.proofs.lemmas.List.Elements.{All-push}
use Rattle.term_bits.specs.Conditions.{IsConjunct}
use Rattle.solver_tests.proofs.of_conditions.push_conjunct.Goals as goal

pub returns : goal.returns
returns g c =
    subst (All IsConjunct) (sym c.in_ok-push.ensures.ok) (All-push IsConjunct c.args.all.now c.args.t c.requires.all c.requires.conjunct)
