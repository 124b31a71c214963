use Rattle.std.proofs.Common.{sym, subst}
use Rattle.std.specs.Prelude.{All}
use Rattle.std.proofs.lemmas.List.Elements.{All-push}
use Rattle.terms.specs.Value.{ReadsBelow}
use Rattle.term_bits.specs.Conditions.{IsConjunct}
use Rattle.solver_tests.proofs.of_decisions.push_conjunct.Goals as goal

pub returns-clause-all : goal.returns-clause-all
returns-clause-all g c =
    subst (All IsConjunct) (sym c.in_ok-push.ensures.ok) (All-push IsConjunct c.args.all.now c.args.t c.requires.all c.requires.conjunct)

pub returns-clause-reads : goal.returns-clause-reads
returns-clause-reads g c =
    subst (All (ReadsBelow 2)) (sym c.in_ok-push.ensures.ok) (All-push (ReadsBelow 2) c.args.all.now c.args.t c.requires.reads c.requires.read)
