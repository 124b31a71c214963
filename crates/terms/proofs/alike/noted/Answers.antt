use Rattle.std.proofs.Common.{Some, sym, ap, ◌∙◌}
use Rattle.terms.proofs.Notes.{matches_stay}
use Rattle.terms.proofs.alike.noted.Goals as goal

pub returns-clause-met : goal.returns-clause-met
returns-clause-met g c =
    matches_stay _ _ c.args.a.now c.again.result c.requires.met
    (ap (λ p. p.value) c.again.ensures ∙ c.place.ensures ∙ ap (λ x. Some x) (sym c.requires.one)) c.put-remembered.ensures.others
