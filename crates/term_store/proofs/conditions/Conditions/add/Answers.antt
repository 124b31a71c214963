use Rattle.std.proofs.Common.{sym, ◌∙◌}
use Rattle.term_store.specs.declared.conditions.Added.TheVariants.{Held, Contradicted}
use Rattle.term_store.proofs.Meets.{meets_also}
use Rattle.term_store.proofs.conditions.Conditions.add.Goals as goal

pub returns-in-Held-clause-meets : goal.returns-in-Held-clause-meets
returns-in-Held-clause-meets g c input =
    meets_also c.args.self.now c.args.t.now Held input (c.answer.ensures.tree, c.requires) (sym c.in-Held.is ∙ c.in_ok-answer.ensures.answer)

pub returns-in-Contradicted-clause-meets : goal.returns-in-Contradicted-clause-meets
returns-in-Contradicted-clause-meets g c input =
    meets_also c.args.self.now c.args.t.now Contradicted input (c.answer.ensures.tree, c.requires) (sym c.in-Contradicted.is ∙ c.in_ok-answer.ensures.answer)
