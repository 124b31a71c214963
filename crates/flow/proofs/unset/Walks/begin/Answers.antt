use Rattle.std.proofs.Common.{⊎_elim, inl, inr, ◌∙◌}
use Rattle.flow.proofs.WalkSets.{start_only}
use Rattle.flow.proofs.unset.Walks.begin.Goals as goal

pub returns-then-rule-eq0-clause-only : goal.returns-then-rule-eq0-clause-only
returns-then-rule-eq0-clause-only c =
    start_only c.args.self.now.rows.now c.args.self.now.results.now c.args.self.now.register c.args.set.now c.add.new.set c.requires.only
    (λ k h. ⊎_elim inl (λ e. inr (e ∙ c.if-rule-eq0.true)) (c.add.ensures.only k h))
