use Rattle.std.proofs.Common.{ℕ, ⊎_elim, subst, sym}
use Rattle.mod_ref.specs.Changes.{Changes}
use Rattle.mod_ref.specs.Callers.{func}
use Rattle.mod_ref.proofs.Calling.{own_changes, calls_change}
use Rattle.mod_ref.proofs.callers.CallersRules.apply.Goals as goal
use Rattle.mod_ref.proofs.callers.CallersRules.apply.Goals.{then-self-rule-via-then-self-rule, then-self-rule-via-else-self-rule+then-calls}

pub returns-then-self-rule-clause-only : goal.returns-then-self-rule-clause-only
returns-then-self-rule-clause-only c =
    let p = c.args.self.now.program.now in
    let here : Changes p (func c.args.rule) c.args.self.now.at = elim c.then-self-rule.branch [
      | then-self-rule-via-then-self-rule w ↦ own_changes p c.args.self.now.at c.args.self.now.own.now c.args.rule c.requires.fits.0 w.if-self-rule.true
      | then-self-rule-via-else-self-rule+then-calls w ↦
          calls_change p c.args.self.now.at c.args.set.now c.args.rule c.calls_into-calls.result c.requires.only c.calls_into-calls.ensures w.if-calls.true
    ] in
    λ k h. ⊎_elim (c.requires.only k) (λ e. subst (λ (j : ℕ). Changes p (func j) c.args.self.now.at) (sym e) here) (c.add.ensures.only k h)
