use Rattle.std.proofs.Common.{◌≡◌, sym, subst, ◌∙◌}
use Rattle.cnf.specs.Cnf.{lists_of}
use Rattle.cnf.specs.Rup.{IsRefutation}
use Rattle.refutation.specs.declared.Checked.TheVariants.{Yes, No}
use Rattle.refutation.proofs.CheckLemmas.{accepted}
use Rattle.decider.proofs.plain.checked.Goals as goal

-- a check answers yes to each refutation
pub unreachable-requires : goal.unreachable-requires
unreachable-requires c =
    let p = c.in_ok-prepared.prepared in
    let given = c.in_ok-prepared.ensures in
    let refutes : IsRefutation p.formula.now.clauses (lists_of p.log.now) = subst (λ f. IsRefutation f.clauses (lists_of p.log.now)) (sym given.0) (subst (λ l. IsRefutation c.args.formula.now.clauses (lists_of l)) (sym given.1) c.requires.refutes) in
    let yes : No c.in-No.step ≡ Yes = sym c.in-No.is ∙ accepted p.formula.now.clauses (lists_of p.log.now) c.check.result c.check.ensures.answer refutes in
    absurd (cc)
