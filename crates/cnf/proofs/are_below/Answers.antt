use Rattle.std.proofs.Common.{◌<◌, All, refl, subst, sym}
use Rattle.std.proofs.lemmas.Bool.{false≢true}
use Rattle.cnf.specs.declared.Lit.{Lit}
use Rattle.cnf.proofs.PropagateLemmas.{below_at, each_more, each_all}
use Rattle.cnf.proofs.are_below.Goals as goal

pub returns-then-not-is_below : goal.returns-then-not-is_below
returns-then-not-is_below c =
    (λ e. absurd (false≢true e), λ h. absurd (false≢true (c.if-not-is_below.ensures.1 (subst (λ ls. All (λ (l : Lit). l.var < c.args.vars) ls) (sym c.deref.ensures.value) (below_at c.args.vars c.args.clauses.now c.loop-clause.clause-index c.clause-item.result h c.loop-clause-test.true c.clause-item.is)))))

pub loop-clause-preserved : goal.loop-clause-preserved
loop-clause-preserved c =
    each_more (λ ls. All (λ (l : Lit). l.var < c.args.vars) ls) c.args.clauses.now c.loop-clause.clause-index c.clause-item.result c.loop-clause-test.true c.clause-item.is c.loop-clause.invariant (subst (λ ls. All (λ (l : Lit). l.var < c.args.vars) ls) c.deref.ensures.value (c.if-not-is_below.ensures.0 refl))

pub returns : goal.returns
returns c =
    (λ _. each_all (λ ls. All (λ (l : Lit). l.var < c.args.vars) ls) c.args.clauses.now c.loop-clause.clause-index c.loop-clause-test.false c.loop-clause.invariant, λ _. refl)
