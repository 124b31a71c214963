use Rattle.std.proofs.Common.{◌++◌, refl}
use Rattle.std.proofs.lemmas.Bool.{false≢true}
use Rattle.cnf.specs.Cnf.{lists_of}
use Rattle.cnf.specs.Literals.{holds_of}
use Rattle.cnf.proofs.SetLemmas.{IsConsistent-holds_of}
use Rattle.cnf.proofs.PropagateLemmas.{no_conflict_when_quiet}
use Rattle.cnf.proofs.PassLemmas.{grows_more, conflict_grown}
use Rattle.refutation.proofs.propagate.Goals as goal

pub returns-in-Conflict : goal.returns-in-Conflict
returns-in-Conflict c =
    (λ _. conflict_grown (lists_of c.args.clauses.now ++ lists_of c.args.earlier.now) c.args.assigned.now c.loop.assigned c.loop.invariant c.in-Conflict.ensures, λ _. refl)

pub loop-preserved : goal.loop-preserved
loop-preserved c =
    grows_more (lists_of c.args.clauses.now ++ lists_of c.args.earlier.now) c.args.assigned.now c.loop.assigned c.pass_both.new.assigned c.loop.invariant c.in-Changed.ensures.grows

pub returns-in-Quiet : goal.returns-in-Quiet
returns-in-Quiet c =
    let now = c.loop.assigned in
    (λ e. absurd (false≢true e), λ h. absurd (no_conflict_when_quiet (lists_of c.args.clauses.now ++ lists_of c.args.earlier.now) (holds_of c.args.assigned.now) (holds_of now) (IsConsistent-holds_of now) c.in-Quiet.ensures.quiet c.loop.invariant.given h))
