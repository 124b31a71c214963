use Rattle.std.proofs.Common.{List, Option, Bool, refl, sym, subst}
use Rattle.std.proofs.lemmas.Bool.{false≢true}
use Rattle.cnf.specs.Cnf.{lists_of}
use Rattle.cnf.specs.Literals.{holds_of}
use Rattle.cnf.proofs.SetLemmas.{IsConsistent-holds_of}
use Rattle.cnf.specs.Forced.{IsLeastClosed}
use Rattle.cnf.proofs.PropagateLemmas.{closed_when_quiet, no_conflict_when_quiet}
use Rattle.cnf.proofs.PassLemmas.{grows_more, conflict_grown}
use Rattle.search.proofs.propagate.Goals as goal

pub returns-in-Conflict-clause-conflict : goal.returns-in-Conflict-clause-conflict
returns-in-Conflict-clause-conflict c =
    (λ _. conflict_grown (lists_of c.args.clauses.now) c.args.assigned.now c.loop.assigned c.loop.invariant c.in-Conflict.ensures, λ _. refl)

pub loop-preserved : goal.loop-preserved
loop-preserved c =
    grows_more (lists_of c.args.clauses.now) c.args.assigned.now c.loop.assigned c.pass_once.new.assigned c.loop.invariant c.in-Changed.ensures.grows

pub returns-in-Quiet-clause-conflict : goal.returns-in-Quiet-clause-conflict
returns-in-Quiet-clause-conflict c =
    let now = c.loop.assigned in
    (λ e. absurd (false≢true e), λ h. absurd (no_conflict_when_quiet (lists_of c.args.clauses.now) (holds_of c.args.assigned.now) (holds_of now) (IsConsistent-holds_of now) c.in-Quiet.ensures.quiet c.loop.invariant.given h))

pub returns-in-Quiet-clause-closed : goal.returns-in-Quiet-clause-closed
returns-in-Quiet-clause-closed c =
    let now = c.loop.assigned in
    let F = lists_of c.args.clauses.now in
    let P : List (Option Bool) → Type 0 = λ x. IsLeastClosed F (holds_of c.args.assigned.now) (holds_of x) in
    let here : P now = λ l. (λ e. c.loop.invariant.forced_alone l e, λ h. h (holds_of now) (closed_when_quiet F (holds_of now) (IsConsistent-holds_of now) c.in-Quiet.ensures.quiet) c.loop.invariant.given) in
    subst P (sym c.in-Quiet.ensures.unchanged) here
