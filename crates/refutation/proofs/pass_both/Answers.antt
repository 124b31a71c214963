use Rattle.cnf.specs.Cnf.{lists_of}
use Rattle.refutation.proofs.CheckLemmas.{first_conflict, after_quiet, after_change_conflict, after_change}
use Rattle.refutation.proofs.pass_both.Goals as goal

pub returns-in-Conflict : goal.returns-in-Conflict
returns-in-Conflict c = first_conflict (lists_of c.args.clauses.now) (lists_of c.args.earlier.now) c.args.assigned.now c.in-Conflict.ensures

pub returns-in-Quiet : goal.returns-in-Quiet
returns-in-Quiet c =
    after_quiet (lists_of c.args.clauses.now) (lists_of c.args.earlier.now) c.args.assigned.now c.pass_once.new.assigned c.pass_once-in-Quiet.new.assigned c.pass_once-in-Quiet.result c.in-Quiet.ensures c.pass_once-in-Quiet.ensures

pub returns-in-Conflict-pass_once : goal.returns-in-Conflict-pass_once
returns-in-Conflict-pass_once c =
    after_change_conflict (lists_of c.args.clauses.now) (lists_of c.args.earlier.now) c.args.assigned.now c.pass_once.new.assigned c.in-Changed.ensures c.in-Conflict-pass_once.ensures

pub returns-in-Changed-pass_once : goal.returns-in-Changed-pass_once
returns-in-Changed-pass_once c =
    after_change (lists_of c.args.clauses.now) (lists_of c.args.earlier.now) c.args.assigned.now c.pass_once.new.assigned c.pass_once-in-Changed.new.assigned c.pass_once-in-Changed.result c.in-Changed.ensures c.pass_once-in-Changed.ensures c.in-Changed-pass_once.is
