use Rattle.cnf.specs.Cnf.{lists_of}
use Rattle.refutation.proofs.CheckLemmas.{yes_refutes}
use Rattle.refutation.proofs.Prepared.check.Goals as goal

pub returns-clause-yes : goal.returns-clause-yes
returns-clause-yes c =
    yes_refutes c.args.self.now.formula.now.clauses (lists_of c.args.self.now.log.now) c.check_log.result c.check_log.ensures
