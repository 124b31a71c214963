use Rattle.terms.proofs.Notes.{values_stay}
use Rattle.terms.proofs.evaluate.noted.Goals as goal

pub returns-clause-known : goal.returns-clause-known
returns-clause-known g c = values_stay _ _ c.args.input.now c.args.t.now c.args.value c.requires.known c.requires.value c.put.ensures.others

pub returns-in_err-put-clause-known : goal.returns-in_err-put-clause-known
returns-in_err-put-clause-known g c = values_stay _ _ c.args.input.now c.args.t.now c.args.value c.requires.known c.requires.value c.put.ensures.others
