use Rattle.control_closure.proofs.SumsUp.{part_tells}
use Rattle.control_closure.proofs.closing.part_at.Goals as goal

pub returns : goal.returns
returns c = λ g kept sums. part_tells g kept c.args.mets.now c.args.one c.args.other c.apart.result sums c.if-one-other.false c.apart.ensures
