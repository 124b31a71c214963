use Rattle.ir_reader.proofs.Told.{tree_told, refusal_told}
use Rattle.ir_reader.proofs.text.read.Goals as goal

pub returns-clause-module : goal.returns-clause-module
returns-clause-module c = tree_told c.args.bytes.now c.answer.result c.answer.ensures.tree c.answer.ensures.error

pub returns-clause-refused : goal.returns-clause-refused
returns-clause-refused c = refusal_told c.args.bytes.now c.answer.result c.answer.ensures.tree c.answer.ensures.error
