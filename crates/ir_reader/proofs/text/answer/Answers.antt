use Rattle.ir_reader.proofs.Told.{says, read_as}
use Rattle.ir_reader.proofs.text.answer.Goals as goal

pub returns-in-Ok-numbered-clause-tree : goal.returns-in-Ok-numbered-clause-tree
returns-in-Ok-numbered-clause-tree c =
    read_as c.args.bytes.now c.args.tokens.now c.in-Ok.tree c.in-Ok-numbered.tree c.requires.lexed c.in-Ok.ensures.tree c.in-Ok-numbered.ensures

pub returns-in-Err-clause-error : goal.returns-in-Err-clause-error
returns-in-Err-clause-error c = says c.args.bytes.now c.args.tokens.now c.in-Err.e c.requires.lexed c.in-Err.ensures.error
