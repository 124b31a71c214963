use Rattle.ir_lexer.proofs.Runs.{to_the_end_is}
use Rattle.ir_lexer.proofs.Found.{found_there, none_there}
use Rattle.ir_lexer.proofs.scan.token_at.Goals as goal

pub returns-in-Some : goal.returns-in-Some
returns-in-Some c = found_there c.args.bytes.now _ c.in-Some.kind c.in-Some.n c.requires (to_the_end_is c.args.bytes.now 1) c.in-Some.ensures.value

pub returns-in-None : goal.returns-in-None
returns-in-None c = none_there c.args.bytes.now _ c.requires (to_the_end_is c.args.bytes.now 1) c.in-None.ensures.value
