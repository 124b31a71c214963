use Rattle.chop_top.proofs.OneText.{one-program}
use Rattle.chop_top.proofs.accepting.a_text_has_one_program.Goals as goal

pub returns : goal.returns
returns c = one-program
