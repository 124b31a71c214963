use Rattle.chop_top.proofs.accepting.tree_of.Goals as goal

pub returns-clause-stop : goal.returns-clause-stop
returns-clause-stop c = c.misread.ensures c.args.bytes.now c.in-Err-read.ensures.error
