use Rattle.chop_top.proofs.accepting.program_of.Goals as goal

pub returns-in-Err-clause-stop : goal.returns-in-Err-clause-stop
returns-in-Err-clause-stop c = c.unresolved.ensures c.args.tree.now c.in-Err.ensures.answer
