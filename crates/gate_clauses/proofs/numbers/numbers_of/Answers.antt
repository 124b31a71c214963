use Rattle.gate_clauses.proofs.NumberLemmas.{numbers_more, numbers_all}
use Rattle.gate_clauses.proofs.numbers.numbers_of.Goals as goal

pub loop-i-preserved : goal.loop-i-preserved
loop-i-preserved c =
    numbers_more c.args.table.now c.args.names.now c.len-len.ensures.table c.requires.within c.requires.numbered c.loop-i.numbers.items c.loop-i.i c.loop-i-test.true c.loop-i.invariant

pub returns : goal.returns
returns c = numbers_all c.args.table.now c.args.names.now c.loop-i.numbers.items c.loop-i.i c.loop-i-test.false c.loop-i.invariant
