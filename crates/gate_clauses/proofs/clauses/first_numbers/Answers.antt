use Rattle.gate_clauses.proofs.NumberLemmas.{range_more}
use Rattle.gate_clauses.proofs.clauses.first_numbers.Goals as goal

pub loop-i-preserved : goal.loop-i-preserved
loop-i-preserved c =
    range_more c.loop-i.i c.loop-i.numbers.items c.push.new.self.items c.loop-i.invariant c.in_ok-push.ensures.items
