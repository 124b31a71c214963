use Rattle.std.proofs.Common.{List, arith, subst, sym}
use Rattle.least.specs.Sets.{has}
use Rattle.control_closure.specs.declared.summing.Met.{Met}
use Rattle.control_closure.specs.Sums.{SumUp}
use Rattle.control_closure.proofs.SumsUp.{all_counted, written_back}
use Rattle.control_closure.proofs.summing.all_met.Goals as goal

pub returns-clause-sums : goal.returns-clause-sums
returns-clause-sums c =
    let back = written_back c.in_ok-mets.mets.len c.count_all.new.mets _ (omega (arith, c.in_ok-count_all.ensures.mets, c.deref_mut.ensures.len, c.in_ok-mets.ensures.len)) in
    subst (λ (mets : List Met). SumUp c.args.graph.now.succ (has c.args.retained.now) mets) (sym back)
    (all_counted c.args.graph.now.succ c.args.retained.now c.count_all.new.mets c.requires.size c.in_ok-count_all.ensures.below)
