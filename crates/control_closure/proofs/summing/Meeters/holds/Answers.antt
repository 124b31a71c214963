use Rattle.std.proofs.Common.{arith}
use Rattle.control_closure.proofs.WalkSets.{in_graph}
use Rattle.control_closure.proofs.summing.Meeters.holds.Goals as goal

pub leads_into-requires : goal.leads_into-requires
leads_into-requires c = λ k there.
    let h = in_graph c.args.self.now.graph.now.succ c.args.node c.successors.result.now c.args.self.now.nodes c.successors.ensures k there in omega arith
