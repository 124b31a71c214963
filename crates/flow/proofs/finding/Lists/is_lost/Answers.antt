use Rattle.std.proofs.Common.{ℕ, List, sym, subst}
use Rattle.flow.specs.Paths.{IsGraph}
use Rattle.flow.proofs.Bridges.{graph_of}
use Rattle.flow.proofs.finding.Lists.is_lost.Goals as goal

pub unset-requires-clause-graph : goal.unset-requires-clause-graph
unset-requires-clause-graph c =
    subst (λ (rows : List (List ℕ)). IsGraph rows) (sym c.args.self.now.rows_are) (graph_of c.args.self.now.func.now c.args.self.now.named)
