use Rattle.std.proofs.Common.{arith, rules, ◌≡◌, true, false}
use Rattle.flow.proofs.WalkSets.{in_graph, go_only}
use Rattle.flow.proofs.unset.WalksRules.apply.Goals as goal

pub add_all-requires : goal.add_all-requires
add_all-requires c = λ k there.
    let h = in_graph c.args.self.now.rows.now c.args.rule c.row.result.now c.args.self.now.nodes c.row.ensures k there in omega arith

pub returns-then-not-stops-clause-only : goal.returns-then-not-stops-clause-only
returns-then-not-stops-clause-only c =
    go_only c.args.self.now.rows.now c.args.self.now.results.now c.args.self.now.register c.args.rule c.row.result.now
    c.begin.new.set c.add_all.new.set c.row.ensures c.begin.ensures.only (search rules) (λ sets. let h : c.sets-stops.result ≡ true = c.sets-stops.ensures.1 sets in let e : c.sets-stops.result ≡ false = c.if-not-stops.true in absurd (cc)) c.add_all.ensures.only
