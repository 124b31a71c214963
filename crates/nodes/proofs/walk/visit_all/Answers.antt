use Rattle.std.proofs.Common.{◌≡◌, take, get_or, sym, subst}
use Rattle.std.specs.Prelude.{flat_map}
use Rattle.std.proofs.lemmas.List.{take_more}
use Rattle.gates.specs.Clauses.{gates_of, met_after}
use Rattle.nodes.specs.Names.{bits_at}
use Rattle.nodes.proofs.WalkLemmas.{visited_none, visited_more}
use Rattle.nodes.proofs.walk.visit_all.Goals as goal

pub loop-k-init : goal.loop-k-init
loop-k-init c = (c.requires.naming, visited_none c.args.table.now c.args.names.now.items)

pub loop-k-preserved : goal.loop-k-preserved
loop-k-preserved c =
    let xs = c.args.conjuncts.now in
    let i = c.loop-k.k-index in
    (c.in_ok-visit.ensures.naming, subst (λ ks. bits_at c.args.table.now c.visit.new.names.items ≡ met_after (bits_at c.args.table.now c.args.names.now.items) (flat_map gates_of (bits_at c.args.table.now ks))) (sym (take_more xs i 0 c.loop-k-test.true)) (visited_more c.args.table.now c.args.names.now.items c.loop-k.names.items c.visit.new.names.items (take i xs) (get_or xs i 0) c.loop-k.invariant.1 c.in_ok-visit.ensures.met))
