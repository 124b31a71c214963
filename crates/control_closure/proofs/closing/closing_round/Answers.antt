use Rattle.std.proofs.Common.{◌≡◌, ◌<◌, ◌+◌, ◌↔◌, ◌⊎◌, ℕ, Bool, true, List, [], ◌∷◌, length, arith, ap, sym, subst, length-append}
use Rattle.least.specs.Sets.{has}
use Rattle.control_closure.specs.Met.{Parts}
use Rattle.control_closure.proofs.SumsUp.{pushed_test}
use Rattle.control_closure.proofs.closing.closing_round.Goals as goal

pub loop-node-preserved : goal.loop-node-preserved
loop-node-preserved c =
    let In : ℕ → Type 0 = λ n. (has c.args.retained.now n ≡ true) ⊎ Parts c.args.graph.now.succ (has c.args.retained.now) n in
    let items = c.in_ok-push.ensures.items in
    record {
      size = omega (arith, ap length items, length-append c.loop-node.next.items (c.is_added.result ∷ []), c.loop-node.invariant.size);
      nodes = subst (λ (xs : List Bool). (n : ℕ) → n < c.loop-node.node + 1 → (has xs n ≡ true) ↔ In n) (sym items)
          (pushed_test In c.loop-node.next.items c.loop-node.node c.is_added.result c.loop-node.invariant.size c.loop-node.invariant.nodes c.is_added.ensures);
    }
