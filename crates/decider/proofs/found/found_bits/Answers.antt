use Rattle.std.proofs.Common.{false, get_or, length, ap, ◌∙◌}
use Rattle.std.proofs.lemmas.List.{get_or-replicate, length-replicate, length-set}
use Rattle.decider.proofs.FoundLemmas.{first_none, first_next, first_all}
use Rattle.decider.proofs.found.found_bits.Goals as goal

pub loop-n-init : goal.loop-n-init
loop-n-init c =
    let none = c.in_ok-set.ensures.items_if_clones_equal (λ y e. e) in
    record {
      sized = ap length none ∙ length-replicate 512 false;
      first = λ condition names. first_none condition c.args.values.now c.in_ok-set.set.items (λ k low. ap (λ s. get_or s k false) none ∙ get_or-replicate 512 k false false low);
    }

pub loop-n-preserved : goal.loop-n-preserved
loop-n-preserved c = record {
  sized = length-set c.loop-n.set.items c.bit_number-at.result c.is_true-value.result ∙ c.loop-n.invariant.sized;
  first = λ condition names. first_next condition c.args.values.now c.args.order.now c.args.places.now c.loop-n.n c.bit_number-at.result c.is_true-value.result c.loop-n.set.items names c.loop-n-test.true c.bit_number-at.ensures.within c.bit_number-at.ensures.number c.is_true-value.ensures c.loop-n.invariant.sized (c.loop-n.invariant.first condition names);
}

pub returns-clause-bits : goal.returns-clause-bits
returns-clause-bits c = λ condition names. first_all condition c.args.values.now c.args.order.now c.args.places.now c.loop-n.n c.loop-n.set.items names c.loop-n-test.false (c.loop-n.invariant.first condition names)
