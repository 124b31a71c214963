use Rattle.std.proofs.Common.{◌++◌, get_or, sym, ap, ◌∙◌}
use Rattle.cnf.specs.Cnf.{lists_of}
use Rattle.gates.specs.Clauses.{conjunct_clauses}
use Rattle.nodes.specs.Nodes.{bit_at}
use Rattle.nodes.specs.Names.{bits_at}
use Rattle.gate_clauses.proofs.NumberLemmas.{flat_none, flat_more, flat_all}
use Rattle.gate_clauses.proofs.clauses.conjuncts_clauses.Goals as goal

pub loop-k-init : goal.loop-k-init
loop-k-init c = λ names right.
    ap lists_of c.new-clauses.ensures.items ∙ sym (flat_none (conjunct_clauses (bits_at c.args.table.now names)) c.args.table.now)

pub loop-k-preserved : goal.loop-k-preserved
loop-k-preserved c = λ names right.
    let nodes = c.args.table.now in
    let f = conjunct_clauses (bits_at nodes names) in
    let ks = c.args.conjuncts.now in
    let i = c.loop-k.k-index in
    c.in_ok-push_conjunct.ensures names right ∙ ap (λ x. x ++ f (bit_at nodes (get_or ks i 0))) (c.loop-k.invariant names right) ∙ sym (flat_more f nodes ks i c.loop-k-test.true)

pub returns : goal.returns
returns c = λ names right.
    let nodes = c.args.table.now in
    c.loop-k.invariant names right ∙ flat_all (conjunct_clauses (bits_at nodes names)) nodes c.args.conjuncts.now c.loop-k.k-index c.loop-k-test.false
