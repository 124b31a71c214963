use Rattle.std.proofs.Common.{◌++◌, take, flat_map, get_or, sym, ap, ◌∙◌, append-nil, append_assoc}
use Rattle.cnf.specs.Cnf.{lists_of}
use Rattle.gates.specs.Clauses.{gate_clauses}
use Rattle.nodes.specs.Nodes.{bit_at}
use Rattle.nodes.specs.Names.{bits_at}
use Rattle.gate_clauses.proofs.NumberLemmas.{flat_none, flat_more, flat_all}
use Rattle.gate_clauses.proofs.clauses.push_gates.Goals as goal

pub loop-k-init : goal.loop-k-init
loop-k-init c = λ names right.
    let before = lists_of c.args.clauses.now.items in
    sym (ap (λ x. before ++ x) (flat_none (gate_clauses (bits_at c.args.table.now names)) c.args.table.now) ∙ append-nil before)

pub loop-k-preserved : goal.loop-k-preserved
loop-k-preserved c = λ names right.
    let nodes = c.args.table.now in
    let f = gate_clauses (bits_at nodes names) in
    let ks = c.args.gates.now in
    let i = c.loop-k.k-index in
    let before = lists_of c.args.clauses.now.items in
    let here = f (bit_at nodes (get_or ks i 0)) in
    c.in_ok-push_gate.ensures names right ∙ ap (λ x. x ++ here) (c.loop-k.invariant names right) ∙ append_assoc before (flat_map f (bits_at nodes (take i ks))) here ∙ ap (λ x. before ++ x) (sym (flat_more f nodes ks i c.loop-k-test.true))

pub returns : goal.returns
returns c = λ names right.
    let nodes = c.args.table.now in
    let f = gate_clauses (bits_at nodes names) in
    c.loop-k.invariant names right ∙ ap (λ x. lists_of c.args.clauses.now.items ++ x) (flat_all f nodes c.args.gates.now c.loop-k.k-index c.loop-k-test.false)
