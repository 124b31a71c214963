use Rattle.std.proofs.Common.{◌≡◌, length, flat_map, sym, ap, ◌∙◌}
use Rattle.std.proofs.lemmas.List.{length-map}
use Rattle.gates.specs.Bits.{input}
use Rattle.gates.specs.Clauses.{gates_of, inputs_of, met_after}
use Rattle.nodes.specs.Names.{bits_at}
use Rattle.nodes.proofs.GrowthLemmas.{length-bits_at}
use Rattle.gate_clauses.proofs.NumberLemmas.{naming_first, names_of_from, order_is}
use Rattle.gate_clauses.proofs.clauses.names_at.Goals as goal

pub visit_all-requires-clause-naming : goal.visit_all-requires-clause-naming
visit_all-requires-clause-naming c =
    let nodes = c.args.table.now in
    naming_first nodes c.as_mut_slice.result.now c.in_ok-names.field-0.names.items (inputs_of (bits_at nodes c.args.conjuncts.now)) c.len-2.result c.len-2.ensures.table c.in_ok-names.ensures.within c.len-2.ensures.len (c.as_mut_slice.ensures.value ∙ c.in_ok-done.ensures) c.in_ok-names.ensures.names

pub returns-clause-names : goal.returns-clause-names
returns-clause-names c =
    let b = bits_at c.args.table.now c.args.conjuncts.now in
    c.in_ok-visit_all.ensures.met ∙ ap (λ names. met_after names (flat_map gates_of b)) c.in_ok-names.ensures.names ∙ names_of_from b

pub returns-clause-order : goal.returns-clause-order
returns-clause-order c =
    let nodes = c.args.table.now in
    let b = bits_at nodes c.args.conjuncts.now in
    let names = c.in_ok-names.field-0.names in
    let count : c.len.result ≡ length (inputs_of b) = c.len.ensures ∙ names.ok.0 ∙ sym (length-bits_at nodes names.items) ∙ ap length c.in_ok-names.ensures.names ∙ length-map (inputs_of b) input in
    c.in_ok-order.ensures ∙ order_is b c.len.result count
