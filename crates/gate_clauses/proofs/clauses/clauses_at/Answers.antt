use Rattle.std.proofs.Common.{◌≡◌, ◌++◌, ℕ, List, length, flat_map, sym, subst, ap, ap₂, ◌∙◌}
use Rattle.cnf.specs.declared.Lit.{Lit}
use Rattle.cnf.specs.Cnf.{Cnf, lists_of}
use Rattle.gates.specs.Clauses.{gate_clauses, names_of, clauses_of}
use Rattle.nodes.specs.Names.{bits_at}
use Rattle.gate_clauses.specs.Numbers.{AreNumbers, IsNumbered}
use Rattle.gate_clauses.proofs.NumberLemmas.{numbered_names, clauses_are, vars_are}
use Rattle.gate_clauses.proofs.clauses.clauses_at.Goals as goal

pub numbers_of-requires-clause-numbered : goal.numbers_of-requires-clause-numbered
numbers_of-requires-clause-numbered c =
    let nodes = c.args.table.now in
    subst (IsNumbered nodes) (sym c.deref.ensures.value) (numbered_names nodes c.in_ok-names.field-0.names.items (bits_at nodes c.args.conjuncts.now) c.in_ok-names.ensures.names)

pub returns-clause-formula : goal.returns-clause-formula
returns-clause-formula c =
    let nodes = c.args.table.now in
    let b = bits_at nodes c.args.conjuncts.now in
    let names = c.in_ok-names.field-0.names in
    let ns = names.items in
    let numbers = c.in_ok-numbers.numbers.items in
    let right : AreNumbers nodes ns numbers = subst (λ n. AreNumbers nodes n numbers) c.deref.ensures.value c.in_ok-numbers.ensures in
    let first = lists_of c.in_ok-clauses.clauses.items in
    let start = c.in_ok-clauses.ensures ns (subst (AreNumbers nodes ns) (sym c.deref-2.ensures.value) right) in
    let end = c.in_ok-push_gates.ensures ns (subst (AreNumbers nodes ns) (sym c.deref-3.ensures.value) right) ∙ ap (λ gs. first ++ flat_map (gate_clauses (bits_at nodes ns)) (bits_at nodes gs)) c.deref-4.ensures.value in
    let clauses : lists_of c.push_gates.new.clauses.items ≡ clauses_of b = clauses_are nodes ns b first (lists_of c.push_gates.new.clauses.items) c.in_ok-names.ensures.names start end in
    let vars : c.len.result ≡ length (names_of b) = c.len.ensures ∙ names.ok.0 ∙ vars_are nodes ns b c.in_ok-names.ensures.names in
    let made : ℕ → List (List Lit) → Cnf = λ v cs. record { vars = v; clauses = cs } in
    ap₂ made vars clauses
