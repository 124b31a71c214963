use Rattle.std.proofs.Common.{true, sym, ap, ◌∙◌, subst}
use Rattle.std.proofs.Math.ListN.{set}
use Rattle.nodes.specs.Names.{bits_at, is_gate, IsNaming}
use Rattle.nodes.proofs.WalkLemmas.{gate_naming, gate_met, plain_naming, plain_met}
use Rattle.nodes.proofs.walk.finish.Goals as goal
use Rattle.nodes.proofs.walk.finish.Goals.{then-gate+in_ok-push, else-gate}

pub returns-clause-naming : goal.returns-clause-naming
returns-clause-naming c =
    let nodes = c.args.table.now in
    let done = c.args.done.now in
    let names = c.args.names.now.items in
    let k = c.args.k in
    let asked = c.is_gate-gate.ensures ∙ ap is_gate c.node.ensures.node in
    elim c.if-gate.branch [
      | then-gate+in_ok-push w ↦ rw w.names-is (subst (IsNaming nodes (set done k true)) (sym w.in_ok-push.ensures.items) (gate_naming nodes done names c.requires.table c.requires.naming k c.requires.within (sym asked ∙ w.if-gate.true) c.requires.operands))
      | else-gate w ↦ rw w.names-is (plain_naming nodes done names c.requires.table c.requires.naming k c.requires.within (sym asked ∙ w.if-gate.false) c.requires.operands)
    ]

pub returns-clause-met : goal.returns-clause-met
returns-clause-met c =
    let nodes = c.args.table.now in
    let done = c.args.done.now in
    let names = c.args.names.now.items in
    let k = c.args.k in
    let asked = c.is_gate-gate.ensures ∙ ap is_gate c.node.ensures.node in
    elim c.if-gate.branch [
      | then-gate+in_ok-push w ↦ rw w.names-is (ap (bits_at nodes) w.in_ok-push.ensures.items ∙ gate_met nodes done names c.requires.table c.requires.naming k c.requires.within (sym asked ∙ w.if-gate.true) c.requires.undone c.requires.operands)
      | else-gate w ↦ rw w.names-is (plain_met nodes done names c.requires.table c.requires.naming k c.requires.within (sym asked ∙ w.if-gate.false) c.requires.operands)
    ]
