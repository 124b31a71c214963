use Rattle.std.proofs.Common.{◌∙◌, ap, sym}
use Rattle.sym_states.specs.Terms.{resolved}
use Rattle.node_values.proofs.Lists.{resolved_last}
use Rattle.node_values.proofs.operands.resolved.Goals as goal

pub older-preserved : goal.older-preserved
older-preserved g c =
    let older = c.in-Some.older.now in
    ap (resolved older) c.in_ok-made.ensures
    ∙ sym (resolved_last older c.in-Some.newest.now c.older.made)
    ∙ ap (λ rest. resolved rest c.older.made) (sym c.in-Some.ensures.cases.0)
    ∙ c.older.invariant
