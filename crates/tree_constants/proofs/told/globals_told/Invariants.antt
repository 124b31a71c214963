use Rattle.std.proofs.Common.{◌≡◌, drop, not}
use Rattle.ir_programs.specs.Texts.{places_where}
use Rattle.ir_programs.specs.Uses as uses
use Rattle.ir_programs.specs.declared.refusals.Cause.TheVariants.{UnknownName}
use Rattle.tree_constants.specs.Telling.{told_at, is_known}
use Rattle.tree_constants.specs.Values.{lent}
use Rattle.tree_constants.proofs.told.globals_told.Given as goal

abbrev pub invariant-loop-value : goal.invariant-loop-value
invariant-loop-value l =
    told_at UnknownName l.now (places_where (λ n. not (is_known l.tree n.text)) (uses.global_uses (lent (drop l.value-index l.values))))
    ≡ told_at UnknownName l.fn.told (places_where (λ n. not (is_known l.tree n.text)) (uses.global_uses (lent l.values)))
