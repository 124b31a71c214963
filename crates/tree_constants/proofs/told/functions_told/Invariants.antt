use Rattle.std.proofs.Common.{◌≡◌, drop}
use Rattle.ir_programs.specs.Texts.{places_where}
use Rattle.ir_programs.specs.Uses as uses
use Rattle.ir_programs.specs.declared.refusals.Cause.TheVariants.{FunctionValue}
use Rattle.tree_constants.specs.Telling.{told_at}
use Rattle.tree_constants.specs.Values.{lent}
use Rattle.tree_constants.proofs.told.functions_told.Given as goal

abbrev pub invariant-loop-value : goal.invariant-loop-value
invariant-loop-value l =
    told_at FunctionValue l.now (places_where (λ n. uses.is_function l.tree n.text) (uses.global_uses (lent (drop l.value-index l.values))))
    ≡ told_at FunctionValue l.fn.told (places_where (λ n. uses.is_function l.tree n.text) (uses.global_uses (lent l.values)))
