use Rattle.std.proofs.Common.{[], ◌∷◌}
use Rattle.std.specs.Prelude.{if◌then◌else◌}
use Rattle.ir_programs.specs.declared.refusals.Cause.TheVariants.{RecursiveType}
use Rattle.tree_types.proofs.Telling.{tell_at, place_if}
use Rattle.tree_types.proofs.recursion.recursion_told.Goals as goal

pub returns-then-holds : goal.returns-then-holds
returns-then-holds c = λ rest.
    tell_at c.args.told c.noted.result RecursiveType c.args.at (if c.args.holds then c.args.at ∷ [] else []) rest (place_if c.args.holds c.args.at c.if-holds.true) c.noted.ensures
