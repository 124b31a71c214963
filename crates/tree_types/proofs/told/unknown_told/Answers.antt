use Rattle.std.proofs.Common.{◌∙◌, ℕ, List, ap, sym}
use Rattle.ir_programs.specs.declared.refusals.Cause.TheVariants.{UnknownName}
use Rattle.ir_tree.specs.Layout.{kind_of}
use Rattle.tree_types.specs.Asked.{unknown_at}
use Rattle.tree_types.proofs.Telling.{tell_at, absent_at}
use Rattle.tree_types.proofs.told.unknown_told.Goals as goal

pub returns-in-None : goal.returns-in-None
returns-in-None c = λ rest.
    let ds = c.args.definitions.now in
    tell_at c.args.told c.noted.result UnknownName c.in-Named.at (unknown_at ds c.args.kind.now) rest
    (absent_at ds c.args.kind.now c.in-Named.name c.in-Named.at c.in-Named.is (ap (λ (t : List ℕ). kind_of ds t) (sym c.as_slice.ensures) ∙ sym c.in-None.ensures)) c.noted.ensures
