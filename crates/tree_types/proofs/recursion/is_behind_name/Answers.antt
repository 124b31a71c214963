use Rattle.std.proofs.Common.{◌∙◌, ℕ, List, ap, sym, arith}
use Rattle.ir_tree.specs.Texts.{same}
use Rattle.tree_types.proofs.Named.{none_at_end}
use Rattle.tree_types.proofs.Meeting.{met_there, behind_none}
use Rattle.tree_types.proofs.recursion.is_behind_name.Goals as goal

pub returns-then-is_same : goal.returns-then-is_same
returns-then-is_same c = λ n x a.
    met_there n c.args.types.now x c.args.name.now c.args.met.now c.places.place c.index-types-place.result c.met_at.result c.places-test.true c.index-types-place.is
    (ap (λ (t : List ℕ). same t c.args.name.now) (sym c.as_slice.ensures) ∙ (sym c.is_same.ensures ∙ c.if-is_same.true)) c.met_at.ensures a

pub returns : goal.returns
returns c = λ n x a. behind_none n c.args.types.now x c.args.name.now (none_at_end c.args.types.now c.args.name.now c.places.place (omega (arith, c.places-test.false)) c.places.invariant)
