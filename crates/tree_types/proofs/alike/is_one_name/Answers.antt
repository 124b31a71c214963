use Rattle.std.proofs.Common.{◌∙◌, sym}
use Rattle.tree_types.proofs.Named.{same_is}
use Rattle.tree_types.proofs.Spelled.{one_name}
use Rattle.tree_types.proofs.alike.is_one_name.Goals as goal

pub returns-then-a_names-b_names : goal.returns-then-a_names-b_names
returns-then-a_names-b_names c = λ t.
    one_name c.args.types.now c.args.a_names c.args.b_names c.args.a.now c.args.b.now c.in-Named.name c.in-Named-b.other c.in-Named.at c.in-Named-b.at c.in-Named.is c.in-Named-b.is c.if-a_names-b_names.true
    (sym c.as_slice.ensures ∙ (same_is c.as_slice.result.now c.as_slice-then-a_names-b_names.result.now (sym c.is_same.ensures ∙ t) ∙ c.as_slice-then-a_names-b_names.ensures))
