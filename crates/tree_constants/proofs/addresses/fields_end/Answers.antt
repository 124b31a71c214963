use Rattle.std.proofs.Common.{length, map}
use Rattle.ir_tree.specs.Layout.{extent}
use Rattle.tree_constants.proofs.Offsets.{end_there, field_count}
use Rattle.tree_constants.proofs.addresses.fields_end.Goals as goal

pub returns-in-Some : goal.returns-in-Some
returns-in-Some c = λ k le.
    let ts = c.args.types.now in
    end_there c.args.packed (map (extent ts) c.args.fields.now) c.in-Some.end k (c.in-Some.ensures (length ts) c.requires) (field_count ts c.args.fields.now k le)
