use Rattle.std.proofs.Common.{◌≡◌, ◌∙◌, Some, sym, ap}
use Rattle.std.specs.List.{list_all}
use Rattle.std.specs.Option.{option_copied}
use Rattle.phrases.proofs.Classes.{and_right}
use Rattle.ir_tree.specs.declared.instructions.Incoming.{Incoming}
use Rattle.ir_programs.specs.Flow.{value_from}
use Rattle.ir_programs.specs.Readable.{has_widths, is_readable_value}
use Rattle.tree_nodes.proofs.Readables.{value_readable}
use Rattle.tree_nodes.proofs.edges.push_set.Goals as goal

pub set_value-requires-clause-value : goal.set_value-requires-clause-value
set_value-requires-clause-value c =
    let p = c.args.phi.now in
    let source = c.args.source.now in
    let value = c.in-Some.value.now in
    let there : value_from source p.incoming ≡ Some value = ap (value_from source) (sym c.as_slice.ensures) ∙ (sym c.value_from.ensures ∙ ap option_copied c.in-Some.is) in
    value_readable source p.incoming value (and_right (has_widths p.kind) (list_all (λ (i : Incoming). is_readable_value i.value) p.incoming) c.requires) there
