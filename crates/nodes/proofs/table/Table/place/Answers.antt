use Rattle.std.proofs.Common.{length, sym, ap, ◌∙◌, subst}
use Rattle.nodes.specs.Nodes.{bit_of, bits_of, IsAbove}
use Rattle.nodes.proofs.NodeLemmas.{table_grown, inserted, inserted_or_not, found_bit}
use Rattle.nodes.proofs.table.Table.place.Goals as goal

pub invariant_of-self-2 : goal.invariant_of-self-2
invariant_of-self-2 c =
    let nodes = c.self.inside.nodes.keys in
    table_grown nodes c.insert_full.new.self.keys c.args.node c.self.invariant (subst (λ ns. IsAbove (length ns) c.args.node) (sym c.self.view_is) c.requires) c.insert_full.ensures.unique (inserted_or_not nodes c.args.node c.insert_full.new.self.keys c.insert_full.result c.insert_full.ensures.keys c.insert_full.ensures.err)

pub returns-clause-bit : goal.returns-clause-bit
returns-clause-bit c =
    let nodes = c.self.inside.nodes.keys in
    let stored = c.in_ok-k.ensures.stored in
    let above : IsAbove (length nodes) c.args.node = subst (λ ns. IsAbove (length ns) c.args.node) (sym c.self.view_is) c.requires in
    let grown = inserted nodes c.args.node c.insert_full.new.self.keys c.in_ok-k.ensures.keys in
    let table = table_grown nodes c.insert_full.new.self.keys c.args.node c.self.invariant above c.insert_full.ensures.unique grown in
    found_bit nodes c.insert_full.new.self.keys c.args.node stored.0 c.in_ok-k.k c.self.invariant table above grown c.in_ok-k.ensures.within stored.1 stored.2 ∙ ap (λ ns. bit_of (bits_of ns) c.args.node) c.self.view_is
