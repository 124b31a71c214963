use Rattle.std.proofs.Common.{◌≡◌, false, get_or, sym, ap, ◌∙◌, subst}
use Rattle.std.proofs.lemmas.Option.{get_or_from_slice_get}
use Rattle.nodes.specs.declared.table.Node.TheVariants.{Constant}
use Rattle.nodes.specs.Nodes.{bit_of, bits_of, IsAbove, IsTable}
use Rattle.nodes.proofs.NodeLemmas.{node_at}
use Rattle.nodes.proofs.table.Table.node.Goals as goal

pub returns-in-Some-clause-bit : goal.returns-in-Some-clause-bit
returns-in-Some-clause-bit c =
    let table : IsTable c.args.self.now = subst IsTable c.self.view_is c.self.invariant in
    node_at c.args.self.now table c.args.k c.requires ∙ ap (bit_of (bits_of c.args.self.now)) (ap (λ ns. get_or ns c.args.k (Constant false)) (sym c.self.view_is) ∙ get_or_from_slice_get c.self.inside.nodes.keys c.args.k c.in-Some.node.now (Constant false) (sym c.in-Some.ensures.key))

pub returns-in-Some-clause-above : goal.returns-in-Some-clause-above
returns-in-Some-clause-above c =
    let table : IsTable c.args.self.now = subst IsTable c.self.view_is c.self.invariant in
    let stands : get_or c.args.self.now c.args.k (Constant false) ≡ c.in-Some.node.now = ap (λ ns. get_or ns c.args.k (Constant false)) (sym c.self.view_is) ∙ get_or_from_slice_get c.self.inside.nodes.keys c.args.k c.in-Some.node.now (Constant false) (sym c.in-Some.ensures.key) in
    subst (IsAbove c.args.k) stands (table.ordered c.args.k c.requires)
