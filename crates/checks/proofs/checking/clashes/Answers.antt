use Rattle.std.proofs.Common.{◌≡◌, ◌∙◌, Some, List, false, true, ap, refl, sym, subst}
use Rattle.std.specs.Prelude.{slice_get, slice_index_or}
use Rattle.std.specs.List.{Contains}
use Rattle.std.proofs.lemmas.Option.{slice_get_read}
use Rattle.flat_ir.specs.declared.names.NodeId.{NodeId}
use Rattle.flat_ir.specs.declared.nodes.Node.{Node}
use Rattle.flat_ir.specs.declared.nodes.RegType.{RegType}
use Rattle.flow.specs.Paths.{node_of}
use Rattle.checks.specs.Typed.{is_typed}
use Rattle.checks.proofs.Firsts.{clash_by_types}
use Rattle.checks.proofs.checking.clashes.Goals as goal

pub returns : goal.returns
returns c =
    let f = c.args.func.now in
    let x = c.index-as_slice-node.result in
    let there : slice_get f.nodes c.args.node ≡ Some x =
    slice_get_read f.nodes _ c.args.node x refl c.requires.there
    (subst (λ (nodes : List Node). x ≡ slice_index_or nodes c.args.node x) c.as_slice-2.ensures c.index-as_slice-node.is) in
    let unknown : Contains f.clashes (node_of c.args.node) → ⊥ =
    λ among. let h : false ≡ true = c.if-is_among.ensures.1 (subst (λ (ns : List NodeId). Contains ns (node_of c.args.node)) (sym c.as_slice.ensures) among) in cc in
    let e : c.is_typed.result ≡ is_typed c.args.funcs.now f.regs f.result x =
    c.is_typed.ensures ∙ ap (λ (regs : List RegType). is_typed c.args.funcs.now regs f.result x) c.as_slice-3.ensures in
    clash_by_types c.args.funcs.now f c.args.node x c.is_typed.result there unknown e
