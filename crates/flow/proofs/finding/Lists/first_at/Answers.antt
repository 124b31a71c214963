use Rattle.std.proofs.Common.{◌≡◌, ◌∙◌, Some, List, subst, refl}
use Rattle.std.specs.Prelude.{slice_get, slice_index_or, MatchOption}
use Rattle.std.proofs.lemmas.Option.{slice_get_read}
use Rattle.std.proofs.lemmas.Result.{IfOk-weaker}
use Rattle.flat_ir.specs.declared.nodes.Node.{Node}
use Rattle.flow.specs.Flow.{reads}
use Rattle.flow.specs.Paths.{IsLost, NoneOf, FirstOf, NoneAt, FirstAt, node_of}
use Rattle.flow.proofs.Bridges.{first_there}
use Rattle.flow.proofs.finding.Lists.first_at.Goals as goal

pub returns : goal.returns
returns c =
    let f = c.args.self.now.func.now in
    let x = c.index-as_slice-node.result in
    let registers = c.as_slice-2.result.now in
    let there : slice_get f.nodes c.args.node ≡ Some x =
    slice_get_read f.nodes _ c.args.node x refl c.requires
    (subst (λ (nodes : List Node). x ≡ slice_index_or nodes c.args.node x) c.as_slice.ensures c.index-as_slice-node.is) in
    let is : registers ≡ reads x = c.as_slice-2.ensures ∙ c.in_ok-registers.ensures in
    IfOk-weaker c.first_lost.result (λ found. MatchOption found (NoneOf (IsLost f c.args.node) registers) (FirstOf (IsLost f c.args.node) registers))
    (λ found. MatchOption found (NoneAt f (node_of c.args.node)) (FirstAt f (node_of c.args.node)))
    (λ found h. first_there f c.args.node x registers found there is h) c.first_lost.ensures
