use Rattle.std.proofs.Common.{◌≡◌, ◌∙◌, ap}
use Rattle.std.specs.List.{flat_map}
use Rattle.ir_programs.specs.Parts.{function_callees}
use Rattle.tree_nodes.proofs.Kept.{called_more}
use Rattle.tree_nodes.proofs.functions.called.Goals as goal

pub loop-index-preserved : goal.loop-index-preserved
loop-index-preserved c =
    let t = c.args.tree.now in
    let names = c.as_slice-in-loop-index.result.now in
    let all : names ≡ flat_map function_callees t.functions = c.as_slice-in-loop-index.ensures.value ∙ (c.in_ok-callees.ensures ∙ ap (flat_map function_callees) c.as_slice.ensures) in
    called_more t c.loop-index.index c.in_ok-func.func names c.loop-index.funcs.items c.push_if_named.new.funcs.items all c.in_ok-func.ensures c.in_ok-push_if_named.ensures c.loop-index.invariant
