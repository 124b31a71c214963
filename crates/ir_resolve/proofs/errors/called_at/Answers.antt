use Rattle.std.proofs.Common.{◌∙◌, subst, List}
use Rattle.std.specs.List.{Contains}
use Rattle.ir_tree.specs.declared.types.Name.{Name}
use Rattle.ir_programs.specs.Parts.{function_callees as callees_in}
use Rattle.ir_resolve.proofs.Calling.{called, some_weaker, in_flat}
use Rattle.ir_resolve.proofs.errors.called_at.Goals as goal

pub returns-then-is_some : goal.returns-then-is_some
returns-then-is_some c =
    some_weaker c.in_ok-found.found _ _
    (λ text h. in_flat callees_in c.args.functions.now c.each.function-index c.function-item.result (called c.args.at text) c.each-test.true c.function-item.is
    (subst (λ (ns : List Name). Contains ns (called c.args.at text)) (c.as_slice.ensures.value ∙ c.in_ok-names.ensures) h))
    c.in_ok-found.ensures
