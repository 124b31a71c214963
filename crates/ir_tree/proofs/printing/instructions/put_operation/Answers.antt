use Rattle.std.proofs.Common.{map, ap, ◌∙◌}
use Rattle.std.proofs.lemmas.Result.{on_ok_weaker}
use Rattle.ir_tree.specs.Spelling.{others, index_tokens}
use Rattle.ir_tree.specs.Pages.{after}
use Rattle.ir_tree.proofs.Spelled.{address_put}
use Rattle.ir_tree.proofs.printing.instructions.put_operation.Goals as goal

pub returns-in_ok-put_pointer-in-GetElementPtr : goal.returns-in_ok-put_pointer-in-GetElementPtr
returns-in_ok-put_pointer-in-GetElementPtr c =
    on_ok_weaker c.put_others.result
    (λ e. address_put c.in-GetElementPtr.source c.in-GetElementPtr.pointer c.in-GetElementPtr.indices c.args.operation.now c.args.page.now _ _ _ _ _ c.in-GetElementPtr.is c.in_ok-put-in-GetElementPtr.ensures
    c.in_ok-put_type-in-GetElementPtr.ensures c.in_ok-put-in-GetElementPtr-2.ensures c.in_ok-put_pointer-in-GetElementPtr.ensures
    (e ∙ ap (λ xs. after c.put_pointer-in-GetElementPtr.new.page (others (map index_tokens xs))) c.as_slice.ensures))
    c.put_others.ensures
