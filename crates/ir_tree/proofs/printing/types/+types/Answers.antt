use Rattle.std.proofs.Common.{map, sym, ap, ◌∙◌}
use Rattle.std.proofs.lemmas.Result.{on_ok_weaker}
use Rattle.ir_tree.specs.Texts.{local_text}
use Rattle.ir_tree.specs.Spelling.{type_tokens, separated}
use Rattle.ir_tree.specs.Pages.{with_token, after}
use Rattle.ir_tree.proofs.Spelled.{int_tokens, ptr_tokens, named_tokens, array_put, struct_put, separated_more}
use Rattle.ir_tree.proofs.printing.types.+types.Goals as goal

pub put_type-returns-in-Int : goal.put_type-returns-in-Int
put_type-returns-in-Int t c = on_ok_weaker c.put_width.result (λ e. e ∙ ap (after c.args.page.now) (sym (ap type_tokens c.in-Int.is ∙ int_tokens c.in-Int.width))) c.put_width.ensures

pub put_type-returns-in-Ptr : goal.put_type-returns-in-Ptr
put_type-returns-in-Ptr t c = on_ok_weaker c.put.result (λ e. e ∙ ap (after c.args.page.now) (sym (ap type_tokens c.in-Ptr.is ∙ ptr_tokens))) c.put.ensures

pub put_type-returns-in-Named : goal.put_type-returns-in-Named
put_type-returns-in-Named t c =
    on_ok_weaker c.put_local.result
    (λ e. e ∙ ap (λ name. with_token c.args.page.now (local_text name)) c.as_slice-in-Named.ensures ∙ ap (after c.args.page.now) (sym (ap type_tokens c.in-Named.is ∙ named_tokens c.in-Named.name c.in-Named.at)))
    c.put_local.ensures

pub put_type-returns-in_ok-put_type-in-Array : goal.put_type-returns-in_ok-put_type-in-Array
put_type-returns-in_ok-put_type-in-Array t c =
    on_ok_weaker c.put-in-Array-3.result
    (λ e. array_put c.in-Array.at c.in-Array.len c.in-Array.element c.args.kind.now c.args.page.now _ _ _ _ _ c.in-Array.is c.in_ok-put-in-Array.ensures c.in_ok-put_integer-in-Array.ensures c.in_ok-put-in-Array-2.ensures
    (c.in_ok-put_type-in-Array.ensures ∙ ap (λ k. after c.put-in-Array-2.new.self (type_tokens k)) c.get.ensures) e)
    c.put-in-Array-3.ensures

pub put_type-returns-in_ok-put_types-in-Struct : goal.put_type-returns-in_ok-put_types-in-Struct
put_type-returns-in_ok-put_types-in-Struct t c =
    on_ok_weaker c.put-in-Struct-2.result
    (λ e. struct_put c.in-Struct.at c.in-Struct.fields c.in-Struct.packed c.args.kind.now c.args.page.now _ _ _ c.in-Struct.is
    (c.in_ok-put-in-Struct.ensures ∙ ap (with_token c.args.page.now) c.opening.ensures)
    (c.in_ok-put_types-in-Struct.ensures ∙ ap (λ ks. after c.put-in-Struct.new.self (separated (map type_tokens ks))) c.as_slice.ensures)
    (e ∙ ap (with_token c.put_types.new.page) c.closing.ensures))
    c.put-in-Struct-2.ensures

pub put_types-loop-index-preserved : goal.put_types-loop-index-preserved
put_types-loop-index-preserved t c =
    separated_more type_tokens c.args.kinds.now c.loop-index.index c.index-kinds-index.result c.loop-index-test.true c.index-kinds-index.is c.args.page.now c.loop-index.page _ _ c.loop-index.invariant
    c.in_ok-put_comma_before.ensures c.in_ok-put_type.ensures
