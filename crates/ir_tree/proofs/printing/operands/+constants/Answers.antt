use Rattle.std.proofs.Common.{map, ap, ◌∙◌}
use Rattle.std.proofs.lemmas.Result.{on_ok_weaker}
use Rattle.ir_tree.specs.Texts.{string_text}
use Rattle.ir_tree.specs.Spelling.{constant_tokens, separated}
use Rattle.ir_tree.specs.Pages.{with_token, after}
use Rattle.ir_tree.proofs.Spelled.{value_put, bytes_put, array_constant_put, struct_constant_put, separated_more}
use Rattle.ir_tree.proofs.printing.operands.+constants.Goals as goal

pub put_constant-returns-in_ok-put_type-in-Value : goal.put_constant-returns-in_ok-put_type-in-Value
put_constant-returns-in_ok-put_type-in-Value t c =
    on_ok_weaker c.put_value.result (λ e. value_put c.in-Value.kind c.in-Value.value c.args.constant.now c.args.page.now _ _ c.in-Value.is c.in_ok-put_type-in-Value.ensures e) c.put_value.ensures

pub put_constant-returns-in_ok-put_type-in-Bytes : goal.put_constant-returns-in_ok-put_type-in-Bytes
put_constant-returns-in_ok-put_type-in-Bytes t c =
    on_ok_weaker c.put_string.result
    (λ e. bytes_put c.in-Bytes.kind c.in-Bytes.at c.in-Bytes.bytes c.args.constant.now c.args.page.now _ _ c.in-Bytes.is c.in_ok-put_type-in-Bytes.ensures
    (e ∙ ap (λ bs. with_token c.put_type-in-Bytes.new.page (string_text bs)) c.as_slice.ensures))
    c.put_string.ensures

pub put_constant-returns-in_ok-put_constants-in-Array : goal.put_constant-returns-in_ok-put_constants-in-Array
put_constant-returns-in_ok-put_constants-in-Array t c =
    on_ok_weaker c.put-in-Array.result
    (λ e. array_constant_put c.in-Array.kind c.in-Array.at c.in-Array.elements c.args.constant.now c.args.page.now _ _ _ _ c.in-Array.is c.in_ok-put_type-in-Array.ensures c.in_ok-put-in-Array.ensures
    (c.in_ok-put_constants-in-Array.ensures ∙ ap (λ cs. after c.put.new.self (separated (map constant_tokens cs))) c.as_slice-in-Array.ensures) e)
    c.put-in-Array.ensures

pub put_constant-returns-in_ok-put_constants-in-Struct : goal.put_constant-returns-in_ok-put_constants-in-Struct
put_constant-returns-in_ok-put_constants-in-Struct t c =
    on_ok_weaker c.put-in-Struct-2.result
    (λ e. struct_constant_put c.in-Struct.kind c.in-Struct.at c.in-Struct.fields c.in-Struct.packed c.args.constant.now c.args.page.now _ _ _ _ c.in-Struct.is c.in_ok-put_type-in-Struct.ensures
    (c.in_ok-put-in-Struct.ensures ∙ ap (with_token c.put_type-in-Struct.new.page) c.opening.ensures)
    (c.in_ok-put_constants-in-Struct.ensures ∙ ap (λ cs. after c.put-in-Struct.new.self (separated (map constant_tokens cs))) c.as_slice-in-Struct.ensures)
    (e ∙ ap (with_token c.put_constants-in-Struct.new.page) c.closing.ensures))
    c.put-in-Struct-2.ensures

pub put_constants-loop-index-preserved : goal.put_constants-loop-index-preserved
put_constants-loop-index-preserved t c =
    separated_more constant_tokens c.args.constants.now c.loop-index.index c.index-constants-index.result c.loop-index-test.true c.index-constants-index.is c.args.page.now c.loop-index.page _ _ c.loop-index.invariant
    c.in_ok-put_comma_before.ensures c.in_ok-put_constant.ensures
