use Rattle.std.proofs.Common.{◌∙◌, ◌++◌, ap, map, List, ℕ, ◌∷◌, []}
use Rattle.std.proofs.lemmas.Result.{IfOk-weaker}
use Rattle.ir_tree.specs.Texts.{local_text, width_text}
use Rattle.ir_tree.specs.Spelling.{type_tokens, separated, opening, closing}
use Rattle.ir_tree.specs.declared.types.IrType.TheVariants as types
use Rattle.ir_tree.proofs.Spelled.{int_tokens, ptr_tokens, named_tokens}
use Rattle.tree_fits.proofs.Tokens.{one_pushed, array_pushed, struct_pushed, separated_more}
use Rattle.tree_fits.proofs.spelled.+types.Goals as goal

pub push_type-returns-in_ok-push-in-Int : goal.push_type-returns-in_ok-push-in-Int
push_type-returns-in_ok-push-in-Int t c =
    one_pushed c.args.kind.now (types.Int c.in-Int.width) (width_text c.in-Int.width) c.args.tokens.now.items _ c.in-Int.is (int_tokens c.in-Int.width)
    (c.in_ok-push-in-Int.ensures.items ∙ ap (λ (k : List ℕ). c.args.tokens.now.items ++ k ∷ []) c.in_ok-width_token-in-Int.ensures)

pub push_type-returns-in-Ptr : goal.push_type-returns-in-Ptr
push_type-returns-in-Ptr t c = IfOk-weaker c.push_word.result _ _ (λ u e. one_pushed c.args.kind.now types.Ptr _ c.args.tokens.now.items _ c.in-Ptr.is ptr_tokens e) c.push_word.ensures

pub push_type-returns-in_ok-push_type-in-Array : goal.push_type-returns-in_ok-push_type-in-Array
push_type-returns-in_ok-push_type-in-Array t c =
    IfOk-weaker c.push_word-in-Array-3.result _ _
    (λ u e. array_pushed c.in-Array.at c.in-Array.len c.in-Array.element c.args.kind.now c.args.tokens.now.items _ _ _ _ _ c.in-Array.is c.in_ok-push_word-in-Array.ensures
    (c.in_ok-push-in-Array.ensures.items ∙ ap (λ (k : List ℕ). c.push_word-in-Array.new.tokens.items ++ k ∷ []) c.in_ok-integer_token-in-Array.ensures) c.in_ok-push_word-in-Array-2.ensures
    (c.in_ok-push_type-in-Array.ensures ∙ ap (λ k. c.push_word-in-Array-2.new.tokens.items ++ type_tokens k) c.get.ensures) e)
    c.push_word-in-Array-3.ensures

pub push_type-returns-in_ok-push_types-in-Struct : goal.push_type-returns-in_ok-push_types-in-Struct
push_type-returns-in_ok-push_types-in-Struct t c =
    IfOk-weaker c.push_word-in-Struct-2.result _ _
    (λ u e. struct_pushed c.in-Struct.at c.in-Struct.fields c.in-Struct.packed c.args.kind.now c.args.tokens.now.items _ _ _ c.in-Struct.is
    (c.in_ok-push_word-in-Struct.ensures ∙ ap (λ (k : List ℕ). c.args.tokens.now.items ++ k ∷ []) c.opening.ensures)
    (c.in_ok-push_types-in-Struct.ensures ∙ ap (λ ks. c.push_word-in-Struct.new.tokens.items ++ separated (map type_tokens ks)) c.as_slice.ensures)
    (e ∙ ap (λ (k : List ℕ). c.push_types.new.tokens.items ++ k ∷ []) c.closing.ensures))
    c.push_word-in-Struct-2.ensures

pub push_type-returns-in_ok-push-in-Named : goal.push_type-returns-in_ok-push-in-Named
push_type-returns-in_ok-push-in-Named t c =
    one_pushed c.args.kind.now (types.Named c.in-Named.name c.in-Named.at) (local_text c.in-Named.name) c.args.tokens.now.items _ c.in-Named.is (named_tokens c.in-Named.name c.in-Named.at)
    (c.in_ok-push-in-Named.ensures.items ∙ ap (λ (k : List ℕ). c.args.tokens.now.items ++ k ∷ []) (c.in_ok-name_token-in-Named.ensures ∙ ap local_text c.as_slice-in-Named.ensures))

pub push_types-loop-index-preserved : goal.push_types-loop-index-preserved
push_types-loop-index-preserved t c =
    separated_more c.args.kinds.now c.loop-index.index c.index-kinds-index.result c.args.tokens.now.items c.loop-index.tokens.items _ _ c.loop-index-test.true c.index-kinds-index.is c.loop-index.invariant
    c.in_ok-push_comma_before.ensures c.in_ok-push_type.ensures
