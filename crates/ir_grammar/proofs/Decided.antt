-- Each list of tokens is a module, in one way, or refused, at one place.
use Rattle.std.proofs.Common.{◌≡◌, Bool, List, [], ◌⊎◌, inl, inr, refl, sym, ◌∙◌}
use Rattle.ir_tree.specs.declared.module.IrTree.{IrTree}
use Rattle.phrases.specs.Piece.{Piece}
use Rattle.phrases.specs.Phrase.{Outcome, got, refused}
use Rattle.phrases.specs.Reading.{to_the_end}
use Rattle.phrases.proofs.Laws.{got_is}
use Rattle.phrases.proofs.Wholes.{is_derived, is_read, is_refused}
use Rattle.phrases.proofs.Once.{refused_once, not_both}
use Rattle.ir_grammar.specs.Module.{module_text}
use Rattle.ir_grammar.specs.Laws.{IsModule, IsRefused, HasOneTree, IsDecided, IsNotBoth, IsRefusedOnce}
use Rattle.ir_grammar.proofs.ModuleExact.{module_exact}

pub one_tree : HasOneTree
one_tree ts a b d e = (got_is a b [] [] (sym (is_read module_text _ _ _ _ module_exact ts a d) ∙ is_read module_text _ _ _ _ module_exact ts b e)).0

pub decided : IsDecided
decided ts = go (to_the_end (module_text.reads ts)) refl
  where
    go : (o : Outcome IrTree) → to_the_end (module_text.reads ts) ≡ o → ((tree : IrTree) × IsModule tree ts) ⊎ ((rest : List Piece) × (named : Bool) × IsRefused ts rest named)
    go (got tree rest) e = inl (tree, is_derived module_text _ _ _ _ module_exact ts tree rest e)
    go (refused named rest) e = inr (rest, named, is_refused module_text _ _ _ _ module_exact ts named rest e)

pub never_both : IsNotBoth
never_both ts rest named tree d r = not_both module_text ts rest named tree d r

pub once : IsRefusedOnce
once ts rest last n m r s = refused_once module_text ts rest last n m r s
