-- Turns of the loop over parameters, behind which more may stand than a comma.
use Rattle.std.proofs.Common.{◌≡◌, suc, ◌≤◌, true, false, List, [], ◌∷◌, ◌++◌, length, refl}
use Rattle.std.specs.Prelude.{codes}
use Rattle.ir_tree.specs.declared.module.Parameter.{Parameter}
use Rattle.phrases.specs.Piece.{Piece, starts}
use Rattle.phrases.specs.Phrase.{Outcome, got, ◌>>◌}
use Rattle.phrases.specs.Exact.{Exact}
use Rattle.phrases.specs.Reading.{with_front}
use Rattle.phrases.proofs.Combinators.{seq}
use Rattle.ir_grammar.specs.Tokens.{a_local, comma}
use Rattle.ir_grammar.specs.Types.{skip_mark, behind_commas, attribute_starts}
use Rattle.ir_grammar.specs.Module.{parameter}
use Rattle.ir_grammar.proofs.Single.{mark_exact}
use Rattle.ir_grammar.proofs.ModuleExact.{parameter_exact}
use Rattle.reader_words.proofs.Turns.{item_turn, item_shrinks, comma_then}

behind : Exact (skip_mark (codes ",") >> parameter) (comma ∷ []) false (a_local ∷ attribute_starts []) []
behind = seq (mark_exact (codes ",")) (λ _. parameter_exact) refl refl

pub parameter_turn : (found more_found : List Parameter) (ts mid rest : List Piece) (a : Parameter) (total : Outcome (List Parameter)) → starts (comma ∷ []) ts ≡ true → (skip_mark (codes ",")).reads ts ≡ got tt mid
    → parameter.reads mid ≡ got a rest → more_found ≡ found ++ a ∷ [] → with_front found ((behind_commas parameter).reads ts) ≡ total → with_front more_found ((behind_commas parameter).reads rest) ≡ total
parameter_turn found more_found ts mid rest a total c e f pushed so_far =
    item_turn (comma ∷ []) (a_local ∷ attribute_starts []) (skip_mark (codes ",") >> parameter) behind found more_found ts rest a total c (comma_then parameter ts mid rest a e f) pushed so_far

pub parameter_shrinks : (ts mid rest : List Piece) (a : Parameter) → (skip_mark (codes ",")).reads ts ≡ got tt mid → parameter.reads mid ≡ got a rest → suc (length rest) ≤ length ts
parameter_shrinks ts mid rest a e f = item_shrinks (comma ∷ []) (a_local ∷ attribute_starts []) (skip_mark (codes ",") >> parameter) behind ts a rest (comma_then parameter ts mid rest a e f)
