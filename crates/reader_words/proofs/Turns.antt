-- Turns of the reader's loops.
use Rattle.std.proofs.Common.{◌≡◌, suc, ◌≤◌, ◌<◌, true, false, List, [], ◌∷◌, ◌++◌, length, refl, ap, ◌∙◌, arith}
use Rattle.std.specs.Prelude.{codes}
use Rattle.std.proofs.lemmas.List.{length-map}
use Rattle.phrases.specs.Piece.{Piece, Class, starts}
use Rattle.phrases.specs.Phrase.{Phrase, Outcome, got, and_then, skip_many, many, ◌>>◌}
use Rattle.phrases.specs.Exact.{Exact}
use Rattle.phrases.specs.Reading.{with_front}
use Rattle.phrases.proofs.Loops.{turns, shrinks, skip_more}
use Rattle.phrases.proofs.Combinators.{seq}
use Rattle.ir_grammar.specs.Tokens.{piece, comma}
use Rattle.ir_grammar.specs.Types.{skip_mark, behind_commas}
use Rattle.ir_grammar.proofs.Single.{mark_exact}
use Rattle.reader_words.specs.declared.source.Source.{Source}
use Rattle.reader_words.specs.Source.{pieces}

-- fewer tokens are left
pub fewer : (before after : Source) → suc (length (pieces after)) ≤ length (pieces before) → length after.tokens.now < length before.tokens.now
fewer before after h = omega (arith, h, length-map before.tokens.now (piece before.bytes.now), length-map after.tokens.now (piece after.bytes.now))

module _ {A : Type 0} (first more : List Class) (p : Phrase A) (P : Exact p first false more []) where
  pub item_shrinks : (ts : List Piece) (a : A) (rest : List Piece) → p.reads ts ≡ got a rest → suc (length rest) ≤ length ts
  item_shrinks ts a rest e = shrinks first more (λ (_ : Unit {0}). p) (λ _ _. tt) (λ _. P) tt ts a rest e

  pub item_turn : (found more_found : List A) (ts rest : List Piece) (a : A) (total : Outcome (List A)) → starts first ts ≡ true → p.reads ts ≡ got a rest
      → more_found ≡ found ++ a ∷ [] → with_front found ((many first p).reads ts) ≡ total → with_front more_found ((many first p).reads rest) ≡ total
  item_turn found more_found ts rest a total c e pushed so_far =
      ap (λ xs. with_front xs ((many first p).reads rest)) pushed ∙ turns first more (λ (_ : Unit {0}). p) (λ _ _. tt) (λ _. P) tt found ts rest a total c e so_far

-- ---- what is skipped

module _ (first more : List Class) (p : Phrase (Unit {0})) (P : Exact p first false more []) where
  pub skipped : (before after : Source) → starts first (pieces before) ≡ true → p.reads (pieces before) ≡ got tt (pieces after) → (skip_many first p).reads (pieces before) ≡ (skip_many first p).reads (pieces after)
  skipped before after c e = skip_more first more p P (pieces before) tt (pieces after) c e

  pub skipped_fewer : (before after : Source) → p.reads (pieces before) ≡ got tt (pieces after) → length after.tokens.now < length before.tokens.now
  skipped_fewer before after e = fewer before after (item_shrinks first more p P (pieces before) tt (pieces after) e)

-- ---- items behind commas

-- a comma and then the item
pub comma_then : {A : Type 0} (item : Phrase A) (ts mid rest : List Piece) (a : A) → (skip_mark (codes ",")).reads ts ≡ got tt mid → item.reads mid ≡ got a rest → (skip_mark (codes ",") >> item).reads ts ≡ got a rest
comma_then item ts mid rest a e f = ap (λ o. and_then o (λ _ rest. item.reads rest)) e ∙ f

module _ {A : Type 0} (first bad : List Class) (item : Phrase A) (P : Exact item first false [] bad) where
  behind : Exact (skip_mark (codes ",") >> item) (comma ∷ []) false [] []
  behind = seq (mark_exact (codes ",")) (λ _. P) refl refl

  pub comma_turn : (found more_found : List A) (before mid after : Source) (a : A) (total : Outcome (List A)) → starts (comma ∷ []) (pieces before) ≡ true → (skip_mark (codes ",")).reads (pieces before) ≡ got tt (pieces mid)
      → item.reads (pieces mid) ≡ got a (pieces after) → more_found ≡ found ++ a ∷ [] → with_front found ((behind_commas item).reads (pieces before)) ≡ total → with_front more_found ((behind_commas item).reads (pieces after)) ≡ total
  comma_turn found more_found before mid after a total c e f pushed so_far =
      item_turn (comma ∷ []) [] (skip_mark (codes ",") >> item) behind found more_found (pieces before) (pieces after) a total c (comma_then item (pieces before) (pieces mid) (pieces after) a e f) pushed so_far

  pub comma_fewer : (before mid after : Source) (a : A) → (skip_mark (codes ",")).reads (pieces before) ≡ got tt (pieces mid) → item.reads (pieces mid) ≡ got a (pieces after) → length after.tokens.now < length before.tokens.now
  comma_fewer before mid after a e f =
      fewer before after (item_shrinks (comma ∷ []) [] (skip_mark (codes ",") >> item) behind (pieces before) a (pieces after) (comma_then item (pieces before) (pieces mid) (pieces after) a e f))

module _ (first bad : List Class) (item : Phrase (Unit {0})) (P : Exact item first false [] bad) where
  behind_skipped : Exact (skip_mark (codes ",") >> item) (comma ∷ []) false [] []
  behind_skipped = seq (mark_exact (codes ",")) (λ _. P) refl refl

  pub comma_skipped : (before mid after : Source) → starts (comma ∷ []) (pieces before) ≡ true → (skip_mark (codes ",")).reads (pieces before) ≡ got tt (pieces mid) → item.reads (pieces mid) ≡ got tt (pieces after)
      → (skip_many (comma ∷ []) (skip_mark (codes ",") >> item)).reads (pieces before) ≡ (skip_many (comma ∷ []) (skip_mark (codes ",") >> item)).reads (pieces after)
  comma_skipped before mid after c e f = skipped (comma ∷ []) [] (skip_mark (codes ",") >> item) behind_skipped before after c (comma_then item (pieces before) (pieces mid) (pieces after) tt e f)
