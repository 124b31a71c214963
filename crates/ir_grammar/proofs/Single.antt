-- Single tokens and lists are exact.
use Rattle.std.proofs.Common.{◌≡◌, ℕ, Bool, true, false, cond, ◌||◌, ◌&&◌, List, [], ◌∷◌, ◌++◌, Some, None, refl, ap}
use Rattle.std.specs.Prelude.{codes}
use Rattle.ir_lexer.specs.declared.token.TokenKind.TheVariants as kinds
use Rattle.ir_tree.specs.declared.types.Name.{Name}
use Rattle.ir_tree.specs.declared.constants.Integer.{Integer}
use Rattle.phrases.specs.Piece.{Piece, Class, matches, among, all_apart}
use Rattle.phrases.specs.Phrase.{Phrase, one, place}
use Rattle.phrases.specs.Exact.{Exact}
use Rattle.phrases.proofs.Classes.{and_left, or_left}
use Rattle.phrases.proofs.Laws.{done_exact, one_exact}
use Rattle.phrases.proofs.Combinators.{seq, alt, rep, some_when, skip_exact, place_exact, self, apart_nil}
use Rattle.ir_grammar.specs.Tokens.{number_of, a_global, a_local, a_label, an_int, word, mark, meaning, heads, integer_type, comma}
use Rattle.ir_grammar.specs.Numbers.{int_in, written, width_of, number_after_i}
use Rattle.ir_grammar.specs.Names.{name_in, after_sigil, before_colon}
use Rattle.ir_grammar.specs.Types.{skip_word, skip_mark, place_of, global_name, local_name, label_name, int, width, behind_commas, listed}

abbrev pub a_piece : ℕ → List ℕ → Piece
a_piece k s = record { kind = k; text = s; at = 0 }

abbrev pub spelled : List ℕ → Piece
spelled s = a_piece (number_of kinds.Word) s

pub word_exact : (s : List ℕ) → Exact (skip_word s) (word s ∷ []) false [] []
word_exact s = skip_exact (word s ∷ []) (spelled s) (self s)

pub mark_exact : (s : List ℕ) → Exact (skip_mark s) (mark s ∷ []) false [] []
mark_exact s = skip_exact (mark s ∷ []) (a_piece (number_of kinds.Punct) s) (self s)

pub place_of_exact : (s : List ℕ) → Exact (place_of s) (word s ∷ []) false [] []
place_of_exact s = place_exact (word s ∷ []) (spelled s) (self s)

pub place_mark_exact : (s : List ℕ) → Exact (place (mark s ∷ [])) (mark s ∷ []) false [] []
place_mark_exact s = place_exact (mark s ∷ []) (a_piece (number_of kinds.Punct) s) (self s)

-- a token of a class, in a list
pub alone : (c : Class) (p : Piece) → matches c p ≡ true → among (c ∷ []) p ≡ true
alone c p h = or_left (matches c p) false h

name_exact : (c : Class) (f : List ℕ → List ℕ) (sample : Piece) → matches c sample ≡ true → Exact (one (name_in c f)) (c ∷ []) false [] []
name_exact c f sample h =
    one_exact (name_in c f) (c ∷ []) (λ p a e. alone c p (some_when (matches c p) (named p) a e)) sample (named sample) (ap (λ b. cond b (Some (named sample)) None) h)
  where
    named : Piece → Name
    named p = record { text = f p.text; at = p.at }

pub global_name_exact : Exact global_name (a_global ∷ []) false [] []
global_name_exact = name_exact a_global after_sigil (a_piece (number_of kinds.Global) []) refl

pub local_name_exact : Exact local_name (a_local ∷ []) false [] []
local_name_exact = name_exact a_local after_sigil (a_piece (number_of kinds.Local) []) refl

pub label_name_exact : Exact label_name (a_label ∷ []) false [] []
label_name_exact = name_exact a_label before_colon (a_piece (number_of kinds.Label) []) refl

pub int_within : (fits : Integer → Bool) (p : Piece) (n : Integer) → int_in fits p ≡ Some n → matches an_int p ≡ true
int_within fits p n e = and_left (matches an_int p) (fits (written p.text)) (some_when (matches an_int p && fits (written p.text)) (written p.text) n e)

abbrev pub zero_piece : Piece
zero_piece = a_piece (number_of kinds.Int) (codes "0")

-- where 0 is in the range
pub int_exact : (fits : Integer → Bool) → fits (written (codes "0")) ≡ true → Exact (int fits) (an_int ∷ []) false [] []
int_exact fits h = one_exact (int_in fits) (an_int ∷ []) (λ p n e. alone an_int p (int_within fits p n e)) zero_piece (written (codes "0")) (ap (λ b. cond b (Some (written (codes "0"))) None) h)

pub width_within : (p : Piece) (n : ℕ) → width_of p ≡ Some n → matches integer_type p ≡ true
width_within p n e = and_left (matches integer_type p) _ (and_left _ _ (some_when _ (number_after_i p.text) n e))

pub width_exact : Exact width (integer_type ∷ []) false [] []
width_exact = one_exact width_of (integer_type ∷ []) (λ p n e. alone integer_type p (width_within p n e)) (spelled (codes "i1")) 1 refl

-- ---- tables

pub meaning_within : {A : Type 0} (rows : List (List ℕ × A)) (p : Piece) (a : A) → meaning rows p ≡ Some a → among (heads rows) p ≡ true
meaning_within [] p a e = absurd cc
meaning_within (row ∷ rows) p a e = go (λ h. meaning_within rows p a h) (matches (word row.0) p) e
  where
    go : (meaning rows p ≡ Some a → among (heads rows) p ≡ true) → (b : Bool) → cond b (Some row.1) (meaning rows p) ≡ Some a → (b || among (heads rows) p) ≡ true
    go later true h = refl
    go later false h = later h

pub meaning_exact : {A : Type 0} (rows : List (List ℕ × A)) (sample : Piece) (a : A) → meaning rows sample ≡ Some a → Exact (one (meaning rows)) (heads rows) false [] []
meaning_exact rows sample a e = one_exact (meaning rows) (heads rows) (meaning_within rows) sample a e

-- ---- lists

-- items behind commas
pub commas_exact : {A : Type 0} {item : Phrase A} {first more bad : List Class} → Exact item first false more bad → all_apart (more ++ []) (comma ∷ []) ≡ true → Exact (behind_commas item) (comma ∷ []) true ((more ++ []) ++ comma ∷ []) []
commas_exact P again = rep (seq (mark_exact (codes ",")) (λ _. P) refl refl) again

-- items with commas between them, and the closing mark
pub listed_exact : {A : Type 0} {item : Phrase A} {first more bad : List Class} (s : List ℕ) → Exact item first false more bad → all_apart (mark s ∷ []) (first ++ []) ≡ true → all_apart (mark s ∷ []) (bad ++ []) ≡ true
    → all_apart (more ++ []) (comma ∷ []) ≡ true → all_apart ((more ++ []) ++ comma ∷ []) (mark s ∷ []) ≡ true → all_apart more (comma ∷ mark s ∷ []) ≡ true → Exact (listed s item) (mark s ∷ (first ++ [])) false [] (bad ++ [])
listed_exact {more = more} s P parted named again closes goes_on =
    alt (seq (mark_exact s) (λ _. done_exact []) refl refl)
    (seq P (λ first.
    seq (commas_exact P again) (λ others.
    seq (mark_exact s) (λ _. done_exact (first ∷ others)) refl refl) closes (apart_nil ((more ++ []) ++ comma ∷ []))) goes_on (apart_nil more))
    parted named
