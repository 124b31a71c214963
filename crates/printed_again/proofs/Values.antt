-- Constant expressions and operands are read again.
use Rattle.std.proofs.Common.{◌≡◌, ℕ, zero, suc, Bool, true, false, cond, List, [], ◌∷◌, Option, Some, None, refl, sym, ap, subst, ◌∙◌}
use Rattle.std.specs.Prelude.{codes, map}
use Rattle.std.specs.List.{AllByRecursion}
use Rattle.ir_lexer.specs.declared.token.TokenKind.{TokenKind}
use Rattle.ir_lexer.specs.declared.token.TokenKind.TheVariants as kinds
use Rattle.ir_lexer.specs.Forms.{kind_of}
use Rattle.ir_tree.specs.declared.types.IrType.{IrType}
use Rattle.ir_tree.specs.declared.constants.Integer.{Integer}
use Rattle.ir_tree.specs.declared.constants.Value.{Value}
use Rattle.ir_tree.specs.declared.constants.ValueForm.{ValueForm}
use Rattle.ir_tree.specs.declared.constants.ValueForm.TheVariants as forms
use Rattle.ir_tree.specs.declared.constants.ConstGep.{ConstGep}
use Rattle.ir_tree.specs.declared.constants.ConstIndex.{ConstIndex}
use Rattle.ir_tree.specs.Texts.{global_text, local_text, integer_text}
use Rattle.ir_tree.specs.Spelling.{const_index_tokens, gep_tokens, form_tokens, value_tokens, pointer_tokens}
use Rattle.ir_tree.specs.Places.{bare_type, bare_const_index, bare_gep, bare_form, bare_value}
use Rattle.phrases.specs.Piece.{Piece, matches}
use Rattle.phrases.specs.Phrase.{one, skip}
use Rattle.ir_grammar.specs.Tokens.{a_global, a_local, word, words, meaning}
use Rattle.ir_grammar.specs.Words.{flag_words}
use Rattle.ir_grammar.specs.Numbers.{fits_any, fits_offset, int_in}
use Rattle.ir_grammar.specs.Names.{after_sigil}
use Rattle.ir_grammar.specs.Types.{flags, nesting}
use Rattle.ir_grammar.specs.Constants.{const_index, gep_level, gep_global, gep_base, constant_rows, form_or_int, simple_form, value_here, simple_of, operand_of, gep_value, gep_operand, operand_where, pointer}
use Rattle.printed_again.specs.Again.{are_bytes}
use Rattle.printed_again.proofs.Names.{name_again, global_is, local_is, sigil_bytes}
use Rattle.printed_again.proofs.Numbers.{Fits, IsWidth, IsBounded, offset_bounded, any_bounded, int_fits, int_reads, placed_tells, placed_back, width_tells, width_back}
use Rattle.printed_again.proofs.Backs.{Back, bind, ends, gives, alike, left, right, token, single, Any, the_word, the_mark, the_place, nothing}
use Rattle.printed_again.proofs.Tells.{Tells, step, over, made, or, told_as, token_tells}
use Rattle.printed_again.proofs.Lists.{moved, commas_back, commas_tell}
use Rattle.printed_again.proofs.Types.{global_back, global_tells, TypeBack, mem_tells}

pub flags_back : Back flags.derives [] Any
flags_back = nothing (skip (words flag_words))

-- ---- constant expressions

abbrev IndexBack : ConstIndex → Type 0
IndexBack i = Back const_index.derives (const_index_tokens i) (λ j. bare_const_index j ≡ bare_const_index i)

abbrev an_index : ℕ → Integer → ℕ → ConstIndex
an_index w n at = record { width = w; value = n; at = at }

index_back : (w : ℕ) (n : Integer) (at : ℕ) → IsWidth w → Fits fits_offset n → IndexBack (an_index w n at)
index_back w n at W f =
    bind (width_back w W) (λ v ev. alike (λ j x. ap bare_const_index x.1 ∙ ap (λ k. an_index k n 0) ev) (placed_back fits_offset (λ m from. an_index v m from) n f))

index_tells : Tells const_index.derives IndexBack
index_tells = step width_tells (λ w W. told_as (λ i x. subst IndexBack (sym x.is) (index_back w x.number x.at W x.fitting)) (placed_tells fits_offset (λ n at. an_index w n at) offset_bounded))

abbrev pub SameGep : ConstGep → ConstGep → Type 0
SameGep g h = bare_gep h ≡ bare_gep g

abbrev GepBack : ℕ → ConstGep → Type 0
GepBack n g = Back (gep_base n).derives (gep_tokens g.base g.levels) (SameGep g)

abbrev LevelBack : ℕ → ConstGep → Type 0
LevelBack n g = Back (gep_level (gep_base n)).derives (gep_tokens g.base g.levels) (SameGep g)

abbrev one_level : ℕ → IrType → List ConstIndex → ConstGep → ConstGep
one_level at source indices base = record { levels = record { at = at; source = source; indices = indices } ∷ base.levels; base = base.base }

level_back : (n at : ℕ) (source : IrType) (indices : List ConstIndex) (base : ConstGep) → TypeBack nesting source → GepBack n base → AllByRecursion IndexBack indices → LevelBack n (one_level at source indices base)
level_back n at source indices base S B I =
    bind (the_place (codes "getelementptr") refl) (λ from _.
    bind flags_back (λ _ _.
    bind (the_mark (codes "(") refl) (λ _ _.
    bind S (λ s es.
    bind (the_mark (codes ",") refl) (λ _ _.
    bind (the_word (codes "ptr") refl) (λ _ _.
    bind B (λ b eb.
    bind (commas_back const_index const_index_tokens bare_const_index indices I) (λ js ejs.
    bind (the_mark (codes ")") refl) (λ _ _.
    gives (one_level from s js b)
    (ap (λ t. one_level 0 t (map bare_const_index js) (bare_gep b)) es ∙ ap (λ ks. one_level 0 (bare_type source) ks (bare_gep b)) ejs ∙ ap (one_level 0 (bare_type source) (map bare_const_index indices)) eb))))))))))

level_tells : (n : ℕ) → Tells (gep_base n).derives (GepBack n) → Tells (gep_level (gep_base n)).derives (LevelBack n)
level_tells n P =
    over (λ at. over (λ _. over (λ _. step (mem_tells nesting) (λ source S. over (λ _. over (λ _. step P (λ base B. step (commas_tell const_index index_tells) (λ indices I. over (λ _.
    made (one_level at source indices base) (level_back n at source indices base S B I))))))))))

abbrev GlobalBack : ConstGep → Type 0
GlobalBack g = Back gep_global.derives (gep_tokens g.base g.levels) (SameGep g)

base_tells : Tells gep_global.derives GlobalBack
base_tells = step global_tells (λ g G. made (record { levels = []; base = g }) (ends (global_back g G) (λ h e. gives (record { levels = []; base = h }) (ap (λ n. record { levels = []; base = n }) e))))

gep_tells : (n : ℕ) → Tells (gep_base n).derives (GepBack n)
unfolding gep_base
gep_tells zero = record { told = λ g w h d. record { read = (base_tells.told g w h d).read } }
gep_tells (suc n) = or (told_as (λ g L. left L) (level_tells n (gep_tells n))) (told_as (λ g G. right G) base_tells)

-- ---- operands

abbrev pub SameValue : Value → Value → Type 0
SameValue v x = bare_value x ≡ bare_value v

abbrev pub GepOperandBack : ℕ → Value → Type 0
GepOperandBack n v = Back (gep_operand n).derives (value_tokens v) (SameValue v)

pub gep_operand_tells : (n : ℕ) → Tells (gep_operand n).derives (GepOperandBack n)
gep_operand_tells n = step (level_tells n (gep_tells n)) (λ g L. made (gep_value g) (ends L (λ h e. gives (gep_value h) (ap (λ k. record { at = 0; form = forms.Gep k }) e))))

-- an operand that is one token, and no register
pub record IsForm (fits : Integer → Bool) (form : ValueForm) : Type 0 where
  pub text : List ℕ
  pub token_kind : TokenKind
  pub kind : kind_of text ≡ Some token_kind
  pub printed : form_tokens form ≡ text ∷ []
  pub no_local : (at : ℕ) → matches a_local (token token_kind text at) ≡ false
  pub bare : bare_form form ≡ form
  pub reads : (at : ℕ) → simple_form fits (token token_kind text at) ≡ Some form

pub simple_back : (fits : Integer → Bool) (v : Value) → IsForm fits v.form → Back (one (simple_of fits)).derives (value_tokens v) (SameValue v)
simple_back fits v f = moved (sym f.printed) (single (simple_of fits) f.text f.token_kind f.kind (λ at. (record { at = at; form = v.form }, ap (value_here at) (f.reads at), refl)))

abbrev PlainOperandBack : (Integer → Bool) → Value → Type 0
PlainOperandBack fits v = Back (one (operand_of fits)).derives (value_tokens v) (SameValue v)

form_back : (fits : Integer → Bool) (v : Value) → IsForm fits v.form → PlainOperandBack fits v
form_back fits v f =
    moved (sym f.printed)
    (single (operand_of fits) f.text f.token_kind f.kind (λ at.
    (record { at = at; form = v.form }, ap (λ b. cond b (Some (record { at = at; form = forms.Local (after_sigil f.text) })) (simple_of fits (token f.token_kind f.text at))) (f.no_local at) ∙ ap (value_here at) (f.reads at), refl)))

local_operand : (fits : Integer → Bool) (at : ℕ) (name : List ℕ) → are_bytes name ≡ true → PlainOperandBack fits (record { at = at; form = forms.Local name })
local_operand fits at name h =
    single (operand_of fits) (local_text name) kinds.Local (local_is name h) (λ from.
    (record { at = from; form = forms.Local (after_sigil (local_text name)) }, refl, ap (λ s. record { at = 0; form = forms.Local s }) (name_again name h)))

global_form : (fits : Integer → Bool) (name : List ℕ) → are_bytes name ≡ true → IsForm fits (forms.Global name)
global_form fits name h = record {
  text = global_text name;
  token_kind = kinds.Global;
  kind = global_is name h;
  printed = refl;
  no_local = λ at. refl;
  bare = refl;
  reads = λ at. ap (λ s. Some (forms.Global s)) (name_again name h);
}

int_form : (fits : Integer → Bool) (n : Integer) → Fits fits n → IsForm fits (forms.Int n)
int_form fits n f = record {
  text = integer_text n;
  token_kind = kinds.Int;
  kind = f.readable.kind;
  printed = refl;
  no_local = λ at. refl;
  bare = refl;
  reads = λ at. ap (form_or_int None) (int_reads fits n f at);
}

-- what a table gives is in it
pub meaning_tells : {A : Type 0} (P : A → Type 0) (rows : List (List ℕ × A)) → AllByRecursion (λ row. P row.1) rows → (p : Piece) (a : A) → meaning rows p ≡ Some a → P a
meaning_tells P [] h p a e = absurd cc
meaning_tells {A} P (row ∷ rows) h p a e = go (λ k. meaning_tells P rows h.1 p a k) (matches (word row.0) p) e
  where
    some_is : (x y : A) → Some x ≡ Some y → x ≡ y
    some_is x y q = cc

    go : (meaning rows p ≡ Some a → P a) → (b : Bool) → cond b (Some row.1) (meaning rows p) ≡ Some a → P a
    go later true k = subst P (some_is row.1 a k) h.0
    go later false k = later k

word_form : (fits : Integer → Bool) (s : List ℕ) (form : ValueForm) → kind_of s ≡ Some kinds.Word → form_tokens form ≡ s ∷ [] → bare_form form ≡ form → ((at : ℕ) → simple_form fits (token kinds.Word s at) ≡ Some form) → IsForm fits form
word_form fits s form k e b r = record { text = s; token_kind = kinds.Word; kind = k; printed = e; no_local = λ at. refl; bare = b; reads = r }

rows_are_forms : (fits : Integer → Bool) → AllByRecursion (λ row. IsForm fits row.1) constant_rows
rows_are_forms fits = (
  word_form fits (codes "true") forms.True refl refl refl (λ at. refl),
  (
    word_form fits (codes "false") forms.False refl refl refl (λ at. refl),
    (
      word_form fits (codes "null") forms.Null refl refl refl (λ at. refl),
      (
        word_form fits (codes "undef") forms.Undef refl refl refl (λ at. refl),
        (
          word_form fits (codes "poison") forms.Poison refl refl refl (λ at. refl),
          (word_form fits (codes "zeroinitializer") forms.ZeroInitializer refl refl refl (λ at. refl), tt),
        ),
      ),
    ),
  ),
)

some_form : (x y : ValueForm) → Some x ≡ Some y → x ≡ y
some_form x y q = cc

simple_is_form : (fits : Integer → Bool) → IsBounded fits → (p : Piece) (form : ValueForm) → are_bytes p.text ≡ true → simple_form fits p ≡ Some form → IsForm fits form
simple_is_form fits bounded p form bytes e = go (matches a_global p) e
  where
    other : (o : Option ValueForm) (n : Option Integer) → meaning constant_rows p ≡ o → int_in fits p ≡ n → form_or_int o n ≡ Some form → IsForm fits form
    other (Some f) n qf qn h = subst (IsForm fits) (some_form f form h) (meaning_tells (IsForm fits) constant_rows (rows_are_forms fits) p f qf)
    other None (Some n) qf qn h = subst (IsForm fits) (some_form (forms.Int n) form h) (int_form fits n (int_fits fits bounded p n qn))
    other None None qf qn h = absurd cc

    go : (b : Bool) → cond b (Some (forms.Global (after_sigil p.text))) (form_or_int (meaning constant_rows p) (int_in fits p)) ≡ Some form → IsForm fits form
    go true h = subst (IsForm fits) (some_form (forms.Global (after_sigil p.text)) form h) (global_form fits (after_sigil p.text) (sigil_bytes p.text bytes))
    go false h = other (meaning constant_rows p) (int_in fits p) refl refl h

some_value : (x y : Value) → Some x ≡ Some y → x ≡ y
some_value x y q = cc

simple_is : (fits : Integer → Bool) → IsBounded fits → (p : Piece) (v : Value) → are_bytes p.text ≡ true → simple_of fits p ≡ Some v → IsForm fits v.form
simple_is fits bounded p v bytes e = go (simple_form fits p) refl e
  where
    go : (o : Option ValueForm) → simple_form fits p ≡ o → value_here p.at o ≡ Some v → IsForm fits v.form
    go (Some form) q h = subst (λ x. IsForm fits x.form) (some_value (record { at = p.at; form = form }) v h) (simple_is_form fits bounded p form bytes q)
    go None q h = absurd cc

pub simple_tells : (fits : Integer → Bool) → IsBounded fits → Tells (one (simple_of fits)).derives (λ v. IsForm fits v.form)
simple_tells fits bounded = token_tells (simple_of fits) (λ p v bytes e. simple_is fits bounded p v bytes e)

plain_operand_tells : (fits : Integer → Bool) → IsBounded fits → Tells (one (operand_of fits)).derives (PlainOperandBack fits)
plain_operand_tells fits bounded = token_tells (operand_of fits) (λ p v bytes e. go p v bytes (matches a_local p) e)
  where
    go : (p : Piece) (v : Value) → are_bytes p.text ≡ true → (b : Bool) → cond b (Some (record { at = p.at; form = forms.Local (after_sigil p.text) })) (simple_of fits p) ≡ Some v → PlainOperandBack fits v
    go p v bytes true h = subst (PlainOperandBack fits) (some_value (record { at = p.at; form = forms.Local (after_sigil p.text) }) v h) (local_operand fits p.at (after_sigil p.text) (sigil_bytes p.text bytes))
    go p v bytes false h = form_back fits v (simple_is fits bounded p v bytes h)

-- an operand is read from the tokens that it is printed as
abbrev pub OperandBack : (Integer → Bool) → Value → Type 0
OperandBack fits v = Back (operand_where fits).derives (value_tokens v) (SameValue v)

pub operand_tells : (fits : Integer → Bool) → IsBounded fits → Tells (operand_where fits).derives (OperandBack fits)
unfolding operand_where
operand_tells fits bounded = or (told_as (λ v G. left G) (gep_operand_tells 63)) (told_as (λ v P. right P) (plain_operand_tells fits bounded))

abbrev pub PointerBack : Value → Type 0
PointerBack v = Back pointer.derives (pointer_tokens v) (SameValue v)

pub pointer_tells : Tells pointer.derives PointerBack
pointer_tells = over (λ _. told_as (λ v P. bind (the_word (codes "ptr") refl) (λ _ _. P)) (operand_tells fits_any any_bounded))
