-- Each integer type that is read has 1 to 64 bits.
use Rattle.std.proofs.Common.{◌≡◌, ℕ, zero, suc, Bool, true, false, cond, ◌&&◌, nat_le, List, Option, Some, None, refl, sym, ap, subst, ◌∙◌}
use Rattle.std.specs.Prelude.{codes}
use Rattle.std.specs.List.{AllByRecursion}
use Rattle.std.proofs.lemmas.Option.{same_Some}
use Rattle.ir_tree.specs.declared.types.IrType.{IrType, fold-IrType, fold-roll-IrType}
use Rattle.ir_tree.specs.declared.types.IrType.TheOpen.{IrType-F}
use Rattle.ir_tree.specs.declared.types.IrType.TheViews.{rolls-Array, rolls-Struct, rolls-Named, rolls-Int, rolls-Ptr}
use Rattle.ir_tree.specs.declared.types.IrType.TheVariants as types
use Rattle.phrases.specs.Piece.{Piece, matches, among}
use Rattle.phrases.specs.Phrase.{Phrase, one}
use Rattle.phrases.proofs.Classes.{and_left, and_right}
use Rattle.ir_grammar.specs.Tokens.{a_local, word, integer_type}
use Rattle.ir_grammar.specs.Numbers.{number_after_i, width_of}
use Rattle.ir_grammar.specs.Names.{after_sigil}
use Rattle.ir_grammar.specs.Types.{width, integer_or, type_of, value_type, scalar_words, scalar_of, scalar_type, plain_of, array_type, struct_type, mem_type}
use Rattle.ir_programs.specs.Readable.{is_width, width_level, has_widths}
use Rattle.readable_trees.proofs.Gives.{Gives, step, over, made, or, token, between, both, all_mapped, when_some}

-- ---- numbers of bits

abbrev pub IsWidth : ℕ → Type 0
IsWidth n = is_width n ≡ true

width_is : (p : Piece) (n : ℕ) → width_of p ≡ Some n → IsWidth n
width_is p n e =
    let v = number_after_i p.text in
    let r = when_some (matches integer_type p && nat_le 1 v && nat_le v 64) v n e in
    let front = and_left (matches integer_type p && nat_le 1 v) (nat_le v 64) r.0 in
    subst IsWidth r.1 (both (and_right (matches integer_type p) (nat_le 1 v) front) (and_right (matches integer_type p && nat_le 1 v) (nat_le v 64) r.0))

pub width_gives : Gives width.derives IsWidth
width_gives = token width_of width_is

-- ---- one level of a type at a time

abbrev pub HasWidths : IrType → Type 0
HasWidths t = has_widths t ≡ true

pub has_int : (n : ℕ) → IsWidth n → HasWidths (types.Int n)
unfolding has_widths
has_int n h = ap (fold-IrType Bool width_level) (sym (rolls-Int n)) ∙ fold-roll-IrType Bool width_level (IrType-F.Int n) ∙ h

has_ptr : HasWidths types.Ptr
unfolding has_widths
has_ptr = ap (fold-IrType Bool width_level) (sym rolls-Ptr) ∙ fold-roll-IrType Bool width_level IrType-F.Ptr

has_named : (name : List ℕ) (at : ℕ) → HasWidths (types.Named name at)
unfolding has_widths
has_named name at = ap (fold-IrType Bool width_level) (sym (rolls-Named name at)) ∙ fold-roll-IrType Bool width_level (IrType-F.Named name at)

has_array : (at len : ℕ) (e : IrType) → HasWidths e → HasWidths (types.Array at len e)
unfolding has_widths
has_array at len e h = ap (fold-IrType Bool width_level) (sym (rolls-Array at len e)) ∙ fold-roll-IrType Bool width_level (IrType-F.Array at len e) ∙ h

has_struct : (at : ℕ) (fields : List IrType) (packed : Bool) → AllByRecursion HasWidths fields → HasWidths (types.Struct at fields packed)
unfolding has_widths
has_struct at fields packed h =
    ap (fold-IrType Bool width_level) (sym (rolls-Struct at fields packed)) ∙ fold-roll-IrType Bool width_level (IrType-F.Struct at fields packed)
    ∙ all_mapped (fold-IrType Bool width_level) fields h

-- ---- types

type_is : (p : Piece) (t : IrType) → type_of p ≡ Some t → HasWidths t
type_is p t e = go (matches (word (codes "ptr")) p) (width_of p) refl e
  where
    go : (b : Bool) (o : Option ℕ) → width_of p ≡ o → integer_or b o ≡ Some t → HasWidths t
    go b (Some n) q h = subst HasWidths (same_Some (types.Int n) t h) (has_int n (width_is p n q))
    go true None q h = subst HasWidths (same_Some types.Ptr t h) has_ptr
    go false None q h = absurd cc

pub value_type_gives : Gives value_type.derives HasWidths
unfolding value_type
value_type_gives = token type_of type_is

scalar_is : (p : Piece) (t : IrType) → scalar_of p ≡ Some t → HasWidths t
scalar_is p t e = go (among scalar_words p) e
  where
    go : (b : Bool) → cond b (type_of p) None ≡ Some t → HasWidths t
    go true h = type_is p t h
    go false h = absurd cc

pub scalar_gives : Gives scalar_type.derives HasWidths
unfolding scalar_type
scalar_gives = token scalar_of scalar_is

plain_is : (p : Piece) (t : IrType) → plain_of p ≡ Some t → HasWidths t
plain_is p t e = go (matches a_local p) e
  where
    go : (b : Bool) → cond b (Some (types.Named (after_sigil p.text) p.at)) (scalar_of p) ≡ Some t → HasWidths t
    go true h = subst HasWidths (same_Some (types.Named (after_sigil p.text) p.at) t h) (has_named (after_sigil p.text) p.at)
    go false h = scalar_is p t h

plain_gives : Gives (one plain_of).derives HasWidths
plain_gives = token plain_of plain_is

array_gives : (inner : Phrase IrType) → Gives inner.derives HasWidths → Gives (array_type inner).derives HasWidths
array_gives inner P = over (λ at. over (λ len. over (λ _. step P (λ t h. over (λ _. made (types.Array at len.magnitude t) (has_array at len.magnitude t h))))))

struct_gives : (opening closing : List ℕ) (packed : Bool) (inner : Phrase IrType) → Gives inner.derives HasWidths → Gives (struct_type opening closing packed inner).derives HasWidths
struct_gives opening closing packed inner P = over (λ at. step (between closing inner P) (λ fields h. made (types.Struct at fields packed) (has_struct at fields packed h)))

pub mem_gives : (n : ℕ) → Gives (mem_type n).derives HasWidths
unfolding mem_type
mem_gives zero = record { told = λ t w d. plain_gives.told t w d }
mem_gives (suc n) =
    or (array_gives (mem_type n) (mem_gives n))
    (or (struct_gives (codes "{") (codes "}") false (mem_type n) (mem_gives n))
    (or (struct_gives (codes "<{") (codes "}>") true (mem_type n) (mem_gives n))
    plain_gives))
