-- Widths of heads.
use Rattle.std.proofs.Common.{◌≡◌, ◌∙◌, ℕ, zero, suc, Bool, true, false, cond, List, [], ◌∷◌, Option, Some, None, length, refl, sym, subst}
use Rattle.std.specs.Prelude.{nat_le}
use Rattle.std.proofs.lemmas.Bool.{leb-true}
use Rattle.std.proofs.lemmas.Option.{none-some, same_Some}
use Rattle.bitnum.specs.Number.{IsWidth}
use Rattle.ir_tree.specs.Layout.{kind_of}
use Rattle.ir_tree.specs.Texts.{same}
use Rattle.ir_tree.specs.declared.types.IrType.{IrType, fold_out-IrType, map-IrType, out-IrType}
use Rattle.ir_tree.specs.declared.types.IrType.TheOpen.{IrType-F}
use Rattle.ir_tree.specs.declared.module.TypeDefinition.{TypeDefinition}
use Rattle.ir_programs.specs.Constants.{behind_name, behind_level, head_within, head_of}
use Rattle.ir_programs.specs.Readable.{is_width, width_level, has_widths}
use Rattle.tree_constants.specs.Heads.{has_width, have_widths}
use Rattle.tree_constants.proofs.Levels.{both_left, both_right}

pub width_is : (n : ℕ) → is_width n ≡ true → IsWidth n
width_is n h = record { least = leb-true 1 n (both_left (nat_le 1 n) (nat_le n 64) h); most = leb-true n 64 (both_right (nat_le 1 n) (nat_le n 64) h) }

level_has : (l : IrType-F IrType) → width_level (map-IrType IrType Bool has_widths l) ≡ true → has_width l ≡ true
level_has (IrType-F.Int width) h = h
level_has IrType-F.Ptr h = refl
level_has (IrType-F.Array at len element) h = refl
level_has (IrType-F.Struct at fields packed) h = refl
level_has (IrType-F.Named name at) h = refl

out_has : (t : IrType) → has_widths t ≡ true → has_width (out-IrType t) ≡ true
unfolding has_widths level_has
out_has t h = level_has (out-IrType t) (sym (fold_out-IrType Bool width_level t) ∙ h)

kind_has : (ts : List TypeDefinition) (name : List ℕ) (k : IrType) → have_widths ts ≡ true → kind_of ts name ≡ Some k → has_widths k ≡ true
kind_has [] name k h e = absurd (none-some k e)
kind_has (d ∷ ds) name k h e = go (same d.name.text name) e (kind_has ds name k (both_right (has_widths d.kind) (have_widths ds) h))
  where
    go : (b : Bool) → cond b (Some d.kind) (kind_of ds name) ≡ Some k → (kind_of ds name ≡ Some k → has_widths k ≡ true) → has_widths k ≡ true
    go true q again = subst (λ (t : IrType). has_widths t ≡ true) (same_Some d.kind k q) (both_left (has_widths d.kind) (have_widths ds) h)
    go false q again = again q

module _ (ts : List TypeDefinition) (all : have_widths ts ≡ true) where
  -- a head through so many names has its width
  abbrev HeadsHave : ℕ → Type 0
  HeadsHave n = (t : IrType) → has_widths t ≡ true → has_width (head_within n ts t) ≡ true

  named : (n : ℕ) → HeadsHave n → (name : List ℕ) (at : ℕ) (o : Option IrType) → kind_of ts name ≡ o → has_width (behind_name (head_within n ts) (IrType-F.Named name at) o) ≡ true
  named n have name at (Some k) e = have k (kind_has ts name k all e)
  named n have name at None e = refl

  behind : (n : ℕ) → HeadsHave n → (l : IrType-F IrType) → has_width l ≡ true → has_width (behind_level (head_within n ts) ts l) ≡ true
  behind n have (IrType-F.Int width) q = q
  behind n have IrType-F.Ptr q = refl
  behind n have (IrType-F.Array at len element) q = refl
  behind n have (IrType-F.Struct at fields packed) q = refl
  behind n have (IrType-F.Named name at) q = named n have name at (kind_of ts name) refl

  within_has : (n : ℕ) (t : IrType) → has_widths t ≡ true → has_width (head_within n ts t) ≡ true
  unfolding head_within
  within_has zero t h = out_has t h
  within_has (suc n) t h = behind n (within_has n) (out-IrType t) (out_has t h)

  -- the head of a type has its width
  pub head_has : (t : IrType) → has_widths t ≡ true → has_width (head_of ts t) ≡ true
  head_has t h = within_has (length ts) t h
