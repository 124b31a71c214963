-- What a fold over a type gives, one level at a time.
use Rattle.std.proofs.Common.{◌≡◌, ℕ, Bool, List, map, sym, ap, ◌∙◌}
use Rattle.ir_tree.specs.declared.types.IrType.{IrType, fold-IrType, fold-roll-IrType}
use Rattle.ir_tree.specs.declared.types.IrType.TheOpen.{IrType-F}
use Rattle.ir_tree.specs.declared.types.IrType.TheViews.{rolls-Array, rolls-Struct, rolls-Named, rolls-Int, rolls-Ptr}
use Rattle.ir_tree.specs.declared.types.IrType.TheVariants as types

module _ {A : Type 0} (f : IrType-F A → A) where
  pub fold_array : (at len : ℕ) (e : IrType) → fold-IrType A f (types.Array at len e) ≡ f (IrType-F.Array at len (fold-IrType A f e))
  fold_array at len e = ap (fold-IrType A f) (sym (rolls-Array at len e)) ∙ fold-roll-IrType A f (IrType-F.Array at len e)

  pub fold_struct : (at : ℕ) (fields : List IrType) (packed : Bool) → fold-IrType A f (types.Struct at fields packed) ≡ f (IrType-F.Struct at (map (fold-IrType A f) fields) packed)
  fold_struct at fields packed = ap (fold-IrType A f) (sym (rolls-Struct at fields packed)) ∙ fold-roll-IrType A f (IrType-F.Struct at fields packed)

  pub fold_named : (name : List ℕ) (at : ℕ) → fold-IrType A f (types.Named name at) ≡ f (IrType-F.Named name at)
  fold_named name at = ap (fold-IrType A f) (sym (rolls-Named name at)) ∙ fold-roll-IrType A f (IrType-F.Named name at)

  pub fold_int : (n : ℕ) → fold-IrType A f (types.Int n) ≡ f (IrType-F.Int n)
  fold_int n = ap (fold-IrType A f) (sym (rolls-Int n)) ∙ fold-roll-IrType A f (IrType-F.Int n)

  pub fold_ptr : fold-IrType A f types.Ptr ≡ f IrType-F.Ptr
  fold_ptr = ap (fold-IrType A f) (sym rolls-Ptr) ∙ fold-roll-IrType A f IrType-F.Ptr
