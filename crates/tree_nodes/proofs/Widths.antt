-- Widths that numbers can have.
use Rattle.std.proofs.Common.{◌≡◌, ◌∙◌, ℕ, true, sym, subst, leb-true}
use Rattle.bitnum.specs.Number.{IsWidth}
use Rattle.phrases.proofs.Classes.{and_left, and_right}
use Rattle.ir_tree.specs.declared.types.IrType.{IrType, fold-roll-IrType, ind-IrType, out-roll-IrType, roll-IrType, map-IrType}
use Rattle.ir_tree.specs.declared.types.IrType.TheOpen.{IrType-F}
use Rattle.std.specs.Prelude.{Bool, nat_le}
use Rattle.ir_programs.specs.Parts.{register_level, register_type}
use Rattle.ir_programs.specs.Readable.{is_width, width_level, has_widths}
use Rattle.tree_nodes.specs.Widths.{HasWidth}

pub width_is : (n : ℕ) → is_width n ≡ true → IsWidth n
width_is n h = record { least = leb-true 1 n (and_left (nat_le 1 n) (nat_le n 64) h); most = leb-true n 64 (and_right (nat_le 1 n) (nat_le n 64) h) }

level_is : (x : IrType-F IrType) → width_level (map-IrType IrType Bool has_widths x) ≡ true → HasWidth (register_level x)
level_is (IrType-F.Int width) h = width_is width h
level_is IrType-F.Ptr h = tt
level_is (IrType-F.Array at len element) h = tt
level_is (IrType-F.Struct at fields packed) h = tt
level_is (IrType-F.Named name at) h = tt

rolled : (x : IrType-F IrType) → has_widths (roll-IrType x) ≡ width_level (map-IrType IrType Bool has_widths x)
unfolding has_widths
rolled x = fold-roll-IrType Bool width_level x

-- a register's type has a width where the type's integers have
pub kind_is : (t : IrType) → has_widths t ≡ true → HasWidth (register_type t)
kind_is = ind-IrType (λ t. has_widths t ≡ true → HasWidth (register_type t)) (λ x y is h.
    subst (λ l. HasWidth (register_level l)) (sym (out-roll-IrType x)) (level_is x (sym (rolled x) ∙ h)))
