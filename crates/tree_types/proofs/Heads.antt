-- What types are behind their names.
use Rattle.std.proofs.Common.{◌≡◌, ◌∙◌, ℕ, zero, suc, ◌+◌, List, length, Option, Some, None, refl, sym, ap, arith}
use Rattle.ir_tree.specs.Layout.{kind_of}
use Rattle.ir_tree.specs.declared.types.IrType.{IrType, out-IrType}
use Rattle.ir_tree.specs.declared.types.IrType.TheOpen.{IrType-F}
use Rattle.ir_tree.specs.declared.module.TypeDefinition.{TypeDefinition}
use Rattle.ir_programs.specs.Constants.{behind_name, behind_level, head_within}

-- the same of a level
abbrev head_at : ℕ → List TypeDefinition → IrType-F IrType → IrType-F IrType
head_at zero ts l = l
head_at (suc n) ts l = behind_level (head_within n ts) ts l

by_level : (n : ℕ) (ts : List TypeDefinition) (t : IrType) → head_within n ts t ≡ head_at n ts (out-IrType t)
unfolding head_within
by_level zero ts t = refl
by_level (suc n) ts t = refl

-- a level that isn't a known name stays
stays : (n : ℕ) (ts : List TypeDefinition) (name : List ℕ) (at : ℕ) → kind_of ts name ≡ None → head_at n ts (IrType-F.Named name at) ≡ IrType-F.Named name at
stays zero ts name at e = refl
stays (suc n) ts name at e = ap (behind_name (head_within n ts) (IrType-F.Named name at)) e

named : (n : ℕ) (ts : List TypeDefinition) (name : List ℕ) (at : ℕ) (o : Option IrType) → kind_of ts name ≡ o →
    head_at n ts (behind_name out-IrType (IrType-F.Named name at) o) ≡ behind_name (head_within n ts) (IrType-F.Named name at) o
named n ts name at (Some k) e = sym (by_level n ts k)
named n ts name at None e = stays n ts name at e

one_level : (n : ℕ) (ts : List TypeDefinition) (l : IrType-F IrType) → head_at n ts (behind_level out-IrType ts l) ≡ behind_level (head_within n ts) ts l
one_level zero ts (IrType-F.Int w) = refl
one_level (suc n) ts (IrType-F.Int w) = refl
one_level zero ts IrType-F.Ptr = refl
one_level (suc n) ts IrType-F.Ptr = refl
one_level zero ts (IrType-F.Array at len e) = refl
one_level (suc n) ts (IrType-F.Array at len e) = refl
one_level zero ts (IrType-F.Struct at fs p) = refl
one_level (suc n) ts (IrType-F.Struct at fs p) = refl
one_level n ts (IrType-F.Named name at) = named n ts name at (kind_of ts name) refl

-- what stands behind one name of a type has its head, one name later
pub one_name : (n : ℕ) (ts : List TypeDefinition) (r t : IrType) → out-IrType r ≡ behind_level out-IrType ts (out-IrType t) → head_within n ts r ≡ head_within (suc n) ts t
unfolding head_within
one_name n ts r t e = by_level n ts r ∙ (ap (head_at n ts) e ∙ one_level n ts (out-IrType t))

pub none_left : (ts : List TypeDefinition) (t : IrType) → head_within 0 ts t ≡ out-IrType t
unfolding head_within
none_left ts t = refl

-- so many names are still to be replaced
abbrev pub HeadIs : List TypeDefinition → ℕ → IrType → IrType → Type 0
HeadIs ts place head t = (n : ℕ) → n + place ≡ length ts → head_within n ts head ≡ head_within (length ts) ts t

pub head_first : (ts : List TypeDefinition) (t : IrType) → HeadIs ts 0 t t
head_first ts t n e = ap (λ m. head_within m ts t) (omega (arith, e))

pub head_next : (ts : List TypeDefinition) (place : ℕ) (head next t : IrType) → out-IrType next ≡ behind_level out-IrType ts (out-IrType head) → HeadIs ts place head t → HeadIs ts (place + 1) next t
head_next ts place head next t e h n is = one_name n ts next head e ∙ h (suc n) (omega (arith, is))

pub head_last : (ts : List TypeDefinition) (place : ℕ) (head t : IrType) → place ≡ length ts → HeadIs ts place head t → out-IrType head ≡ head_within (length ts) ts t
head_last ts place head t e h = sym (none_left ts head) ∙ h 0 (omega (arith, e))
