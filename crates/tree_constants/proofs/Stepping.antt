-- Steps of constant pointers into parts.
use Rattle.std.proofs.Common.{◌≡◌, ◌∙◌, ◌++◌, ◌+◌, ◌<◌, ℕ, true, false, List, [], ◌∷◌, Option, Some, None, length, drop, get_or, sym, ap}
use Rattle.std.specs.Option.{option_to_list, is_some}
use Rattle.ir_tree.specs.declared.types.IrType.{IrType, out-IrType}
use Rattle.ir_tree.specs.declared.types.IrType.TheOpen.{IrType-F}
use Rattle.ir_tree.specs.declared.constants.ConstIndex.{ConstIndex}
use Rattle.ir_tree.specs.declared.module.TypeDefinition.{TypeDefinition}
use Rattle.ir_programs.specs.Causes.{is_empty}
use Rattle.ir_programs.specs.Constants.{head_of, step_into, bad_steps, bad_after_first}
use Rattle.tree_constants.proofs.OneByOne.{rest_less}

module _ (ts : List TypeDefinition) where
  step_at : (t : IrType) (i : ConstIndex) (is : List ConstIndex) (o : Option IrType) → step_into (head_of ts t) i.value ≡ o →
      bad_steps ts t (i ∷ is) ≡ elim o [ None ↦ i.at ∷ [] | Some part ↦ bad_steps ts part is ]
  step_at t i is o e = ap (λ (o : Option IrType). elim o [ None ↦ i.at ∷ [] | Some part ↦ bad_steps ts part is ]) e

  module _ (is : List ConstIndex) (k : ℕ) (i : ConstIndex) (t head kind : IrType) (lt : k < length is) (at : i ≡ get_or is k i) (he : out-IrType head ≡ head_of ts t)
      (before : bad_steps ts t (drop k is) ≡ bad_steps ts kind is) where
    so_far : bad_steps ts t (i ∷ drop (k + 1) is) ≡ bad_steps ts kind is
    so_far = ap (bad_steps ts t) (sym (rest_less is k i lt at)) ∙ before

    into : (o : Option IrType) → o ≡ step_into (out-IrType head) i.value → step_into (head_of ts t) i.value ≡ o
    into o e = ap (λ (l : IrType-F IrType). step_into l i.value) (sym he) ∙ sym e

    pub bad_on : (u : IrType) → Some u ≡ step_into (out-IrType head) i.value → bad_steps ts u (drop (k + 1) is) ≡ bad_steps ts kind is
    bad_on u e = sym (step_at t i (drop (k + 1) is) (Some u) (into (Some u) e)) ∙ so_far

    pub bad_here : None ≡ step_into (out-IrType head) i.value → i.at ∷ [] ≡ bad_steps ts kind is
    bad_here e = sym (step_at t i (drop (k + 1) is) None (into None e)) ∙ so_far

  pub level_steps : (source : IrType) (is : List ConstIndex) (first : ConstIndex) (rest : List ConstIndex) → is ≡ first ∷ rest → bad_after_first ts source is ≡ bad_steps ts source rest
  level_steps source is first rest e = ap (bad_after_first ts source) e

  pub no_steps : (source : IrType) (is : List ConstIndex) → is ≡ [] → bad_after_first ts source is ≡ []
  no_steps source is e = ap (bad_after_first ts source) e

-- an empty list of places is that of none
pub empty_if_none : (o : Option ℕ) (bad rest : List ℕ) → option_to_list o ≡ bad → is_some o ≡ false → is_empty (bad ++ rest) ≡ is_empty rest
empty_if_none None bad rest e h = ap (λ (b : List ℕ). is_empty (b ++ rest)) (sym e)
empty_if_none (Some at) bad rest e h = absurd (no h)
  where
    no : true ≡ false → ⊥
    no q = cc

pub full_if_some : (o : Option ℕ) (bad rest : List ℕ) → option_to_list o ≡ bad → is_some o ≡ true → is_empty (bad ++ rest) ≡ false
full_if_some None bad rest e h = absurd (no h)
  where
    no : false ≡ true → ⊥
    no q = cc
full_if_some (Some at) bad rest e h = ap (λ (b : List ℕ). is_empty (b ++ rest)) (sym e)
