-- Values of functions, as they are collected.
use Rattle.std.proofs.Common.{◌≡◌, ◌∙◌, ◌++◌, List, [], ◌∷◌, refl, sym, ap}
use Rattle.std.specs.List.{flat_map}
use Rattle.std.proofs.lemmas.List.{map-append}
use Rattle.ir_tree.specs.declared.constants.Value.{Value}
use Rattle.ir_tree.specs.declared.instructions.Block.{Block}
use Rattle.ir_programs.specs.Parts.{Written, phi_values, operation_values, terminator_values, block_values}
use Rattle.tree_constants.specs.Values.{bare, values_of_phi, values_of_block}

bare_append : (xs ys : List Written) → bare (xs ++ ys) ≡ bare xs ++ bare ys
bare_append xs ys = map-append (λ (w : Written). w.value) xs ys

bare_flat : {A : Type 0} (f : A → List Written) (xs : List A) → bare (flat_map f xs) ≡ flat_map (λ x. bare (f x)) xs
bare_flat f [] = refl
bare_flat f (x ∷ xs) = bare_append (f x) (flat_map f xs) ∙ ap (λ (vs : List Value). bare (f x) ++ vs) (bare_flat f xs)

block_bare : (b : Block) → bare (block_values b) ≡ values_of_block b
block_bare b =
    let phis = flat_map phi_values b.phis in
    let instructions = flat_map (λ i. operation_values i.operation) b.instructions in
    let terminator = terminator_values b.terminator.form in
    bare_append phis (instructions ++ terminator)
    ∙ (ap (λ (vs : List Value). vs ++ bare (instructions ++ terminator)) (bare_flat phi_values b.phis)
    ∙ ap (λ (vs : List Value). flat_map values_of_phi b.phis ++ vs)
    (bare_append instructions terminator ∙ ap (λ (vs : List Value). vs ++ bare terminator) (bare_flat (λ i. operation_values i.operation) b.instructions)))

each_bare : (bs : List Block) → flat_map (λ b. bare (block_values b)) bs ≡ flat_map values_of_block bs
each_bare [] = refl
each_bare (b ∷ bs) = ap (λ (vs : List Value). vs ++ flat_map (λ b. bare (block_values b)) bs) (block_bare b) ∙ ap (λ (vs : List Value). values_of_block b ++ vs) (each_bare bs)

pub blocks_bare : (bs : List Block) → flat_map values_of_block bs ≡ bare (flat_map block_values bs)
blocks_bare bs = sym (bare_flat block_values bs ∙ each_bare bs)
