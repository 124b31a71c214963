-- Which names are met behind others.
use Rattle.std.specs.Prelude.{◌≡◌, ℕ, Bool, ◌||◌, List, map}
use Rattle.ir_tree.specs.Layout.{kind_of}
use Rattle.ir_tree.specs.Texts.{same}
use Rattle.ir_tree.specs.declared.module.TypeDefinition.{TypeDefinition}
use Rattle.ir_programs.specs.Types.{is_met, names_of}

-- the name is met in what another one stands for, so many times over
abbrev pub is_behind : ℕ → List TypeDefinition → List ℕ → List ℕ → Bool
is_behind n types target name = is_met n types target (names_of (kind_of types name))

-- the name is the other one, or is met behind it
abbrev pub one_met : ℕ → List TypeDefinition → List ℕ → List ℕ → Bool
one_met n types target name = same name target || is_behind n types target name

-- behind which definitions' names it is met
abbrev pub AreMet : ℕ → List TypeDefinition → List ℕ → List Bool → Type 0
AreMet n types target met = met ≡ map (λ d. is_behind n types target d.name.text) types
