-- Which globals and functions are known, and where they are used: globals and functions share one space of names, and the known functions that
-- a module may call without defining them belong to it.
use Rattle.std.specs.Prelude.{ℕ, Bool, ◌||◌, ◌&&◌, nat_lt, List, [], ◌∷◌, map}
use Rattle.std.specs.List.{flat_map, list_any}
use Rattle.std.specs.Option.{is_some}
use Rattle.ir_tree.specs.Texts.{same}
use Rattle.ir_tree.specs.declared.types.Name.{Name}
use Rattle.ir_tree.specs.declared.constants.Value.{Value}
use Rattle.ir_tree.specs.declared.constants.ValueForm.{ValueForm}
use Rattle.ir_tree.specs.declared.constants.ValueForm.TheVariants as forms
use Rattle.ir_tree.specs.declared.module.IrTree.{IrTree}
use Rattle.prelude.specs.Prelude.{place_of}
use Rattle.prelude.specs.Primitives.{primitive_of}
use Rattle.ir_programs.specs.Texts.{among, texts}

-- ---- definitions

abbrev pub global_names : IrTree → List Name
global_names t = map (λ g. g.name) t.globals

abbrev pub function_names : IrTree → List Name
function_names t = map (λ f. f.header.name) t.functions

-- a function that a module may call without defining it
abbrev pub is_reserved : List ℕ → Bool
is_reserved name = is_some (place_of name) || is_some (primitive_of name)

abbrev pub is_global : IrTree → List ℕ → Bool
is_global t name = among name (texts (global_names t))

abbrev pub is_function : IrTree → List ℕ → Bool
is_function t name = among name (texts (function_names t)) || is_reserved name

-- another of these has the name at a lower place
abbrev pub stands_before : List Name → Name → Bool
stands_before names n = list_any (λ m. same m.text n.text && nat_lt m.at n.at) names

-- ---- uses

abbrev pub form_locals : ℕ → ValueForm → List Name
form_locals at (forms.Local name) = record { text = name; at = at } ∷ []
form_locals at _ = []

-- the registers that values name
abbrev pub local_uses : List Value → List Name
local_uses vs = flat_map (λ v. form_locals v.at v.form) vs

abbrev pub form_globals : ℕ → ValueForm → List Name
form_globals at (forms.Global name) = record { text = name; at = at } ∷ []
form_globals at (forms.Gep g) = g.base ∷ []
form_globals at _ = []

-- the globals that values name
abbrev pub global_uses : List Value → List Name
global_uses vs = flat_map (λ v. form_globals v.at v.form) vs
