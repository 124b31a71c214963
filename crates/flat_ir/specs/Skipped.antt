-- Calls of named functions, which a reader of a trace may skip. A call is skipped where it enters a named function while no
-- skipped call is unfinished; so skipped calls follow one another, and the first that was entered is the first to return.
use Rattle.std.specs.Prelude.{ℕ, zero, suc, ◌<◌, Bool, List, [], ◌∷◌, length, Option, ◌==◌, if◌then◌else◌}
use Rattle.std.specs.List.{list_any}
use Rattle.flat_ir.specs.declared.names.FuncId.{FuncId}
use Rattle.flat_ir.specs.declared.program.ProgramData.{ProgramData}
use Rattle.flat_ir.specs.declared.values.ConcreteValue.{ConcreteValue}
use Rattle.flat_ir.specs.Machine.{Event, Branched, Loaded, Entered, Returned}
use Rattle.flat_ir.specs.Run.{trace}

-- the function is one of those that are skipped
abbrev pub is_named : List FuncId → FuncId → Bool
is_named names f = list_any (λ g. g.0 == f.0) names

-- how many calls are open in the skipped call that is unfinished, 0 where there is none
abbrev pub depth_after : List FuncId → ℕ → List Event → ℕ
depth_after names d [] = d
depth_after names zero (Entered caller node f ∷ t) = if is_named names f then depth_after names 1 t else depth_after names 0 t
depth_after names (suc d) (Entered caller node f ∷ t) = depth_after names (suc (suc d)) t
depth_after names zero (Returned v ∷ t) = depth_after names 0 t
depth_after names (suc d) (Returned v ∷ t) = depth_after names d t
depth_after names d (Branched f n side ∷ t) = depth_after names d t
depth_after names d (Loaded f n v ∷ t) = depth_after names d t

-- the branches and loads that stand in no skipped call
abbrev pub outside_from : List FuncId → ℕ → List Event → List Event
outside_from names d [] = []
outside_from names zero (Entered caller node f ∷ t) = if is_named names f then outside_from names 1 t else outside_from names 0 t
outside_from names (suc d) (Entered caller node f ∷ t) = outside_from names (suc (suc d)) t
outside_from names zero (Returned v ∷ t) = outside_from names 0 t
outside_from names (suc d) (Returned v ∷ t) = outside_from names d t
outside_from names zero (Branched f n side ∷ t) = Branched f n side ∷ outside_from names 0 t
outside_from names zero (Loaded f n v ∷ t) = Loaded f n v ∷ outside_from names 0 t
outside_from names (suc d) (Branched f n side ∷ t) = outside_from names (suc d) t
outside_from names (suc d) (Loaded f n v ∷ t) = outside_from names (suc d) t

-- the outside events of a trace
abbrev pub outside : List FuncId → List Event → List Event
outside names t = outside_from names 0 t

-- what the skipped calls returned, one after another
abbrev pub results_from : List FuncId → ℕ → List Event → List (Option ConcreteValue)
results_from names d [] = []
results_from names zero (Entered caller node f ∷ t) = if is_named names f then results_from names 1 t else results_from names 0 t
results_from names (suc d) (Entered caller node f ∷ t) = results_from names (suc (suc d)) t
results_from names zero (Returned v ∷ t) = results_from names 0 t
results_from names (suc zero) (Returned v ∷ t) = v ∷ results_from names 0 t
results_from names (suc (suc d)) (Returned v ∷ t) = results_from names (suc d) t
results_from names d (Branched f n side ∷ t) = results_from names d t
results_from names d (Loaded f n v ∷ t) = results_from names d t

-- the results of its skipped calls, the first call's first
abbrev pub results : List FuncId → List Event → List (Option ConcreteValue)
results names t = results_from names 0 t

-- Skipped calls return: whenever a skipped call of the run is unfinished, it has returned at some later time.
abbrev pub Returns : ProgramData → List FuncId → List ℕ → Type 0
Returns p names input =
    (n : ℕ) → 0 < depth_after names 0 (trace p input n) →
    (m : ℕ) × (n < m) × (length (results names (trace p input n)) < length (results names (trace p input m)))
