-- Which sites' objects the pointers in the objects of each site may point to, and which locations calls of each function may change, as lines.
use Rattle.std.specs.Prelude.{◌≡◌, ℕ, ◌+◌, List, [], ◌∷◌, ◌++◌, map, take, codes, slice_get}
use Rattle.std.specs.List.{flat_map}
use Rattle.flat_ir.specs.declared.names.FuncId.{FuncId}
use Rattle.flat_ir.specs.declared.names.Site.{Site}
use Rattle.flat_ir.specs.declared.names.Site.TheVariants as site
use Rattle.flat_ir.specs.declared.names.Location.{Location}
use Rattle.flat_ir.specs.declared.names.Location.TheVariants as location
use Rattle.flat_ir.specs.declared.program.ProgramData.{ProgramData}
use Rattle.points_to.specs.declared.holders.Holder.TheVariants.{Bytes}
use Rattle.points_to.specs.Points.{PointsTo, IsIn, Lists}
use Rattle.mod_ref.specs.Mods.{AreMods}
use Rattle.mod_ref.specs.Sites.{sites}
use Rattle.name_texts.specs.Lines.{function_text, place_text, global_named}

-- a global by its name, a node by its function's name and its number
abbrev pub site_text : ProgramData → Site → List ℕ
site_text p (site.Global g) = global_named (slice_get p.globals g)
site_text p (site.Node f n) = place_text p f n

abbrev pub location_text : ProgramData → Location → List ℕ
location_text p (location.Cells s) = codes "cells(" ++ (site_text p s ++ codes ")")
location_text p (location.Life s) = codes "life(" ++ (site_text p s ++ codes ")")
location_text p location.Input = codes "input"
location_text p location.Output = codes "output"
location_text p location.Result = codes "result"

-- behind a space
abbrev pub spaced_site : ProgramData → Site → List ℕ
spaced_site p s = codes " " ++ site_text p s

abbrev pub spaced_location : ProgramData → Location → List ℕ
spaced_location p l = codes " " ++ location_text p l

-- a site, and the sites to whose objects pointers in its objects may point
abbrev pub site_line : ProgramData → (Site → List Site) → Site → List ℕ
site_line p holds s = codes "site " ++ (site_text p s ++ (codes " holds" ++ (flat_map (spaced_site p) (holds s) ++ codes "\n")))

-- a function, and what its calls may change
abbrev pub mod_line : ProgramData → ℕ → List Location → List ℕ
mod_line p f ls = codes "mod " ++ (function_text p (record { 0 = f }) ++ (flat_map (spaced_location p) ls ++ codes "\n"))

-- the lines of functions, from the k-th on
abbrev pub mod_lines : ProgramData → ℕ → List (List Location) → List ℕ
mod_lines p k [] = []
mod_lines p k (ls ∷ lists) = mod_line p k ls ++ mod_lines p (k + 1) lists

-- the sites in their order, and then the functions that the text defines
abbrev pub text : ProgramData → (Site → List Site) → List (List Location) → List ℕ
text p holds lists = flat_map (site_line p holds) (sites p) ++ mod_lines p 0 (take p.defined lists)

-- these are the lines of a program
pub record IsSitesText (p : ProgramData) (written : List ℕ) : Type 0 where
  pub holds : Site → List Site
  pub points : (s : Site) → IsIn p (Bytes s) → Lists (PointsTo p (Bytes s)) (holds s)
  pub lists : List (List Location)
  pub mods : AreMods p lists
  pub is : written ≡ text p holds lists
