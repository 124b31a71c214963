-- The points-to sets of a program as they are looked up.
use Rattle.std.specs.Prelude.{ℕ, List, [], ◌∷◌, length, map, replicate}
use Rattle.flat_ir.specs.declared.names.FuncId.{FuncId}
use Rattle.flat_ir.specs.declared.names.RegId.{RegId}
use Rattle.flat_ir.specs.declared.names.Site.{Site}
use Rattle.flat_ir.specs.declared.names.Site.TheVariants as site
use Rattle.flat_ir.specs.declared.program.Func.{Func}
use Rattle.flat_ir.specs.declared.program.ProgramData.{ProgramData}
use Rattle.points_to.specs.declared.holders.Holder.TheVariants.{Register, Bytes}
use Rattle.points_to.specs.Points.{PointsTo, IsIn, Lists}
use Rattle.points_to.specs.Rows.{Table, Tables, row_of}

-- for each function so many empty rows
abbrev pub empty_part : (Func → ℕ) → List Func → Table
empty_part v fs = map (λ f. replicate (v f) []) fs

-- an empty row for each register, node, global and function
abbrev pub empty_tables : ProgramData → Tables
empty_tables p =
    empty_part (λ f. length f.regs) p.funcs ∷ empty_part (λ f. length f.nodes) p.funcs
    ∷ (replicate (length p.globals) [] ∷ []) ∷ (replicate (length p.funcs) [] ∷ []) ∷ []

-- the sites of a register
abbrev pub of_reg : Tables → FuncId → RegId → List Site
of_reg t f r = row_of t 0 f.0 r.0

-- the sites of the bytes of a site's objects
abbrev pub of_cells : Tables → Site → List Site
of_cells t (site.Global g) = row_of t 2 0 g
of_cells t (site.Node f n) = row_of t 1 f.0 n.0

-- each register and each site of the program has its points-to set, ascending
pub record ArePointsTo (p : ProgramData) (t : Tables) : Type 0 where
  pub registers : (f : FuncId) (r : RegId) → IsIn p (Register f r) → Lists (PointsTo p (Register f r)) (of_reg t f r)
  pub cells : (s : Site) → IsIn p (Bytes s) → Lists (PointsTo p (Bytes s)) (of_cells t s)
