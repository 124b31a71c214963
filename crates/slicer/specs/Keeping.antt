-- What is left of each function by a set of facts, from what its nodes meet first.
use Rattle.std.specs.Prelude.{◌≡◌, ◌==◌, ◌+◌, ℕ, Bool, List, [], ◌∷◌, map, length, Option, Some, slice_get, if◌then◌else◌}
use Rattle.control_closure.specs.declared.summing.Met.{Met}
use Rattle.control_closure.specs.declared.summing.Met.TheVariants.{Nothing, One, Several}
use Rattle.control_closure.specs.Sums.{SumUp, at_node}
use Rattle.flat_ir.specs.declared.names.FuncId.{FuncId}
use Rattle.flat_ir.specs.declared.nodes.Node.{Node}
use Rattle.flat_ir.specs.declared.program.ProgramData.{ProgramData}
use Rattle.flat_ir.specs.declared.residual.Kept.{Kept}
use Rattle.flat_ir.specs.declared.residual.Next.{Next}
use Rattle.flat_ir.specs.declared.residual.Next.TheVariants as next
use Rattle.flat_ir.specs.Machine.{func_at, nodes_of}
use Rattle.slices.specs.Nexts.{nexts_if}
use Rattle.slices.specs.Slice.{end_of, leads_to, graph_of, retained}
use Rattle.slicer.specs.declared.marks.Mark.TheVariants as mark
use Rattle.slicer.specs.Facts.{func}
use Rattle.slicer.specs.Places.{marked, items_of}

-- where a run goes on, by what it meets first
abbrev pub next_of : Met → ℕ → Next
next_of Nothing end = next.Never
next_of (One k) end = if k == end then next.End else next.Node (record { 0 = k })
next_of Several end = next.Never

abbrev pub nexts_of : List Met → ℕ → List ℕ → List Next
nexts_of mets end row = map (λ k. next_of (at_node mets k) end) row

-- the nexts of the nodes of a function, from the k-th on
abbrev pub nexts_from : ProgramData → List ℕ → List Bool → FuncId → List Met → ℕ → ℕ → List Node → List (Option (List Next))
nexts_from p starts set g mets end k [] = []
nexts_from p starts set g mets end k (x ∷ xs) =
    nexts_if (marked p starts set (mark.Kept g (record { 0 = k }))) (nexts_of mets end (leads_to end x)) ∷ nexts_from p starts set g mets end (k + 1) xs

-- what is left of a function, by what its nodes meet first
pub record IsKeptBy (p : ProgramData) (starts : List ℕ) (set : List Bool) (g : FuncId) (kept : Kept) : Type 0 where
  pub mets : List Met
  pub sums : SumUp (graph_of p g) (retained p g (items_of p starts set)) mets
  pub start : kept.start ≡ next_of (at_node mets 0) (end_of p g)
  pub nexts : kept.nexts ≡ nexts_from p starts set g mets (end_of p g) 0 (nodes_of (func_at p g))

-- what is left of the first functions
pub record AreKept (p : ProgramData) (starts : List ℕ) (set : List Bool) (count : ℕ) (list : List Kept) : Type 0 where
  pub count_is : length list ≡ count
  pub each : (k : ℕ) (kept : Kept) → slice_get list k ≡ Some kept → IsKeptBy p starts set (func k) kept
