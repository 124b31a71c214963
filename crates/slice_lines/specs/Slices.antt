-- The lines of a slice: for the function itself, and for each function of which a node is retained, where its entry leads, and where each of
-- its retained nodes leads.
use Rattle.std.specs.Prelude.{◌≡◌, ℕ, ◌+◌, ◌==◌, ◌||◌, List, [], ◌∷◌, ◌++◌, Option, Some, None, is_some, if◌then◌else◌, codes}
use Rattle.std.specs.List.{flat_map, list_any}
use Rattle.std.specs.Fmt.{decimal}
use Rattle.flat_ir.specs.declared.names.FuncId.{FuncId}
use Rattle.flat_ir.specs.declared.names.Location.{Location}
use Rattle.flat_ir.specs.declared.program.ProgramData.{ProgramData}
use Rattle.flat_ir.specs.declared.residual.Kept.{Kept}
use Rattle.flat_ir.specs.declared.residual.Next.{Next}
use Rattle.flat_ir.specs.declared.residual.Next.TheVariants as next
use Rattle.flat_ir.specs.declared.residual.Residual.{Residual}
use Rattle.name_texts.specs.Lines.{function_text}
use Rattle.slices.specs.Nexts.{IsResidual}

-- a node, the end of the function's call, or nowhere
abbrev pub next_text : Next → List ℕ
next_text (next.Node n) = decimal n.0
next_text next.End = codes "end"
next_text next.Never = codes "never"

-- behind a space
abbrev pub spaced_next : Next → List ℕ
spaced_next n = codes " " ++ next_text n

abbrev pub entry_line : ProgramData → ℕ → Next → List ℕ
entry_line p f start = function_text p (record { 0 = f }) ++ (codes " entry ->" ++ (spaced_next start ++ codes "\n"))

abbrev pub node_line : ProgramData → ℕ → ℕ → List Next → List ℕ
node_line p f n nexts =
    function_text p (record { 0 = f }) ++ (codes ":" ++ (decimal n ++ (codes " ->" ++ (flat_map spaced_next nexts ++ codes "\n"))))

-- a node that isn't retained has no line
abbrev pub node_line_if : ProgramData → ℕ → ℕ → Option (List Next) → List ℕ
node_line_if p f n None = []
node_line_if p f n (Some nexts) = node_line p f n nexts

-- those of a function's nodes, from the n-th on
abbrev pub node_lines : ProgramData → ℕ → ℕ → List (Option (List Next)) → List ℕ
node_lines p f n [] = []
node_lines p f n (kept ∷ more) = node_line_if p f n kept ++ node_lines p f (n + 1) more

-- the lines of the f-th function, where one is asked for
abbrev pub kept_lines : ProgramData → ℕ → ℕ → Kept → List ℕ
kept_lines p asked f kept = if f == asked || list_any is_some kept.nexts then entry_line p f kept.start ++ node_lines p f 0 kept.nexts else []

-- those of functions, from the f-th on
abbrev pub lines_from : ProgramData → ℕ → ℕ → List Kept → List ℕ
lines_from p asked f [] = []
lines_from p asked f (kept ∷ more) = kept_lines p asked f kept ++ lines_from p asked (f + 1) more

-- the lines of what a slice of a function retains
abbrev pub lines_of : ProgramData → FuncId → Residual → List ℕ
lines_of p f residual = lines_from p f.0 0 residual.funcs

-- these are the lines of the slice of a function for a location
pub record IsSliceText (p : ProgramData) (f : FuncId) (at' : Location) (written : List ℕ) : Type 0 where
  pub residual : Residual
  pub slice : IsResidual p f at' residual
  pub is : written ≡ lines_of p f residual
