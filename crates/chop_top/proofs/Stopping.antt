-- What is said of the line that the code stops with.
use Rattle.std.proofs.Common.{◌≡◌, ℕ, List, Result, Ok, Err, IfOk, Vec, sym, subst}
use Rattle.std.specs.declared.alloc.Global.{Global}
use Rattle.std.specs.declared.alloc.AllocError.{AllocError}
use Rattle.chop_top.specs.declared.accepting.Stop.{Stop}
use Rattle.chop_top.specs.declared.accepting.Stop.TheVariants.{Line, Memory}
use Rattle.chop_top.specs.Refusals.{StopsAs, stop_of}

line-says : (P : List ℕ → Type 0) (line : Result (Vec ℕ Global) AllocError) → IfOk line (λ t. P t.items) → StopsAs P (stop_of line)
line-says P (Ok text) says = says
line-says P (Err e) says = tt

-- what is said of the line is said of what the code stops with
pub stop-says : (P : List ℕ → Type 0) (line : Result (Vec ℕ Global) AllocError) (s : Stop) → s ≡ stop_of line → IfOk line (λ t. P t.items) → StopsAs P s
stop-says P line s is says = subst (StopsAs P) (sym is) (line-says P line says)
