-- In a program that passed its checks each node has the types that it needs.
use Rattle.std.specs.Prelude.{slice_get, unwrap_or}
use Rattle.std.proofs.Common.{◌≡◌, ℕ, true, List, Some, None, refl, inl, inr}
use Rattle.checks.specs.Errors.{IsCleanFunc, mistyped}
use Rattle.checks.specs.Typed.{is_typed}
use Rattle.flat_ir.specs.declared.nodes.Node.TheVariants as node
use Rattle.flat_ir.specs.declared.program.Func.{Func}
use Rattle.flat_ir.specs.Machine.{nodes_of, regs_of}
use Rattle.flat_ir.proofs.MadeBasics.{cases}
use Rattle.typed_runs.specs.Suiting.{result_of}
use Rattle.typed_runs.specs.Laws.{NodesAreTyped}

typed_in : (funcs : List Func) (f : Func) (n : ℕ) → IsCleanFunc funcs f → is_typed funcs f.regs f.result (unwrap_or (slice_get f.nodes n) node.Unreachable) ≡ true
typed_in funcs f n clean =
    elim (slice_get f.nodes n) as (λ o. slice_get f.nodes n ≡ o → is_typed funcs f.regs f.result (unwrap_or o node.Unreachable) ≡ true) [
      | None ↦ λ e. refl
      | Some x ↦ λ e. elim (cases (is_typed funcs f.regs f.result x)) [ inl typed ↦ typed | inr wrong ↦ absurd ((clean n).clash (mistyped x e wrong)) ]
    ] refl

pub node_typed : NodesAreTyped
node_typed p f n checked =
    elim (slice_get p.funcs f.0) as (λ o. slice_get p.funcs f.0 ≡ o → is_typed p.funcs (regs_of o) (result_of o) (unwrap_or (slice_get (nodes_of o) n.0) node.Unreachable) ≡ true) [
      | None ↦ λ e. refl
      | Some func ↦ λ e. typed_in p.funcs func n.0 (checked f.0 func e)
    ] refl
