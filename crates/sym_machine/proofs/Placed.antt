-- A node that is found in a program that fits.
use Rattle.std.proofs.Common.{◌≡◌, [], Some, unwrap_or, sym, subst}
use Rattle.std.specs.Prelude.{slice_get}
use Rattle.flat_ir.specs.declared.names.FuncId.{FuncId}
use Rattle.flat_ir.specs.declared.names.NodeId.{NodeId}
use Rattle.flat_ir.specs.declared.nodes.Node.{Node}
use Rattle.flat_ir.specs.declared.nodes.Node.TheVariants as node
use Rattle.flat_ir.specs.declared.program.ProgramData.{ProgramData}
use Rattle.flat_ir.specs.Machine.{nodes_of, func_at}
use Rattle.sym_states.specs.declared.frames.Place.TheVariants.{At}
use Rattle.sym_states.specs.States.{Frame}
use Rattle.state_laws.specs.Kept.{NodeFits, ProgramFits}
use Rattle.state_laws.proofs.Programs.{code_of-fits}

pub found-fits : (p : ProgramData) (f : FuncId) (at : NodeId) (n : Node) → Some n ≡ slice_get (nodes_of (func_at p f)) at.0 → ProgramFits p → NodeFits p n
found-fits p f at n is fits =
    let frame : Frame = record { func = f; place = At at; regs = []; name = []; counts = [] } in
    subst (λ o. NodeFits p (unwrap_or o node.Unreachable)) (sym is) (code_of-fits p frame fits)
