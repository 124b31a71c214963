-- What a whole program asks has what each of its nodes asks.
use Rattle.std.specs.Prelude.{slice_get, unwrap_or}
use Rattle.std.proofs.Common.{◌≡◌, ℕ, length, Option, Some, None, refl, sym, subst, arith}
use Rattle.std.specs.List.{Contains, flat_map, AllByRecursion as Each}
use Rattle.std.proofs.lemmas.List.Elements.{Contains-append_left, Contains-append_right, recursion_from_All}
use Rattle.flat_ir.specs.declared.names.FuncId.{FuncId}
use Rattle.flat_ir.specs.declared.names.NodeId.{NodeId}
use Rattle.flat_ir.specs.declared.nodes.Node.{Node}
use Rattle.flat_ir.specs.declared.nodes.Node.TheVariants as node
use Rattle.flat_ir.specs.declared.program.Func.{Func}
use Rattle.flat_ir.specs.declared.program.GlobalVar.{GlobalVar}
use Rattle.flat_ir.specs.declared.program.InitByte.{InitByte}
use Rattle.flat_ir.specs.declared.program.ProgramData.{ProgramData}
use Rattle.flat_ir.specs.Machine.{func_at, regs_of, nodes_of, node_at}
use Rattle.flat_ir.specs.Whole.{IsWhole, IsFuncOf, IsNodeOf, OperandIn, operands_of}
use Rattle.points_to.specs.declared.holders.Inclusion.{Inclusion}
use Rattle.points_to.proofs.Parts.{all_at, from_part}
use Rattle.points_to.specs.Asked.{asked_by, asked_from, asked_by_funcs, asked_by_byte, asked_by_globals, asked}

-- a byte with which a global starts
pub byte_asked : (p : ProgramData) (g i : ℕ) (var : GlobalVar) (b : InitByte) (c : Inclusion) → slice_get p.globals g ≡ Some var → slice_get var.init i ≡ Some b
    → Contains (asked_by_byte g b) c → Contains (asked p) c
byte_asked p g i var b c at there h =
    Contains-append_left (asked_by_globals 0 p.globals) (asked_by_funcs p 0 p.funcs) c
    (from_part (λ k v. flat_map (asked_by_byte k) v.init) asked_by_globals (λ k. refl, λ k v vs. refl) g p.globals var c at
    (from_part (λ k. asked_by_byte g) (λ k. flat_map (asked_by_byte g)) (λ k. refl, λ k x xs. refl) i var.init b c there h))

-- what a program says of its nodes holds of the node at any place, if it holds of one that isn't there
pub at_any_node : (p : ProgramData) (f : FuncId) (n : NodeId) (P : Node → Type 0) → ((func : Func) (x : Node) → slice_get p.funcs f.0 ≡ Some func → slice_get func.nodes n.0 ≡ Some x → P x)
    → P node.Unreachable → P (node_at p f n)
at_any_node p f n P each none = go (slice_get p.funcs f.0) refl
  where
    here' : (func : Func) → slice_get p.funcs f.0 ≡ Some func → (o : Option Node) → slice_get func.nodes n.0 ≡ o → P (unwrap_or o node.Unreachable)
    here' func at None e = none
    here' func at (Some x) e = each func x at e

    go : (o : Option Func) → slice_get p.funcs f.0 ≡ o → P (unwrap_or (slice_get (nodes_of o) n.0) node.Unreachable)
    go None e = none
    go (Some func) e = here' func e (slice_get func.nodes n.0) refl

-- what a node asks, the program asks
pub node_asked : (p : ProgramData) (f : FuncId) (n : NodeId) (c : Inclusion) → Contains (asked_by p f n (node_at p f n)) c → Contains (asked p) c
node_asked p f n c =
    at_any_node p f n (λ x. Contains (asked_by p f n x) c → Contains (asked p) c)
    (λ func x at there h. Contains-append_right (asked_by_globals 0 p.globals) (asked_by_funcs p 0 p.funcs) c
    (from_part (λ k g. asked_from p (record { 0 = k }) 0 g.nodes) (asked_by_funcs p) (λ k. refl, λ k g gs. refl) f.0 p.funcs func c at
    (from_part (λ k. asked_by p f (record { 0 = k })) (asked_from p f) (λ k. refl, λ k y ys. refl) n.0 func.nodes x c there h)))
    (λ h. absurd (omega (arith, h.1)))

-- what is known of a function of a whole program, and of its node
pub func_of : (p : ProgramData) → IsWhole p → (f : FuncId) (func : Func) → slice_get p.funcs f.0 ≡ Some func → IsFuncOf (length p.globals) (length p.funcs) func
func_of p whole f func at = all_at (IsFuncOf (length p.globals) (length p.funcs)) p.funcs f.0 func whole.funcs at

pub node_of : (p : ProgramData) → IsWhole p → (f : FuncId) (func : Func) (n : ℕ) (x : Node) → slice_get p.funcs f.0 ≡ Some func → slice_get func.nodes n ≡ Some x
    → IsNodeOf (length p.globals) (length p.funcs) (length (regs_of (func_at p f))) (length (nodes_of (func_at p f))) x
node_of p whole f func n x at there =
    subst (λ (o : Option Func). IsNodeOf (length p.globals) (length p.funcs) (length (regs_of o)) (length (nodes_of o)) x) (sym at)
    (all_at (IsNodeOf (length p.globals) (length p.funcs) (length func.regs) (length func.nodes)) func.nodes n x (func_of p whole f func at).nodes there)

-- the operands of a node are its function's
pub node_reads : (p : ProgramData) (f : FuncId) (n : NodeId) → IsWhole p → Each (OperandIn (length p.globals) (length (regs_of (func_at p f)))) (operands_of (node_at p f n))
node_reads p f n whole =
    at_any_node p f n (λ x. Each (OperandIn (length p.globals) (length (regs_of (func_at p f)))) (operands_of x))
    (λ func x at there. recursion_from_All (OperandIn (length p.globals) (length (regs_of (func_at p f)))) (operands_of x) (node_of p whole f func n.0 x at there).operands) tt
