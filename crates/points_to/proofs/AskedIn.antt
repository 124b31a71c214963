-- What a whole program asks speaks of its own registers, functions, nodes and globals.
use Rattle.std.specs.Prelude.{slice_get, map, take}
use Rattle.std.proofs.Common.{◌≡◌, ◌<◌, ◌≤◌, ◌+◌, ◌^◌, ℕ, zero, suc, List, [], ◌∷◌, length, Option, Some, None, refl, sym, subst, arith}
use Rattle.std.specs.List.{Contains, flat_map, AllByRecursion as Each}
use Rattle.std.proofs.lemmas.List.Elements.{recursion_from_All, All-from_recursion, All-contains}
use Rattle.std.proofs.lemmas.Option.{slice_get_within}
use Rattle.flat_ir.proofs.MadeBasics.{each_append}
use Rattle.points_to.proofs.Parts.{all_at, each_part}
use Rattle.points_to.proofs.Containing.{func_of, node_of}
use Rattle.flat_ir.specs.declared.names.FuncId.{FuncId}
use Rattle.flat_ir.specs.declared.names.NodeId.{NodeId}
use Rattle.flat_ir.specs.declared.names.RegId.{RegId}
use Rattle.flat_ir.specs.declared.names.Site.{Site}
use Rattle.flat_ir.specs.declared.names.Site.TheVariants as site
use Rattle.flat_ir.specs.declared.nodes.MoveSet.{MoveSet}
use Rattle.flat_ir.specs.declared.nodes.Node.{Node}
use Rattle.flat_ir.specs.declared.nodes.Node.TheVariants as node
use Rattle.flat_ir.specs.declared.nodes.Operand.{Operand}
use Rattle.flat_ir.specs.declared.nodes.Operand.TheVariants as operand
use Rattle.flat_ir.specs.declared.nodes.RegType.{RegType}
use Rattle.flat_ir.specs.declared.nodes.RegType.TheVariants as type
use Rattle.flat_ir.specs.declared.program.Func.{Func}
use Rattle.flat_ir.specs.declared.program.InitByte.{InitByte}
use Rattle.flat_ir.specs.declared.program.InitByte.TheVariants as init
use Rattle.flat_ir.specs.declared.program.ProgramData.{ProgramData}
use Rattle.flat_ir.specs.Machine.{func_at, regs_of, nodes_of, type_at}
use Rattle.flat_ir.specs.Whole.{IsWhole, IsNodeOf, IsGlobalOf, InitIn, OperandIn, operands_of, results_of}
use Rattle.points_to.specs.declared.holders.Holder.{Holder}
use Rattle.points_to.specs.declared.holders.Holder.TheVariants.{Bytes, Address}
use Rattle.points_to.specs.declared.holders.Inclusion.{Inclusion}
use Rattle.points_to.specs.declared.holders.Inclusion.TheVariants.{Names, Copies, Loads, Stores, Moves}
use Rattle.points_to.specs.Asked.{holder_in, made_in, loaded_in, moved_in, passed_in, received_in, returned_in, asked_by, asked_from, asked_by_funcs, asked_by_byte, asked_by_globals, asked}
use Rattle.points_to.specs.Points.{IsIn}
use Rattle.points_to.specs.Rows.{IsSmall}
use Rattle.points_to.specs.Solving.{IsStored, IsSmallHolder, IsSmallIn}

-- what is asked speaks of holders of the program
abbrev pub IsAskedIn : ProgramData → Inclusion → Type 0
IsAskedIn p (Names h s) = IsIn p h × (IsStored h × IsIn p (Bytes s))
IsAskedIn p (Copies from to) = IsIn p from × (IsIn p to × IsStored to)
IsAskedIn p (Loads q to) = IsIn p q × (IsIn p to × IsStored to)
IsAskedIn p (Stores from q) = IsIn p from × IsIn p q
IsAskedIn p (Moves from to) = IsIn p from × IsIn p to

each_take : {A : Type 0} (P : A → Type 0) → (n : ℕ) (xs : List A) → Each P xs → Each P (take n xs)
each_take P zero xs all = tt
each_take P (suc n) [] all = tt
each_take P (suc n) (x ∷ xs) all = (all.0, each_take P n xs all.1)

pub operand_in : (p : ProgramData) (f : FuncId) (a : Operand) → OperandIn (length p.globals) (length (regs_of (func_at p f))) a → IsIn p (holder_in f a)
operand_in p f (operand.Reg r) h = h
operand_in p f (operand.Int n) h = tt
operand_in p f operand.Null h = tt
operand_in p f (operand.Global g offset) h = h

-- the operands and the results of a node of a function are its own
abbrev Reads : ProgramData → FuncId → Operand → Type 0
Reads p f a = OperandIn (length p.globals) (length (regs_of (func_at p f))) a

abbrev Sets : ProgramData → FuncId → RegId → Type 0
Sets p f r = r.0 < length (regs_of (func_at p f))

moved_is : (p : ProgramData) (f : FuncId) (sets : List MoveSet) → Each (Reads p f) (map (λ (s : MoveSet). s.value) sets) → Each (Sets p f) (map (λ (s : MoveSet). s.register) sets)
    → Each (IsAskedIn p) (moved_in f sets)
moved_is p f [] values registers = tt
moved_is p f (s ∷ sets) values registers = ((operand_in p f s.value values.0, (registers.0, tt)), moved_is p f sets values.1 registers.1)

passed_is : (p : ProgramData) (f callee : FuncId) (k n : ℕ) (args : List Operand) → Each (Reads p f) args → k + n ≡ length (regs_of (func_at p callee))
    → Each (IsAskedIn p) (passed_in f callee k (take n args))
passed_is p f callee k zero args reads e = tt
passed_is p f callee k (suc n) [] reads e = tt
passed_is p f callee k (suc n) (a ∷ as') reads e =
    ((operand_in p f a reads.0, (omega (arith, e), tt)), passed_is p f callee (k + 1) n as' reads.1 (omega (arith, e)))

received_is : (p : ProgramData) (f callee : FuncId) (result : Option RegId) → callee.0 < length p.funcs → ((r : RegId) → result ≡ Some r → Sets p f r)
    → Each (IsAskedIn p) (received_in f callee result)
received_is p f callee None there sets = tt
received_is p f callee (Some r) there sets = ((there, (sets r refl, tt)), tt)

result_in : (p : ProgramData) (f : FuncId) (n : NodeId) (x : Node) (result : Option RegId) → IsIn p (Bytes (site.Node f n)) → ((r : RegId) → result ≡ Some r → Sets p f r)
    → Each (IsAskedIn p) (made_in f n result)
result_in p f n x None there sets = tt
result_in p f n x (Some r) there sets = ((sets r refl, (tt, there)), tt)

returned_is : (p : ProgramData) (f : FuncId) (value : Option Operand) → f.0 < length p.funcs → ((a : Operand) → value ≡ Some a → Reads p f a) → Each (IsAskedIn p) (returned_in f value)
returned_is p f None there reads = tt
returned_is p f (Some a) there reads = ((operand_in p f a (reads a refl), (there, tt)), tt)

loaded_is : (p : ProgramData) (f : FuncId) (t : RegType) (a : Operand) (r : RegId) → Reads p f a → Sets p f r → Each (IsAskedIn p) (loaded_in f t a r)
loaded_is p f (type.Int width) a r reads sets = tt
loaded_is p f type.Ptr a r reads sets = ((operand_in p f a reads, (sets, tt)), tt)

one_result : (p : ProgramData) (f : FuncId) (result : Option RegId) → Each (Sets p f) (elim result [ None ↦ [] | Some r ↦ r ∷ [] ]) → (r : RegId) → result ≡ Some r → Sets p f r
one_result p f None sets r e = absurd (cc)
one_result p f (Some s) sets r e = let same : s ≡ r = cc in subst (λ (t : RegId). Sets p f t) same sets.0

one_value : (p : ProgramData) (f : FuncId) (value : Option Operand) → Each (Reads p f) (elim value [ None ↦ [] | Some a ↦ a ∷ [] ]) → (a : Operand) → value ≡ Some a → Reads p f a
one_value p f None reads a e = absurd (cc)
one_value p f (Some b) reads a e = let same : b ≡ a = cc in subst (λ (t : Operand). Reads p f t) same reads.0

-- what a node asks
node_is : (p : ProgramData) (f : FuncId) (n : NodeId) (x : Node) → f.0 < length p.funcs → IsIn p (Bytes (site.Node f n))
    → IsNodeOf (length p.globals) (length p.funcs) (length (regs_of (func_at p f))) (length (nodes_of (func_at p f))) x
    → Each (Reads p f) (operands_of x) → Each (Sets p f) (results_of x) → Each (IsAskedIn p) (asked_by p f n x)
node_is p f n (node.Gep base parts result next) there here' is reads sets = ((operand_in p f base reads.0, (sets.0, tt)), tt)
node_is p f n (node.Select condition a b result next) there here' is reads sets =
    ((operand_in p f a reads.1.0, (sets.0, tt)), ((operand_in p f b reads.1.1.0, (sets.0, tt)), tt))
node_is p f n (node.Alloca size result next) there here' is reads sets = ((sets.0, (tt, here')), tt)
node_is p f n (node.Malloc size result next) there here' is reads sets = result_in p f n node.Unreachable result here' (one_result p f result sets)
node_is p f n (node.Load pointer result next) there here' is reads sets = loaded_is p f (type_at p f result) pointer result reads.0 sets.0
node_is p f n (node.Store value pointer next) there here' is reads sets = ((operand_in p f value reads.0, operand_in p f pointer reads.1.0), tt)
node_is p f n (node.Copy from to next) there here' is reads sets = ((operand_in p f from reads.0, operand_in p f to reads.1.0), tt)
node_is p f n (node.Call callee args result next) there here' is reads sets =
    each_append (IsAskedIn p) (passed_in f callee 0 (take (length (regs_of (func_at p callee))) args)) (received_in f callee result)
    (passed_is p f callee 0 (length (regs_of (func_at p callee))) args reads (omega arith)) (received_is p f callee result is.names (one_result p f result sets))
node_is p f n (node.Moves ms next) there here' is reads sets = moved_is p f ms reads sets
node_is p f n (node.Ret value) there here' is reads sets = returned_is p f value there (one_value p f value reads)
node_is p f n _ there here' is reads sets = tt

-- what the nodes of a function ask
nodes_are : (p : ProgramData) → IsWhole p → (f : FuncId) (func : Func) → slice_get p.funcs f.0 ≡ Some func → Each (IsAskedIn p) (asked_from p f 0 func.nodes)
nodes_are p whole f func at =
    each_part (λ k. asked_by p f (record { 0 = k })) (asked_from p f) (λ k. refl, λ k x xs. refl) (IsAskedIn p) func.nodes
    (λ n x there. let is = node_of p whole f func n x at there in
    node_is p f (record { 0 = n }) x (slice_get_within p.funcs f.0 func at)
    (subst (λ (o : Option Func). n < length (nodes_of o)) (sym at) (slice_get_within func.nodes n x there)) is
    (recursion_from_All (Reads p f) (operands_of x) is.operands) (recursion_from_All (Sets p f) (results_of x) is.results))

bytes_are : (p : ProgramData) (g : ℕ) (bs : List InitByte) → g < length p.globals → Each (InitIn (length p.globals)) bs → Each (IsAskedIn p) (flat_map (asked_by_byte g) bs)
bytes_are p g [] there are = tt
bytes_are p g (init.Int b ∷ bs) there are = bytes_are p g bs there are.1
bytes_are p g (init.PtrByte h offset j ∷ bs) there are = ((there, (tt, are.0.0)), bytes_are p g bs there are.1)

all_asked_in : (p : ProgramData) → IsWhole p → Each (IsAskedIn p) (asked p)
all_asked_in p whole =
    each_append (IsAskedIn p) (asked_by_globals 0 p.globals) (asked_by_funcs p 0 p.funcs)
    (each_part (λ k g. flat_map (asked_by_byte k) g.init) asked_by_globals (λ k. refl, λ k g gs. refl) (IsAskedIn p) p.globals
    (λ k g at. bytes_are p k g.init (slice_get_within p.globals k g at)
    (recursion_from_All (InitIn (length p.globals)) g.init (all_at (IsGlobalOf (length p.globals)) p.globals k g whole.globals at).init)))
    (each_part (λ k f. asked_from p (record { 0 = k }) 0 f.nodes) (asked_by_funcs p) (λ k. refl, λ k f fs. refl) (IsAskedIn p) p.funcs
    (λ k f at. nodes_are p whole (record { 0 = k }) f at))

-- what a whole program asks speaks of its own
pub asked_in : (p : ProgramData) → IsWhole p → (c : Inclusion) → Contains (asked p) c → IsAskedIn p c
asked_in p whole c = All-contains (IsAskedIn p) (asked p) c (All-from_recursion (IsAskedIn p) (asked p) (all_asked_in p whole))

few_regs : (p : ProgramData) → IsWhole p → (f : FuncId) → (o : Option Func) → slice_get p.funcs f.0 ≡ o → (length (regs_of o) ≤ 2 ^ 32) × (length (nodes_of o) ≤ 2 ^ 32)
few_regs p whole f None e = (omega arith, omega arith)
few_regs p whole f (Some func) e = let is = func_of p whole f func e in (is.few_regs, is.few_nodes)

pub few_at : (p : ProgramData) → IsWhole p → (f : FuncId) → (length (regs_of (func_at p f)) ≤ 2 ^ 32) × (length (nodes_of (func_at p f)) ≤ 2 ^ 32)
few_at p whole f = few_regs p whole f (func_at p f) refl

-- a function that has a node is the program's
there_is : (p : ProgramData) (f : FuncId) (k : ℕ) (o : Option Func) → slice_get p.funcs f.0 ≡ o → k < length (nodes_of o) → f.0 < length p.funcs
there_is p f k None e lt = absurd (omega (arith, lt))
there_is p f k (Some func) e lt = slice_get_within p.funcs f.0 func e

-- the sites of a whole program are small
pub site_small : (p : ProgramData) → IsWhole p → (s : Site) → IsIn p (Bytes s) → IsSmall s
site_small p whole (site.Global g) h = omega (arith, h, whole.few_globals)
site_small p whole (site.Node f n) h = (omega (arith, there_is p f n.0 (func_at p f) refl h, whole.few_funcs), omega (arith, h, (few_at p whole f).1))

holder_small : (p : ProgramData) → IsWhole p → (h : Holder) → IsIn p h → IsSmallHolder h
holder_small p whole (Address g) h = omega (arith, h, whole.few_globals)
holder_small p whole _ h = tt

small_in : (p : ProgramData) → IsWhole p → (c : Inclusion) → IsAskedIn p c → IsSmallIn c
small_in p whole (Names h s) is = site_small p whole s is.1.1
small_in p whole (Copies from to) is = holder_small p whole from is.0
small_in p whole (Loads q to) is = holder_small p whole q is.0
small_in p whole (Stores from q) is = (holder_small p whole from is.0, holder_small p whole q is.1)
small_in p whole (Moves from to) is = (holder_small p whole from is.0, holder_small p whole to is.1)

pub asked_small : (p : ProgramData) → IsWhole p → (c : Inclusion) → Contains (asked p) c → IsSmallIn c
asked_small p whole c h = small_in p whole c (asked_in p whole c h)
