-- What each node asks of the sites that registers and bytes may point to (after L. O. Andersen, "Program Analysis and
-- Specialization for the C Programming Language", 1994, chapter 4: inclusions, without flow or context).
use Rattle.std.specs.Prelude.{ℕ, ◌+◌, List, [], ◌∷◌, ◌++◌, length, map, take, Option, None, Some}
use Rattle.std.specs.List.{flat_map}
use Rattle.flat_ir.specs.declared.names.FuncId.{FuncId}
use Rattle.flat_ir.specs.declared.names.NodeId.{NodeId}
use Rattle.flat_ir.specs.declared.names.RegId.{RegId}
use Rattle.flat_ir.specs.declared.names.Site.TheVariants as site
use Rattle.flat_ir.specs.declared.nodes.MoveSet.{MoveSet}
use Rattle.flat_ir.specs.declared.nodes.Node.{Node}
use Rattle.flat_ir.specs.declared.nodes.Node.TheVariants as node
use Rattle.flat_ir.specs.declared.nodes.Operand.{Operand}
use Rattle.flat_ir.specs.declared.nodes.Operand.TheVariants as operand
use Rattle.flat_ir.specs.declared.nodes.RegType.{RegType}
use Rattle.flat_ir.specs.declared.nodes.RegType.TheVariants as type
use Rattle.flat_ir.specs.declared.program.Func.{Func}
use Rattle.flat_ir.specs.declared.program.GlobalVar.{GlobalVar}
use Rattle.flat_ir.specs.declared.program.InitByte.{InitByte}
use Rattle.flat_ir.specs.declared.program.InitByte.TheVariants as init
use Rattle.flat_ir.specs.declared.program.ProgramData.{ProgramData}
use Rattle.flat_ir.specs.Machine.{func_at, regs_of, type_at}
use Rattle.points_to.specs.declared.holders.Holder.{Holder}
use Rattle.points_to.specs.declared.holders.Holder.TheVariants.{Register, Returned, Bytes, Address, Nothing}
use Rattle.points_to.specs.declared.holders.Inclusion.{Inclusion}
use Rattle.points_to.specs.declared.holders.Inclusion.TheVariants.{Names, Copies, Loads, Stores, Moves}

-- what holds the value of an operand of a function
abbrev pub holder_in : FuncId → Operand → Holder
holder_in f (operand.Reg r) = Register f r
holder_in f (operand.Int n) = Nothing
holder_in f operand.Null = Nothing
holder_in f (operand.Global g offset) = Address g

-- a register, if one is set, may point to the objects that the node makes
abbrev pub made_in : FuncId → NodeId → Option RegId → List Inclusion
made_in f n None = []
made_in f n (Some r) = Names (Register f r) (site.Node f n) ∷ []

-- a load of a pointer
abbrev pub loaded_in : FuncId → RegType → Operand → RegId → List Inclusion
loaded_in f (type.Int width) a r = []
loaded_in f type.Ptr a r = Loads (holder_in f a) (Register f r) ∷ []

-- the registers that are set together
abbrev pub moved_in : FuncId → List MoveSet → List Inclusion
moved_in f sets = map (λ s. Copies (holder_in f s.value) (Register f s.register)) sets

-- the arguments of a call, from the k-th on, are the callee's first registers
abbrev pub passed_in : FuncId → FuncId → ℕ → List Operand → List Inclusion
passed_in f callee k [] = []
passed_in f callee k (a ∷ as') = Copies (holder_in f a) (Register callee (record { 0 = k })) ∷ passed_in f callee (k + 1) as'

-- the register that a call sets, if it sets one
abbrev pub received_in : FuncId → FuncId → Option RegId → List Inclusion
received_in f callee None = []
received_in f callee (Some r) = Copies (Returned callee) (Register f r) ∷ []

-- the value that is returned, if there is one
abbrev pub returned_in : FuncId → Option Operand → List Inclusion
returned_in f None = []
returned_in f (Some a) = Copies (holder_in f a) (Returned f) ∷ []

-- what a node of a function asks
abbrev pub asked_by : ProgramData → FuncId → NodeId → Node → List Inclusion
asked_by p f n (node.Gep base parts result next) = Copies (holder_in f base) (Register f result) ∷ []
asked_by p f n (node.Select condition a b result next) = Copies (holder_in f a) (Register f result) ∷ Copies (holder_in f b) (Register f result) ∷ []
asked_by p f n (node.Alloca size result next) = Names (Register f result) (site.Node f n) ∷ []
asked_by p f n (node.Malloc size result next) = made_in f n result
asked_by p f n (node.Load pointer result next) = loaded_in f (type_at p f result) pointer result
asked_by p f n (node.Store value pointer next) = Stores (holder_in f value) (holder_in f pointer) ∷ []
asked_by p f n (node.Copy from there next) = Moves (holder_in f from) (holder_in f there) ∷ []
asked_by p f n (node.Call callee args result next) = passed_in f callee 0 (take (length (regs_of (func_at p callee))) args) ++ received_in f callee result
asked_by p f n (node.Moves sets next) = moved_in f sets
asked_by p f n (node.Ret value) = returned_in f value
asked_by p f n (node.Bin op a b result next) = []
asked_by p f n (node.Cmp pred a b result next) = []
asked_by p f n (node.Cast op a result next) = []
asked_by p f n (node.Free pointer next) = []
asked_by p f n (node.In result next) = []
asked_by p f n (node.Put value next) = []
asked_by p f n (node.Jump next) = []
asked_by p f n (node.Branch condition first second) = []
asked_by p f n (node.Switch value cases default) = []
asked_by p f n (node.Exit status) = []
asked_by p f n node.Abort = []
asked_by p f n (node.Assert args) = []
asked_by p f n node.Unreachable = []

-- what the nodes of a function ask, from the k-th on
abbrev pub asked_from : ProgramData → FuncId → ℕ → List Node → List Inclusion
asked_from p f k [] = []
asked_from p f k (x ∷ xs) = asked_by p f (record { 0 = k }) x ++ asked_from p f (k + 1) xs

-- what the functions ask, from the k-th on
abbrev pub asked_by_funcs : ProgramData → ℕ → List Func → List Inclusion
asked_by_funcs p k [] = []
asked_by_funcs p k (f ∷ fs) = asked_from p (record { 0 = k }) 0 f.nodes ++ asked_by_funcs p (k + 1) fs

-- a byte of a pointer, with which a global starts
abbrev pub asked_by_byte : ℕ → InitByte → List Inclusion
asked_by_byte g (init.Int b) = []
asked_by_byte g (init.PtrByte h offset j) = Names (Bytes (site.Global g)) (site.Global h) ∷ []

-- what the globals ask, from the k-th on
abbrev pub asked_by_globals : ℕ → List GlobalVar → List Inclusion
asked_by_globals k [] = []
asked_by_globals k (g ∷ gs) = flat_map (asked_by_byte k) g.init ++ asked_by_globals (k + 1) gs

-- what the whole program asks
abbrev pub asked : ProgramData → List Inclusion
asked p = asked_by_globals 0 p.globals ++ asked_by_funcs p 0 p.funcs
