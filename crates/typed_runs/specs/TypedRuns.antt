-- Values of types, in the states of a run. A register of an integer type holds a number of that width, and one of the type of
-- pointers an address (LLVM Language Reference, "Type System").
use Rattle.std.specs.Prelude.{◌≡◌, List, [], ◌∷◌}
use Rattle.std.specs.List.{AllByRecursion as Each}
use Rattle.flat_ir.specs.declared.names.FuncId.{FuncId}
use Rattle.flat_ir.specs.declared.nodes.Node.{Node}
use Rattle.flat_ir.specs.declared.nodes.Node.TheVariants as node
use Rattle.flat_ir.specs.declared.nodes.RegType.{RegType}
use Rattle.flat_ir.specs.declared.nodes.RegType.TheVariants as type
use Rattle.flat_ir.specs.declared.program.ProgramData.{ProgramData}
use Rattle.flat_ir.specs.declared.values.ConcreteValue.{ConcreteValue}
use Rattle.flat_ir.specs.declared.values.ConcreteValue.TheVariants.{Int, Ptr}
use Rattle.flat_ir.specs.Machine.{Frame, State, Run, On, Over, func_at, regs_of, node_at}

-- the value is of the type: a number as wide, or an address
abbrev pub HasType : RegType → ConcreteValue → Type 0
HasType (type.Int width) (Int n) = n.width ≡ width
HasType (type.Int width) (Ptr a) = ⊥
HasType type.Ptr (Int n) = ⊥
HasType type.Ptr (Ptr a) = Unit {0}

-- as many values as types, and each is of its type
abbrev pub HaveTypes : List RegType → List ConcreteValue → Type 0
HaveTypes [] [] = Unit {0}
HaveTypes [] (v ∷ vs) = ⊥
HaveTypes (t ∷ ts) [] = ⊥
HaveTypes (t ∷ ts) (v ∷ vs) = HasType t v × HaveTypes ts vs

-- the frame has the registers of its function, and each holds a value of its type
abbrev pub HoldsTypes : ProgramData → Frame → Type 0
HoldsTypes p f = HaveTypes (regs_of (func_at p f.func)) f.regs

-- the node calls the function
abbrev pub IsCallOf : FuncId → Node → Type 0
IsCallOf f (node.Call callee args result next) = callee ≡ f
IsCallOf f _ = ⊥

-- each frame that waits stands at a call of the function of the frame above it
abbrev pub WaitAtCalls : ProgramData → Frame → List Frame → Type 0
WaitAtCalls p f [] = Unit {0}
WaitAtCalls p f (g ∷ gs) = IsCallOf f.func (node_at p g.func g.node) × WaitAtCalls p g gs

-- so it is with a frame and those that called it
pub record AreTyped (p : ProgramData) (f : Frame) (fs : List Frame) : Type 0 where
  pub frame : HoldsTypes p f
  pub callers : Each (HoldsTypes p) fs
  pub calls : WaitAtCalls p f fs

-- the state's registers hold values of their types
abbrev pub IsTyped : ProgramData → State → Type 0
IsTyped p s = AreTyped p s.frame s.callers

-- where the run goes on, its state is typed
abbrev pub RunIsTyped : ProgramData → Run → Type 0
RunIsTyped p (On s) = IsTyped p s
RunIsTyped p (Over e s) = Unit {0}
