-- Values that a run shows: what a node loaded has the type of the register that it sets, and what is returned has the result
-- type of the function that was called (LLVM Language Reference, "'load' Instruction", "'ret' Instruction").
use Rattle.std.specs.Prelude.{List, [], ◌∷◌, Option, Some, None}
use Rattle.flat_ir.specs.declared.names.FuncId.{FuncId}
use Rattle.flat_ir.specs.declared.nodes.Node.{Node}
use Rattle.flat_ir.specs.declared.nodes.Node.TheVariants as node
use Rattle.flat_ir.specs.declared.nodes.RegType.{RegType}
use Rattle.flat_ir.specs.declared.program.ProgramData.{ProgramData}
use Rattle.flat_ir.specs.declared.values.ConcreteValue.{ConcreteValue}
use Rattle.flat_ir.specs.Machine.{Event, Branched, Loaded, Entered, Returned, func_at, node_at, type_at}
use Rattle.typed_runs.specs.TypedRuns.{HasType}
use Rattle.typed_runs.specs.FittingRuns.{Fits}
use Rattle.typed_runs.specs.Suiting.{result_of}

-- a value exactly where there is a type, and of that type
abbrev pub IsGiven : Option RegType → Option ConcreteValue → Type 0
IsGiven None None = Unit {0}
IsGiven None (Some v) = ⊥
IsGiven (Some t) None = ⊥
IsGiven (Some t) (Some v) = HasType t v

-- the node of the function loads values of the type
abbrev pub IsLoadOf : ProgramData → FuncId → Node → ConcreteValue → Type 0
IsLoadOf p f (node.Load pointer result next) v = HasType (type_at p f result) v
IsLoadOf p f _ v = ⊥

-- Calls of some functions are unfinished, the newest first. Each event that loads shows a value of its register's type, and each
-- that returns ends the newest unfinished call, with a value of the result type of the function that was called.
abbrev pub ShowTypes : ProgramData → List FuncId → List Event → Type 0
ShowTypes p begun [] = Unit {0}
ShowTypes p begun (Branched f n side ∷ t) = ShowTypes p begun t
ShowTypes p begun (Loaded f n v ∷ t) = IsLoadOf p f (node_at p f n) v × ShowTypes p begun t
ShowTypes p begun (Entered caller n f ∷ t) = ShowTypes p (f ∷ begun) t
ShowTypes p [] (Returned v ∷ t) = ⊥
ShowTypes p (f ∷ begun) (Returned v ∷ t) = IsGiven (result_of (func_at p f)) v × ShowTypes p begun t

-- a value, if there is one, that fits
abbrev pub OptionFits : Option ConcreteValue → Type 0
OptionFits None = Unit {0}
OptionFits (Some v) = Fits v

-- the value that the event shows fits
abbrev pub EventFits : Event → Type 0
EventFits (Branched f n side) = Unit {0}
EventFits (Loaded f n v) = Fits v
EventFits (Entered caller n f) = Unit {0}
EventFits (Returned v) = OptionFits v
