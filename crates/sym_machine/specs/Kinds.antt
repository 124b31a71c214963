-- The kinds of nodes, each of which is executed in a place of its own.
use Rattle.flat_ir.specs.declared.nodes.Node.{Node}
use Rattle.flat_ir.specs.declared.nodes.Node.TheVariants as node

-- the node makes a number or a pointer
abbrev pub IsMaking : Node → Type 0
IsMaking (node.Bin op a b result next) = Unit {0}
IsMaking (node.Cmp pred a b result next) = Unit {0}
IsMaking (node.Cast op a result next) = Unit {0}
IsMaking (node.Gep base parts result next) = Unit {0}
IsMaking (node.Select condition a b result next) = Unit {0}
IsMaking _ = ⊥

-- it makes, frees, reads or writes an object
abbrev pub IsRemembering : Node → Type 0
IsRemembering (node.Alloca size result next) = Unit {0}
IsRemembering (node.Malloc size result next) = Unit {0}
IsRemembering (node.Free pointer next) = Unit {0}
IsRemembering (node.Load pointer result next) = Unit {0}
IsRemembering (node.Store value pointer next) = Unit {0}
IsRemembering (node.Copy from there next) = Unit {0}
IsRemembering _ = ⊥

-- it reads or writes, calls or returns, or chooses its way
abbrev pub IsLeading : Node → Type 0
IsLeading (node.In result next) = Unit {0}
IsLeading (node.Put value next) = Unit {0}
IsLeading (node.Call callee args result next) = Unit {0}
IsLeading (node.Moves sets next) = Unit {0}
IsLeading (node.Jump next) = Unit {0}
IsLeading (node.Branch condition first second) = Unit {0}
IsLeading (node.Switch value cases otherwise) = Unit {0}
IsLeading (node.Ret value) = Unit {0}
IsLeading _ = ⊥

-- it ends the program
abbrev pub IsEnding : Node → Type 0
IsEnding (node.Exit status) = Unit {0}
IsEnding node.Abort = Unit {0}
IsEnding (node.Assert args) = Unit {0}
IsEnding node.Unreachable = Unit {0}
IsEnding _ = ⊥
