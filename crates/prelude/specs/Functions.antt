-- The functions that have a body, but for those that copy memory. Each stands below its text, whose nodes are numbered in the order of
-- the text; a phi is no node, and behind the others stands one node for each edge into the block of a phi. What the functions do is of the C standard
-- (ISO/IEC 9899, 7.21.7.6 getchar, 7.21.7.8 putchar, 7.21.7.9 puts, 7.22.3.2 calloc), with input and output that never fail.
use Rattle.std.specs.Prelude.{List, [], ◌∷◌, Some, codes}
use Rattle.bitnum.specs.declared.BinOp.TheVariants as op
use Rattle.bitnum.specs.declared.Pred.TheVariants as pred
use Rattle.flat_ir.specs.declared.nodes.CastOp.TheVariants as cast
use Rattle.flat_ir.specs.declared.nodes.Node.{Node}
use Rattle.flat_ir.specs.declared.nodes.Node.TheVariants as node
use Rattle.flat_ir.specs.declared.nodes.Operand.TheVariants as operand
use Rattle.flat_ir.specs.declared.nodes.RegType.TheVariants as type
use Rattle.flat_ir.specs.declared.program.Func.{Func}
use Rattle.prelude.specs.Shapes.{r, at, reg, int, behind, moves, func}

-- define i32 @getchar() { %r = INPUT  ret i32 %r }
abbrev pub getchar : Func
getchar = func (codes "getchar") 0 (type.Int 32 ∷ []) (Some (type.Int 32))
    (node.In (r 0) (at 1)
    ∷ node.Ret (Some (reg 0))
    ∷ [])

-- define i32 @putchar(i32 %c) { OUTPUT %c  %r = and i32 %c, 255  ret i32 %r }
abbrev pub putchar : Func
putchar = func (codes "putchar") 1 (type.Int 32 ∷ type.Int 32 ∷ []) (Some (type.Int 32))
    (node.Put (reg 0) (at 1)
    ∷ node.Bin op.And (reg 0) (int 32 255) (r 1) (at 2)
    ∷ node.Ret (Some (reg 1))
    ∷ [])

-- define i32 @puts(ptr %s) {
-- e: br label %l
-- l: %p = phi ptr [ %s, %e ], [ %q, %b ]  %c = load i8, ptr %p  %z = icmp eq i8 %c, 0  br i1 %z, label %d, label %b
-- b: %w = zext i8 %c to i32  OUTPUT %w  %q = getelementptr i8, ptr %p, i64 1  br label %l
-- d: OUTPUT 10  ret i32 0 }
abbrev pub puts_nodes : List Node
puts_nodes =
    node.Jump (at 10)
    ∷ node.Load (reg 1) (r 2) (at 2)
    ∷ node.Cmp pred.Eq (reg 2) (int 8 0) (r 3) (at 3)
    ∷ node.Branch (reg 3) (at 8) (at 4)
    ∷ node.Cast cast.Zext (reg 2) (r 4) (at 5)
    ∷ node.Put (reg 4) (at 6)
    ∷ behind (reg 1) (int 64 1) 5 7
    ∷ node.Jump (at 11)
    ∷ node.Put (int 32 10) (at 9)
    ∷ node.Ret (Some (int 32 0))
    ∷ moves 1 (reg 0) 1
    ∷ moves 1 (reg 5) 1
    ∷ []

abbrev pub puts : Func
puts = func (codes "puts") 1 (type.Ptr ∷ type.Ptr ∷ type.Int 8 ∷ type.Int 1 ∷ type.Int 32 ∷ type.Ptr ∷ []) (Some (type.Int 32)) puts_nodes

-- define ptr @calloc(i64 %n, i64 %m) {
--    %a = icmp ugt i64 %n, 65536  %b = icmp ugt i64 %m, 65536  %o = or i1 %a, %b  br i1 %o, label %z, label %k
-- z: ret ptr null
-- k: %s = mul i64 %n, %m  %p = MALLOC %s  ret ptr %p }
abbrev pub calloc_nodes : List Node
calloc_nodes =
    node.Cmp pred.Ugt (reg 0) (int 64 65536) (r 2) (at 1)
    ∷ node.Cmp pred.Ugt (reg 1) (int 64 65536) (r 3) (at 2)
    ∷ node.Bin op.Or (reg 2) (reg 3) (r 4) (at 3)
    ∷ node.Branch (reg 4) (at 4) (at 5)
    ∷ node.Ret (Some operand.Null)
    ∷ node.Bin op.Mul (reg 0) (reg 1) (r 5) (at 6)
    ∷ node.Malloc (reg 5) (Some (r 6)) (at 7)
    ∷ node.Ret (Some (reg 6))
    ∷ []

abbrev pub calloc : Func
calloc = func (codes "calloc") 2 (type.Int 64 ∷ type.Int 64 ∷ type.Int 1 ∷ type.Int 1 ∷ type.Int 1 ∷ type.Int 64 ∷ type.Ptr ∷ []) (Some type.Ptr) calloc_nodes
