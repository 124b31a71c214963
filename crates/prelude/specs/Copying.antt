-- The functions that copy and set memory, byte after byte: memset and memcpy of the C standard (ISO/IEC 9899, 7.24.6.1 and 7.24.2.1), and the intrinsics of these names
-- (LLVM Language Reference, "'llvm.memcpy' Intrinsic" and "'llvm.memset.*' Intrinsics"), whose last argument isn't looked at.
use Rattle.std.specs.Prelude.{List, [], ◌∷◌, Some, None, codes}
use Rattle.bitnum.specs.declared.BinOp.TheVariants as op
use Rattle.bitnum.specs.declared.Pred.TheVariants as pred
use Rattle.flat_ir.specs.declared.nodes.CastOp.TheVariants as cast
use Rattle.flat_ir.specs.declared.nodes.Node.{Node}
use Rattle.flat_ir.specs.declared.nodes.Node.TheVariants as node
use Rattle.flat_ir.specs.declared.nodes.RegType.TheVariants as type
use Rattle.flat_ir.specs.declared.program.Func.{Func}
use Rattle.prelude.specs.Shapes.{r, at, reg, int, behind, moves, func}

-- define ptr @memset(ptr %d, i32 %c, i64 %n) {
-- e: %b = trunc i32 %c to i8  br label %l
-- l: %i = phi i64 [ 0, %e ], [ %j, %k ]  %t = icmp ult i64 %i, %n  br i1 %t, label %k, label %x
-- k: %p = getelementptr i8, ptr %d, i64 %i  store i8 %b, ptr %p  %j = add i64 %i, 1  br label %l
-- x: ret ptr %d }
abbrev pub memset_nodes : List Node
memset_nodes =
    node.Cast cast.Trunc (reg 1) (r 3) (at 1)
    ∷ node.Jump (at 9)
    ∷ node.Cmp pred.Ult (reg 4) (reg 2) (r 5) (at 3)
    ∷ node.Branch (reg 5) (at 4) (at 8)
    ∷ behind (reg 0) (reg 4) 6 5
    ∷ node.Store (reg 3) (reg 6) (at 6)
    ∷ node.Bin op.Add (reg 4) (int 64 1) (r 7) (at 7)
    ∷ node.Jump (at 10)
    ∷ node.Ret (Some (reg 0))
    ∷ moves 4 (int 64 0) 2
    ∷ moves 4 (reg 7) 2
    ∷ []

abbrev pub memset : Func
memset = func (codes "memset") 3 (type.Ptr ∷ type.Int 32 ∷ type.Int 64 ∷ type.Int 8 ∷ type.Int 64 ∷ type.Int 1 ∷ type.Ptr ∷ type.Int 64 ∷ []) (Some type.Ptr) memset_nodes

-- define ptr @memcpy(ptr %d, ptr %s, i64 %n) {
-- e: br label %l
-- l: %i = phi i64 [ 0, %e ], [ %j, %k ]  %t = icmp ult i64 %i, %n  br i1 %t, label %k, label %x
-- k: %p = getelementptr i8, ptr %d, i64 %i  %q = getelementptr i8, ptr %s, i64 %i  COPY from %q to %p  %j = add i64 %i, 1  br label %l
-- x: ret ptr %d }
abbrev pub memcpy_nodes : List Node
memcpy_nodes =
    node.Jump (at 9)
    ∷ node.Cmp pred.Ult (reg 3) (reg 2) (r 4) (at 2)
    ∷ node.Branch (reg 4) (at 3) (at 8)
    ∷ behind (reg 0) (reg 3) 5 4
    ∷ behind (reg 1) (reg 3) 6 5
    ∷ node.Copy (reg 6) (reg 5) (at 6)
    ∷ node.Bin op.Add (reg 3) (int 64 1) (r 7) (at 7)
    ∷ node.Jump (at 10)
    ∷ node.Ret (Some (reg 0))
    ∷ moves 3 (int 64 0) 1
    ∷ moves 3 (reg 7) 1
    ∷ []

abbrev pub memcpy : Func
memcpy = func (codes "memcpy") 3 (type.Ptr ∷ type.Ptr ∷ type.Int 64 ∷ type.Int 64 ∷ type.Int 1 ∷ type.Ptr ∷ type.Ptr ∷ type.Int 64 ∷ []) (Some type.Ptr) memcpy_nodes

-- the body of memcpy with `ret void`: define void @llvm.memcpy.p0.p0.i64(ptr %d, ptr %s, i64 %n, i1 %v)
abbrev pub memcpy_intrinsic_nodes : List Node
memcpy_intrinsic_nodes =
    node.Jump (at 9)
    ∷ node.Cmp pred.Ult (reg 4) (reg 2) (r 5) (at 2)
    ∷ node.Branch (reg 5) (at 3) (at 8)
    ∷ behind (reg 0) (reg 4) 6 4
    ∷ behind (reg 1) (reg 4) 7 5
    ∷ node.Copy (reg 7) (reg 6) (at 6)
    ∷ node.Bin op.Add (reg 4) (int 64 1) (r 8) (at 7)
    ∷ node.Jump (at 10)
    ∷ node.Ret None
    ∷ moves 4 (int 64 0) 1
    ∷ moves 4 (reg 8) 1
    ∷ []

abbrev pub memcpy_intrinsic : Func
memcpy_intrinsic = func (codes "llvm.memcpy.p0.p0.i64") 4
    (type.Ptr ∷ type.Ptr ∷ type.Int 64 ∷ type.Int 1 ∷ type.Int 64 ∷ type.Int 1 ∷ type.Ptr ∷ type.Ptr ∷ type.Int 64 ∷ []) None memcpy_intrinsic_nodes

-- the body of memset with `ret void`, and the byte as it is passed: define void @llvm.memset.p0.i64(ptr %d, i8 %b, i64 %n, i1 %v)
abbrev pub memset_intrinsic_nodes : List Node
memset_intrinsic_nodes =
    node.Jump (at 8)
    ∷ node.Cmp pred.Ult (reg 4) (reg 2) (r 5) (at 2)
    ∷ node.Branch (reg 5) (at 3) (at 7)
    ∷ behind (reg 0) (reg 4) 6 4
    ∷ node.Store (reg 1) (reg 6) (at 5)
    ∷ node.Bin op.Add (reg 4) (int 64 1) (r 7) (at 6)
    ∷ node.Jump (at 9)
    ∷ node.Ret None
    ∷ moves 4 (int 64 0) 1
    ∷ moves 4 (reg 7) 1
    ∷ []

abbrev pub memset_intrinsic : Func
memset_intrinsic = func (codes "llvm.memset.p0.i64") 4
    (type.Ptr ∷ type.Int 8 ∷ type.Int 64 ∷ type.Int 1 ∷ type.Int 64 ∷ type.Int 1 ∷ type.Ptr ∷ type.Int 64 ∷ []) None memset_intrinsic_nodes
