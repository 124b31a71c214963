-- A pointer of an exploration: an object, or none, and an offset of 64 bits that is a term (LLVM Language Reference,
-- "Pointer Type"; that a pointer is an object and an offset, and no number, is a choice of this project).
use Rattle.terms.specs.Tree.{Tree}
use Rattle.sym_bytes.specs.declared.names.Base.{Base}

pub record Pointer : Type 0 where
  pub base : Base
  pub offset : Tree
