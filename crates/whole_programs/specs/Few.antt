-- Programs that 32 bits can number: their globals and functions, and each function's nodes and registers.
use Rattle.std.specs.Prelude.{◌≤◌, ◌^◌, length, All}
use Rattle.flat_ir.specs.declared.program.Func.{Func}
use Rattle.flat_ir.specs.declared.program.ProgramData.{ProgramData}

abbrev pub HasFew : Func → Type 0
HasFew f = (length f.nodes ≤ 2 ^ 32) × (length f.regs ≤ 2 ^ 32)

pub record IsFew (p : ProgramData) : Type 0 where
  pub globals : length p.globals ≤ 2 ^ 32
  pub funcs : length p.funcs ≤ 2 ^ 32
  pub each : All HasFew p.funcs
