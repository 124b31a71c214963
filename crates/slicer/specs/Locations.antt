-- The locations of a program: the bytes and the lives of the objects of its sites, the place in the input, the output, and the result of a call.
use Rattle.flat_ir.specs.declared.names.Location.{Location}
use Rattle.flat_ir.specs.declared.names.Location.TheVariants as location
use Rattle.flat_ir.specs.declared.program.ProgramData.{ProgramData}
use Rattle.points_to.specs.declared.holders.Holder.TheVariants.{Bytes}
use Rattle.points_to.specs.Points.{IsIn}

-- the site of the location, if it has one, is the program's
abbrev pub IsLocationOf : ProgramData → Location → Type 0
IsLocationOf p (location.Cells s) = IsIn p (Bytes s)
IsLocationOf p (location.Life s) = IsIn p (Bytes s)
IsLocationOf p location.Input = Unit {0}
IsLocationOf p location.Output = Unit {0}
IsLocationOf p location.Result = Unit {0}
