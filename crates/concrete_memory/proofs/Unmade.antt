-- An object that an orderly history doesn't allocate isn't freed or written in it.
use Rattle.flat_ir.specs.Orderly.{is_made, IsOrderly}
use Rattle.std.specs.Prelude.{◌==◌, if◌then◌else◌}
use Rattle.std.proofs.Common.{◌≡◌, ℕ, Bool, false, ◌&&◌, List, [], ◌∷◌, refl, ◌∙◌, ap}
use Rattle.flat_ir.specs.declared.names.CallStep.{CallStep}
use Rattle.flat_ir.specs.declared.names.ObjectName.TheVariants.{Made}
use Rattle.flat_ir.specs.declared.program.ProgramData.{ProgramData}
use Rattle.flat_ir.specs.declared.values.ConcreteByte.TheVariants as byte
use Rattle.flat_ir.specs.History.{History, Write, Alloc, Free, Get, Put, same_object, byte_at}
use Rattle.flat_ir.proofs.MadeBasics.{neither, known_apart}

pub unmade_byte : (p : ProgramData) (frame : List CallStep) (made : CallStep) (h : History) (k : ℕ) → IsOrderly h → is_made (Made frame made) h ≡ false → byte_at p h (Made frame made) k ≡ byte.Int 0
unmade_byte p frame made [] k o none = refl
unmade_byte p frame made (Write y j b ∷ h) k o none =
    let apart = known_apart frame made y h o.0 none in
    ap (λ (t : Bool). if t && (j == k) then b else byte_at p h (Made frame made) k) apart ∙ unmade_byte p frame made h k o.1 none
unmade_byte p frame made (Alloc y size ∷ h) k o none = unmade_byte p frame made h k o.1 (neither (same_object (Made frame made) y) (is_made (Made frame made) h) none).1
unmade_byte p frame made (Free y ∷ h) k o none = unmade_byte p frame made h k o.1 none
unmade_byte p frame made (Get ∷ h) k o none = unmade_byte p frame made h k o none
unmade_byte p frame made (Put b ∷ h) k o none = unmade_byte p frame made h k o none
