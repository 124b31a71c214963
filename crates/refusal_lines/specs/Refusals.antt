-- The line that is written in place of a report where a file is refused.
use Rattle.std.specs.Prelude.{ℕ, List, [], ◌∷◌, ◌++◌, Option, Some, None, codes}
use Rattle.std.specs.Fmt.{decimal}
use Rattle.flat_ir.specs.declared.check.CheckError.{CheckError}
use Rattle.flat_ir.specs.declared.check.CheckError.TheVariants.{Undefined, TypeClash, BadEdge}
use Rattle.flat_ir.specs.declared.program.ProgramData.{ProgramData}
use Rattle.ir_tree.specs.Texts.{global_text}
use Rattle.ir_reader.specs.declared.text.SyntaxError.{SyntaxError}
use Rattle.ir_reader.specs.declared.text.SyntaxError.TheVariants as syntax
use Rattle.ir_resolve.specs.declared.error.ResolveError.{ResolveError}
use Rattle.ir_resolve.specs.declared.error.ResolveError.TheVariants as resolve
use Rattle.name_texts.specs.Lines.{line, place_text, register_text}

-- a refusal that has no place
abbrev pub refused : List ℕ → List ℕ
refused name = line (codes "refused " ∷ name ∷ [])

-- one at a byte of the file
abbrev pub refused_at : List ℕ → ℕ → List ℕ
refused_at name at = line (codes "refused " ∷ name ∷ codes " at=" ∷ decimal at ∷ [])

-- one at a byte, with the text that stands there
abbrev pub refused_with : List ℕ → ℕ → List ℕ → List ℕ
refused_with name at text = line (codes "refused " ∷ name ∷ codes " at=" ∷ decimal at ∷ codes " " ∷ text ∷ [])

-- ---- what isn't a module; that memory ran out is no refusal

abbrev pub misread_line : SyntaxError → Option (List ℕ)
misread_line (syntax.Syntax at) = Some (refused_at (codes "Syntax") at)
misread_line (syntax.Unsupported at what) = Some (refused_with (codes "Unsupported") at what)
misread_line syntax.Memory = None

-- ---- a module that has no program

abbrev pub unresolved_line : ResolveError → Option (List ℕ)
unresolved_line (resolve.UnknownName at) = Some (refused_at (codes "UnknownName") at)
unresolved_line (resolve.UnknownFunction at name) = Some (refused_with (codes "UnknownFunction") at (global_text name))
unresolved_line (resolve.DuplicateName at) = Some (refused_at (codes "DuplicateName") at)
unresolved_line (resolve.ReservedName at) = Some (refused_at (codes "ReservedName") at)
unresolved_line (resolve.ObjectTooLarge at) = Some (refused_at (codes "ObjectTooLarge") at)
unresolved_line (resolve.RecursiveType at) = Some (refused_at (codes "RecursiveType") at)
unresolved_line (resolve.WrongNumber at) = Some (refused_at (codes "WrongNumber") at)
unresolved_line (resolve.BadInitialiser at) = Some (refused_at (codes "BadInitialiser") at)
unresolved_line (resolve.FunctionValue at) = Some (refused_at (codes "FunctionValue") at)
unresolved_line (resolve.MainParameters at) = Some (refused_at (codes "MainParameters") at)
unresolved_line resolve.NoMain = Some (refused (codes "NoMain"))
unresolved_line resolve.Memory = None

-- ---- a program that doesn't meet its conditions

abbrev pub unchecked_line : ProgramData → CheckError → List ℕ
unchecked_line p (Undefined f n r) = line (codes "refused Undefined " ∷ place_text p f n ∷ codes " " ∷ register_text p f r ∷ [])
unchecked_line p (TypeClash f n) = line (codes "refused TypeClash " ∷ place_text p f n ∷ [])
unchecked_line p (BadEdge f n) = line (codes "refused BadEdge " ∷ place_text p f n ∷ [])
