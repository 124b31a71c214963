-- What is answered of a tree: its program, or the first refusal, or that it has no main.
use Rattle.std.specs.Prelude.{◌≡◌, IsTrue, List, ◌++◌, Option, Some, None, Bool, if◌then◌else◌, codes}
use Rattle.std.specs.List.{Contains}
use Rattle.flat_ir.specs.declared.program.ProgramData.{ProgramData}
use Rattle.ir_tree.specs.declared.module.IrTree.{IrTree}
use Rattle.ir_programs.specs.declared.refusals.Cause.TheVariants.{UnknownName, UnknownFunction, DuplicateName, ReservedName, ObjectTooLarge, RecursiveType, WrongNumber, BadInitialiser, FunctionValue, MainParameters}
use Rattle.ir_programs.specs.declared.refusals.Refusal.{Refusal}
use Rattle.ir_programs.specs.Texts.{among, texts}
use Rattle.ir_programs.specs.Causes as causes
use Rattle.ir_programs.specs.Refusals.{refused, first, is_earlier}
use Rattle.ir_programs.specs.Programs.{program_of}
use Rattle.ir_programs.specs.Uses.{function_names}

-- each condition that fails, with its place
abbrev pub refusals : IrTree → List Refusal
refusals t =
    refused UnknownName (causes.unknown_names t)
    ++ (refused UnknownFunction (causes.unknown_functions t)
    ++ (refused DuplicateName (causes.duplicate_names t)
    ++ (refused ReservedName (causes.reserved_names t)
    ++ (refused ObjectTooLarge (causes.large_types t)
    ++ (refused RecursiveType (causes.recursive_types t)
    ++ (refused WrongNumber (causes.numbers_out_of_turn t)
    ++ (refused BadInitialiser (causes.bad_initialisers t)
    ++ (refused FunctionValue (causes.function_values_of t)
    ++ refused MainParameters (causes.main_parameters t)))))))))

pub data Answer : Type 0 where
  Resolved : ProgramData → Answer
  Refused : Refusal → Answer
  NoMain : Answer

abbrev pub has_main : IrTree → Bool
has_main t = among (codes "main") (texts (function_names t))

abbrev pub answered : IrTree → Option Refusal → Answer
answered t (Some r) = Refused r
answered t None = if has_main t then Resolved (program_of t) else NoMain

-- the answer: that main isn't there is told after all others
abbrev pub answer : IrTree → Answer
answer t = answered t (first (refusals t))

-- ---- laws

-- what is told of some refusals is one of them, and none of them is earlier; nothing is told where there are none
pub record Tells (rs : List Refusal) (told : Option Refusal) : Type 0 where
  pub among' : (r : Refusal) → told ≡ Some r → Contains rs r
  pub first' : (r q : Refusal) → told ≡ Some r → Contains rs q → IsTrue (is_earlier r q)
  pub none' : told ≡ None → (q : Refusal) → Contains rs q → ⊥

abbrev pub FirstIsTold : Type 0
FirstIsTold = (rs : List Refusal) → Tells rs (first rs)

-- at most one program is a tree's
abbrev pub ProgramIsOne : Type 0
ProgramIsOne = (t : IrTree) (p q : ProgramData) → answer t ≡ Resolved p → answer t ≡ Resolved q → p ≡ q

-- a tree with a refusal has no program
abbrev pub NotBoth : Type 0
NotBoth = (t : IrTree) (p : ProgramData) (r : Refusal) → answer t ≡ Resolved p → Contains (refusals t) r → ⊥
