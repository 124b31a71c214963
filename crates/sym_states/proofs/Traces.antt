-- Small programs whose explorations show their branches and loads, and read memory at an offset that the input decides.
use Rattle.std.proofs.Common.{◌≡◌, List, [], ◌∷◌, map, Some, refl}
use Rattle.terms.specs.declared.term.Unary.TheVariants.{Not, Zext}
use Rattle.terms.specs.declared.term.Binary.TheVariants.{Eq}
use Rattle.terms.specs.Folding.{folded_one, folded_two, folded_choice}
use Rattle.terms.specs.Joining.{folded_join}
use Rattle.terms.specs.Same.{same}
use Rattle.terms.specs.Tree.{Tree, input, one, two}
use Rattle.bitnum.specs.declared.Pred.TheVariants as pred
use Rattle.flat_ir.specs.declared.nodes.CastOp.TheVariants as to
use Rattle.flat_ir.specs.declared.nodes.GepPart.TheVariants.{Index}
use Rattle.flat_ir.specs.declared.nodes.Node.TheVariants as node
use Rattle.flat_ir.specs.declared.nodes.Operand.TheVariants as operand
use Rattle.flat_ir.specs.declared.nodes.RegType.TheVariants as type
use Rattle.flat_ir.specs.declared.program.Func.{Func}
use Rattle.flat_ir.specs.declared.program.InitByte.TheVariants as init
use Rattle.flat_ir.specs.declared.values.FaultKind.TheVariants as fault
use Rattle.sym_bytes.specs.Building.{number}
use Rattle.leaves.specs.Events as events
use Rattle.leaves.specs.Events.{Branch, Leaf, Told, told_of}
use Rattle.sym_states.specs.Exploring.{Setting}
use Rattle.sym_states.specs.Running.{explored}
use Rattle.sym_states.proofs.Rows.{r, at, func, int, reg, main_of}
use Rattle.sym_states.proofs.Forks.{Complete, Fault, lines, first_of, getchar, compares_setting}

-- the byte that was read, in 32 bits, is 65
abbrev is_65 : Tree
is_65 = two Eq (one (Zext 32) (input 0)) (number 32 65)

abbrev told : List Told
told = map told_of (explored 40 (compares_setting 8))

shows_its_branch : map (λ t. t.path) told ≡ (Branch (func 1) (at 2) 0 ∷ []) ∷ (Branch (func 1) (at 2) 1 ∷ []) ∷ []
unfolding folded_one folded_two folded_choice folded_join same
shows_its_branch = refl

has_its_condition : map (λ t. t.condition) told ≡ (one Not is_65 ∷ []) ∷ (is_65 ∷ []) ∷ []
unfolding folded_one folded_two folded_choice folded_join same
has_its_condition = refl

-- a byte of "wxyz" at the place that the input names
abbrev picks : Func
picks = main_of (type.Int 32 ∷ type.Ptr ∷ type.Int 8 ∷ type.Int 32 ∷ [])
    (node.Call (func 0) [] (Some (r 0)) (at 1)
    ∷ node.Gep (operand.Global 0 0) (Index 4 (operand.Int (record { width = 64; bits = 0 })) ∷ Index 1 (reg 0) ∷ []) (r 1) (at 2)
    ∷ node.Load (reg 1) (r 2) (at 3)
    ∷ node.Cast to.Zext (reg 2) (r 3) (at 4)
    ∷ node.Ret (Some (reg 3))
    ∷ [])

abbrev picks_setting : Setting
picks_setting = record {
  program = record {
    globals = record { name = []; size = 4; init = init.Int 119 ∷ init.Int 120 ∷ init.Int 121 ∷ init.Int 122 ∷ [] } ∷ [];
    funcs = getchar ∷ picks ∷ [];
    main = func 1;
    defined = 2;
  };
  skips = [];
  mods = [];
  slice = λ g place. record { funcs = [] };
  inputs = 1;
  steps = 100;
  shares = 8;
  verdict = λ condition inputs. first_of ((0 ∷ []) ∷ (4 ∷ []) ∷ []) condition;
}

reads_at_a_chosen_offset : lines picks_setting ≡ Complete (0 ∷ []) 119 8 ∷ Fault (4 ∷ []) fault.OutOfBounds 2 6 ∷ []
unfolding folded_one folded_two folded_choice folded_join same
reads_at_a_chosen_offset = refl

-- puts of the C library: the bytes up to the first 0, and a line end
abbrev puts : Func
puts = record {
  name = [];
  params = 1;
  regs = type.Ptr ∷ type.Ptr ∷ type.Int 8 ∷ type.Int 1 ∷ type.Int 32 ∷ type.Ptr ∷ [];
  reg_names = [];
  result = Some (type.Int 32);
  nodes = node.Jump (at 10)
      ∷ node.Load (reg 1) (r 2) (at 2)
      ∷ node.Cmp pred.Eq (reg 2) (operand.Int (record { width = 8; bits = 0 })) (r 3) (at 3)
      ∷ node.Branch (reg 3) (at 8) (at 4)
      ∷ node.Cast to.Zext (reg 2) (r 4) (at 5)
      ∷ node.Put (reg 4) (at 6)
      ∷ node.Gep (reg 1) (Index 1 (operand.Int (record { width = 64; bits = 1 })) ∷ []) (r 5) (at 7)
      ∷ node.Jump (at 11)
      ∷ node.Put (int 10) (at 9)
      ∷ node.Ret (Some (int 0))
      ∷ node.Moves (record { register = r 1; value = reg 0 } ∷ []) (at 1)
      ∷ node.Moves (record { register = r 1; value = reg 5 } ∷ []) (at 1)
      ∷ [];
  clashes = [];
  bad_edges = [];
}

abbrev puts_setting : Setting
puts_setting = record {
  program = record {
    globals = record { name = []; size = 3; init = init.Int 97 ∷ init.Int 98 ∷ init.Int 0 ∷ [] } ∷ [];
    funcs = puts ∷ main_of (type.Int 32 ∷ []) (node.Call (func 0) (operand.Global 0 0 ∷ []) (Some (r 0)) (at 1) ∷ node.Ret (Some (reg 0)) ∷ []) ∷ [];
    main = func 1;
    defined = 1;
  };
  skips = [];
  mods = [];
  slice = λ g place. record { funcs = [] };
  inputs = 0;
  steps = 100;
  shares = 8;
  verdict = λ condition inputs. first_of ([] ∷ []) condition;
}

abbrev written : Leaf → List Tree
written (events.Complete t status output) = output
written leaf = []

writes_a_line : lines puts_setting ≡ Complete [] 0 25 ∷ []
unfolding folded_one folded_two folded_choice folded_join same
writes_a_line = refl

writes_its_bytes : map written (explored 40 puts_setting) ≡ (number 8 97 ∷ number 8 98 ∷ number 8 10 ∷ []) ∷ []
unfolding folded_one folded_two folded_choice folded_join same
writes_its_bytes = refl
