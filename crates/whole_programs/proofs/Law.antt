-- The program of a tree without refusals is whole.
use Rattle.std.proofs.Common.{◌≡◌, ℕ, ◌<◌, ◌≤◌, true, List, ◌++◌, length, arith, length-append}
use Rattle.std.specs.Prelude.{map}
use Rattle.std.specs.List.{AllByRecursion}
use Rattle.std.proofs.lemmas.List.{length-map}
use Rattle.std.proofs.lemmas.List.Elements.{All-from_recursion, recursion_from_All}
use Rattle.flat_ir.specs.declared.program.Func.{Func}
use Rattle.flat_ir.specs.Whole.{IsFuncOf, IsGlobalOf}
use Rattle.ir_tree.specs.declared.module.FunctionDefinition.{FunctionDefinition}
use Rattle.ir_tree.specs.declared.module.GlobalDefinition.{GlobalDefinition}
use Rattle.ir_tree.specs.declared.module.IrTree.{IrTree}
use Rattle.prelude.specs.Prelude.{functions}
use Rattle.ir_programs.specs.Texts.{text_of, texts}
use Rattle.ir_programs.specs.Parts.{constant_values, constant_types}
use Rattle.ir_programs.specs.Uses.{global_names, is_global}
use Rattle.ir_programs.specs.Registers.{global_of, is_called, called}
use Rattle.ir_programs.specs.Programs.{global_var, func_of}
use Rattle.whole_programs.specs.Few.{HasFew}
use Rattle.whole_programs.specs.Programs.{ProgramIsWhole}
use Rattle.whole_programs.proofs.Lists.{with_both, together, each_front, of_mapped, to_mapped, filtered}
use Rattle.whole_programs.proofs.Types.{IsSmall}
use Rattle.whole_programs.proofs.Names.{number_is_below}
use Rattle.whole_programs.proofs.Refused.{HoldsAll, holds_all}
use Rattle.whole_programs.proofs.Known.{known_whole}
use Rattle.whole_programs.proofs.Operands.{KnowsGlobals}
use Rattle.whole_programs.proofs.Callees.{callee_in}
use Rattle.whole_programs.proofs.Globals.{global_whole}
use Rattle.whole_programs.proofs.Facts.{IsFine, globals_know, globals_small, functions_fine}
use Rattle.whole_programs.proofs.Functions.{func_whole}
use Rattle.whole_programs.proofs.Main.{main_is}

global_in : (t : IrTree) (name : List ℕ) → is_global t name ≡ true → global_of t name < length (map (global_var t) t.globals)
global_in t name h =
    let below = number_is_below name (texts (global_names t)) h in
    let a = length-map (global_names t) text_of in
    let b = length-map t.globals (λ (g : GlobalDefinition). g.name) in
    let c = length-map t.globals (global_var t) in
    omega (arith, below, a, b, c)

globals_whole : (t : IrTree) → HoldsAll t → AllByRecursion (IsGlobalOf (length (map (global_var t) t.globals))) (map (global_var t) t.globals)
globals_whole t h =
    to_mapped (IsGlobalOf (length (map (global_var t) t.globals))) (global_var t) t.globals
    (with_both (λ (g : GlobalDefinition). AllByRecursion (IsSmall t.types) (constant_types g.value)) (λ (g : GlobalDefinition). AllByRecursion (KnowsGlobals t) (constant_values g.value)) (λ (g : GlobalDefinition). IsGlobalOf (length (map (global_var t) t.globals)) (global_var t g))
    (λ g a b. global_whole t (length (map (global_var t) t.globals)) (global_in t) g a b) t.globals (globals_small t h) (globals_know t h))

funcs_whole : (t : IrTree) (globals funcs : ℕ) → ((name : List ℕ) → is_global t name ≡ true → global_of t name < globals) → AllByRecursion (IsFine t funcs) t.functions → AllByRecursion HasFew (map (func_of t) t.functions ++ called t)
    → AllByRecursion (IsFuncOf globals funcs) (map (func_of t) t.functions ++ called t)
funcs_whole t globals funcs inside fine few =
    together (IsFuncOf globals funcs) (map (func_of t) t.functions) (called t)
    (to_mapped (IsFuncOf globals funcs) (func_of t) t.functions
    (with_both (IsFine t funcs) (λ (f : FunctionDefinition). HasFew (func_of t f)) (λ (f : FunctionDefinition). IsFuncOf globals funcs (func_of t f)) (λ f a b. func_whole t f globals funcs inside a b) t.functions fine
    (of_mapped HasFew (func_of t) t.functions (each_front HasFew (map (func_of t) t.functions) (called t) few))))
    (filtered (IsFuncOf globals funcs) (is_called t) functions (known_whole globals funcs))

defined_are : (t : IrTree) (gs : List Func) → length t.functions ≤ length (map (func_of t) t.functions ++ gs)
defined_are t gs =
    let whole = length-append (map (func_of t) t.functions) gs in
    let first = length-map t.functions (func_of t) in
    omega (arith, whole, first)

pub whole : ProgramIsWhole
whole t readable none main few =
    let h = holds_all t none in
    let funcs = map (func_of t) t.functions ++ called t in
    let globals = map (global_var t) t.globals in
    record {
      few_globals = few.globals;
      few_funcs = few.funcs;
      globals = All-from_recursion (IsGlobalOf (length globals)) globals (globals_whole t h);
      funcs =
          All-from_recursion (IsFuncOf (length globals) (length funcs)) funcs
          (funcs_whole t (length globals) (length funcs) (global_in t) (functions_fine t h (length funcs) (callee_in t) readable) (recursion_from_All HasFew funcs few.each));
      main = main_is t h main;
      defined = defined_are t (called t);
    }
