-- A function of a tree's program is whole.
use Rattle.std.proofs.Common.{◌≡◌, ℕ, ◌+◌, ◌<◌, Bool, true, false, List, [], ◌∷◌, ◌++◌, length, refl, ◌∙◌, arith, length-append}
use Rattle.std.specs.Prelude.{map}
use Rattle.std.specs.List.{AllByRecursion, flat_map, list_all}
use Rattle.std.proofs.lemmas.List.{length-map}
use Rattle.std.proofs.lemmas.List.Elements.{All-from_recursion}
use Rattle.flat_ir.specs.declared.names.NodeId.{NodeId}
use Rattle.flat_ir.specs.Whole.{IsWidth, IsNodeOf, IsFuncOf}
use Rattle.ir_tree.specs.declared.instructions.Block.{Block}
use Rattle.ir_tree.specs.declared.instructions.Instruction.{Instruction}
use Rattle.ir_tree.specs.declared.module.FunctionDefinition.{FunctionDefinition}
use Rattle.ir_tree.specs.declared.module.IrTree.{IrTree}
use Rattle.ir_programs.specs.Parts.{terminator_values}
use Rattle.ir_programs.specs.Locals.{locals_of, register_types}
use Rattle.ir_programs.specs.Uses.{is_global}
use Rattle.ir_programs.specs.Registers.{global_of}
use Rattle.ir_programs.specs.Flow.{size_of_block, node_count, start_of, edges_of}
use Rattle.ir_programs.specs.Nodes.{nodes_of}
use Rattle.ir_programs.specs.Fits.{value_fits, instruction_fits, block_fits, edge_fits, fits_of, where_false}
use Rattle.ir_programs.specs.Edges.{are_phis_right, leads_right, with_first, block_edges_right, bad_edges_of}
use Rattle.ir_programs.specs.Programs.{func_of}
use Rattle.ir_programs.specs.Readable.{is_readable_header, is_readable_block, has_block}
use Rattle.whole_programs.specs.Few.{HasFew}
use Rattle.whole_programs.proofs.Lists.{left_true, right_true, weaker}
use Rattle.whole_programs.proofs.Names.{as_many}
use Rattle.whole_programs.proofs.Instructions.{node_of}
use Rattle.whole_programs.proofs.Blocks.{count_is, start_is_below, nodes_in}
use Rattle.whole_programs.proofs.Registers.{number_in, parameters_in, registers_wide}
use Rattle.whole_programs.proofs.Facts.{IsFine, blocks_are}

-- ---- tests node by node

where_below : (n : ℕ) (bs : List Bool) → AllByRecursion (λ (x : NodeId). x.0 < n + length bs) (where_false n bs)
where_below n [] = tt
where_below n (true ∷ bs) = weaker (λ (x : NodeId) k. omega (arith, k)) (where_false (n + 1) bs) (where_below (n + 1) bs)
where_below n (false ∷ bs) = (omega arith, weaker (λ (x : NodeId) k. omega (arith, k)) (where_false (n + 1) bs) (where_below (n + 1) bs))

flat_count : (g : Block → List Bool) → ((b : Block) → length (g b) ≡ size_of_block b) → (bs : List Block) → length (flat_map g bs) ≡ node_count bs
flat_count g each [] = refl
flat_count g each (b ∷ bs) =
    let whole = length-append (g b) (flat_map g bs) in
    let first = each b in
    let more = flat_count g each bs in
    omega (arith, whole, first, more)

-- one test for each instruction, and one for the terminator
one_each : (test : Instruction → Bool) (last : Bool) (b : Block) → length (map test b.instructions ++ last ∷ []) ≡ size_of_block b
one_each test last b =
    let whole = length-append (map test b.instructions) (last ∷ []) in
    let first = length-map b.instructions test in
    omega (arith, whole, first)

fits_count : (t : IrTree) (f : FunctionDefinition) → length (fits_of t f) ≡ node_count f.blocks + length (edges_of f)
fits_count t f =
    let whole = length-append (flat_map (block_fits t f) f.blocks) (map (edge_fits t f) (edges_of f)) in
    let blocks = flat_count (block_fits t f) (λ b. one_each (instruction_fits t f) (list_all (value_fits t f) (terminator_values b.terminator.form)) b) f.blocks in
    let edges = length-map (edges_of f) (edge_fits t f) in
    omega (arith, whole, blocks, edges)

first_kept : (right : Bool) (xs : List Bool) → length (with_first right xs) ≡ length xs
first_kept right [] = refl
first_kept right (x ∷ xs) = refl

edges_count : (f : FunctionDefinition) → length (flat_map (block_edges_right f) f.blocks) ≡ node_count f.blocks
edges_count f =
    flat_count (block_edges_right f) (λ b. first_kept (are_phis_right f b) (map (λ (i : Instruction). true) b.instructions ++ leads_right f b ∷ []) ∙ one_each (λ (i : Instruction). true) (leads_right f b) b) f.blocks

-- ---- functions

some_nodes : (bs : List Block) → has_block bs ≡ true → 0 < node_count bs
some_nodes [] h = absurd cc
some_nodes (b ∷ bs) h = omega arith

pub func_whole : (t : IrTree) (f : FunctionDefinition) (globals funcs : ℕ) → ((name : List ℕ) → is_global t name ≡ true → global_of t name < globals) → IsFine t funcs f → HasFew (func_of t f) → IsFuncOf globals funcs (func_of t f)
func_whole t f globals funcs global_in h few =
    let count = count_is t f in
    let fits = fits_count t f in
    let edges = edges_count f in
    let blocks = left_true (has_block f.blocks) (list_all is_readable_block f.blocks) (right_true (is_readable_header f.header) _ h.readable) in
    let some = some_nodes f.blocks blocks in
    let start : (name : List ℕ) → start_of f name < length (nodes_of t f) = λ name. omega (arith, start_is_below f some name, count) in
    let nodes = nodes_in t f globals funcs (length (register_types f)) (length (nodes_of t f)) global_in (number_in f) start refl (blocks_are t f funcs h) in
    record {
      few_nodes = few.0;
      few_regs = few.1;
      nonempty = omega (arith, some, count);
      named = as_many (locals_of f);
      params = parameters_in f;
      widths = All-from_recursion IsWidth (register_types f) (registers_wide f h.readable);
      nodes =
          All-from_recursion (IsNodeOf globals funcs (length (register_types f)) (length (nodes_of t f))) (nodes_of t f)
          (weaker (node_of globals funcs (length (register_types f)) (length (nodes_of t f))) (nodes_of t f) nodes);
      clashes = All-from_recursion (λ (n : NodeId). n.0 < length (nodes_of t f)) (where_false 0 (fits_of t f)) (weaker (λ (x : NodeId) k. omega (arith, k, fits, count)) (where_false 0 (fits_of t f)) (where_below 0 (fits_of t f)));
      bad_edges = All-from_recursion (λ (n : NodeId). n.0 < length (nodes_of t f)) (bad_edges_of f) (weaker (λ (x : NodeId) k. omega (arith, k, edges, count)) (bad_edges_of f) (where_below 0 (flat_map (block_edges_right f) f.blocks)));
    }
