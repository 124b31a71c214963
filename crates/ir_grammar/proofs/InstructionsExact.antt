-- Instructions, terminators and blocks are exact.
use Rattle.std.proofs.Common.{◌≡◌, ℕ, ◌^◌, Bool, true, false, List, [], ◌∷◌, ◌++◌, Some, None, refl}
use Rattle.std.specs.Prelude.{codes}
use Rattle.std.proofs.lemmas.Bool.{lt-ltb}
use Rattle.std.proofs.lemmas.Nat.{pow_pos}
use Rattle.ir_lexer.specs.declared.token.TokenKind.TheVariants as kinds
use Rattle.bitnum.specs.declared.BinOp.TheVariants as ops
use Rattle.bitnum.specs.declared.Pred.TheVariants as preds
use Rattle.ir_tree.specs.declared.types.Name.{Name}
use Rattle.ir_tree.specs.declared.types.IrType.{IrType}
use Rattle.ir_tree.specs.declared.instructions.CastOp.TheVariants as casts
use Rattle.ir_tree.specs.declared.instructions.Operation.TheVariants as operations
use Rattle.ir_tree.specs.declared.instructions.TerminatorForm.TheVariants as terminators
use Rattle.phrases.specs.Piece.{Piece, Class, among, all_apart}
use Rattle.phrases.specs.Phrase.{Phrase, skip, either, but}
use Rattle.phrases.specs.Exact.{Exact}
use Rattle.phrases.proofs.Laws.{done_exact}
use Rattle.phrases.proofs.Combinators.{seq, alt, rep, rep_from, skip_rep, naming, wider, once, twice, goes_on_with, skip_exact, place_exact}
use Rattle.ir_grammar.specs.Tokens.{number_of, a_global, a_local, a_label, a_str, an_attr_group, a_meta, word, words, heads, comma, equals, round, square, brace, packed_brace, integer_type}
use Rattle.ir_grammar.specs.Numbers.{written, fits_width, fits_index}
use Rattle.ir_grammar.specs.Types.{nesting}
use Rattle.ir_grammar.specs.Instructions.{attached, after, after_alloca, string_attribute, tail_item, tail_starts, tail, item_or_attached, present, items_and_after, binary_rows, pred_rows, cast_rows, binary, compare, cast, typed, select, alloca, volatile, load, index, element_pointer, result_type, callee, argument, tail_mark, call_at, call, operation, store, call_alone, incoming, a_phi, an_instruction, phi, set, named_line, plain_line, line, line_starts, lines, phis_of, instructions_of, return_term, target, jump, branch, branch_term, case, switch_term, unreachable_term, terminator, label, block, block_starts}
use Rattle.ir_grammar.proofs.Single.{spelled, a_piece, word_exact, mark_exact, place_of_exact, global_name_exact, local_name_exact, label_name_exact, width_exact, meaning_exact, listed_exact}
use Rattle.ir_grammar.proofs.TypesExact.{flags_exact, alignment_exact, attribute_exact, attributes_exact, type_starts, value_type_exact, scalar_type_exact, mem_type_exact}
use Rattle.ir_grammar.proofs.ConstantsExact.{placed_exact, operand_where_exact, operand_exact, operand_in_exact, pointer_exact}

-- ---- what may stand after an instruction

meta_exact : Exact (skip (a_meta ∷ [])) (a_meta ∷ []) false [] []
meta_exact = skip_exact (a_meta ∷ []) (a_piece (number_of kinds.Meta) []) refl

abbrev pub attached_starts : List Class
attached_starts = word (codes "align") ∷ a_meta ∷ []

pub attached_exact : Exact attached attached_starts false [] []
attached_exact = alt alignment_exact (seq meta_exact (λ _. meta_exact) refl refl) refl refl

pub after_exact : Exact after (comma ∷ []) true (comma ∷ []) []
after_exact = skip_rep (seq (mark_exact (codes ",")) (λ _. attached_exact) refl refl) refl refl

pub attached_alloca_exact : Exact (but (integer_type ∷ []) attached) attached_starts false [] (integer_type ∷ [])
attached_alloca_exact = naming (integer_type ∷ []) attached_exact refl

pub after_alloca_exact : Exact after_alloca (comma ∷ []) true (comma ∷ []) []
after_alloca_exact = skip_rep (seq (mark_exact (codes ",")) (λ _. attached_alloca_exact) refl refl) refl refl

pub str_exact : Exact (skip (a_str ∷ [])) (a_str ∷ []) false [] []
str_exact = skip_exact (a_str ∷ []) (a_piece (number_of kinds.Str) []) refl

string_attribute_exact : Exact string_attribute (a_str ∷ []) false (equals ∷ []) []
string_attribute_exact = seq str_exact (λ _. alt (seq (mark_exact (codes "=")) (λ _. str_exact) refl refl) (done_exact tt) refl refl) refl refl

pub group_exact : Exact (skip (an_attr_group ∷ [])) (an_attr_group ∷ []) false [] []
group_exact = skip_exact (an_attr_group ∷ []) (a_piece (number_of kinds.AttrGroup) []) refl

pub tail_item_exact : Exact tail_item tail_starts false (equals ∷ []) []
tail_item_exact = alt string_attribute_exact (alt group_exact attribute_exact refl refl) refl refl

pub tail_exact : Exact tail tail_starts true (equals ∷ tail_starts) []
tail_exact = skip_rep tail_item_exact refl refl

-- ---- operations

-- an index, or an attachment
pub index_exact : Exact index (integer_type ∷ []) false [] []
index_exact = seq width_exact (λ w. seq (operand_where_exact (fits_index w)) (λ v. done_exact (record { width = w; value = v })) refl refl) refl refl

pub index_or_attached_exact : (begun : Bool) → Exact (item_or_attached (integer_type ∷ []) index begun) (comma ∷ []) false [] []
index_or_attached_exact true = seq (mark_exact (codes ",")) (λ _. seq attached_exact (λ _. done_exact None) refl refl) refl refl
index_or_attached_exact false = seq (mark_exact (codes ",")) (λ _. alt (seq index_exact (λ x. done_exact (Some x)) refl refl) (seq attached_exact (λ _. done_exact None) refl refl) refl refl) refl refl

pub indices_exact : Exact (items_and_after (integer_type ∷ []) index) (comma ∷ []) true (comma ∷ []) []
indices_exact = seq (rep_from index_or_attached_exact refl false) (λ found. done_exact (present found)) refl refl

pub incoming_exact : (t : IrType) → Exact (incoming t) (square ∷ []) false [] []
incoming_exact t =
    seq (mark_exact (codes "[")) (λ _.
    seq (operand_in_exact t) (λ v.
    seq (mark_exact (codes ",")) (λ _.
    seq local_name_exact (λ l.
    seq (mark_exact (codes "]")) (λ _. done_exact (record { value = v; label = l })) refl refl) refl refl) refl refl) refl refl) refl refl

pub incoming_or_attached_exact : (t : IrType) (begun : Bool) → Exact (item_or_attached (square ∷ []) (incoming t) begun) (comma ∷ []) false [] []
incoming_or_attached_exact t true = seq (mark_exact (codes ",")) (λ _. seq attached_exact (λ _. done_exact None) refl refl) refl refl
incoming_or_attached_exact t false = seq (mark_exact (codes ",")) (λ _. alt (seq (incoming_exact t) (λ x. done_exact (Some x)) refl refl) (seq attached_exact (λ _. done_exact None) refl refl) refl refl) refl refl

pub incomings_exact : (t : IrType) → Exact (items_and_after (square ∷ []) (incoming t)) (comma ∷ []) true (comma ∷ []) []
incomings_exact t = seq (rep_from (incoming_or_attached_exact t) refl false) (λ found. done_exact (present found)) refl refl

binary_exact : Exact binary (heads binary_rows) false (comma ∷ []) []
binary_exact =
    seq (meaning_exact binary_rows (spelled (codes "add")) ops.Add refl) (λ op.
    seq flags_exact (λ _.
    seq width_exact (λ w.
    seq (operand_exact w) (λ a.
    seq (mark_exact (codes ",")) (λ _.
    seq (operand_exact w) (λ b.
    seq after_exact (λ _. done_exact (operations.Binary op w a b)) refl refl) refl refl) refl refl) refl refl) refl refl) refl refl) refl refl

compare_exact : Exact compare (word (codes "icmp") ∷ []) false (comma ∷ []) []
compare_exact =
    seq (word_exact (codes "icmp")) (λ _.
    seq flags_exact (λ _.
    seq (meaning_exact pred_rows (spelled (codes "eq")) preds.Eq refl) (λ p.
    seq value_type_exact (λ t.
    seq (operand_in_exact t) (λ a.
    seq (mark_exact (codes ",")) (λ _.
    seq (operand_in_exact t) (λ b.
    seq after_exact (λ _. done_exact (operations.Compare p t a b)) refl refl) refl refl) refl refl) refl refl) refl refl) refl refl) refl refl) refl refl

cast_exact : Exact cast (heads cast_rows) false (comma ∷ []) []
cast_exact =
    seq (meaning_exact cast_rows (spelled (codes "zext")) casts.Zext refl) (λ op.
    seq flags_exact (λ _.
    seq width_exact (λ from.
    seq (operand_exact from) (λ v.
    seq (word_exact (codes "to")) (λ _.
    seq width_exact (λ to.
    seq after_exact (λ _. done_exact (operations.Cast op from v to)) refl refl) refl refl) refl refl) refl refl) refl refl) refl refl) refl refl

pub typed_exact : Exact typed type_starts false [] (square ∷ brace ∷ packed_brace ∷ a_local ∷ [])
typed_exact = seq value_type_exact (λ t. seq (operand_in_exact t) (λ v. done_exact (record { kind = t; value = v })) refl refl) refl refl

select_exact : Exact select (word (codes "select") ∷ []) false (comma ∷ []) []
select_exact =
    seq (word_exact (codes "select")) (λ _.
    seq (word_exact (codes "i1")) (λ _.
    seq (operand_exact 1) (λ c.
    seq (mark_exact (codes ",")) (λ _.
    seq typed_exact (λ a.
    seq (mark_exact (codes ",")) (λ _.
    seq typed_exact (λ b.
    seq after_exact (λ _. done_exact (operations.Select c a b)) refl refl) refl refl) refl refl) refl refl) refl refl) refl refl) refl refl) refl refl

alloca_exact : Exact alloca (word (codes "alloca") ∷ []) false (comma ∷ []) []
alloca_exact =
    seq (word_exact (codes "alloca")) (λ _.
    seq (mem_type_exact nesting) (λ t.
    seq after_alloca_exact (λ _. done_exact (operations.Alloca t)) refl refl) refl refl) refl refl

pub volatile_exact : Exact volatile (word (codes "volatile") ∷ []) true (word (codes "volatile") ∷ []) []
volatile_exact = alt (word_exact (codes "volatile")) (done_exact tt) refl refl

load_exact : Exact load (word (codes "load") ∷ []) false (comma ∷ []) []
load_exact =
    seq (word_exact (codes "load")) (λ _.
    seq volatile_exact (λ _.
    seq scalar_type_exact (λ t.
    seq (mark_exact (codes ",")) (λ _.
    seq pointer_exact (λ p.
    seq after_exact (λ _. done_exact (operations.Load t p)) refl refl) refl refl) refl refl) refl refl) refl refl) refl refl

element_pointer_exact : Exact element_pointer (word (codes "getelementptr") ∷ []) false (comma ∷ []) []
element_pointer_exact =
    seq (word_exact (codes "getelementptr")) (λ _.
    seq flags_exact (λ _.
    seq (mem_type_exact nesting) (λ t.
    seq (mark_exact (codes ",")) (λ _.
    seq pointer_exact (λ p.
    seq indices_exact (λ is. done_exact (operations.GetElementPtr t p is)) refl refl) refl refl) refl refl) refl refl) refl refl) refl refl

-- ---- calls

pub result_exact : Exact result_type (word (codes "void") ∷ type_starts) false [] (square ∷ brace ∷ packed_brace ∷ a_local ∷ [])
result_exact = alt (seq (word_exact (codes "void")) (λ _. done_exact None) refl refl) (seq value_type_exact (λ t. done_exact (Some t)) refl refl) refl refl

callee_exact : Exact callee (a_global ∷ []) false [] (round ∷ a_local ∷ [])
callee_exact = naming (round ∷ a_local ∷ []) global_name_exact refl

pub argument_exact : Exact argument type_starts false [] (square ∷ brace ∷ packed_brace ∷ a_local ∷ [])
argument_exact =
    seq value_type_exact (λ t.
    seq attributes_exact (λ _.
    seq (operand_in_exact t) (λ v. done_exact (record { kind = t; value = v })) refl refl) refl refl) refl refl

abbrev pub tail_words : List Class
tail_words = words (codes "tail" ∷ codes "notail" ∷ [])

tail_mark_exact : Exact tail_mark tail_words true tail_words []
tail_mark_exact = alt (skip_exact tail_words (spelled (codes "tail")) refl) (done_exact tt) refl refl

-- what goes on with a call
abbrev pub call_more : List Class
call_more = comma ∷ equals ∷ tail_starts

call_at_exact : Exact call_at (word (codes "call") ∷ []) false (comma ∷ equals ∷ tail_starts) []
call_at_exact =
    seq (place_of_exact (codes "call")) (λ at.
    seq attributes_exact (λ _.
    seq result_exact (λ r.
    seq callee_exact (λ f.
    seq (mark_exact (codes "(")) (λ _.
    seq (listed_exact (codes ")") argument_exact refl refl refl refl refl) (λ args.
    seq tail_exact (λ _.
    seq after_exact (λ _. done_exact (at, operations.Call r f args)) refl refl) refl refl) refl refl) refl refl) refl refl) refl refl) refl refl) refl refl

abbrev pub call_starts : List Class
call_starts = words (codes "tail" ∷ codes "notail" ∷ codes "call" ∷ [])

pub call_exact : Exact call call_starts false call_more []
unfolding call
call_exact = seq tail_mark_exact (λ _. seq call_at_exact (λ c. done_exact c.1) refl refl) refl refl

-- ---- lines

abbrev pub operation_starts : List Class
operation_starts = heads binary_rows ++ word (codes "icmp") ∷ heads cast_rows ++ words (codes "select" ∷ codes "alloca" ∷ codes "load" ∷ codes "getelementptr" ∷ []) ++ call_starts

-- a comma, as after any other instruction
comma_first : (t : Piece) → among (comma ∷ call_more) t ≡ true → among call_more t ≡ true
comma_first t h = once comma (equals ∷ tail_starts) t h

-- a choice whose first alternative may be followed by a comma
or_call : {A : Type 0} {first : List Class} {p q : Phrase A} {second : List Class} {worse : List Class} → Exact p first false (comma ∷ []) [] → Exact q second false call_more worse
    → all_apart first second ≡ true → all_apart first worse ≡ true → Exact (either first p q) (first ++ second) false call_more worse
or_call {A = A} {first = first} P Q parted named = goes_on_with call_more (λ t h. shorter t h) (alt P Q parted named)
  where
    shorter : (t : Piece) → among (comma ∷ (call_more ++ [])) t ≡ true → among call_more t ≡ true
    shorter t h = comma_first t h

pub operation_exact : Exact operation operation_starts false call_more []
unfolding operation
operation_exact = or_call binary_exact (or_call compare_exact (or_call cast_exact (or_call select_exact (or_call alloca_exact (or_call load_exact (or_call element_pointer_exact call_exact refl refl) refl refl) refl refl) refl refl) refl refl) refl refl) refl refl

pub store_exact : Exact store (word (codes "store") ∷ []) false (comma ∷ []) []
unfolding store
store_exact =
    seq (place_of_exact (codes "store")) (λ at.
    seq volatile_exact (λ _.
    seq scalar_type_exact (λ t.
    seq (operand_in_exact t) (λ v.
    seq (mark_exact (codes ",")) (λ _.
    seq pointer_exact (λ p.
    seq after_exact (λ _. done_exact (record { at = at; result = None; operation = operations.Store t v p })) refl refl) refl refl) refl refl) refl refl) refl refl) refl refl) refl refl

call_alone_exact : Exact call_alone call_starts false call_more []
unfolding call_alone
call_alone_exact = goes_on_with call_more (twice call_more)
    (alt (seq (place_exact tail_words (spelled (codes "tail")) refl) (λ at. seq call_at_exact (λ c. done_exact (record { at = at; result = None; operation = c.1 })) refl refl) refl refl)
    (seq call_at_exact (λ c. done_exact (record { at = c.0; result = None; operation = c.1 })) refl refl) refl refl)

pub phi_exact : (r : Name) → Exact (phi r) (word (codes "phi") ∷ []) false (comma ∷ []) []
unfolding phi
phi_exact r =
    seq (word_exact (codes "phi")) (λ _.
    seq value_type_exact (λ t.
    seq (incoming_exact t) (λ first.
    seq (incomings_exact t) (λ others. done_exact (a_phi (record { result = r; kind = t; incoming = first ∷ others }))) refl refl) refl refl) refl refl) refl refl

pub set_exact : (r : Name) → Exact (set r) operation_starts false call_more []
set_exact r = seq operation_exact (λ o. done_exact (an_instruction (record { at = r.at; result = Some r; operation = o }))) refl refl

pub named_line_exact : (phis : Bool) → Exact (named_line phis) (a_local ∷ []) false call_more []
named_line_exact true =
    seq local_name_exact (λ r.
    seq (mark_exact (codes "=")) (λ _. or_call (phi_exact r) (set_exact r) refl refl) refl refl) refl refl
named_line_exact false =
    seq local_name_exact (λ r.
    seq (mark_exact (codes "=")) (λ _. set_exact r) refl refl) refl refl

plain_line_exact : Exact plain_line (words (codes "store" ∷ codes "tail" ∷ codes "notail" ∷ codes "call" ∷ [])) false call_more []
plain_line_exact = seq (or_call store_exact call_alone_exact refl refl) (λ i. done_exact (an_instruction i)) refl refl

pub line_exact : (phis : Bool) → Exact (line phis) line_starts false call_more []
unfolding line
line_exact phis = goes_on_with call_more (twice call_more) (alt (named_line_exact phis) plain_line_exact refl refl)

pub lines_exact : Exact lines line_starts true (call_more ++ line_starts) []
lines_exact = rep_from line_exact refl true

-- ---- terminators

return_exact : Exact return_term (word (codes "ret") ∷ []) false (comma ∷ []) []
return_exact =
    seq (place_of_exact (codes "ret")) (λ at.
    seq (alt (seq (word_exact (codes "void")) (λ _. done_exact None) refl refl) (seq typed_exact (λ v. done_exact (Some v)) refl refl) refl refl) (λ v.
    seq after_exact (λ _. done_exact (record { at = at; form = terminators.Return v })) refl refl) refl refl) refl refl

pub target_exact : Exact target (word (codes "label") ∷ []) false [] []
target_exact = seq (word_exact (codes "label")) (λ _. local_name_exact) refl refl

jump_exact : (at : ℕ) → Exact (jump at) (word (codes "label") ∷ []) false (comma ∷ []) []
jump_exact at = seq target_exact (λ to. seq after_exact (λ _. done_exact (record { at = at; form = terminators.Jump to })) refl refl) refl refl

branch_exact : (at : ℕ) → Exact (branch at) (word (codes "i1") ∷ []) false (comma ∷ []) []
branch_exact at =
    seq (word_exact (codes "i1")) (λ _.
    seq (operand_exact 1) (λ c.
    seq (mark_exact (codes ",")) (λ _.
    seq target_exact (λ yes.
    seq (mark_exact (codes ",")) (λ _.
    seq target_exact (λ no.
    seq after_exact (λ _. done_exact (record { at = at; form = terminators.Branch c yes no })) refl refl) refl refl) refl refl) refl refl) refl refl) refl refl) refl refl

branch_term_exact : Exact branch_term (word (codes "br") ∷ []) false (comma ∷ comma ∷ []) []
branch_term_exact = seq (place_of_exact (codes "br")) (λ at. alt (jump_exact at) (branch_exact at) refl refl) refl refl

zero_fits : (w : ℕ) → fits_width w (written (codes "0")) ≡ true
zero_fits w = lt-ltb 0 (2 ^ w) (pow_pos w)

pub case_exact : Exact case (integer_type ∷ []) false [] []
case_exact =
    seq width_exact (λ w.
    seq (placed_exact (fits_width w) (λ n at. (n, at)) (zero_fits w)) (λ n.
    seq (mark_exact (codes ",")) (λ _.
    seq target_exact (λ l. done_exact (record { width = w; value = n.0; at = n.1; label = l })) refl refl) refl refl) refl refl) refl refl

switch_exact : Exact switch_term (word (codes "switch") ∷ []) false (comma ∷ []) []
switch_exact =
    seq (place_of_exact (codes "switch")) (λ at.
    seq width_exact (λ w.
    seq (operand_exact w) (λ v.
    seq (mark_exact (codes ",")) (λ _.
    seq target_exact (λ d.
    seq (mark_exact (codes "[")) (λ _.
    seq (rep case_exact refl) (λ cs.
    seq (mark_exact (codes "]")) (λ _.
    seq after_exact (λ _. done_exact (record { at = at; form = terminators.Switch w v d cs })) refl refl) refl refl) refl refl) refl refl) refl refl) refl refl) refl refl) refl refl) refl refl

unreachable_exact : Exact unreachable_term (word (codes "unreachable") ∷ []) false (comma ∷ []) []
unreachable_exact = seq (place_of_exact (codes "unreachable")) (λ at. seq after_exact (λ _. done_exact (record { at = at; form = terminators.Unreachable })) refl refl) refl refl

abbrev pub term_starts : List Class
term_starts = words (codes "ret" ∷ codes "br" ∷ codes "switch" ∷ codes "unreachable" ∷ [])

pub terminator_exact : Exact terminator term_starts false (comma ∷ comma ∷ comma ∷ comma ∷ comma ∷ []) []
unfolding terminator
terminator_exact = alt return_exact (alt branch_term_exact (alt switch_exact unreachable_exact refl refl) refl refl) refl refl

-- ---- blocks

pub label_exact : Exact label (a_label ∷ []) true (a_label ∷ []) []
label_exact = alt (seq label_name_exact (λ n. done_exact (Some n)) refl refl) (done_exact None) refl refl

pub block_exact : Exact block block_starts false (comma ∷ []) []
unfolding block
block_exact =
    wider block_starts (comma ∷ []) [] (0 ∷ 1 ∷ 2 ∷ 3 ∷ 4 ∷ 5 ∷ 6 ∷ 7 ∷ 8 ∷ 9 ∷ []) (0 ∷ 0 ∷ 0 ∷ 0 ∷ 0 ∷ []) []
    (seq label_exact (λ l.
    seq lines_exact (λ ls.
    seq terminator_exact (λ t. done_exact (record { label = l; phis = phis_of ls; instructions = instructions_of ls; terminator = t })) refl refl) refl refl) refl refl)
