-- Each token that a tree is printed with stays, and no line is without one.
use Rattle.std.proofs.Common.{◌≡◌, ℕ, Bool, true, false, Option, Some, None, List, [], ◌∷◌, ◌++◌, map, refl, sym, subst}
use Rattle.std.specs.Prelude.{codes}
use Rattle.bitnum.specs.declared.BinOp.{BinOp}
use Rattle.bitnum.specs.declared.BinOp.TheVariants as ops
use Rattle.bitnum.specs.declared.Pred.{Pred}
use Rattle.bitnum.specs.declared.Pred.TheVariants as preds
use Rattle.ir_tree.specs.declared.types.Name.{Name}
use Rattle.ir_tree.specs.declared.types.IrType.{IrType, fold-roll-IrType, ind-IrType, roll-IrType, map-IrType}
use Rattle.ir_tree.specs.declared.types.IrType.TheOpen.{IrType-F}
use Rattle.ir_tree.specs.declared.constants.Value.{Value}
use Rattle.ir_tree.specs.declared.constants.ValueForm.{ValueForm}
use Rattle.ir_tree.specs.declared.constants.ValueForm.TheVariants as forms
use Rattle.ir_tree.specs.declared.constants.GepLevel.{GepLevel}
use Rattle.ir_tree.specs.declared.constants.ConstIndex.{ConstIndex}
use Rattle.ir_tree.specs.declared.constants.Constant.{Constant, fold-roll-Constant, ind-Constant, roll-Constant, map-Constant}
use Rattle.ir_tree.specs.declared.constants.Constant.TheOpen.{Constant-F}
use Rattle.ir_tree.specs.declared.instructions.CastOp.{CastOp}
use Rattle.ir_tree.specs.declared.instructions.CastOp.TheVariants as casts
use Rattle.ir_tree.specs.declared.instructions.Typed.{Typed}
use Rattle.ir_tree.specs.declared.instructions.Index.{Index}
use Rattle.ir_tree.specs.declared.instructions.Operation.{Operation}
use Rattle.ir_tree.specs.declared.instructions.Operation.TheVariants as operations
use Rattle.ir_tree.specs.declared.instructions.Instruction.{Instruction}
use Rattle.ir_tree.specs.declared.instructions.Incoming.{Incoming}
use Rattle.ir_tree.specs.declared.instructions.Phi.{Phi}
use Rattle.ir_tree.specs.declared.instructions.Case.{Case}
use Rattle.ir_tree.specs.declared.instructions.TerminatorForm.{TerminatorForm}
use Rattle.ir_tree.specs.declared.instructions.TerminatorForm.TheVariants as terminators
use Rattle.ir_tree.specs.declared.instructions.Terminator.{Terminator}
use Rattle.ir_tree.specs.declared.instructions.Block.{Block}
use Rattle.ir_tree.specs.declared.module.TypeDefinition.{TypeDefinition}
use Rattle.ir_tree.specs.declared.module.GlobalDefinition.{GlobalDefinition}
use Rattle.ir_tree.specs.declared.module.Parameter.{Parameter}
use Rattle.ir_tree.specs.declared.module.Header.{Header}
use Rattle.ir_tree.specs.declared.module.FunctionDefinition.{FunctionDefinition}
use Rattle.ir_tree.specs.declared.module.IrTree.{IrTree}
use Rattle.ir_tree.specs.Texts.{label_text}
use Rattle.ir_tree.specs.Spelling.{others, separated, joined, opening, closing, type_level, type_tokens, result_tokens, const_index_tokens, gep_tokens, form_tokens, value_tokens, constant_level, constant_tokens, typed_tokens, binary_text, pred_text, cast_text, pointer_tokens, index_tokens, operation_tokens, set_tokens, instruction_tokens, incoming_tokens, phi_tokens, target_tokens, case_tokens, terminator_tokens}
use Rattle.ir_tree.specs.Printing.{Line, plain, type_line, global_line, name_tokens, parameter_tokens, header_tokens, declare_line, label_lines, phi_line, instruction_line, terminator_line, block_lines, blocks_lines, define_line, close_line, function_lines, functions_lines, lines}
use Rattle.printed_tokens.proofs.Fronts.{Stays, word_stays, integer_stays, width_stays, string_stays, global_stays, local_stays, label_stays, mark_stays, brace_end_stays, packed_stays, packed_end_stays}
use Rattle.printed_tokens.proofs.Streams.{Each, IsLine, AreLines}

-- each token stays
abbrev Stay : List (List ℕ) → Type 0
Stay ts = Each Stays ts

-- ---- marks and words

comma : Stays (codes ",")
comma = mark_stays (codes ",") (record { blank = refl; comment = refl; bang = refl }) (λ next. refl)

equals : Stays (codes "=")
equals = mark_stays (codes "=") (record { blank = refl; comment = refl; bang = refl }) (λ next. refl)

round : Stays (codes "(")
round = mark_stays (codes "(") (record { blank = refl; comment = refl; bang = refl }) (λ next. refl)

round_end : Stays (codes ")")
round_end = mark_stays (codes ")") (record { blank = refl; comment = refl; bang = refl }) (λ next. refl)

square : Stays (codes "[")
square = mark_stays (codes "[") (record { blank = refl; comment = refl; bang = refl }) (λ next. refl)

square_end : Stays (codes "]")
square_end = mark_stays (codes "]") (record { blank = refl; comment = refl; bang = refl }) (λ next. refl)

brace : Stays (codes "{")
brace = mark_stays (codes "{") (record { blank = refl; comment = refl; bang = refl }) (λ next. refl)

opening_stays : (packed : Bool) → Stays (opening packed)
opening_stays true = packed_stays
opening_stays false = brace

closing_stays : (packed : Bool) → Stays (closing packed)
closing_stays true = packed_end_stays
closing_stays false = brace_end_stays

-- ---- lists

both : (xs ys : List (List ℕ)) → Stay xs → Stay ys → Stay (xs ++ ys)
both [] ys all more = more
both (x ∷ xs) ys all more = (all.0, both xs ys all.1 more)

abbrev AllStay : List (List (List ℕ)) → Type 0
AllStay [] = Unit {0}
AllStay (x ∷ xs) = Stay x × AllStay xs

each_of : {A : Type 0} (f : A → List (List ℕ)) → ((a : A) → Stay (f a)) → (xs : List A) → AllStay (map f xs)
each_of f h [] = tt
each_of f h (x ∷ xs) = (h x, each_of f h xs)

others_stay : (xs : List (List (List ℕ))) → AllStay xs → Stay (others xs)
others_stay [] all = tt
others_stay (x ∷ xs) all = (comma, both x (others xs) all.0 (others_stay xs all.1))

separated_stay : (xs : List (List (List ℕ))) → AllStay xs → Stay (separated xs)
separated_stay [] all = tt
separated_stay (x ∷ xs) all = both x (others xs) all.0 (others_stay xs all.1)

joined_stay : (xs : List (List (List ℕ))) → AllStay xs → Stay (joined xs)
joined_stay [] all = tt
joined_stay (x ∷ xs) all = both x (joined xs) all.0 (joined_stay xs all.1)

-- ---- types

abbrev TypeStays : Type 0
TypeStays = (t : IrType) × Stay (type_tokens t)

types_within : (ts : List TypeStays) → AllStay (map type_tokens (map (λ e. e.0) ts))
types_within [] = tt
types_within (e ∷ es) = (e.1, types_within es)

type_level_stays : (y : IrType-F TypeStays) → Stay (type_level (map-IrType IrType (List (List ℕ)) type_tokens (map-IrType TypeStays IrType (λ e. e.0) y)))
type_level_stays (IrType-F.Int width) = (width_stays width, tt)
type_level_stays IrType-F.Ptr = (word_stays (codes "ptr") refl, tt)
type_level_stays (IrType-F.Array at len element) =
    (square, (integer_stays (record { negative = false; magnitude = len }), (word_stays (codes "x") refl, both (type_tokens element.0) (codes "]" ∷ []) element.1 (square_end, tt))))
type_level_stays (IrType-F.Struct at fields packed) =
    (opening_stays packed, both (separated (map type_tokens (map (λ e. e.0) fields))) (closing packed ∷ []) (separated_stay (map type_tokens (map (λ e. e.0) fields)) (types_within fields)) (closing_stays packed, tt))
type_level_stays (IrType-F.Named name at) = (local_stays name, tt)

rolled : (x : IrType-F IrType) → type_tokens (roll-IrType x) ≡ type_level (map-IrType IrType (List (List ℕ)) type_tokens x)
unfolding type_tokens
rolled x = fold-roll-IrType (List (List ℕ)) type_level x

type_stays : (t : IrType) → Stay (type_tokens t)
type_stays = ind-IrType (λ t. Stay (type_tokens t)) (λ x y is.
    subst Stay (sym (rolled x)) (subst (λ z. Stay (type_level (map-IrType IrType (List (List ℕ)) type_tokens z))) is (type_level_stays y)))

result_stays : (t : Option IrType) → Stay (result_tokens t)
result_stays (Some t) = type_stays t
result_stays None = (word_stays (codes "void") refl, tt)

-- ---- operands

const_index_stays : (i : ConstIndex) → Stay (const_index_tokens i)
const_index_stays i = (width_stays i.width, (integer_stays i.value, tt))

gep_stays : (base : Name) (ls : List GepLevel) → Stay (gep_tokens base ls)
gep_stays base [] = (global_stays base.text, tt)
gep_stays base (l ∷ ls) =
    let indices = others (map const_index_tokens l.indices) in
    let end = both indices (codes ")" ∷ []) (others_stay (map const_index_tokens l.indices) (each_of const_index_tokens const_index_stays l.indices)) (round_end, tt) in (
      word_stays (codes "getelementptr") refl,
      (
        round,
        both (type_tokens l.source) (codes "," ∷ codes "ptr" ∷ (gep_tokens base ls ++ (indices ++ codes ")" ∷ []))) (type_stays l.source)
            (comma, (word_stays (codes "ptr") refl, both (gep_tokens base ls) (indices ++ codes ")" ∷ []) (gep_stays base ls) end)),
      ),
    )

form_stays : (form : ValueForm) → Stay (form_tokens form)
form_stays (forms.Local name) = (local_stays name, tt)
form_stays (forms.Global name) = (global_stays name, tt)
form_stays (forms.Int n) = (integer_stays n, tt)
form_stays forms.True = (word_stays (codes "true") refl, tt)
form_stays forms.False = (word_stays (codes "false") refl, tt)
form_stays forms.Null = (word_stays (codes "null") refl, tt)
form_stays forms.Undef = (word_stays (codes "undef") refl, tt)
form_stays forms.Poison = (word_stays (codes "poison") refl, tt)
form_stays forms.ZeroInitializer = (word_stays (codes "zeroinitializer") refl, tt)
form_stays (forms.Gep g) = gep_stays g.base g.levels

value_stays : (v : Value) → Stay (value_tokens v)
value_stays v = form_stays v.form

typed_stays : (t : Typed) → Stay (typed_tokens t)
typed_stays t = both (type_tokens t.kind) (value_tokens t.value) (type_stays t.kind) (value_stays t.value)

-- ---- constants

abbrev ConstantStays : Type 0
ConstantStays = (c : Constant) × Stay (constant_tokens c)

constants_within : (cs : List ConstantStays) → AllStay (map constant_tokens (map (λ e. e.0) cs))
constants_within [] = tt
constants_within (e ∷ es) = (e.1, constants_within es)

constant_level_stays : (y : Constant-F ConstantStays) → Stay (constant_level (map-Constant Constant (List (List ℕ)) constant_tokens (map-Constant ConstantStays Constant (λ e. e.0) y)))
constant_level_stays (Constant-F.Value kind value) = both (type_tokens kind) (value_tokens value) (type_stays kind) (value_stays value)
constant_level_stays (Constant-F.Bytes kind at bytes) = both (type_tokens kind) _ (type_stays kind) (string_stays bytes, tt)
constant_level_stays (Constant-F.Array kind at elements) =
    let inner = separated (map constant_tokens (map (λ e. e.0) elements)) in
    both (type_tokens kind) (codes "[" ∷ (inner ++ codes "]" ∷ [])) (type_stays kind)
    (square, both inner (codes "]" ∷ []) (separated_stay (map constant_tokens (map (λ e. e.0) elements)) (constants_within elements)) (square_end, tt))
constant_level_stays (Constant-F.Struct kind at fields packed) =
    let inner = separated (map constant_tokens (map (λ e. e.0) fields)) in
    both (type_tokens kind) (opening packed ∷ (inner ++ closing packed ∷ [])) (type_stays kind)
    (opening_stays packed, both inner (closing packed ∷ []) (separated_stay (map constant_tokens (map (λ e. e.0) fields)) (constants_within fields)) (closing_stays packed, tt))

rolled_constant : (x : Constant-F Constant) → constant_tokens (roll-Constant x) ≡ constant_level (map-Constant Constant (List (List ℕ)) constant_tokens x)
unfolding constant_tokens
rolled_constant x = fold-roll-Constant (List (List ℕ)) constant_level x

constant_stays : (c : Constant) → Stay (constant_tokens c)
constant_stays = ind-Constant (λ c. Stay (constant_tokens c)) (λ x y is.
    subst Stay (sym (rolled_constant x)) (subst (λ z. Stay (constant_level (map-Constant Constant (List (List ℕ)) constant_tokens z))) is (constant_level_stays y)))

-- ---- instructions

binary_stays : (op : BinOp) → Stays (binary_text op)
binary_stays ops.Add = word_stays (codes "add") refl
binary_stays ops.Sub = word_stays (codes "sub") refl
binary_stays ops.Mul = word_stays (codes "mul") refl
binary_stays ops.Udiv = word_stays (codes "udiv") refl
binary_stays ops.Sdiv = word_stays (codes "sdiv") refl
binary_stays ops.Urem = word_stays (codes "urem") refl
binary_stays ops.Srem = word_stays (codes "srem") refl
binary_stays ops.Shl = word_stays (codes "shl") refl
binary_stays ops.Lshr = word_stays (codes "lshr") refl
binary_stays ops.Ashr = word_stays (codes "ashr") refl
binary_stays ops.And = word_stays (codes "and") refl
binary_stays ops.Or = word_stays (codes "or") refl
binary_stays ops.Xor = word_stays (codes "xor") refl

pred_stays : (p : Pred) → Stays (pred_text p)
pred_stays preds.Eq = word_stays (codes "eq") refl
pred_stays preds.Ne = word_stays (codes "ne") refl
pred_stays preds.Ugt = word_stays (codes "ugt") refl
pred_stays preds.Uge = word_stays (codes "uge") refl
pred_stays preds.Ult = word_stays (codes "ult") refl
pred_stays preds.Ule = word_stays (codes "ule") refl
pred_stays preds.Sgt = word_stays (codes "sgt") refl
pred_stays preds.Sge = word_stays (codes "sge") refl
pred_stays preds.Slt = word_stays (codes "slt") refl
pred_stays preds.Sle = word_stays (codes "sle") refl

cast_stays : (op : CastOp) → Stays (cast_text op)
cast_stays casts.Trunc = word_stays (codes "trunc") refl
cast_stays casts.Zext = word_stays (codes "zext") refl
cast_stays casts.Sext = word_stays (codes "sext") refl

pointer_stays : (p : Value) → Stay (pointer_tokens p)
pointer_stays p = (word_stays (codes "ptr") refl, value_stays p)

index_stays : (i : Index) → Stay (index_tokens i)
index_stays i = (width_stays i.width, value_stays i.value)

-- two lists with a comma between them
pair_stays : (xs ys : List (List ℕ)) → Stay xs → Stay ys → Stay (xs ++ codes "," ∷ ys)
pair_stays xs ys all more = both xs (codes "," ∷ ys) all (comma, more)

operation_stays : (o : Operation) → Stay (operation_tokens o)
operation_stays (operations.Binary op width a b) = (binary_stays op, (width_stays width, pair_stays (value_tokens a) (value_tokens b) (value_stays a) (value_stays b)))
operation_stays (operations.Compare pred kind a b) =
    (word_stays (codes "icmp") refl, (pred_stays pred, both (type_tokens kind) (value_tokens a ++ codes "," ∷ value_tokens b) (type_stays kind) (pair_stays (value_tokens a) (value_tokens b) (value_stays a) (value_stays b))))
operation_stays (operations.Cast op from value to) = (cast_stays op, (width_stays from, both (value_tokens value) _ (value_stays value) (word_stays (codes "to") refl, (width_stays to, tt))))
operation_stays (operations.Select condition a b) =
    (word_stays (codes "select") refl, (word_stays (codes "i1") refl, pair_stays (value_tokens condition) (typed_tokens a ++ codes "," ∷ typed_tokens b) (value_stays condition) (pair_stays (typed_tokens a) (typed_tokens b) (typed_stays a) (typed_stays b))))
operation_stays (operations.Alloca kind) = (word_stays (codes "alloca") refl, type_stays kind)
operation_stays (operations.Load kind pointer) = (word_stays (codes "load") refl, pair_stays (type_tokens kind) (pointer_tokens pointer) (type_stays kind) (pointer_stays pointer))
operation_stays (operations.Store kind value pointer) =
    (word_stays (codes "store") refl, both (type_tokens kind) (value_tokens value ++ codes "," ∷ pointer_tokens pointer) (type_stays kind) (pair_stays (value_tokens value) (pointer_tokens pointer) (value_stays value) (pointer_stays pointer)))
operation_stays (operations.GetElementPtr source pointer indices) =
    let list = map index_tokens indices in (
      word_stays (codes "getelementptr") refl,
      pair_stays (type_tokens source) (pointer_tokens pointer ++ others list) (type_stays source)
          (both (pointer_tokens pointer) (others list) (pointer_stays pointer) (others_stay list (each_of index_tokens index_stays indices))),
    )
operation_stays (operations.Call result callee arguments) =
    let list = map typed_tokens arguments in (
      word_stays (codes "call") refl,
      both (result_tokens result) _ (result_stays result)
          (global_stays callee.text, (round, both (separated list) (codes ")" ∷ []) (separated_stay list (each_of typed_tokens typed_stays arguments)) (round_end, tt))),
    )

set_stays : (name : Option Name) → Stay (set_tokens name)
set_stays (Some name) = (local_stays name.text, (equals, tt))
set_stays None = tt

instruction_stays : (i : Instruction) → Stay (instruction_tokens i)
instruction_stays i = both (set_tokens i.result) (operation_tokens i.operation) (set_stays i.result) (operation_stays i.operation)

incoming_stays : (i : Incoming) → Stay (incoming_tokens i)
incoming_stays i = (square, both (value_tokens i.value) _ (value_stays i.value) (comma, (local_stays i.label.text, (square_end, tt))))

phi_stays : (p : Phi) → Stay (phi_tokens p)
phi_stays p =
    (local_stays p.result.text, (equals, (word_stays (codes "phi") refl, both (type_tokens p.kind) (separated (map incoming_tokens p.incoming)) (type_stays p.kind) (separated_stay (map incoming_tokens p.incoming) (each_of incoming_tokens incoming_stays p.incoming)))))

target_stays : (name : Name) → Stay (target_tokens name)
target_stays name = (word_stays (codes "label") refl, (local_stays name.text, tt))

case_stays : (c : Case) → Stay (case_tokens c)
case_stays c = (width_stays c.width, (integer_stays c.value, (comma, target_stays c.label)))

terminator_stays : (t : TerminatorForm) → Stay (terminator_tokens t)
terminator_stays (terminators.Return (Some t)) = (word_stays (codes "ret") refl, typed_stays t)
terminator_stays (terminators.Return None) = (word_stays (codes "ret") refl, (word_stays (codes "void") refl, tt))
terminator_stays (terminators.Jump to) = (word_stays (codes "br") refl, target_stays to)
terminator_stays (terminators.Branch condition if_true if_false) =
    (word_stays (codes "br") refl, (word_stays (codes "i1") refl, pair_stays (value_tokens condition) (target_tokens if_true ++ codes "," ∷ target_tokens if_false) (value_stays condition) (pair_stays (target_tokens if_true) (target_tokens if_false) (target_stays if_true) (target_stays if_false))))
terminator_stays (terminators.Switch width value default cases) =
    let list = map case_tokens cases in
    let end = both (joined list) (codes "]" ∷ []) (joined_stay list (each_of case_tokens case_stays cases)) (square_end, tt) in
    (word_stays (codes "switch") refl, (width_stays width, pair_stays (value_tokens value) (target_tokens default ++ codes "[" ∷ (joined list ++ codes "]" ∷ [])) (value_stays value) (both (target_tokens default) (codes "[" ∷ (joined list ++ codes "]" ∷ [])) (target_stays default) (square, end))))
terminator_stays terminators.Unreachable = (word_stays (codes "unreachable") refl, tt)

-- ---- lines

-- a list with a token
some_tokens : (ts : List (List ℕ)) (t : List ℕ) (us : List (List ℕ)) → ts ≡ t ∷ us → Stay ts → (u : List ℕ) × (vs : List (List ℕ)) × (ts ≡ u ∷ vs) × Stay (u ∷ vs)
some_tokens ts t us e all = (t, us, e, subst Stay e all)

-- a list that ends in a token, or begins with one, has one
abbrev HasOne : List (List ℕ) → Type 0
HasOne ts = (t : List ℕ) × (us : List (List ℕ)) × (ts ≡ t ∷ us)

one_behind : (xs ys : List (List ℕ)) → HasOne ys → HasOne (xs ++ ys)
one_behind [] ys some = some
one_behind (x ∷ xs) ys some = (x, xs ++ ys, refl)

line : (l : Line) → HasOne l.tokens → Stay l.tokens → IsLine l
line l some all = some_tokens l.tokens some.0 some.1 some.2 all

type_is_line : (d : TypeDefinition) → IsLine (type_line d)
type_is_line d = line (type_line d) (_, _, refl) (local_stays d.name.text, (equals, (word_stays (codes "type") refl, type_stays d.kind)))

global_is_line : (d : GlobalDefinition) → IsLine (global_line d)
global_is_line d = line (global_line d) (_, _, refl) (global_stays d.name.text, (equals, (word_stays (codes "global") refl, constant_stays d.value)))

name_stays : (name : Option Name) → Stay (name_tokens name)
name_stays (Some name) = (local_stays name.text, tt)
name_stays None = tt

parameter_stays : (p : Parameter) → Stay (parameter_tokens p)
parameter_stays p = both (type_tokens p.kind) (name_tokens p.name) (type_stays p.kind) (name_stays p.name)

header_stays : (h : Header) → Stay (header_tokens h)
header_stays h =
    let list = map parameter_tokens h.parameters in
    both (result_tokens h.result) _ (result_stays h.result) (global_stays h.name.text, (round, both (separated list) (codes ")" ∷ []) (separated_stay list (each_of parameter_tokens parameter_stays h.parameters)) (round_end, tt)))

declare_is_line : (h : Header) → IsLine (declare_line h)
declare_is_line h = line (declare_line h) (_, _, refl) (word_stays (codes "declare") refl, header_stays h)

define_is_line : (h : Header) → IsLine (define_line h)
define_is_line h = line (define_line h) (_, _, refl) (word_stays (codes "define") refl, both (header_tokens h) (codes "{" ∷ []) (header_stays h) (brace, tt))

close_is_line : IsLine close_line
close_is_line = line close_line (_, _, refl) (brace_end_stays, tt)

phi_is_line : (p : Phi) → IsLine (phi_line p)
phi_is_line p = line (phi_line p) (_, _, refl) (phi_stays p)

operation_has_one : (o : Operation) → HasOne (operation_tokens o)
operation_has_one (operations.Binary op width a b) = (_, _, refl)
operation_has_one (operations.Compare pred kind a b) = (_, _, refl)
operation_has_one (operations.Cast op from value to) = (_, _, refl)
operation_has_one (operations.Select condition a b) = (_, _, refl)
operation_has_one (operations.Alloca kind) = (_, _, refl)
operation_has_one (operations.Load kind pointer) = (_, _, refl)
operation_has_one (operations.Store kind value pointer) = (_, _, refl)
operation_has_one (operations.GetElementPtr source pointer indices) = (_, _, refl)
operation_has_one (operations.Call result callee arguments) = (_, _, refl)

instruction_is_line : (i : Instruction) → IsLine (instruction_line i)
instruction_is_line i = line (instruction_line i) (one_behind (set_tokens i.result) (operation_tokens i.operation) (operation_has_one i.operation)) (instruction_stays i)

terminator_has_one : (t : TerminatorForm) → HasOne (terminator_tokens t)
terminator_has_one (terminators.Return (Some t)) = (_, _, refl)
terminator_has_one (terminators.Return None) = (_, _, refl)
terminator_has_one (terminators.Jump to) = (_, _, refl)
terminator_has_one (terminators.Branch condition if_true if_false) = (_, _, refl)
terminator_has_one (terminators.Switch width value default cases) = (_, _, refl)
terminator_has_one terminators.Unreachable = (_, _, refl)

terminator_is_line : (t : Terminator) → IsLine (terminator_line t)
terminator_is_line t = line (terminator_line t) (terminator_has_one t.form) (terminator_stays t.form)

lines_of : {A : Type 0} (f : A → Line) → ((a : A) → IsLine (f a)) → (xs : List A) → AreLines (map f xs)
lines_of f h [] = tt
lines_of f h (x ∷ xs) = (h x, lines_of f h xs)

both_lines : (xs ys : List Line) → AreLines xs → AreLines ys → AreLines (xs ++ ys)
both_lines [] ys all more = more
both_lines (x ∷ xs) ys all more = (all.0, both_lines xs ys all.1 more)

labels_are : (name : Option Name) → AreLines (label_lines name)
labels_are (Some name) = (line (plain (label_text name.text ∷ [])) (_, _, refl) (label_stays name.text, tt), tt)
labels_are None = tt

block_are : (b : Block) → AreLines (block_lines b)
block_are b =
    both_lines (label_lines b.label) _ (labels_are b.label)
    (both_lines (map phi_line b.phis) _ (lines_of phi_line phi_is_line b.phis) (both_lines (map instruction_line b.instructions) _ (lines_of instruction_line instruction_is_line b.instructions) (terminator_is_line b.terminator, tt)))

blocks_are : (bs : List Block) → AreLines (blocks_lines bs)
blocks_are [] = tt
blocks_are (b ∷ bs) = both_lines (block_lines b) (blocks_lines bs) (block_are b) (blocks_are bs)

function_are : (f : FunctionDefinition) → AreLines (function_lines f)
function_are f = (define_is_line f.header, both_lines (blocks_lines f.blocks) (close_line ∷ []) (blocks_are f.blocks) (close_is_line, tt))

functions_are : (fs : List FunctionDefinition) → AreLines (functions_lines fs)
functions_are [] = tt
functions_are (f ∷ fs) = both_lines (function_lines f) (functions_lines fs) (function_are f) (functions_are fs)

pub lines_are : (t : IrTree) → AreLines (lines t)
lines_are t =
    both_lines (map type_line t.types) _ (lines_of type_line type_is_line t.types)
    (both_lines (map global_line t.globals) _ (lines_of global_line global_is_line t.globals) (both_lines (map declare_line t.declares) (functions_lines t.functions) (lines_of declare_line declare_is_line t.declares) (functions_are t.functions)))
