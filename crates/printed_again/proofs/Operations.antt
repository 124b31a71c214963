-- Operations are read again.
use Rattle.std.proofs.Common.{◌≡◌, ℕ, Bool, true, false, List, [], ◌∷◌, Option, Some, None, refl, sym, ap, subst, ◌∙◌}
use Rattle.std.specs.Prelude.{codes, map}
use Rattle.std.specs.List.{AllByRecursion}
use Rattle.ir_lexer.specs.declared.token.TokenKind.TheVariants as kinds
use Rattle.bitnum.specs.declared.BinOp.{BinOp}
use Rattle.bitnum.specs.declared.BinOp.TheVariants as ops
use Rattle.bitnum.specs.declared.Pred.{Pred}
use Rattle.bitnum.specs.declared.Pred.TheVariants as preds
use Rattle.ir_tree.specs.declared.types.IrType.{IrType}
use Rattle.ir_tree.specs.declared.constants.Value.{Value}
use Rattle.ir_tree.specs.declared.instructions.CastOp.{CastOp}
use Rattle.ir_tree.specs.declared.instructions.CastOp.TheVariants as casts
use Rattle.ir_tree.specs.declared.instructions.Typed.{Typed}
use Rattle.ir_tree.specs.declared.instructions.Index.{Index}
use Rattle.ir_tree.specs.declared.instructions.Operation.{Operation}
use Rattle.ir_tree.specs.declared.instructions.Operation.TheVariants as operations
use Rattle.ir_tree.specs.Spelling.{others, result_tokens, typed_tokens, binary_text, pred_text, cast_text, index_tokens, operation_tokens}
use Rattle.ir_tree.specs.Places.{bare_type, bare_value, bare_typed, bare_index, bare_operation}
use Rattle.phrases.specs.Piece.{Class}
use Rattle.phrases.specs.Phrase.{Phrase, one, done, from_derive, ◌>>=◌, ◌>>◌, but}
use Rattle.ir_grammar.specs.Tokens.{meaning, integer_type}
use Rattle.ir_grammar.specs.Numbers.{fits_width, fits_index}
use Rattle.ir_grammar.specs.Types.{skip_mark, attribute_or, attributes, nesting, width_in}
use Rattle.ir_grammar.specs.Constants.{operand, operand_in}
use Rattle.ir_grammar.specs.Instructions.{attached, after, after_alloca, tail_item, tail, item_or_attached, attachments_begun, present, items_and_after, binary_rows, pred_rows, cast_rows, binary, compare, cast, typed, select, alloca, volatile, load, index, element_pointer, result_type, argument, tail_mark, call_at, call, operation}
use Rattle.printed_again.proofs.Numbers.{IsWidth, width_bounded, index_bounded, width_tells, width_back}
use Rattle.printed_again.proofs.Backs.{Back, bind, ends, gives, alike, left, right, single, Any, the_word, the_mark, the_place, none_from, more_from, nothing}
use Rattle.printed_again.proofs.Tells.{Tells, step, over, made, or, told_as, each_from}
use Rattle.printed_again.proofs.Lists.{cons_like, listed_back, listed_tell}
use Rattle.printed_again.proofs.Types.{global_back, global_tells, IsValueType, value_type_tells, IsScalar, scalar_tells, scalar_back, mem_tells}
use Rattle.printed_again.proofs.Values.{flags_back, SameValue, OperandBack, operand_tells, pointer_tells}

-- ---- what is ignored

pub after_back : Back after.derives [] Any
after_back = nothing (skip_mark (codes ",") >> attached)

after_alloca_back : Back after_alloca.derives [] Any
after_alloca_back = nothing (skip_mark (codes ",") >> but (integer_type ∷ []) attached)

pub attributes_back : Back attributes.derives [] Any
attributes_back = nothing (attribute_or [])

pub tail_back : Back tail.derives [] Any
tail_back = nothing tail_item

pub volatile_back : Back volatile.derives [] Any
volatile_back = right (gives tt tt)

-- nothing but what is ignored stands behind
pub closes : {A : Type 0} {Good : A → Type 0} (a : A) → Good a → Back (after >>= λ _. done a).derives [] Good
closes a g = bind after_back (λ _ _. gives a g)

-- ---- words of tables

binary_back : (op : BinOp) → Back (one (meaning binary_rows)).derives (binary_text op ∷ []) (λ x. x ≡ op)
binary_back ops.Add = single (meaning binary_rows) (codes "add") kinds.Word refl (λ at. (ops.Add, refl, refl))
binary_back ops.Sub = single (meaning binary_rows) (codes "sub") kinds.Word refl (λ at. (ops.Sub, refl, refl))
binary_back ops.Mul = single (meaning binary_rows) (codes "mul") kinds.Word refl (λ at. (ops.Mul, refl, refl))
binary_back ops.Udiv = single (meaning binary_rows) (codes "udiv") kinds.Word refl (λ at. (ops.Udiv, refl, refl))
binary_back ops.Sdiv = single (meaning binary_rows) (codes "sdiv") kinds.Word refl (λ at. (ops.Sdiv, refl, refl))
binary_back ops.Urem = single (meaning binary_rows) (codes "urem") kinds.Word refl (λ at. (ops.Urem, refl, refl))
binary_back ops.Srem = single (meaning binary_rows) (codes "srem") kinds.Word refl (λ at. (ops.Srem, refl, refl))
binary_back ops.Shl = single (meaning binary_rows) (codes "shl") kinds.Word refl (λ at. (ops.Shl, refl, refl))
binary_back ops.Lshr = single (meaning binary_rows) (codes "lshr") kinds.Word refl (λ at. (ops.Lshr, refl, refl))
binary_back ops.Ashr = single (meaning binary_rows) (codes "ashr") kinds.Word refl (λ at. (ops.Ashr, refl, refl))
binary_back ops.And = single (meaning binary_rows) (codes "and") kinds.Word refl (λ at. (ops.And, refl, refl))
binary_back ops.Or = single (meaning binary_rows) (codes "or") kinds.Word refl (λ at. (ops.Or, refl, refl))
binary_back ops.Xor = single (meaning binary_rows) (codes "xor") kinds.Word refl (λ at. (ops.Xor, refl, refl))

pred_back : (p : Pred) → Back (one (meaning pred_rows)).derives (pred_text p ∷ []) (λ x. x ≡ p)
pred_back preds.Eq = single (meaning pred_rows) (codes "eq") kinds.Word refl (λ at. (preds.Eq, refl, refl))
pred_back preds.Ne = single (meaning pred_rows) (codes "ne") kinds.Word refl (λ at. (preds.Ne, refl, refl))
pred_back preds.Ugt = single (meaning pred_rows) (codes "ugt") kinds.Word refl (λ at. (preds.Ugt, refl, refl))
pred_back preds.Uge = single (meaning pred_rows) (codes "uge") kinds.Word refl (λ at. (preds.Uge, refl, refl))
pred_back preds.Ult = single (meaning pred_rows) (codes "ult") kinds.Word refl (λ at. (preds.Ult, refl, refl))
pred_back preds.Ule = single (meaning pred_rows) (codes "ule") kinds.Word refl (λ at. (preds.Ule, refl, refl))
pred_back preds.Sgt = single (meaning pred_rows) (codes "sgt") kinds.Word refl (λ at. (preds.Sgt, refl, refl))
pred_back preds.Sge = single (meaning pred_rows) (codes "sge") kinds.Word refl (λ at. (preds.Sge, refl, refl))
pred_back preds.Slt = single (meaning pred_rows) (codes "slt") kinds.Word refl (λ at. (preds.Slt, refl, refl))
pred_back preds.Sle = single (meaning pred_rows) (codes "sle") kinds.Word refl (λ at. (preds.Sle, refl, refl))

cast_back : (op : CastOp) → Back (one (meaning cast_rows)).derives (cast_text op ∷ []) (λ x. x ≡ op)
cast_back casts.Trunc = single (meaning cast_rows) (codes "trunc") kinds.Word refl (λ at. (casts.Trunc, refl, refl))
cast_back casts.Zext = single (meaning cast_rows) (codes "zext") kinds.Word refl (λ at. (casts.Zext, refl, refl))
cast_back casts.Sext = single (meaning cast_rows) (codes "sext") kinds.Word refl (λ at. (casts.Sext, refl, refl))

-- ---- operands of a width, and of a type

abbrev pub OperandOf : ℕ → Value → Type 0
OperandOf w v = OperandBack (fits_width w) v

abbrev pub OperandIn : IrType → Value → Type 0
OperandIn t v = OperandOf (width_in t) v

pub of_width_tells : (w : ℕ) → IsWidth w → Tells (operand w).derives (OperandOf w)
of_width_tells w W = operand_tells (fits_width w) (width_bounded w W.most)

pub in_type_tells : (t : IrType) → IsValueType t → Tells (operand_in t).derives (OperandIn t)
in_type_tells t T = operand_tells (fits_width (width_in t)) (width_bounded (width_in t) T.small)

pub in_scalar_tells : (t : IrType) → IsScalar t → Tells (operand_in t).derives (OperandIn t)
in_scalar_tells t T = operand_tells (fits_width (width_in t)) (width_bounded (width_in t) T.small)

pub of_width : (w u : ℕ) (v : Value) → u ≡ w → OperandOf w v → OperandOf u v
of_width w u v e V = subst (λ k. OperandOf k v) (sym e) V

pub in_type : (t u : IrType) (v : Value) → u ≡ t → OperandIn t v → OperandIn u v
in_type t u v e V = subst (λ k. OperandIn k v) (sym e) V

abbrev pub SameTyped : Typed → Typed → Type 0
SameTyped t x = bare_typed x ≡ bare_typed t

abbrev a_typed : IrType → Value → Typed
a_typed t v = record { kind = t; value = v }

typed_like : (t u : IrType) (v x : Value) → u ≡ t → SameValue v x → SameTyped (a_typed t v) (a_typed u x)
typed_like t u v x e ex = ap (λ k. a_typed (bare_type k) (bare_value x)) e ∙ ap (a_typed (bare_type t)) ex

abbrev pub TypedBack : Typed → Type 0
TypedBack t = Back typed.derives (typed_tokens t) (SameTyped t)

pub typed_tells : Tells typed.derives TypedBack
typed_tells =
    step value_type_tells (λ t T. step (in_type_tells t T) (λ v V.
    made (a_typed t v) (bind T.back (λ u e. ends (in_type t u v e V) (λ x ex. gives (a_typed u x) (typed_like t u v x e ex))))))

-- ---- operations

abbrev pub SameOperation : Operation → Operation → Type 0
SameOperation o p = bare_operation p ≡ bare_operation o

binary_tells : Tells binary.derives (λ o. Back binary.derives (operation_tokens o) (SameOperation o))
binary_tells =
    over (λ op. over (λ _. step width_tells (λ w W. step (of_width_tells w W) (λ a A. over (λ _. step (of_width_tells w W) (λ b B. over (λ _.
    made (operations.Binary op w a b)
    (bind (binary_back op) (λ o eo.
    bind flags_back (λ _ _.
    bind (width_back w W) (λ v ev.
    bind (of_width w v a ev A) (λ x ex.
    bind (the_mark (codes ",") refl) (λ _ _.
    ends (of_width w v b ev B) (λ y ey.
    closes (operations.Binary o v x y) (let e : bare_operation (operations.Binary o v x y) ≡ bare_operation (operations.Binary op w a b) = cc in e)))))))))))))))

compare_tells : Tells compare.derives (λ o. Back compare.derives (operation_tokens o) (SameOperation o))
compare_tells =
    over (λ _. over (λ _. over (λ p. step value_type_tells (λ t T. step (in_type_tells t T) (λ a A. over (λ _. step (in_type_tells t T) (λ b B. over (λ _.
    made (operations.Compare p t a b)
    (bind (the_word (codes "icmp") refl) (λ _ _.
    bind flags_back (λ _ _.
    bind (pred_back p) (λ q eq.
    bind T.back (λ u eu.
    bind (in_type t u a eu A) (λ x ex.
    bind (the_mark (codes ",") refl) (λ _ _.
    ends (in_type t u b eu B) (λ y ey.
    closes (operations.Compare q u x y) (let e : bare_operation (operations.Compare q u x y) ≡ bare_operation (operations.Compare p t a b) = cc in e)))))))))))))))))

cast_tells : Tells cast.derives (λ o. Back cast.derives (operation_tokens o) (SameOperation o))
cast_tells =
    over (λ op. over (λ _. step width_tells (λ from F. step (of_width_tells from F) (λ v V. over (λ _. step width_tells (λ to T. over (λ _.
    made (operations.Cast op from v to)
    (bind (cast_back op) (λ o eo.
    bind flags_back (λ _ _.
    bind (width_back from F) (λ w ew.
    bind (of_width from w v ew V) (λ x ex.
    bind (the_word (codes "to") refl) (λ _ _.
    ends (width_back to T) (λ k ek.
    closes (operations.Cast o w x k) (let e : bare_operation (operations.Cast o w x k) ≡ bare_operation (operations.Cast op from v to) = cc in e)))))))))))))))

pub bit : IsWidth 1
bit = record { least = refl; most = refl }

select_tells : Tells select.derives (λ o. Back select.derives (operation_tokens o) (SameOperation o))
select_tells =
    over (λ _. over (λ _. step (of_width_tells 1 bit) (λ c C. over (λ _. step typed_tells (λ a A. over (λ _. step typed_tells (λ b B. over (λ _.
    made (operations.Select c a b)
    (bind (the_word (codes "select") refl) (λ _ _.
    bind (the_word (codes "i1") refl) (λ _ _.
    bind C (λ d ed.
    bind (the_mark (codes ",") refl) (λ _ _.
    bind A (λ x ex.
    bind (the_mark (codes ",") refl) (λ _ _.
    ends B (λ y ey.
    closes (operations.Select d x y) (let e : bare_operation (operations.Select d x y) ≡ bare_operation (operations.Select c a b) = cc in e)))))))))))))))))

alloca_tells : Tells alloca.derives (λ o. Back alloca.derives (operation_tokens o) (SameOperation o))
alloca_tells =
    over (λ _. step (mem_tells nesting) (λ t T. over (λ _.
    made (operations.Alloca t)
    (bind (the_word (codes "alloca") refl) (λ _ _. ends T (λ u e. bind after_alloca_back (λ _ _. gives (operations.Alloca u) (ap operations.Alloca e))))))))

load_tells : Tells load.derives (λ o. Back load.derives (operation_tokens o) (SameOperation o))
load_tells =
    over (λ _. over (λ _. step scalar_tells (λ t T. over (λ _. step pointer_tells (λ p P. over (λ _.
    made (operations.Load t p)
    (bind (the_word (codes "load") refl) (λ _ _.
    bind volatile_back (λ _ _.
    bind (scalar_back t T) (λ u eu.
    bind (the_mark (codes ",") refl) (λ _ _.
    ends P (λ q eq.
    closes (operations.Load u q) (let e : bare_operation (operations.Load u q) ≡ bare_operation (operations.Load t p) = cc in e)))))))))))))

-- ---- lists that end where attachments begin

abbrev FactOf : {A : Type 0} → (A → Type 0) → Option A → Type 0
FactOf Fact (Some x) = Fact x
FactOf Fact None = Unit {0}

present_facts : {A : Type 0} (Fact : A → Type 0) (os : List (Option A)) → AllByRecursion (FactOf Fact) os → AllByRecursion Fact (present os)
present_facts Fact [] h = tt
present_facts Fact (Some x ∷ os) h = (h.0, present_facts Fact os h.1)
present_facts Fact (None ∷ os) h = present_facts Fact os h.1

module _ {A B : Type 0} (starts : List Class) (item : Phrase A) (tokens : A → List (List ℕ)) (bare : A → B) where
  abbrev pub PartBack : A → Type 0
  PartBack x = Back item.derives (tokens x) (λ y. bare y ≡ bare x)

  part_tells : Tells item.derives PartBack → (begun : Bool) → Tells (item_or_attached starts item begun).derives (FactOf PartBack)
  part_tells P true = over (λ _. over (λ _. made None tt))
  part_tells P false = over (λ _. or (step P (λ x h. made (Some x) h)) (over (λ _. made None tt)))

  pub items_tell : Tells item.derives PartBack → Tells (items_and_after starts item).derives (AllByRecursion PartBack)
  items_tell P = step (each_from (item_or_attached starts item) attachments_begun (part_tells P) false) (λ found h. made (present found) (present_facts PartBack found h))

  abbrev IsPart : A → Option A → Type 0
  IsPart x o = (y : A) × (o ≡ Some y) × (bare y ≡ bare x)

  abbrev AreParts : List A → List (Option A) → Type 0
  AreParts xs os = map bare (present os) ≡ map bare xs

  one_more : (x : A) (xs : List A) (o : Option A) (os : List (Option A)) → IsPart x o → AreParts xs os → AreParts (x ∷ xs) (o ∷ os)
  one_more x xs o os p h = subst (λ v. AreParts (x ∷ xs) (v ∷ os)) (sym p.1) (cons_like bare x p.0 xs (present os) p.2 h)

  parts_back : (xs : List A) → AllByRecursion PartBack xs → Back (from_derive (item_or_attached starts item) attachments_begun false) (others (map tokens xs)) (AreParts xs)
  parts_back [] h = alike (λ os e. ap (λ vs. map bare (present vs)) e) (none_from (item_or_attached starts item) attachments_begun false)
  parts_back (x ∷ xs) h =
      let rest = parts_back xs h.1 in
      more_from (item_or_attached starts item) attachments_begun false {Like = IsPart x} {Good = AreParts xs}
      (bind (the_mark (codes ",") refl) (λ _ _. left (ends h.0 (λ y e. gives (Some y) (y, refl, e)))))
      (λ o p. subst (λ v. Back (from_derive (item_or_attached starts item) attachments_begun (attachments_begun false v)) (others (map tokens xs)) (AreParts xs)) (sym p.1) rest)
      (λ o os p e. one_more x xs o os p e)

  pub items_back : (xs : List A) → AllByRecursion PartBack xs → Back (items_and_after starts item).derives (others (map tokens xs)) (λ ys. map bare ys ≡ map bare xs)
  items_back xs h = ends (parts_back xs h) (λ found e. gives (present found) e)

abbrev IndexBack : Index → Type 0
IndexBack i = Back index.derives (index_tokens i) (λ j. bare_index j ≡ bare_index i)

abbrev an_index : ℕ → Value → Index
an_index w v = record { width = w; value = v }

index_tells : Tells index.derives IndexBack
index_tells =
    step width_tells (λ w W. step (operand_tells (fits_index w) (index_bounded w)) (λ v V.
    made (an_index w v)
    (bind (width_back w W) (λ u e. ends (subst (λ k. OperandBack (fits_index k) v) (sym e) V) (λ x ex. gives (an_index u x) (ap (λ k. an_index k (bare_value x)) e ∙ ap (an_index w) ex))))))

element_pointer_tells : Tells element_pointer.derives (λ o. Back element_pointer.derives (operation_tokens o) (SameOperation o))
element_pointer_tells =
    over (λ _. over (λ _. step (mem_tells nesting) (λ t T. over (λ _. step pointer_tells (λ p P. step (items_tell (integer_type ∷ []) index index_tokens bare_index index_tells) (λ is I.
    made (operations.GetElementPtr t p is)
    (bind (the_word (codes "getelementptr") refl) (λ _ _.
    bind flags_back (λ _ _.
    bind T (λ u eu.
    bind (the_mark (codes ",") refl) (λ _ _.
    bind P (λ q eq.
    ends (items_back (integer_type ∷ []) index index_tokens bare_index is I) (λ js ej.
    gives (operations.GetElementPtr u q js) (let e : bare_operation (operations.GetElementPtr u q js) ≡ bare_operation (operations.GetElementPtr t p is) = cc in e))))))))))))))

-- ---- calls

abbrev pub ResultBack : Option IrType → Type 0
ResultBack r = Back result_type.derives (result_tokens r) (λ s. s ≡ r)

pub result_tells : Tells result_type.derives ResultBack
result_tells =
    or (over (λ _. made None (left (bind (the_word (codes "void") refl) (λ _ _. gives None refl)))))
    (step value_type_tells (λ t T. made (Some t) (right (ends T.back (λ u e. gives (Some u) (ap Some e))))))

argument_tells : Tells argument.derives (λ t. Back argument.derives (typed_tokens t) (SameTyped t))
argument_tells =
    step value_type_tells (λ t T. over (λ _. step (in_type_tells t T) (λ v V.
    made (a_typed t v) (bind T.back (λ u e. bind attributes_back (λ _ _. ends (in_type t u v e V) (λ x ex. gives (a_typed u x) (typed_like t u v x e ex))))))))

-- a call with its place
abbrev pub CallBack : ℕ × Operation → Type 0
CallBack c = Back call_at.derives (operation_tokens c.1) (λ d. SameOperation c.1 d.1)

pub call_at_tells : Tells call_at.derives CallBack
call_at_tells =
    over (λ at. over (λ _. step result_tells (λ r R. step global_tells (λ f F. over (λ _. step (listed_tell (codes ")") argument argument_tells) (λ vs V. over (λ _. over (λ _.
    made (at, operations.Call r f vs)
    (bind (the_place (codes "call") refl) (λ from _.
    bind attributes_back (λ _ _.
    bind R (λ s es.
    bind (global_back f F) (λ g eg.
    bind (the_mark (codes "(") refl) (λ _ _.
    ends (listed_back argument typed_tokens bare_typed (codes ")") refl vs V) (λ ws ew.
    bind tail_back (λ _ _.
    closes (from, operations.Call s g ws) (let e : bare_operation (operations.Call s g ws) ≡ bare_operation (operations.Call r f vs) = cc in e)))))))))))))))))

pub untailed : Back tail_mark.derives [] Any
untailed = right (gives tt tt)

call_tells : Tells call.derives (λ o. Back call.derives (operation_tokens o) (SameOperation o))
unfolding call
call_tells = over (λ _. step call_at_tells (λ c C. made c.1 (bind untailed (λ _ _. ends C (λ d e. gives d.1 e)))))

-- an operation is read from the tokens that it is printed as
abbrev pub OperationBack : Operation → Type 0
OperationBack o = Back operation.derives (operation_tokens o) (SameOperation o)

pub operation_tells : Tells operation.derives OperationBack
unfolding operation
operation_tells =
    or (told_as (λ o B. left B) binary_tells)
    (or (told_as (λ o B. right (left B)) compare_tells)
    (or (told_as (λ o B. right (right (left B))) cast_tells)
    (or (told_as (λ o B. right (right (right (left B)))) select_tells)
    (or (told_as (λ o B. right (right (right (right (left B))))) alloca_tells)
    (or (told_as (λ o B. right (right (right (right (right (left B)))))) load_tells)
    (or (told_as (λ o B. right (right (right (right (right (right (left B))))))) element_pointer_tells)
    (told_as (λ o B. right (right (right (right (right (right (right B))))))) call_tells)))))))
