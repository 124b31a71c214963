-- Operations that are read, and which of them give a value.
use Rattle.std.proofs.Common.{◌≡◌, Bool, true, false, List, [], ◌∷◌, Option, Some, None, refl}
use Rattle.std.specs.Prelude.{codes}
use Rattle.std.specs.List.{AllByRecursion}
use Rattle.ir_tree.specs.declared.types.IrType.{IrType}
use Rattle.ir_tree.specs.declared.instructions.Typed.{Typed}
use Rattle.ir_tree.specs.declared.instructions.Index.{Index}
use Rattle.ir_tree.specs.declared.instructions.Operation.{Operation}
use Rattle.ir_tree.specs.declared.instructions.Operation.TheVariants as operations
use Rattle.phrases.specs.Piece.{Class}
use Rattle.phrases.specs.Phrase.{Phrase}
use Rattle.ir_grammar.specs.Tokens.{integer_type}
use Rattle.ir_grammar.specs.Numbers.{fits_width, fits_index}
use Rattle.ir_grammar.specs.Types.{nesting}
use Rattle.ir_grammar.specs.Constants.{operand_in}
use Rattle.ir_grammar.specs.Instructions.{item_or_attached, attachments_begun, present, items_and_after, binary, compare, cast, typed, select, alloca, load, index, element_pointer, result_type, argument, call_at, call, operation}
use Rattle.ir_programs.specs.Readable.{is_readable_typed, is_readable_index, has_widths_if_any, is_readable_operation}
use Rattle.readable_trees.proofs.Gives.{Gives, step, over, made, or, each_from, between, both, all_true}
use Rattle.readable_trees.proofs.Types.{width_gives, value_type_gives, scalar_gives, mem_gives}
use Rattle.readable_trees.proofs.Values.{IsReadable, operand_gives, pointer_gives}

abbrev pub IsOperation : Operation → Type 0
IsOperation o = is_readable_operation o ≡ true

binary_gives : Gives binary.derives IsOperation
binary_gives =
    over (λ op. over (λ _. step width_gives (λ w W. step (operand_gives (fits_width w)) (λ a A. over (λ _. step (operand_gives (fits_width w)) (λ b B. over (λ _.
    made (operations.Binary op w a b) (both W (both A B)))))))))

pub in_type_gives : (t : IrType) → Gives (operand_in t).derives IsReadable
in_type_gives t = operand_gives _

compare_gives : Gives compare.derives IsOperation
compare_gives =
    over (λ _. over (λ _. over (λ p. step value_type_gives (λ t T. step (in_type_gives t) (λ a A. over (λ _. step (in_type_gives t) (λ b B. over (λ _.
    made (operations.Compare p t a b) (both T (both A B))))))))))

cast_gives : Gives cast.derives IsOperation
cast_gives =
    over (λ op. over (λ _. step width_gives (λ from F. step (operand_gives (fits_width from)) (λ v V. over (λ _. step width_gives (λ to T. over (λ _.
    made (operations.Cast op from v to) (both F (both V T)))))))))

abbrev pub IsTyped : Typed → Type 0
IsTyped t = is_readable_typed t ≡ true

pub typed_gives : Gives typed.derives IsTyped
typed_gives = step value_type_gives (λ t T. step (in_type_gives t) (λ v V. made (record { kind = t; value = v }) (both T V)))

select_gives : Gives select.derives IsOperation
select_gives =
    over (λ _. over (λ _. step (operand_gives (fits_width 1)) (λ c C. over (λ _. step typed_gives (λ a A. over (λ _. step typed_gives (λ b B. over (λ _.
    made (operations.Select c a b) (both C (both A B))))))))))

alloca_gives : Gives alloca.derives IsOperation
alloca_gives = over (λ _. step (mem_gives nesting) (λ t T. over (λ _. made (operations.Alloca t) T)))

load_gives : Gives load.derives IsOperation
load_gives = over (λ _. over (λ _. step scalar_gives (λ t T. over (λ _. step pointer_gives (λ p P. over (λ _. made (operations.Load t p) (both T P)))))))

-- ---- lists that end where attachments begin

abbrev FactOf : {A : Type 0} → (A → Type 0) → Option A → Type 0
FactOf Fact (Some x) = Fact x
FactOf Fact None = Unit {0}

present_facts : {A : Type 0} (Fact : A → Type 0) (os : List (Option A)) → AllByRecursion (FactOf Fact) os → AllByRecursion Fact (present os)
present_facts Fact [] h = tt
present_facts Fact (Some x ∷ os) h = (h.0, present_facts Fact os h.1)
present_facts Fact (None ∷ os) h = present_facts Fact os h.1

part_gives : {A : Type 0} (starts : List Class) (item : Phrase A) (Fact : A → Type 0) → Gives item.derives Fact → (begun : Bool) → Gives (item_or_attached starts item begun).derives (FactOf Fact)
part_gives starts item Fact P true = over (λ _. over (λ _. made None tt))
part_gives starts item Fact P false = over (λ _. or (step P (λ x h. made (Some x) h)) (over (λ _. made None tt)))

pub items_give : {A : Type 0} (starts : List Class) (item : Phrase A) (Fact : A → Type 0) → Gives item.derives Fact → Gives (items_and_after starts item).derives (AllByRecursion Fact)
items_give starts item Fact P = step (each_from (item_or_attached starts item) attachments_begun (part_gives starts item Fact P) false) (λ found h. made (present found) (present_facts Fact found h))

-- ---- addresses and calls

abbrev IsIndex : Index → Type 0
IsIndex i = is_readable_index i ≡ true

index_gives : Gives index.derives IsIndex
index_gives = step width_gives (λ w W. step (operand_gives (fits_index w)) (λ v V. made (record { width = w; value = v }) (both W V)))

element_pointer_gives : Gives element_pointer.derives IsOperation
element_pointer_gives =
    over (λ _. over (λ _. step (mem_gives nesting) (λ t T. over (λ _. step pointer_gives (λ p P. step (items_give (integer_type ∷ []) index IsIndex index_gives) (λ is I.
    made (operations.GetElementPtr t p is) (both T (both P (all_true is_readable_index is I)))))))))

pub result_gives : Gives result_type.derives (λ r. has_widths_if_any r ≡ true)
result_gives = or (over (λ _. made None refl)) (step value_type_gives (λ t T. made (Some t) T))

argument_gives : Gives argument.derives IsTyped
argument_gives = step value_type_gives (λ t T. over (λ _. step (in_type_gives t) (λ v V. made (record { kind = t; value = v }) (both T V))))

pub call_at_gives : Gives call_at.derives (λ c. IsOperation c.1)
call_at_gives =
    over (λ at. over (λ _. step result_gives (λ r R. over (λ f. over (λ _. step (between (codes ")") argument argument_gives) (λ vs V. over (λ _. over (λ _.
    made (at, operations.Call r f vs) (both R (all_true is_readable_typed vs V))))))))))

call_gives : Gives call.derives IsOperation
unfolding call
call_gives = over (λ _. step call_at_gives (λ c C. made c.1 C))

pub operation_gives : Gives operation.derives IsOperation
unfolding operation
operation_gives = or binary_gives (or compare_gives (or cast_gives (or select_gives (or alloca_gives (or load_gives (or element_pointer_gives call_gives))))))
