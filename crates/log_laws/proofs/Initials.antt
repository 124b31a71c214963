-- The byte that an object begins with.
use Rattle.std.proofs.Common.{◌≡◌, ℕ, zero, suc, Bool, true, false, List, [], ◌∷◌, length, Option, Some, None, ◌+◌, ◌^◌, ◌==◌, ◌<◌, ◌≤◌, refl, sym, ap, ◌∙◌, arith}
use Rattle.std.specs.Prelude.{cond, slice_get}
use Rattle.std.proofs.lemmas.Bool.{eqb-true, eq-eqb, ne_eqb}
use Rattle.terms.specs.Tree.{Tree, constant, one, two, choice}
use Rattle.terms.specs.Tree as tree
use Rattle.terms.specs.Value.{is_yes, value_of}
use Rattle.terms.specs.Folding.{constant_of}
use Rattle.term_store.specs.Condition.{answer}
use Rattle.term_store.specs.declared.conditions.Added.{Added}
use Rattle.term_store.specs.declared.conditions.Added.TheVariants.{Held, Appended, Contradicted}
use Rattle.flat_ir.specs.declared.names.ObjectName.{ObjectName}
use Rattle.flat_ir.specs.declared.names.ObjectName.TheVariants as object
use Rattle.flat_ir.specs.declared.program.ProgramData.{ProgramData}
use Rattle.flat_ir.specs.declared.program.GlobalVar.{GlobalVar}
use Rattle.flat_ir.specs.declared.program.InitByte.{InitByte}
use Rattle.flat_ir.specs.declared.program.InitByte.TheVariants as init
use Rattle.flat_ir.specs.declared.values.ConcreteByte.{ConcreteByte}
use Rattle.flat_ir.specs.declared.values.ConcreteByte.TheVariants as concrete
use Rattle.flat_ir.specs.History as history
use Rattle.sym_bytes.specs.Byte.{SymByte}
use Rattle.sym_bytes.specs.Building.{wide, equal}
use Rattle.sym_bytes.specs.Under.{Results, bits_under, byte_under}
use Rattle.sym_bytes.specs.Fitting.{IsWide}
use Rattle.terms.specs.Value.{are_met_by}
use Rattle.log_laws.specs.Reading.{Chain, initial_byte, byte_or_zero, init_of, initial_bytes, is_zero, scan_step, scanned, initial_at}
use Rattle.log_laws.proofs.Tested.{held_value, contradicted_value, equal_is, equal_value, wide_is, truth_one, truth_zero, yes_truth}
use Rattle.log_laws.proofs.Chains.{pick}

init_under : (input : List ℕ) (results : Results) (b : InitByte) → byte_under input results (initial_byte b) ≡ history.initial_byte (Some b)
init_under input results (init.Int b) = refl
init_under input results (init.PtrByte g offset j) = refl

or_zero_under : (input : List ℕ) (results : Results) (o : Option InitByte) → byte_under input results (byte_or_zero o) ≡ history.initial_byte o
or_zero_under input results None = refl
or_zero_under input results (Some b) = init_under input results b

of_global : (o : Option GlobalVar) (k : ℕ) → history.initial_of o k ≡ history.initial_byte (slice_get (init_of o) k)
of_global None k = refl
of_global (Some g) k = refl

initial_is : (p : ProgramData) (x : ObjectName) (k : ℕ) → history.initial p x k ≡ history.initial_byte (slice_get (initial_bytes p.globals x) k)
initial_is p (object.Global g) k = of_global (slice_get p.globals g) k
initial_is p (object.Made frame made) k = refl

zero_is : (input : List ℕ) (results : Results) (b : InitByte) → is_zero b ≡ true → byte_under input results (initial_byte b) ≡ concrete.Int 0
zero_is input results (init.Int b) e = ap concrete.Int (eqb-true b 0 e)
zero_is input results (init.PtrByte g offset j) e = cc

step_byte : (input : List ℕ) (results : Results) (test : Tree) (b : SymByte) (rest : Chain) (a : Added)
    → (a ≡ Held → is_yes (value_of test input) ≡ true) → (a ≡ Contradicted → is_yes (value_of test input) ≡ false)
    → pick input results (scan_step a test b rest) ≡ cond (is_yes (value_of test input)) (byte_under input results b) (pick input results rest)
step_byte input results test b rest Held one_if zero_if = sym (ap (λ t. cond t (byte_under input results b) (pick input results rest)) (one_if refl))
step_byte input results test b rest Appended one_if zero_if = refl
step_byte input results test b rest Contradicted one_if zero_if = sym (ap (λ t. cond t (byte_under input results b) (pick input results rest)) (zero_if refl))

-- an initial byte other than 0 is the one looked for where its offset is
offset_byte : (input : List ℕ) (results : Results) (known : List Tree) (at : Tree) (j : ℕ) (b : SymByte) (rest : Chain)
    → are_met_by input known ≡ true → IsWide at → j < 2 ^ 64
    → pick input results (scan_step (answer known (equal (wide j) at)) (equal (wide j) at) b rest) ≡ cond (j == bits_under input at) (byte_under input results b) (pick input results rest)
offset_byte input results known at j b rest met wide_at small =
    let test = equal (wide j) at in
    let value = equal_value (wide j) at input (wide_is j small, refl) wide_at in
    let yes : is_yes (value_of test input) ≡ (j == bits_under input at) = ap is_yes value ∙ yes_truth (j == bits_under input at) in
    step_byte input results test b rest (answer known test)
    (λ e. yes ∙ truth_one _ (sym (ap (λ n. n.bits) value) ∙ held_value known test input met e))
    (λ e. yes ∙ truth_zero _ (sym (ap (λ n. n.bits) value) ∙ contradicted_value known test input (equal_is (wide j) at (wide_is j small, refl) wide_at) met e))
    ∙ ap (λ t. cond t (byte_under input results b) (pick input results rest)) yes

scan_byte : (input : List ℕ) (results : Results) (known : List Tree) (at : Tree) (j : ℕ) (b : InitByte) (bs : List InitByte) (zeros : Bool)
    → are_met_by input known ≡ true → IsWide at → j < 2 ^ 64 → is_zero b ≡ zeros
    → (j ≡ bits_under input at → pick input results (scanned known at (j + 1) bs) ≡ concrete.Int 0)
    → pick input results (cond zeros (scanned known at (j + 1) bs) (scan_step (answer known (equal (wide j) at)) (equal (wide j) at) (initial_byte b) (scanned known at (j + 1) bs)))
    ≡ cond (j == bits_under input at) (byte_under input results (initial_byte b)) (pick input results (scanned known at (j + 1) bs))
scan_byte input results known at j b bs true met wide_at small is later =
    zero_or (j == bits_under input at) (byte_under input results (initial_byte b)) (pick input results (scanned known at (j + 1) bs))
    (λ hit. later (eqb-true j _ hit) ∙ sym (zero_is input results b is))
  where
    zero_or : (hit : Bool) (b rest : ConcreteByte) → (hit ≡ true → rest ≡ b) → rest ≡ cond hit b rest
    zero_or true b rest h = h refl
    zero_or false b rest h = refl
scan_byte input results known at j b bs false met wide_at small is later = offset_byte input results known at j (initial_byte b) (scanned known at (j + 1) bs) met wide_at small

-- past the offset looked for there is 0
past_byte : (input : List ℕ) (results : Results) (known : List Tree) (at : Tree) (j : ℕ) (bs : List InitByte)
    → are_met_by input known ≡ true → IsWide at → j + length bs ≤ 2 ^ 64 → bits_under input at < j
    → pick input results (scanned known at j bs) ≡ concrete.Int 0
past_byte input results known at j [] met wide_at room past = refl
past_byte input results known at j (b ∷ bs) met wide_at room past =
    let later = past_byte input results known at (j + 1) bs met wide_at (omega (arith, room)) (omega (arith, past)) in
    scan_byte input results known at j b bs (is_zero b) met wide_at (omega (arith, room)) refl (λ _. later)
    ∙ ap (λ t. cond t (byte_under input results (initial_byte b)) (pick input results (scanned known at (j + 1) bs))) (ne_eqb j (bits_under input at) (λ e. omega (arith, past, e)))
    ∙ later

-- the bytes from offset j on
scanned_byte : (input : List ℕ) (results : Results) (known : List Tree) (at : Tree) (j m : ℕ) (bs : List InitByte)
    → are_met_by input known ≡ true → IsWide at → j + length bs ≤ 2 ^ 64 → bits_under input at ≡ j + m
    → pick input results (scanned known at j bs) ≡ history.initial_byte (slice_get bs m)
scanned_byte input results known at j m [] met wide_at room is = refl
scanned_byte input results known at j zero (b ∷ bs) met wide_at room is =
    let here : j ≡ bits_under input at = omega (arith, is) in
    scan_byte input results known at j b bs (is_zero b) met wide_at (omega (arith, room)) refl
    (λ _. past_byte input results known at (j + 1) bs met wide_at (omega (arith, room)) (omega (arith, is)))
    ∙ ap (λ t. cond t (byte_under input results (initial_byte b)) (pick input results (scanned known at (j + 1) bs))) (eq-eqb j (bits_under input at) here)
    ∙ init_under input results b
scanned_byte input results known at j (suc m) (b ∷ bs) met wide_at room is =
    scan_byte input results known at j b bs (is_zero b) met wide_at (omega (arith, room)) refl
    (λ e. absurd (omega (arith, is, e)))
    ∙ ap (λ t. cond t (byte_under input results (initial_byte b)) (pick input results (scanned known at (j + 1) bs))) (ne_eqb j (bits_under input at) (λ e. omega (arith, is, e)))
    ∙ scanned_byte input results known at (j + 1) m bs met wide_at (omega (arith, room)) (omega (arith, is))

starting : (input : List ℕ) (results : Results) (known : List Tree) (at : Tree) (bs : List InitByte)
    → are_met_by input known ≡ true → IsWide at → length bs ≤ 2 ^ 64
    → pick input results (initial_at (constant_of at) known at bs) ≡ history.initial_byte (slice_get bs (bits_under input at))
starting input results known (constant n) bs met wide_at room = or_zero_under input results (slice_get bs n.bits)
starting input results known (tree.input k) bs met wide_at room = scanned_byte input results known (tree.input k) 0 _ bs met wide_at (omega (arith, room)) (omega arith)
starting input results known (one o a) bs met wide_at room = scanned_byte input results known (one o a) 0 _ bs met wide_at (omega (arith, room)) (omega arith)
starting input results known (two o a b) bs met wide_at room = scanned_byte input results known (two o a b) 0 _ bs met wide_at (omega (arith, room)) (omega arith)
starting input results known (choice c a b) bs met wide_at room = scanned_byte input results known (choice c a b) 0 _ bs met wide_at (omega (arith, room)) (omega arith)

-- what stands behind all entries is the initial byte
pub initial_pick : (p : ProgramData) (input : List ℕ) (results : Results) (known : List Tree) (x : ObjectName) (at : Tree)
    → are_met_by input known ≡ true → IsWide at → length (initial_bytes p.globals x) ≤ 2 ^ 64
    → pick input results (initial_at (constant_of at) known at (initial_bytes p.globals x)) ≡ history.initial p x (bits_under input at)
initial_pick p input results known x at met wide_at room =
    starting input results known at (initial_bytes p.globals x) met wide_at room ∙ sym (initial_is p x (bits_under input at))
