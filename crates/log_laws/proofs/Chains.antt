-- The byte that a chain gives under an input is the one that the entries' changes leave.
use Rattle.std.proofs.Common.{◌≡◌, ℕ, Bool, true, false, List, [], ◌∷◌, ◌++◌, length, Option, Some, None, ◌⊎◌, inl, inr, ◌+◌, ◌%◌, ◌^◌, ◌==◌, ◌&&◌, ◌<◌, ◌≤◌, refl, sym, ap, ◌∙◌, arith}
use Rattle.std.specs.Prelude.{cond}
use Rattle.std.proofs.lemmas.Bool.{eqb-true, ne_eqb}
use Rattle.bitnum.specs.Number.{Number}
use Rattle.terms.specs.Tree.{Tree}
use Rattle.terms.specs.Value.{truth, is_yes, value_of}
use Rattle.terms.proofs.Folds.{value-folded_choice}
use Rattle.term_store.specs.Condition.{answer}
use Rattle.term_store.specs.declared.conditions.Added.{Added}
use Rattle.term_store.specs.declared.conditions.Added.TheVariants.{Held, Appended, Contradicted}
use Rattle.flat_ir.specs.declared.names.ObjectName.{ObjectName}
use Rattle.flat_ir.specs.declared.values.ConcreteByte.{ConcreteByte}
use Rattle.flat_ir.specs.declared.values.ConcreteByte.TheVariants as concrete
use Rattle.flat_ir.specs.History.{Write, Alloc, Free, Get, Put, History, same_object}
use Rattle.sym_bytes.specs.Entry.{Entry}
use Rattle.sym_bytes.specs.Entry as entry
use Rattle.sym_bytes.specs.Answers.{Byte, Undecided}
use Rattle.sym_bytes.specs.Byte.{SymByte}
use Rattle.sym_bytes.specs.Byte as byte
use Rattle.sym_bytes.specs.Building.{equal, behind}
use Rattle.sym_bytes.specs.Joining.{int_of}
use Rattle.sym_bytes.specs.Under.{Results, bits_under, byte_under}
use Rattle.log_laws.specs.Standing.{writes_under, all_under}
use Rattle.log_laws.specs.Law.{byte_over}
use Rattle.sym_bytes.specs.Fitting.{IsWide, AreEntries}
use Rattle.terms.specs.Value.{are_met_by}
use Rattle.log_laws.specs.Reading.{Candidate, Chain, candidates_of, sure_if, sure_of, open_if, open_of, chained, chain_through, choose, term_of, undecided, answer_of}
use Rattle.log_laws.proofs.Tested.{held_value, contradicted_value, equal_is, equal_value, behind_is, behind_value, truth_one, truth_zero, yes_truth}

-- the byte of the first candidate whose test is 1 under the input
abbrev pub pick_of : List ℕ → Results → List Candidate → SymByte → ConcreteByte
pick_of input results [] last = byte_under input results last
pick_of input results (c ∷ cs) last = cond (is_yes (value_of c.test input)) (byte_under input results c.found) (pick_of input results cs last)

abbrev pub pick : List ℕ → Results → Chain → ConcreteByte
pick input results chain = pick_of input results chain.candidates chain.last

-- ---- the answer

int_byte : (input : List ℕ) (results : Results) (b : SymByte) (t : Tree) → int_of b ≡ Some t → concrete.Int (bits_under input t) ≡ byte_under input results b
int_byte input results (byte.Int u) t e = ap (λ o. concrete.Int (bits_under input (elim o [ Some x ↦ x | None ↦ u ]))) (sym e)
int_byte input results (byte.PtrByte p j) t e = cc
int_byte input results (byte.PendingByte c u j) t e = cc

chosen_byte : (test : Bool) (a b : ℕ) (x y : ConcreteByte) → concrete.Int a ≡ x → concrete.Int b ≡ y → concrete.Int (cond test a b) ≡ cond test x y
chosen_byte true a b x y p q = p
chosen_byte false a b x y p q = q

cond_bits : (test : Bool) (m n : Number) → (cond test m n).bits ≡ cond test m.bits n.bits
cond_bits true m n = refl
cond_bits false m n = refl

choose_byte : (input : List ℕ) (test : Tree) (a b : Option Tree) (x y : ConcreteByte) (t : Tree)
    → ((u : Tree) → a ≡ Some u → concrete.Int (bits_under input u) ≡ x) → ((u : Tree) → b ≡ Some u → concrete.Int (bits_under input u) ≡ y)
    → choose test a b ≡ Some t → concrete.Int (bits_under input t) ≡ cond (is_yes (value_of test input)) x y
choose_byte input test (Some a) (Some b) x y t p q e =
    ap (λ o. concrete.Int (bits_under input (elim o [ Some u ↦ u | None ↦ t ]))) (sym e)
    ∙ ap (λ n. concrete.Int n) (ap (λ n. n.bits) (value-folded_choice test a b input) ∙ cond_bits (is_yes (value_of test input)) (value_of a input) (value_of b input))
    ∙ chosen_byte (is_yes (value_of test input)) (bits_under input a) (bits_under input b) x y (p a refl) (q b refl)
choose_byte input test (Some a) None x y t p q e = cc
choose_byte input test None b x y t p q e = cc

term_byte : (input : List ℕ) (results : Results) (cs : List Candidate) (last : SymByte) (t : Tree) → term_of cs last ≡ Some t → concrete.Int (bits_under input t) ≡ pick_of input results cs last
term_byte input results [] last t e = int_byte input results last t e
term_byte input results (c ∷ cs) last t e =
    choose_byte input c.test (int_of c.found) (term_of cs last) (byte_under input results c.found) (pick_of input results cs last) t
    (int_byte input results c.found) (term_byte input results cs last) e

undecided_byte : (input : List ℕ) (results : Results) (cs : List Candidate) (last b : SymByte) → undecided cs last ≡ Byte b → byte_under input results b ≡ pick_of input results cs last
undecided_byte input results [] last b e = ap (λ r. byte_under input results (elim r [ Byte x ↦ x | Undecided t ↦ b ])) (sym e)
undecided_byte input results (c ∷ cs) last b e = cc

answered : (input : List ℕ) (results : Results) (cs : List Candidate) (last b : SymByte) (o : Option Tree) → term_of cs last ≡ o
    → elim o [ Some t ↦ Byte (byte.Int t) | None ↦ undecided cs last ] ≡ Byte b → byte_under input results b ≡ pick_of input results cs last
answered input results cs last b (Some t) is e =
    ap (λ r. byte_under input results (elim r [ Byte x ↦ x | Undecided u ↦ b ])) (sym e) ∙ term_byte input results cs last t is
answered input results cs last b None is e = undecided_byte input results cs last b e

-- the byte that a chain answers is the first whose test is 1
pub answer_byte : (input : List ℕ) (results : Results) (chain : Chain) (b : SymByte) → answer_of chain ≡ Byte b → byte_under input results b ≡ pick input results chain
answer_byte input results chain b e = answered input results chain.candidates chain.last b (term_of chain.candidates chain.last) refl e

-- ---- changes in a row

pub over_append : (before : ConcreteByte) (g h : History) (x : ObjectName) (k : ℕ) → byte_over before (g ++ h) x k ≡ byte_over (byte_over before h x k) g x k
over_append before [] h x k = refl
over_append before (Write y j b ∷ g) h x k = ap (λ c. cond (same_object x y && (j == k)) b c) (over_append before g h x k)
over_append before (Alloc y size ∷ g) h x k = over_append before g h x k
over_append before (Free y ∷ g) h x k = over_append before g h x k
over_append before (Get ∷ g) h x k = over_append before g h x k
over_append before (Put b ∷ g) h x k = over_append before g h x k

-- the bytes of a write of another object
other_write : (input : List ℕ) (results : Results) (x y : ObjectName) (u j k : ℕ) (before : ConcreteByte) (bs : List SymByte)
    → same_object x y ≡ false → byte_over before (writes_under input results y u j bs) x k ≡ before
other_write input results x y u j k before [] e = refl
other_write input results x y u j k before (b ∷ bs) e =
    over_append before (writes_under input results y u (j + 1) bs) (Write y ((u + j) % 2 ^ 64) (byte_under input results b) ∷ []) x k
    ∙ other_write input results x y u (j + 1) k _ bs e
    ∙ ap (λ t. cond (t && (((u + j) % 2 ^ 64) == k)) (byte_under input results b) before) e

-- the bytes of a write of this object, the first one first
one_write : (input : List ℕ) (results : Results) (x y : ObjectName) (before : ConcreteByte) (u j k : ℕ) (b : SymByte) (bs : List SymByte)
    → same_object x y ≡ true → byte_over before (writes_under input results y u j (b ∷ bs)) x k
    ≡ byte_over (cond (((u + j) % 2 ^ 64) == k) (byte_under input results b) before) (writes_under input results y u (j + 1) bs) x k
one_write input results x y before u j k b bs e =
    over_append before (writes_under input results y u (j + 1) bs) (Write y ((u + j) % 2 ^ 64) (byte_under input results b) ∷ []) x k
    ∙ ap (λ t. byte_over (cond (t && (((u + j) % 2 ^ 64) == k)) (byte_under input results b) before) (writes_under input results y u (j + 1) bs) x k) e

places_differ : (u j i k : ℕ) → j < i → i < 8 → (u + j) % 2 ^ 64 ≡ k → (u + i) % 2 ^ 64 ≡ k → ⊥
places_differ u j i k less small p q = omega arith

-- behind a byte that was hit none of the same write is
missed : (input : List ℕ) (results : Results) (x y : ObjectName) (before : ConcreteByte) (u j i k : ℕ) (bs : List SymByte)
    → same_object x y ≡ true → j < i → i + length bs ≤ 8 → (u + j) % 2 ^ 64 ≡ k
    → byte_over before (writes_under input results y u i bs) x k ≡ before
missed input results x y before u j i k [] e less room hit = refl
missed input results x y before u j i k (b ∷ bs) e less room hit =
    one_write input results x y before u i k b bs e
    ∙ ap (λ t. byte_over (cond t (byte_under input results b) before) (writes_under input results y u (i + 1) bs) x k)
    (ne_eqb ((u + i) % 2 ^ 64) k (places_differ u j i k less (omega (arith, room)) hit))
    ∙ missed input results x y before u j (i + 1) k bs e (omega (arith, less)) (omega (arith, room)) hit

-- ---- the chain

-- the candidate of a byte has the value of its place being the one looked for
candidate_value : (input : List ℕ) (at offset : Tree) (j : ℕ) → IsWide at → IsWide offset → j < 8
    → value_of (equal (behind offset j) at) input ≡ truth (((bits_under input offset + j) % 2 ^ 64) == bits_under input at)
candidate_value input at offset j wide_at wide_offset small =
    let fits : j < 2 ^ 64 = omega (arith, small) in
    equal_value (behind offset j) at input (behind_is offset j wide_offset fits) wide_at
    ∙ ap (λ n. truth (n == bits_under input at)) (behind_value offset j input wide_offset fits)

some_is : (b c : SymByte) (more : Option SymByte) (a : Added) → sure_if a c more ≡ Some b → ((a ≡ Held) × (c ≡ b)) ⊎ (more ≡ Some b)
some_is b c more Held e = inl (refl, ap (λ o. elim o [ Some x ↦ x | None ↦ c ]) e)
some_is b c more Appended e = inr e
some_is b c more Contradicted e = inr e

-- a byte that is sure is the last one written
sure_byte : (input : List ℕ) (results : Results) (known : List Tree) (x y : ObjectName) (at offset : Tree) (j : ℕ) (before : ConcreteByte) (bs : List SymByte) (b : SymByte)
    → are_met_by input known ≡ true → IsWide at → IsWide offset → j + length bs ≤ 8 → same_object x y ≡ true
    → sure_of known (candidates_of at offset j bs) ≡ Some b
    → byte_over before (writes_under input results y (bits_under input offset) j bs) x (bits_under input at) ≡ byte_under input results b
sure_byte input results known x y at offset j before [] b met wide_at wide_offset room same e = cc
sure_byte input results known x y at offset j before (c ∷ bs) b met wide_at wide_offset room same e =
    let u = bits_under input offset in
    let k = bits_under input at in
    one_write input results x y before u j k c bs same
    ∙ (elim (some_is b c (sure_of known (candidates_of at offset (j + 1) bs)) (answer known (equal (behind offset j) at)) e) [
      | inl is ↦
          let hit : (((u + j) % 2 ^ 64) == k) ≡ true = truth_one _ (sym (ap (λ n. n.bits) (candidate_value input at offset j wide_at wide_offset (omega (arith, room)))) ∙ held_value known (equal (behind offset j) at) input met is.0) in
          ap (λ t. byte_over (cond t (byte_under input results c) before) (writes_under input results y u (j + 1) bs) x k) hit
          ∙ missed input results x y (byte_under input results c) u j (j + 1) k bs same (omega arith) (omega (arith, room)) (eqb-true _ _ hit)
          ∙ ap (byte_under input results) is.1
      | inr more ↦ sure_byte input results known x y at offset (j + 1) _ bs b met wide_at wide_offset (omega (arith, room)) same more
    ])

-- candidates in front of others, of which one more may drop out
open_cons : (input : List ℕ) (results : Results) (known : List Tree) (c : Candidate) (cs more : List Candidate) (last : SymByte) (a : Added)
    → (a ≡ Contradicted → is_yes (value_of c.test input) ≡ false)
    → pick_of input results (open_if a c cs ++ more) last ≡ cond (is_yes (value_of c.test input)) (byte_under input results c.found) (pick_of input results (cs ++ more) last)
open_cons input results known c cs more last Held zero_if = refl
open_cons input results known c cs more last Appended zero_if = refl
open_cons input results known c cs more last Contradicted zero_if =
    sym (ap (λ t. cond t (byte_under input results c.found) (pick_of input results (cs ++ more) last)) (zero_if refl))

by_hit : (hit : Bool) (b before : ConcreteByte) (f : ConcreteByte → ConcreteByte) → (hit ≡ true → f b ≡ b) → cond hit b (f before) ≡ f (cond hit b before)
by_hit true b before f h = sym (h refl)
by_hit false b before f h = refl

-- the open candidates of a write, and what stands behind them
open_byte : (input : List ℕ) (results : Results) (known : List Tree) (x y : ObjectName) (at offset : Tree) (more : List Candidate) (last : SymByte) (j : ℕ) (bs : List SymByte)
    → are_met_by input known ≡ true → IsWide at → IsWide offset → j + length bs ≤ 8 → same_object x y ≡ true
    → pick_of input results (open_of known (candidates_of at offset j bs) ++ more) last
    ≡ byte_over (pick_of input results more last) (writes_under input results y (bits_under input offset) j bs) x (bits_under input at)
open_byte input results known x y at offset more last j [] met wide_at wide_offset room same = refl
open_byte input results known x y at offset more last j (c ∷ bs) met wide_at wide_offset room same =
    let u = bits_under input offset in
    let k = bits_under input at in
    let test = equal (behind offset j) at in
    let fits : j < 2 ^ 64 = omega (arith, room) in
    let value = candidate_value input at offset j wide_at wide_offset (omega (arith, room)) in
    let yes : is_yes (value_of test input) ≡ (((u + j) % 2 ^ 64) == k) = ap is_yes value ∙ yes_truth (((u + j) % 2 ^ 64) == k) in
    let later = open_of known (candidates_of at offset (j + 1) bs) in
    open_cons input results known (record { test = test; found = c }) later more last (answer known test)
    (λ e. yes ∙ truth_zero _ (sym (ap (λ n. n.bits) value) ∙ contradicted_value known test input (equal_is (behind offset j) at (behind_is offset j wide_offset fits) wide_at) met e))
    ∙ ap (λ d. cond (is_yes (value_of test input)) (byte_under input results c) d) (open_byte input results known x y at offset more last (j + 1) bs met wide_at wide_offset (omega (arith, room)) same)
    ∙ ap (λ t. cond t (byte_under input results c) (byte_over (pick_of input results more last) (writes_under input results y u (j + 1) bs) x k)) yes
    ∙ by_hit (((u + j) % 2 ^ 64) == k) (byte_under input results c) (pick_of input results more last) (λ d. byte_over d (writes_under input results y u (j + 1) bs) x k)
    (λ hit. missed input results x y (byte_under input results c) u j (j + 1) k bs same (omega arith) (omega (arith, room)) (eqb-true _ _ hit))
    ∙ sym (one_write input results x y (pick_of input results more last) u j k c bs same)

chained_byte : (input : List ℕ) (results : Results) (known : List Tree) (x y : ObjectName) (at offset : Tree) (bs : List SymByte) (rest : Chain) (o : Option SymByte)
    → are_met_by input known ≡ true → IsWide at → IsWide offset → length bs ≤ 8 → same_object x y ≡ true
    → sure_of known (candidates_of at offset 0 bs) ≡ o
    → pick input results (chained o (open_of known (candidates_of at offset 0 bs)) rest)
    ≡ byte_over (pick input results rest) (writes_under input results y (bits_under input offset) 0 bs) x (bits_under input at)
chained_byte input results known x y at offset bs rest (Some b) met wide_at wide_offset room same is =
    sym (sure_byte input results known x y at offset 0 (pick input results rest) bs b met wide_at wide_offset (omega (arith, room)) same is)
chained_byte input results known x y at offset bs rest None met wide_at wide_offset room same is =
    open_byte input results known x y at offset rest.candidates rest.last 0 bs met wide_at wide_offset (omega (arith, room)) same

-- one write, of this object or another
written_byte : (input : List ℕ) (results : Results) (known : List Tree) (x y : ObjectName) (at offset : Tree) (bs : List SymByte) (rest : Chain) (same : Bool)
    → are_met_by input known ≡ true → IsWide at → IsWide offset → length bs ≤ 8 → same_object x y ≡ same
    → pick input results (cond same (chained (sure_of known (candidates_of at offset 0 bs)) (open_of known (candidates_of at offset 0 bs)) rest) rest)
    ≡ byte_over (pick input results rest) (writes_under input results y (bits_under input offset) 0 bs) x (bits_under input at)
written_byte input results known x y at offset bs rest true met wide_at wide_offset room is =
    chained_byte input results known x y at offset bs rest (sure_of known (candidates_of at offset 0 bs)) met wide_at wide_offset room is refl
written_byte input results known x y at offset bs rest false met wide_at wide_offset room is =
    sym (other_write input results x y (bits_under input offset) 0 (bits_under input at) (pick input results rest) bs is)

-- a chain through entries picks the byte that their changes leave
pub through_byte : (input : List ℕ) (results : Results) (known : List Tree) (x : ObjectName) (at : Tree) (behind_all : Chain) (es : List Entry)
    → are_met_by input known ≡ true → IsWide at → AreEntries es
    → pick input results (chain_through known x at es behind_all) ≡ byte_over (pick input results behind_all) (all_under input results es) x (bits_under input at)
through_byte input results known x at behind_all [] met wide_at right = refl
through_byte input results known x at behind_all (entry.Write y offset bs ∷ es) met wide_at right =
    written_byte input results known x y at offset bs (chain_through known x at es behind_all) (same_object x y) met wide_at right.0.0 right.0.1 refl
    ∙ ap (λ d. byte_over d (writes_under input results y (bits_under input offset) 0 bs) x (bits_under input at)) (through_byte input results known x at behind_all es met wide_at right.1)
    ∙ sym (over_append (pick input results behind_all) (writes_under input results y (bits_under input offset) 0 bs) (all_under input results es) x (bits_under input at))
through_byte input results known x at behind_all (entry.Alloc y size ∷ es) met wide_at right = through_byte input results known x at behind_all es met wide_at right.1
through_byte input results known x at behind_all (entry.Free y ∷ es) met wide_at right = through_byte input results known x at behind_all es met wide_at right.1
through_byte input results known x at behind_all (entry.Put t ∷ es) met wide_at right = through_byte input results known x at behind_all es met wide_at right.1
through_byte input results known x at behind_all (entry.Get ∷ es) met wide_at right = through_byte input results known x at behind_all es met wide_at right.1
