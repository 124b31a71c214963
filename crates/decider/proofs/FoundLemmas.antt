-- The bits of the input that a model names, one after the other.
use Rattle.std.proofs.Common.{◌≡◌, ◌<◌, ◌≤◌, ◌+◌, ◌-◌, ◌*◌, ◌/◌, ◌%◌, ◌^◌, ◌&&◌, ◌||◌, ℕ, zero, suc, Bool, true, false, eqb, get_or, List, [], ◌∷◌, ◌++◌, map, take, drop, length, refl, sym, ap, ap₂, subst, ◌∙◌, ⊎_elim, arith}
use Rattle.std.proofs.Common.{set as set_at}
use Rattle.std.specs.List.{All, AllByRecursion, list_any, filter, range_with_len}
use Rattle.std.proofs.lemmas.Bool.{cases_Bool, eqb-true, eqb-false, or_left, or_right, cond-true, cond-false}
use Rattle.std.proofs.lemmas.List.{get_or-set_same, get_or-set_other, get_or-take, get_or-drop, get_or-map, length-map, take_more, take_all}
use Rattle.std.proofs.lemmas.List.FromFn.{map-range_with_len_more, take-map-range_with_len}
use Rattle.std.proofs.lemmas.List.Elements.{All-from_recursion}
use Rattle.std.proofs.lemmas.List.Folds.{list_any-append}
use Rattle.std.proofs.lemmas.Map.Views.{any-filter_same}
use Rattle.gates.specs.Bits.{value, input}
use Rattle.gates.specs.Clauses.{occurs, inputs_of, all_inputs, names_of, number_of}
use Rattle.gate_clauses.specs.Marks.{position}
use Rattle.rows.specs.Numbers.{digit, read}
use Rattle.search.specs.Models.{assignment}
use Rattle.terms.specs.Tree.{Tree}
use Rattle.term_bits.specs.TermBits.{input_bits}
use Rattle.term_bits.specs.Conditions.{condition_bits}
use Rattle.condition_verdicts.specs.Inputs.{found_input}
use Rattle.decider.specs.Found.{AreInputsOf, HasBits, IsPlace, found_bit}

-- a byte

-- the number that the first bits are, from one on, the most significant first
pub front : (ℕ → Bool) → ℕ → ℕ → ℕ
front i first zero = 0
front i first (suc n) = 2 * front i first n + digit (i (first + n))

pub front_at : (i : ℕ → Bool) (first n : ℕ) → front i first (n + 1) ≡ 2 * front i first n + digit (i (first + n))
unfolding front
front_at i first n = let more : n + 1 ≡ suc n = omega arith in ap (front i first) more

pub front_none : (i : ℕ → Bool) (first : ℕ) → front i first 0 ≡ 0
unfolding front
front_none i first = refl

eight_digits : (a b c d e f g h first : ℕ) → first ≡ a → 2 * (2 * (2 * (2 * (2 * (2 * (2 * (0 + first) + b) + c) + d) + e) + f) + g) + h ≡ h + 2 * (g + 2 * (f + 2 * (e + 2 * (d + 2 * (c + 2 * (b + 2 * (a + 0)))))))
eight_digits a b c d e f g h first same = omega arith

pub front_whole : (i : ℕ → Bool) (k : ℕ) → front i (8 * k) 8 ≡ read i (input_bits k)
unfolding front read value
front_whole i k =
    let at : 8 * k + 0 ≡ 8 * k = omega arith in
    eight_digits (digit (i (8 * k))) (digit (i (8 * k + 1))) (digit (i (8 * k + 2))) (digit (i (8 * k + 3))) (digit (i (8 * k + 4))) (digit (i (8 * k + 5))) (digit (i (8 * k + 6))) (digit (i (8 * k + 7))) (digit (i (8 * k + 0))) (ap (λ m. digit (i m)) at)

pub one_more : (byte n d : ℕ) → byte < 2 ^ n → d < 2 → 2 * byte + d < 2 ^ (n + 1)
one_more byte n d low small =
    let double : 2 ^ suc n ≡ 2 * 2 ^ n = omega arith in
    let more : suc n ≡ n + 1 = omega arith in
    let here : 2 * byte + d < 2 ^ suc n = omega arith in
    subst (λ m. 2 * byte + d < 2 ^ m) more here

pub power_small : (n : ℕ) → n < 8 → 2 ^ n ≤ 128
power_small zero h = omega arith
power_small (suc zero) h = omega arith
power_small (suc (suc zero)) h = omega arith
power_small (suc (suc (suc zero))) h = omega arith
power_small (suc (suc (suc (suc zero)))) h = omega arith
power_small (suc (suc (suc (suc (suc zero))))) h = omega arith
power_small (suc (suc (suc (suc (suc (suc zero)))))) h = omega arith
power_small (suc (suc (suc (suc (suc (suc (suc zero))))))) h = omega arith
power_small (suc (suc (suc (suc (suc (suc (suc (suc n)))))))) h = absurd (omega arith)

-- all bits

-- what a variable says
abbrev pub says : List Tree → List Bool → ℕ → Bool
says c values k = assignment values (number_of (names_of (condition_bits c)) (input k))

-- of the input bits that occur the first n are written
pub HasFirst : List Tree → List Bool → ℕ → List Bool → Type 0
HasFirst c values n set = (k : ℕ) → k < 512 → get_or set k false ≡ (list_any (eqb k) (take n (inputs_of (condition_bits c))) && says c values k)

module _ (c : List Tree) (values : List Bool) where
  abbrev ks : List ℕ
  ks = inputs_of (condition_bits c)

  none_yet : (k : ℕ) → (list_any (eqb k) (take 0 ks) && says c values k) ≡ false
  none_yet k = refl

  -- nothing is written yet
  pub first_none : (set : List Bool) → ((k : ℕ) → k < 512 → get_or set k false ≡ false) → HasFirst c values 0 set
  unfolding HasFirst
  first_none set h k low = h k low

  either_bit : (found test says : Bool) → test ≡ false → ((found || (test || false)) && says) ≡ (found && says)
  either_bit true test says e = refl
  either_bit false test says e = ap (λ t. (t || false) && says) e

  own_bit : (found test says : Bool) → test ≡ true → ((found || (test || false)) && says) ≡ says
  own_bit true test says e = refl
  own_bit false test says e = ap (λ t. (t || false) && says) e

  taken : (n k j : ℕ) → n < length ks → get_or ks n 0 ≡ j → list_any (eqb k) (take (n + 1) ks) ≡ (list_any (eqb k) (take n ks) || (eqb k j || false))
  taken n k j low e =
      ap (list_any (eqb k)) (take_more ks n 0 low ∙ ap (λ x. take n ks ++ x ∷ []) e) ∙ list_any-append (eqb k) (take n ks) (j ∷ [])

  -- one bit more
  pub first_more : (n j : ℕ) (set : List Bool) → n < length ks → get_or ks n 0 ≡ j → j < 512 → length set ≡ 512 → HasFirst c values n set → HasFirst c values (n + 1) (set_at set j (says c values j))
  unfolding HasFirst
  first_more n j set low e below sized h k small =
      ⊎_elim (λ yes.
      let same : k ≡ j = eqb-true k j yes in
      ap (λ m. get_or (set_at set j (says c values j)) m false) same ∙ get_or-set_same set j (says c values j) false (omega arith) ∙ ap (says c values) (sym same) ∙ sym (ap (λ t. t && says c values k) (taken n k j low e) ∙ own_bit (list_any (eqb k) (take n ks)) (eqb k j) (says c values k) yes)) (λ no.
      get_or-set_other set j k (says c values j) false (apart k j no) ∙ h k small ∙ sym (ap (λ t. t && says c values k) (taken n k j low e) ∙ either_bit (list_any (eqb k) (take n ks)) (eqb k j) (says c values k) no)) (cases_Bool (eqb k j))
    where
      apart : (k j : ℕ) → eqb k j ≡ false → k ≡ j → ⊥
      apart k j unlike = eqb-false k j unlike

  -- the bit that stands at a place of the list
  pub first_next : (order : List ℕ) (bits : List (ℕ × ℕ)) (n at : ℕ) (value : Bool) (set : List Bool) → AreInputsOf c order bits → n < length bits → at < 512 → at ≡ 8 * (get_or bits n (0, 0)).0 + (7 - (get_or bits n (0, 0)).1) → value ≡ assignment values (get_or order n 0) → length set ≡ 512 → HasFirst c values n set → HasFirst c values (n + 1) (set_at set at value)
  first_next order bits n at value set names low within at_is value_is sized h =
      let j = get_or ks n 0 in
      let long : length bits ≡ length ks = ap length names.bits_are ∙ length-map ks position in
      let below : n < length ks = omega arith in
      let spot : get_or bits n (0, 0) ≡ (j / 8, 7 - j % 8) = ap (λ x. get_or x n (0, 0)) names.bits_are ∙ get_or-map position ks n 0 (0, 0) below in
      let byte : (get_or bits n (0, 0)).0 ≡ j / 8 = ap (λ x. x.0) spot in
      let bit : (get_or bits n (0, 0)).1 ≡ 7 - j % 8 = ap (λ x. x.1) spot in
      let here : at ≡ j = omega arith in
      let number : get_or order n 0 ≡ number_of (names_of (condition_bits c)) (input j) = ap (λ x. get_or x n 0) names.order_is ∙ get_or-map (λ k. number_of (names_of (condition_bits c)) (input k)) ks n 0 0 below in
      let says_so : value ≡ says c values j = value_is ∙ ap (assignment values) number in
      subst (λ x. HasFirst c values (n + 1) (set_at set x value)) (sym here) (subst (λ x. HasFirst c values (n + 1) (set_at set j x)) (sym says_so) (first_more n j set below refl (subst (λ x. x < 512) here within) sized h))

  -- all of them
  occurs_at : ℕ → Bool
  occurs_at k = list_any (occurs k) (condition_bits c)

  found_among : (k : ℕ) → k < 512 → list_any (eqb k) ks ≡ occurs_at k
  unfolding occurs_at all_inputs
  found_among k low =
      let same : (j : ℕ) → eqb k j ≡ true → list_any (occurs j) (condition_bits c) ≡ list_any (occurs k) (condition_bits c) = λ j e. ap (λ m. list_any (occurs m) (condition_bits c)) (sym (eqb-true k j e)) in
      any-filter_same (eqb k) (λ j. list_any (occurs j) (condition_bits c)) (list_any (occurs k) (condition_bits c)) same (range_with_len 0 512) ∙ ap (λ t. list_any (occurs k) (condition_bits c) && t) (in_range k 512 0 (omega arith) (omega arith)) ∙ and_true (list_any (occurs k) (condition_bits c))
    where
      and_true : (b : Bool) → (b && true) ≡ b
      and_true true = refl
      and_true false = refl

      later : (k a : ℕ) → eqb k a ≡ false → a ≤ k → a + 1 ≤ k
      later k a e from = let apart : k ≡ a → ⊥ = eqb-false k a e in omega (arith, apart)

      in_range : (k n a : ℕ) → a ≤ k → k < a + n → list_any (eqb k) (range_with_len a n) ≡ true
      in_range k zero a from to = absurd (omega arith)
      in_range k (suc n) a from to =
          ⊎_elim (λ here. or_left (eqb k a) (list_any (eqb k) (range_with_len (a + 1) n)) here) (λ other. or_right (eqb k a) (list_any (eqb k) (range_with_len (a + 1) n)) (in_range k n (a + 1) (later k a other from) (omega arith))) (cases_Bool (eqb k a))

  pub first_all : (order : List ℕ) (bits : List (ℕ × ℕ)) (n : ℕ) (set : List Bool) → AreInputsOf c order bits → length bits ≤ n → HasFirst c values n set → HasBits c values set
  unfolding HasFirst occurs_at
  first_all order bits n set names long h k low =
      let sized : length bits ≡ length ks = ap length names.bits_are ∙ length-map ks position in
      h k low ∙ ap (λ x. list_any (eqb k) x && says c values k) (take_all n ks (omega arith)) ∙ ap (λ t. t && says c values k) (found_among k low)

  -- the bytes

  pub byte_bits : (set : List Bool) (k n p : ℕ) → HasBits c values set → n ≡ 8 → p < 8 → k < 64 → get_or (take n (drop (8 * k) set)) p false ≡ found_bit c values (8 * k + p)
  byte_bits set k n p h size low few =
      get_or-take n (drop (8 * k) set) p false (omega arith) ∙ get_or-drop (8 * k) set p false ∙ h (8 * k + p) (omega arith)

  pub input_more : (old new : List ℕ) (k byte : ℕ) → new ≡ old ++ byte ∷ [] → old ≡ map (λ j. read (found_bit c values) (input_bits j)) (range_with_len 0 k) → byte ≡ read (found_bit c values) (input_bits k) → new ≡ map (λ j. read (found_bit c values) (input_bits j)) (range_with_len 0 (k + 1))
  input_more old new k byte pushed so_far is =
      let f : ℕ → ℕ = λ j. read (found_bit c values) (input_bits j) in
      pushed ∙ ap₂ (λ xs x. xs ++ x ∷ []) so_far is ∙ sym (map-range_with_len_more f 0 k k (omega arith))

  pub input_whole : (bytes : List ℕ) (inputs k : ℕ) → inputs ≤ 64 → k ≡ inputs → bytes ≡ map (λ j. read (found_bit c values) (input_bits j)) (range_with_len 0 k) → bytes ≡ take inputs (found_input c values)
  input_whole bytes inputs k few end is =
      let f : ℕ → ℕ = λ j. read (found_bit c values) (input_bits j) in
      is ∙ ap (λ n. map f (range_with_len 0 n)) end ∙ sym (take-map-range_with_len f 0 64 inputs few)

-- the places of the bits

places_below : (p : ℕ → Bool) (n a : ℕ) → a + n ≤ 512 → AllByRecursion IsPlace (map position (filter p (range_with_len a n)))
places_below p zero a h = tt
places_below p (suc n) a h =
    let rest = places_below p n (a + 1) (omega arith) in
    let byte : a / 8 < 64 = omega arith in
    let bit : 7 - a % 8 < 8 = omega arith in
    let P : List ℕ → Type 0 = λ ks. AllByRecursion IsPlace (map position ks) in
    ⊎_elim (λ with_it. subst P (sym (cond-true (p a) (a ∷ filter p (range_with_len (a + 1) n)) (filter p (range_with_len (a + 1) n)) with_it)) ((byte, bit), rest)) (λ without. subst P (sym (cond-false (p a) (a ∷ filter p (range_with_len (a + 1) n)) (filter p (range_with_len (a + 1) n)) without)) rest) (cases_Bool (p a))

pub are_places : (c : List Tree) (places : List (ℕ × ℕ)) → places ≡ map position (inputs_of (condition_bits c)) → All IsPlace places
unfolding all_inputs
are_places c places e =
    subst (All IsPlace) (sym e) (All-from_recursion IsPlace (map position (inputs_of (condition_bits c))) (places_below (λ k. list_any (occurs k) (condition_bits c)) 512 0 (omega arith)))
