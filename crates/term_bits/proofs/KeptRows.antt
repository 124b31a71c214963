-- What constants and input bits have and folding keeps, the bits of terms have.
use Rattle.std.proofs.Common.{ℕ, zero, suc, Bool, true, false, cond, ◌-◌, ◌*◌, ◌/◌, ◌%◌, ltb, eqb, List, [], ◌∷◌, ◌++◌, length, take, drop}
use Rattle.std.specs.List.{AllByRecursion}
use Rattle.gates.specs.Bits.{Bit, constant, fold_not}
use Rattle.gates.proofs.NameLemmas.{All_append}
use Rattle.rows.specs.Rows.{fold_mux, fills, zeros, constant_bits, chosen, inverted, added, subtracted, opposite, masked, moved_up, moved_down, multiplied, product, less, top, top_turned, moved_by, too_far, guarded, Division, next_division, division, negated_if, absolute, widened, byte_at}
use Rattle.rows.proofs.KeptLemmas.{IsKept, kept-mux, kept-each, kept-added, kept-below}

module _ (P : Bit → Type 0) (kept : IsKept P) where
  pub kept-fills : (n : ℕ) (b : Bit) → P b → AllByRecursion P (fills n b)
  unfolding fills
  kept-fills zero b p = tt
  kept-fills (suc n) b p = (p, kept-fills n b p)

  pub kept-zeros : (n : ℕ) → AllByRecursion P (zeros n)
  kept-zeros n = kept-fills n (constant false) (kept.constants false)

  pub kept-constant_bits : (w n : ℕ) → AllByRecursion P (constant_bits w n)
  unfolding constant_bits
  kept-constant_bits zero n = tt
  kept-constant_bits (suc w) n = (kept.constants (eqb (n % 2) 1), kept-constant_bits w (n / 2))

  pub kept-take : (n : ℕ) (xs : List Bit) → AllByRecursion P xs → AllByRecursion P (take n xs)
  kept-take zero xs p = tt
  kept-take (suc n) [] p = tt
  kept-take (suc n) (x ∷ xs) p = (p.0, kept-take n xs p.1)

  pub kept-drop : (n : ℕ) (xs : List Bit) → AllByRecursion P xs → AllByRecursion P (drop n xs)
  kept-drop zero xs p = p
  kept-drop (suc n) [] p = tt
  kept-drop (suc n) (x ∷ xs) p = kept-drop n xs p.1

  pub kept-inverted : (xs : List Bit) → AllByRecursion P xs → AllByRecursion P (inverted xs)
  unfolding inverted
  kept-inverted [] p = tt
  kept-inverted (x ∷ xs) p = (kept.negations x p.0, kept-inverted xs p.1)

  pub kept-chosen : (c : Bit) (xs ys : List Bit) → P c → AllByRecursion P xs → AllByRecursion P ys → AllByRecursion P (chosen c xs ys)
  kept-chosen c xs ys r p q = kept-each P kept (fold_mux c) (λ a b h k. kept-mux P kept c a b r h k) xs ys p q

  pub kept-subtracted : (xs ys : List Bit) → AllByRecursion P xs → AllByRecursion P ys → AllByRecursion P (subtracted xs ys)
  kept-subtracted xs ys p q =
      kept-added P kept (constant true) xs (inverted ys) (kept.constants true) p (kept-inverted ys q)

  kept-opposite : (xs : List Bit) → AllByRecursion P xs → AllByRecursion P (opposite xs)
  kept-opposite xs p =
      kept-added P kept (constant true) (inverted xs) (zeros (length xs)) (kept.constants true) (kept-inverted xs p) (kept-zeros (length xs))

  kept-masked : (b : Bit) (xs : List Bit) → P b → AllByRecursion P xs → AllByRecursion P (masked b xs)
  unfolding masked
  kept-masked b [] q p = tt
  kept-masked b (x ∷ xs) q p = (kept.conjunctions x b p.0 q, kept-masked b xs q p.1)

  pub kept-moved_up : (by : ℕ) (xs : List Bit) → AllByRecursion P xs → AllByRecursion P (moved_up by xs)
  kept-moved_up by xs p =
      kept-take (length xs) (zeros by ++ xs) (All_append P (zeros by) xs (kept-zeros by) p)

  pub kept-moved_down : (fill : Bit) → P fill → (by : ℕ) (xs : List Bit) → AllByRecursion P xs → AllByRecursion P (moved_down fill by xs)
  kept-moved_down fill q by xs p =
      kept-take (length xs) (drop by xs ++ fills by fill) (All_append P (drop by xs) (fills by fill) (kept-drop by xs p) (kept-fills by fill q))

  kept-multiplied : (sum xs ys : List Bit) → AllByRecursion P sum → AllByRecursion P xs → AllByRecursion P ys → AllByRecursion P (multiplied sum xs ys)
  unfolding multiplied
  kept-multiplied sum xs [] r p q = r
  kept-multiplied sum xs (b ∷ ys) r p q =
      kept-multiplied (added (constant false) sum (masked b xs)) (moved_up 1 xs) ys (kept-added P kept (constant false) sum (masked b xs) (kept.constants false) r (kept-masked b xs q.0 p)) (kept-moved_up 1 xs p) q.1

  pub kept-product : (xs ys : List Bit) → AllByRecursion P xs → AllByRecursion P ys → AllByRecursion P (product xs ys)
  kept-product xs ys p q = kept-multiplied (zeros (length xs)) xs ys (kept-zeros (length xs)) p q

  pub kept-less : (xs ys : List Bit) → AllByRecursion P xs → AllByRecursion P ys → P (less xs ys)
  kept-less xs ys p q = kept-below P kept (constant false) xs ys (kept.constants false) p q

  pub kept-top : (xs : List Bit) → AllByRecursion P xs → P (top xs)
  unfolding top
  kept-top [] p = kept.constants false
  kept-top (a ∷ []) p = p.0
  kept-top (a ∷ b ∷ xs) p = kept-top (b ∷ xs) p.1

  pub kept-top_turned : (xs : List Bit) → AllByRecursion P xs → AllByRecursion P (top_turned xs)
  unfolding top_turned
  kept-top_turned [] p = tt
  kept-top_turned (a ∷ []) p = (kept.negations a p.0, tt)
  kept-top_turned (a ∷ b ∷ xs) p = (p.0, kept-top_turned (b ∷ xs) p.1)

  either : (c : Bool) (xs ys : List Bit) → AllByRecursion P xs → AllByRecursion P ys → AllByRecursion P (cond c xs ys)
  either true xs ys p q = p
  either false xs ys p q = q

  pub kept-moved_by : (move : ℕ → List Bit → List Bit) → ((by : ℕ) (xs : List Bit) → AllByRecursion P xs → AllByRecursion P (move by xs)) → (by : ℕ) (xs ys : List Bit) → AllByRecursion P xs → AllByRecursion P ys → AllByRecursion P (moved_by move by xs ys)
  unfolding moved_by
  kept-moved_by move h by xs [] p q = p
  kept-moved_by move h by xs (b ∷ ys) p q =
      either (ltb by (length xs)) (moved_by move (2 * by) (chosen b (move by xs) xs) ys) xs (kept-moved_by move h (2 * by) (chosen b (move by xs) xs) ys (kept-chosen b (move by xs) xs q.0 (h by xs p) p) q.1) p

  pub kept-too_far : (ys : List Bit) → AllByRecursion P ys → P (too_far ys)
  kept-too_far ys q =
      kept.negations (less ys (constant_bits (length ys) (length ys))) (kept-less ys (constant_bits (length ys) (length ys)) q (kept-constant_bits (length ys) (length ys)))

  pub kept-guarded : (far : Bit) (xs : List Bit) → P far → AllByRecursion P xs → AllByRecursion P (guarded far xs)
  unfolding guarded
  kept-guarded far [] q p = tt
  kept-guarded far (a ∷ xs) q p =
      (kept.conjunctions (fold_not far) a (kept.negations far q) p.0, kept-guarded far xs q p.1)

  AreKept : Division → Type 0
  AreKept d = AllByRecursion P d.quotient × AllByRecursion P d.remainder

  kept-next : (ys : List Bit) (a : Bit) (d : Division) → AllByRecursion P ys → P a → AreKept d → AreKept (next_division ys a d)
  unfolding AreKept
  kept-next ys a d q p r =
      let rest : List Bit = a ∷ d.remainder in
      let wide : List Bit = ys ++ constant false ∷ [] in
      let rest_kept : AllByRecursion P rest = (p, r.1) in
      let wide_kept : AllByRecursion P wide = All_append P ys (constant false ∷ []) q (kept.constants false, tt) in
      let fits : P (fold_not (less rest wide)) = kept.negations (less rest wide) (kept-less rest wide rest_kept wide_kept) in (
        (fits, r.0),
        kept-take (length ys) (chosen (fold_not (less rest wide)) (subtracted rest wide) rest) (kept-chosen (fold_not (less rest wide)) (subtracted rest wide) rest fits (kept-subtracted rest wide rest_kept wide_kept) rest_kept),
      )

  kept-division : (xs ys : List Bit) → AllByRecursion P xs → AllByRecursion P ys → AreKept (division xs ys)
  unfolding division
  kept-division [] ys p q = unfold AreKept in (tt, kept-zeros (length ys))
  kept-division (a ∷ xs) ys p q = kept-next ys a (division xs ys) q p.0 (kept-division xs ys p.1 q)

  pub kept-quotient : (xs ys : List Bit) → AllByRecursion P xs → AllByRecursion P ys → AllByRecursion P (division xs ys).quotient
  unfolding AreKept
  kept-quotient xs ys p q = (kept-division xs ys p q).0

  pub kept-remainder : (xs ys : List Bit) → AllByRecursion P xs → AllByRecursion P ys → AllByRecursion P (division xs ys).remainder
  unfolding AreKept
  kept-remainder xs ys p q = (kept-division xs ys p q).1

  pub kept-negated_if : (test : Bit) (xs : List Bit) → P test → AllByRecursion P xs → AllByRecursion P (negated_if test xs)
  kept-negated_if test xs q p = kept-chosen test (opposite xs) xs q (kept-opposite xs p) p

  pub kept-absolute : (xs : List Bit) → AllByRecursion P xs → AllByRecursion P (absolute xs)
  kept-absolute xs p = kept-negated_if (top xs) xs (kept-top xs p) p

  pub kept-widened : (width : ℕ) (fill : Bit) (xs : List Bit) → P fill → AllByRecursion P xs → AllByRecursion P (widened width fill xs)
  kept-widened width fill xs q p = All_append P xs (fills (width - length xs) fill) p (kept-fills (width - length xs) fill q)

  pub kept-byte_at : (j : ℕ) (xs : List Bit) → AllByRecursion P xs → AllByRecursion P (byte_at j xs)
  kept-byte_at j xs p = kept-take 8 (drop (8 * j) xs) (kept-drop (8 * j) xs p)
