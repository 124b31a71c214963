-- Constants, moves, products, shifts and divisions of rows.
use Rattle.std.proofs.Common.{◌≡◌, ◌<◌, ◌≤◌, ◌+◌, ◌-◌, ◌*◌, ◌/◌, ◌%◌, ℕ, zero, suc, false, ltb, eqb, List, [], ◌∷◌, ◌++◌, length, take, drop, get_or, replicate, refl, sym, ap, ap₂, ◌∙◌, arith, length-append, length-drop}
use Rattle.std.proofs.lemmas.Bool.{cond-true, cond-false, lt-ltb, le-ltb}
use Rattle.std.proofs.lemmas.List.{length-take-le, length-replicate}
use Rattle.gates.specs.Bits.{Bit, constant, fold_not, fold_and}
use Rattle.nodes.specs.declared.table.Node.{Node}
use Rattle.nodes.specs.Nodes.{bit_at, Grows}
use Rattle.nodes.specs.Names.{bits_at, AreWithin}
use Rattle.nodes.proofs.GrowthLemmas.{stays, within_take, within_drop, within_append, within_replicate, bits_at-more, bits_at-past, bits_at-take, bits_at-drop, bits_at-append, length-bits_at}
use Rattle.rows.specs.Rows.{fills, constant_bits, each, added, masked, guarded, multiplied, top, moved_up, moved_down, moved_by, chosen, less, subtracted, Division, division, next_division}
use Rattle.row_nodes.specs.Divisions.{trial}
use Rattle.row_nodes.specs.declared.shifts.Move.{Move}
use Rattle.row_nodes.specs.declared.shifts.Move.TheVariants.{Up, Down}
use Rattle.row_nodes.specs.Moves.{places_moved, bits_moved, FillsWithin}
use Rattle.row_nodes.proofs.RowLemmas.{bits_at-replicate}

-- constants and the top

pub constant_more : (width i n : ℕ) → i < width → constant_bits (width - i) n ≡ constant (eqb (n % 2) 1) ∷ constant_bits (width - (i + 1)) (n / 2)
unfolding constant_bits
constant_more width i n h = let e : width - i ≡ suc (width - (i + 1)) = omega arith in rw e refl

pub constant_past : (width i n : ℕ) → width ≤ i → constant_bits (width - i) n ≡ []
unfolding constant_bits
constant_past width i n h = let e : width - i ≡ 0 = omega arith in rw e refl

pub top_at : (nodes : List Node) (ks : List ℕ) (n : ℕ) → length ks ≡ n + 1 → bit_at nodes (get_or ks n 0) ≡ top (bits_at nodes ks)
unfolding bits_at top
top_at nodes [] n h = absurd (omega arith)
top_at nodes (k ∷ []) zero h = refl
top_at nodes (k ∷ []) (suc n) h = absurd (omega arith)
top_at nodes (k ∷ m ∷ ks) zero h = absurd (omega arith)
top_at nodes (k ∷ m ∷ ks) (suc n) h = top_at nodes (m ∷ ks) n (omega arith)

-- one bit beside a row

pub masked_each : (b : Bit) (xs : List Bit) → each fold_and xs (fills (length xs) b) ≡ masked b xs
unfolding each masked fills
masked_each b [] = refl
masked_each b (a ∷ xs) = ap (λ r. fold_and a b ∷ r) (masked_each b xs)

pub guarded_each : (far : Bit) (xs : List Bit) → each fold_and (fills (length xs) (fold_not far)) xs ≡ guarded far xs
unfolding each guarded fills
guarded_each far [] = refl
guarded_each far (a ∷ xs) = ap (λ r. fold_and (fold_not far) a ∷ r) (guarded_each far xs)

-- moves

pub up_bits : (nodes : List Node) (fill by : ℕ) (ks : List ℕ) → bits_at nodes (take (length ks) (replicate by fill ++ ks)) ≡ take (length (bits_at nodes ks)) (fills by (bit_at nodes fill) ++ bits_at nodes ks)
up_bits nodes fill by ks =
    bits_at-take nodes (length ks) (replicate by fill ++ ks) ∙ ap₂ take (sym (length-bits_at nodes ks)) (bits_at-append nodes (replicate by fill) ks ∙ ap (λ bs. bs ++ bits_at nodes ks) (bits_at-replicate nodes by fill))

pub up_within : (nodes : List Node) (fill by : ℕ) (ks : List ℕ) → fill < length nodes → AreWithin nodes ks → AreWithin nodes (take (length ks) (replicate by fill ++ ks))
up_within nodes fill by ks h all =
    within_take nodes (length ks) (replicate by fill ++ ks) (within_append nodes (replicate by fill) ks (within_replicate nodes by fill h) all)

pub up_sized : (fill by : ℕ) (ks : List ℕ) → length (take (length ks) (replicate by fill ++ ks)) ≡ length ks
up_sized fill by ks =
    length-take-le (length ks) (replicate by fill ++ ks) (omega (arith, length-append (replicate by fill) ks))

pub down_bits : (nodes : List Node) (fill by : ℕ) (ks : List ℕ) → bits_at nodes (take (length ks) (drop by ks ++ replicate by fill)) ≡ moved_down (bit_at nodes fill) by (bits_at nodes ks)
down_bits nodes fill by ks =
    bits_at-take nodes (length ks) (drop by ks ++ replicate by fill) ∙ ap₂ take (sym (length-bits_at nodes ks)) (bits_at-append nodes (drop by ks) (replicate by fill) ∙ ap₂ (λ x y. x ++ y) (bits_at-drop nodes by ks) (bits_at-replicate nodes by fill))

pub moved_bits : (nodes : List Node) (way : Move) (by : ℕ) (ks : List ℕ) → bits_at nodes (places_moved way by ks) ≡ bits_moved nodes way by (bits_at nodes ks)
moved_bits nodes (Up fill) by ks = up_bits nodes fill by ks
moved_bits nodes (Down fill) by ks = down_bits nodes fill by ks

pub moved_sized : (way : Move) (by : ℕ) (ks : List ℕ) → by ≤ length ks → length (places_moved way by ks) ≡ length ks
moved_sized (Up fill) by ks low = up_sized fill by ks
moved_sized (Down fill) by ks low =
    length-take-le (length ks) (drop by ks ++ replicate by fill) (omega (arith, length-append (drop by ks) (replicate by fill), length-drop by ks, length-replicate by fill))

pub moved_within : (nodes : List Node) (way : Move) (by : ℕ) (ks : List ℕ) → FillsWithin nodes way → AreWithin nodes ks → AreWithin nodes (places_moved way by ks)
moved_within nodes (Up fill) by ks h all = up_within nodes fill by ks h all
moved_within nodes (Down fill) by ks h all =
    within_take nodes (length ks) (drop by ks ++ replicate by fill) (within_append nodes (drop by ks) (replicate by fill) (within_drop nodes by ks all) (within_replicate nodes by fill h))

pub move_stays : (old new : List Node) → Grows old new → (way : Move) → FillsWithin old way → bits_moved new way ≡ bits_moved old way
move_stays old new grows (Up fill) h = ap (λ b by xs. take (length xs) (fills by b ++ xs)) (stays old new grows fill h)
move_stays old new grows (Down fill) h = ap moved_down (stays old new grows fill h)

pub fills_within : (old new : List Node) → length old ≤ length new → (way : Move) → FillsWithin old way → FillsWithin new way
fills_within old new low (Up fill) h = omega arith
fills_within old new low (Down fill) h = omega arith

pub moved_by-more : (move : ℕ → List Bit → List Bit) (by : ℕ) (xs : List Bit) (b : Bit) (ys : List Bit) → by < length xs → moved_by move by xs (b ∷ ys) ≡ moved_by move (2 * by) (chosen b (move by xs) xs) ys
unfolding moved_by
moved_by-more move by xs b ys h = cond-true (ltb by (length xs)) _ _ (lt-ltb by (length xs) h)

pub moved_by-far : (move : ℕ → List Bit → List Bit) (by : ℕ) (xs ys : List Bit) → length xs ≤ by → moved_by move by xs ys ≡ xs
unfolding moved_by
moved_by-far move by xs [] h = refl
moved_by-far move by xs (b ∷ ys) h = cond-false (ltb by (length xs)) _ _ (le-ltb by (length xs) h)

pub moved_by-none : (move : ℕ → List Bit → List Bit) (by : ℕ) (xs : List Bit) (nodes : List Node) (ys : List ℕ) (i : ℕ) → length ys ≤ i → moved_by move by xs (bits_at nodes (drop i ys)) ≡ xs
unfolding moved_by
moved_by-none move by xs nodes ys i h = rw (bits_at-past nodes ys i h) refl

pub multiplied-more : (sum xs : List Bit) (b : Bit) (ys : List Bit) → multiplied sum xs (b ∷ ys) ≡ multiplied (added (constant false) sum (masked b xs)) (moved_up 1 xs) ys
unfolding multiplied
multiplied-more sum xs b ys = refl

pub multiplied-none : (sum xs : List Bit) (nodes : List Node) (ys : List ℕ) (i : ℕ) → length ys ≤ i → multiplied sum xs (bits_at nodes (drop i ys)) ≡ sum
unfolding multiplied
multiplied-none sum xs nodes ys i h = rw (bits_at-past nodes ys i h) refl

-- divisions

pub division-more : (a : Bit) (xs ys : List Bit) → division (a ∷ xs) ys ≡ next_division ys a (division xs ys)
unfolding division
division-more a xs ys = refl

pub division-none : (nodes : List Node) (xs : List ℕ) (ys : List Bit) (i : ℕ) → length xs ≤ i → division (bits_at nodes (drop i xs)) ys ≡ record { quotient = []; remainder = fills (length ys) (constant false) }
unfolding division
division-none nodes xs ys i h = rw (bits_at-past nodes xs i h) refl

trial_next : (ys : List Bit) (a : Bit) (d : Division) → length d.remainder ≡ length ys → next_division ys a d ≡ record {
  quotient = (trial (a ∷ d.remainder) (ys ++ constant false ∷ [])).fits ∷ d.quotient;
  remainder = (trial (a ∷ d.remainder) (ys ++ constant false ∷ [])).remainder;
}
trial_next ys a d h =
    let r = a ∷ d.remainder in
    let wide = ys ++ constant false ∷ [] in
    let fits = fold_not (less r wide) in
    let made : List Bit → Division = λ rest. record { quotient = fits ∷ d.quotient; remainder = rest } in
    let e : length ys ≡ length r - 1 = omega arith in
    ap (λ n. made (take n (chosen fits (subtracted r wide) r))) e

pub division_next : (nodes : List Node) (xs : List ℕ) (ys : List Bit) (i : ℕ) → 0 < i → i ≤ length xs → length (division (bits_at nodes (drop i xs)) ys).remainder ≡ length ys → division (bits_at nodes (drop (i - 1) xs)) ys ≡ record {
  quotient = (trial (bit_at nodes (get_or xs (i - 1) 0) ∷ (division (bits_at nodes (drop i xs)) ys).remainder) (ys ++ constant false ∷ [])).fits ∷ (division (bits_at nodes (drop i xs)) ys).quotient;
  remainder = (trial (bit_at nodes (get_or xs (i - 1) 0) ∷ (division (bits_at nodes (drop i xs)) ys).remainder) (ys ++ constant false ∷ [])).remainder;
}
division_next nodes xs ys i some low sized =
    let e : i - 1 + 1 ≡ i = omega arith in
    ap (λ bs. division bs ys) (bits_at-more nodes xs (i - 1) (omega arith) ∙ ap (λ n. bit_at nodes (get_or xs (i - 1) 0) ∷ bits_at nodes (drop n xs)) e) ∙ division-more (bit_at nodes (get_or xs (i - 1) 0)) (bits_at nodes (drop i xs)) ys ∙ trial_next ys (bit_at nodes (get_or xs (i - 1) 0)) (division (bits_at nodes (drop i xs)) ys) sized
