-- Names and their numbers: a name that is among some has a number below how many they are.
use Rattle.std.proofs.Common.{◌≡◌, ℕ, suc, ◌+◌, ◌<◌, Bool, true, false, cond, ◌&&◌, ◌||◌, List, [], ◌∷◌, ◌++◌, length, Option, Some, None, unwrap_or, refl, ap, ◌∙◌, arith, eqb-true}
use Rattle.std.specs.Prelude.{◌==◌}
use Rattle.std.specs.List.{AllByRecursion}
use Rattle.std.proofs.lemmas.Bool.{eq-eqb}
use Rattle.ir_tree.specs.Texts.{same}
use Rattle.ir_tree.specs.declared.types.Name.{Name}
use Rattle.prelude.specs.Prelude as prelude
use Rattle.flat_ir.specs.declared.nodes.RegType.{RegType}
use Rattle.ir_programs.specs.Texts.{among, number_among, texts}
use Rattle.ir_programs.specs.declared.locals.Local.{Local}
use Rattle.ir_programs.specs.Locals.{type_in, name_in, types_among, names_among}
use Rattle.ir_programs.specs.Registers.{number_of}
use Rattle.whole_programs.proofs.Lists.{left_true, right_true, or_left, or_right, weaker}

-- ---- texts

pub same_is : (s t : List ℕ) → same s t ≡ true → s ≡ t
same_is [] [] e = refl
same_is [] (y ∷ ys) e = absurd cc
same_is (x ∷ xs) [] e = absurd cc
same_is (x ∷ xs) (y ∷ ys) e =
    let h = eqb-true x y (left_true (x == y) (same xs ys) e) in
    let t = same_is xs ys (right_true (x == y) (same xs ys) e) in
    cc

pub known_is : (s t : List ℕ) → prelude.same s t ≡ true → s ≡ t
known_is [] [] e = refl
known_is [] (y ∷ ys) e = absurd cc
known_is (x ∷ xs) [] e = absurd cc
known_is (x ∷ xs) (y ∷ ys) e =
    let h = eqb-true x y (left_true (x == y) (prelude.same xs ys) e) in
    let t = known_is xs ys (right_true (x == y) (prelude.same xs ys) e) in
    cc

pub same_self : (s : List ℕ) → same s s ≡ true
same_self [] = refl
same_self (x ∷ xs) = ap (λ b. b && same xs xs) (eq-eqb x x refl) ∙ same_self xs

-- ---- among names

pub among_back : (name : List ℕ) (xs ys : List (List ℕ)) → among name ys ≡ true → among name (xs ++ ys) ≡ true
among_back name [] ys h = h
among_back name (x ∷ xs) ys h = or_right (same x name) (among name (xs ++ ys)) (among_back name xs ys h)

pub among_front : (name : List ℕ) (xs ys : List (List ℕ)) → among name xs ≡ true → among name (xs ++ ys) ≡ true
among_front name [] ys h = absurd cc
among_front name (x ∷ xs) ys h = go (λ k. among_front name xs ys k) (same x name) h
  where
    go : (among name xs ≡ true → among name (xs ++ ys) ≡ true) → (b : Bool) → (b || among name xs) ≡ true → (b || among name (xs ++ ys)) ≡ true
    go more true k = refl
    go more false k = more k

pub number_below : (k : ℕ) (name : List ℕ) (names : List (List ℕ)) → among name names ≡ true → unwrap_or (number_among k name names) 0 < k + length names
number_below k name [] h = absurd cc
number_below k name (x ∷ xs) h = go (λ m. number_below (k + 1) name xs m) (same x name) h
  where
    go : (among name xs ≡ true → unwrap_or (number_among (k + 1) name xs) 0 < (k + 1) + length xs) → (b : Bool) → (b || among name xs) ≡ true → unwrap_or (cond b (Some k) (number_among (k + 1) name xs)) 0 < k + length (x ∷ xs)
    go more true m = omega arith
    go more false m = let r = more m in omega (arith, r)

pub number_is_below : (name : List ℕ) (names : List (List ℕ)) → among name names ≡ true → number_of name names < length names
number_is_below name names h = let r = number_below 0 name names h in omega (arith, r)

-- each of some names is among them
abbrev pub AreAmong : List (List ℕ) → List Name → Type 0
AreAmong all names = AllByRecursion (λ (n : Name). among n.text all ≡ true) names

pub each_among : (names : List Name) → AreAmong (texts names) names
each_among [] = tt
each_among (n ∷ ns) =
    (or_left (same n.text n.text) (among n.text (texts ns)) (same_self n.text), weaker (λ (m : Name) h. or_right (same n.text m.text) (among m.text (texts ns)) h) ns (each_among ns))

-- ---- the names of registers

pub as_many : (ls : List Local) → length (names_among ls) ≡ length (types_among ls)
as_many [] = refl
as_many (l ∷ ls) = go (as_many ls) l.register
  where
    go : length (names_among ls) ≡ length (types_among ls) → (o : Option RegType) → length (name_in o l.name.text ++ names_among ls) ≡ length (type_in o ++ types_among ls)
    go more (Some kind) = ap suc more
    go more None = more

-- a local with a register has its name among those
abbrev IsNamedIn : List (List ℕ) → Option RegType → List ℕ → Type 0
IsNamedIn names (Some kind) name = among name names ≡ true
IsNamedIn names None name = Unit {0}

abbrev pub IsNamed : List (List ℕ) → Local → Type 0
IsNamed names l = IsNamedIn names l.register l.name.text

named_back : (xs ys : List (List ℕ)) (o : Option RegType) (name : List ℕ) → IsNamedIn ys o name → IsNamedIn (xs ++ ys) o name
named_back xs ys (Some kind) name h = among_back name xs ys h
named_back xs ys None name h = tt

named_first : (ys : List (List ℕ)) (o : Option RegType) (name : List ℕ) → IsNamedIn (name_in o name ++ ys) o name
named_first ys (Some kind) name = or_left (same name name) (among name ys) (same_self name)
named_first ys None name = tt

pub each_named : (ls : List Local) → AllByRecursion (IsNamed (names_among ls)) ls
each_named [] = tt
each_named (l ∷ ls) =
    (named_first (names_among ls) l.register l.name.text, weaker (λ (m : Local) h. named_back (name_in l.register l.name.text) (names_among ls) m.register m.name.text h) ls (each_named ls))
