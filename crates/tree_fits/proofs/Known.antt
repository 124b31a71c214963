-- Functions by their names.
use Rattle.std.proofs.Common.{◌≡◌, ◌∙◌, ◌<◌, ◌≤◌, ◌+◌, ℕ, zero, suc, Bool, true, false, cond, List, [], ◌∷◌, length, Option, Some, None, refl, sym, ap, arith}
use Rattle.std.specs.Prelude.{◌==◌, ◌&&◌, slice_get, if◌then◌else◌}
use Rattle.std.specs.List.{filter, find}
use Rattle.std.proofs.lemmas.Option.{none-some, same_Some}
use Rattle.flat_ir.specs.declared.program.Func.{Func}
use Rattle.ir_tree.specs.Texts as tree
use Rattle.ir_tree.specs.declared.module.FunctionDefinition.{FunctionDefinition}
use Rattle.prelude.specs.Prelude.{same, place_among, functions, place_of}
use Rattle.ir_programs.specs.Calls.{Signature, header_signature, func_signature, known_signature, signature_among}
use Rattle.tree_fits.proofs.Leading.{eq_swap}

same_other : (xs ys : List ℕ) → tree.same ys xs ≡ same xs ys
same_other [] [] = refl
same_other [] (y ∷ ys) = refl
same_other (x ∷ xs) [] = refl
same_other (x ∷ xs) (y ∷ ys) = ap (λ (b : Bool). b && tree.same ys xs) (eq_swap y x) ∙ ap (λ (b : Bool). (x == y) && b) (same_other xs ys)

abbrev named : List ℕ → List Func → List Func
named name gs = filter (λ g. tree.same g.name name) gs

abbrev chosen : Bool → ℕ → Option ℕ → Option ℕ
chosen b k rest = if b then Some k else rest

-- a place is within the list
pub place_within : (name : List ℕ) (k n : ℕ) (gs : List Func) → place_among name k gs ≡ Some n → (k ≤ n) × (n < k + length gs)
place_within name k n [] e = absurd (none-some n e)
place_within name k n (g ∷ gs) e = go (same name g.name) e (place_within name (k + 1) n gs)
  where
    go : (b : Bool) → chosen b k (place_among name (k + 1) gs) ≡ Some n → (place_among name (k + 1) gs ≡ Some n → (k + 1 ≤ n) × (n < k + 1 + length gs)) → (k ≤ n) × (n < k + suc (length gs))
    go true d h = let is = same_Some k n d in (omega (arith, is), omega (arith, is))
    go false d h = let within = h d in (omega (arith, within.0), omega (arith, within.1))

pub missing : (name : List ℕ) (k : ℕ) (gs : List Func) → place_among name k gs ≡ None → named name gs ≡ []
missing name k [] e = refl
missing name k (g ∷ gs) e = ap (λ (b : Bool). cond b (g ∷ named name gs) (named name gs)) (same_other name g.name) ∙ go (same name g.name) e (missing name (k + 1) gs)
  where
    go : (b : Bool) → chosen b k (place_among name (k + 1) gs) ≡ None → (place_among name (k + 1) gs ≡ None → named name gs ≡ []) → cond b (g ∷ named name gs) (named name gs) ≡ []
    go true d h = absurd (none-some k (sym d))
    go false d h = h d

pub found : (name : List ℕ) (k j n : ℕ) (gs : List Func) (g : Func) → place_among name k gs ≡ Some n → n ≡ k + j → slice_get gs j ≡ Some g → known_signature None (named name gs) ≡ Some (func_signature g)
found name k j n [] g e is at = absurd (none-some n e)
found name k zero n (h ∷ hs) g e is at =
    ap (λ (b : Bool). known_signature None (cond b (h ∷ named name hs) (named name hs))) (same_other name h.name) ∙ go (same name h.name) e (place_within name (k + 1) n hs)
  where
    go : (b : Bool) → chosen b k (place_among name (k + 1) hs) ≡ Some n → (place_among name (k + 1) hs ≡ Some n → (k + 1 ≤ n) × (n < k + 1 + length hs)) →
        known_signature None (cond b (h ∷ named name hs) (named name hs)) ≡ Some (func_signature g)
    go true d w = ap (λ (x : Func). Some (func_signature x)) (same_Some h g at)
    go false d w = let within = w d in absurd (omega (arith, within.0, is))
found name k (suc j) n (h ∷ hs) g e is at =
    ap (λ (b : Bool). known_signature None (cond b (h ∷ named name hs) (named name hs))) (same_other name h.name) ∙ go (same name h.name) e (λ d. found name (k + 1) j n hs g d (omega (arith, is)) at)
  where
    go : (b : Bool) → chosen b k (place_among name (k + 1) hs) ≡ Some n → (place_among name (k + 1) hs ≡ Some n → known_signature None (named name hs) ≡ Some (func_signature g)) →
        known_signature None (cond b (h ∷ named name hs) (named name hs)) ≡ Some (func_signature g)
    go true d w = let same_place = same_Some k n d in absurd (omega (arith, same_place, is))
    go false d w = w d

pub is_place : (name : List ℕ) (n : ℕ) → place_of name ≡ Some n → n < 8
is_place name n e = (place_within name 0 n functions e).1

pub known_at : (name : List ℕ) (n : ℕ) (g : Func) → place_of name ≡ Some n → slice_get functions n ≡ Some g → known_signature None (named name functions) ≡ Some (func_signature g)
known_at name n g e at = found name 0 n n functions g e (omega arith) at

pub not_known : (name : List ℕ) → place_of name ≡ None → known_signature None (named name functions) ≡ None
not_known name e = ap (known_signature None) (missing name 0 functions e)

-- ---- functions that are defined

abbrev pub is_named : List ℕ → FunctionDefinition → Bool
is_named name f = tree.same f.header.name.text name

pub first_defined : (name : List ℕ) (fs : List FunctionDefinition) (f : FunctionDefinition) (known : Option Signature) → find (is_named name) fs ≡ Some f → signature_among (filter (is_named name) fs) known ≡ Some (header_signature f.header)
first_defined name [] f known e = absurd (none-some f e)
first_defined name (g ∷ gs) f known e = go (is_named name g) e (first_defined name gs f known)
  where
    go : (b : Bool) → cond b (Some g) (find (is_named name) gs) ≡ Some f → (find (is_named name) gs ≡ Some f → signature_among (filter (is_named name) gs) known ≡ Some (header_signature f.header)) →
        signature_among (cond b (g ∷ filter (is_named name) gs) (filter (is_named name) gs)) known ≡ Some (header_signature f.header)
    go true d h = ap (λ (x : FunctionDefinition). Some (header_signature x.header)) (same_Some g f d)
    go false d h = h d

pub none_defined : (name : List ℕ) (fs : List FunctionDefinition) (known : Option Signature) → find (is_named name) fs ≡ None → signature_among (filter (is_named name) fs) known ≡ known
none_defined name [] known e = refl
none_defined name (g ∷ gs) known e = go (is_named name g) e (none_defined name gs known)
  where
    go : (b : Bool) → cond b (Some g) (find (is_named name) gs) ≡ None → (find (is_named name) gs ≡ None → signature_among (filter (is_named name) gs) known ≡ known) →
        signature_among (cond b (g ∷ filter (is_named name) gs) (filter (is_named name) gs)) known ≡ known
    go true d h = absurd (none-some g (sym d))
    go false d h = h d
