-- At most one place is the first.
use Rattle.std.proofs.Common.{◌≡◌, ◌<◌, ◌↔◌, ◌++◌, ◌∙◌, ℕ, List, [], ◌∷◌, Some, None, refl, sym, ap, subst, arith}
use Rattle.std.specs.Prelude.{slice_get, Option, MatchOption}
use Rattle.std.proofs.lemmas.List.Elements.{Contains-append_right}
use Rattle.std.proofs.lemmas.Option.{same_Some, none-some}
use Rattle.flat_ir.specs.declared.names.NodeId.{NodeId}
use Rattle.flat_ir.specs.declared.names.RegId.{RegId}
use Rattle.flat_ir.specs.declared.program.Func.{Func}
use Rattle.flow.specs.declared.undefined.Undefined.{Undefined}
use Rattle.flow.specs.Answers.{NamesFirst}
use Rattle.flow.specs.Flow.{IsUndefined, AreDefined, IsFirst, reads}
use Rattle.flow.specs.Paths.{NoneOf, node_of}
use Rattle.flow.proofs.Bridges.{same_node}

none_behind : (P : RegId → Type 0) (x : RegId) (front : List RegId) → NoneOf P (x ∷ front) → NoneOf P front
none_behind P x front none = λ s among p. none s (Contains-append_right (x ∷ []) front s among) p

-- two first registers of one list are the same
first_same : (P : RegId → Type 0) (front front' rest rest' : List RegId) (r s : RegId) → front ++ r ∷ rest ≡ front' ++ s ∷ rest' →
    NoneOf P front → NoneOf P front' → P r → P s → r ≡ s
first_same P [] [] rest rest' r s e none none' p p' = cc
first_same P [] (y ∷ front') rest rest' r s e none none' p p' =
    let same : r ≡ y = cc in absurd (none' y (0, omega arith, refl) (subst P same p))
first_same P (x ∷ front) [] rest rest' r s e none none' p p' =
    let same : s ≡ x = cc in absurd (none x (0, omega arith, refl) (subst P same p'))
first_same P (x ∷ front) (y ∷ front') rest rest' r s e none none' p p' =
    let more : front ++ r ∷ rest ≡ front' ++ s ∷ rest' = cc in
    first_same P front front' rest rest' r s more (none_behind P x front none) (none_behind P y front' none') p p'

same_number : (n m : ℕ) → (m < n → ⊥) → (n < m → ⊥) → n ≡ m
same_number n m h k = omega arith

pub first_node : (f : Func) (n m : NodeId) (r s : RegId) → IsFirst f n r → IsFirst f m s → n ≡ m
first_node f n m r s a b =
    ap node_of (same_number n.0 m.0 (λ lower. a.lowest m s lower b.undefined) (λ lower. b.lowest n r lower a.undefined))

pub first_register : (f : Func) (n : NodeId) (r s : RegId) → IsFirst f n r → IsFirst f n s → r ≡ s
first_register f n r s a b =
    let x : a.node ≡ b.node = same_node a.node b.node (slice_get f.nodes n.0) a.there b.there in
    first_same (IsUndefined f n) a.front b.front a.rest b.rest r s (sym a.order ∙ ap reads x ∙ b.order) a.earlier b.earlier a.undefined b.undefined

abbrev pub Found : Func → Option Undefined → Type 0
Found f found = MatchOption found (AreDefined f) (λ (at' : Undefined). IsFirst f at'.node at'.register)

pub none_exactly : (f : Func) (found : Option Undefined) → Found f found → (found ≡ None) ↔ AreDefined f
none_exactly f None h = (λ e. h, λ d. refl)
none_exactly f (Some u) h = (λ e. absurd (none-some u (sym e)), λ d. absurd (d u.node u.register h.undefined))

named_first : (f : Func) (u : Undefined) (n : NodeId) (r : RegId) → IsFirst f u.node u.register → IsFirst f n r → Some u ≡ Some (record { node = n; register = r })
named_first f u n r h first =
    let e : u.node ≡ n = first_node f u.node n u.register r h first in
    let first' : IsFirst f n u.register = subst (λ (k : NodeId). IsFirst f k u.register) e h in
    let d : u.register ≡ r = first_register f n u.register r first' first in
    let both : NodeId → RegId → Undefined = λ k s. record { node = k; register = s } in
    let P : Undefined → Type 0 = λ v. Some u ≡ Some v in
    subst (λ (s : RegId). P (both n s)) d (subst (λ (k : NodeId). P (both k u.register)) e refl)

pub some_exactly : (f : Func) (found : Option Undefined) → Found f found → NamesFirst f found
some_exactly f None h = λ n r. (λ e. absurd (none-some (record { node = n; register = r }) e), λ first. absurd (h n r first.undefined))
some_exactly f (Some u) h = λ n r.
    (λ e. subst (λ (v : Undefined). IsFirst f v.node v.register) (same_Some u (record { node = n; register = r }) e) h, λ first. named_first f u n r h first)
