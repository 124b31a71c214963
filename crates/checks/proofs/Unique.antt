-- At most one place is the first at which a condition fails.
use Rattle.std.proofs.Common.{◌≡◌, ◌<◌, ◌++◌, ◌∙◌, ℕ, List, [], ◌∷◌, Option, Some, refl, sym, ap, subst, arith}
use Rattle.std.specs.Prelude.{slice_get}
use Rattle.std.proofs.lemmas.List.Elements.{Contains-append_right}
use Rattle.std.proofs.lemmas.Option.{same_Some}
use Rattle.flat_ir.specs.declared.check.CheckError.{CheckError}
use Rattle.flat_ir.specs.declared.check.CheckError.TheVariants.{Undefined}
use Rattle.flat_ir.specs.declared.names.FuncId.{FuncId}
use Rattle.flat_ir.specs.declared.names.NodeId.{NodeId}
use Rattle.flat_ir.specs.declared.names.RegId.{RegId}
use Rattle.flat_ir.specs.declared.nodes.Node.{Node}
use Rattle.flat_ir.specs.declared.program.Func.{Func}
use Rattle.flow.specs.Flow.{IsUndefined, reads}
use Rattle.flow.specs.Paths.{NoneOf, FirstAt, node_of}
use Rattle.checks.specs.Errors.{IsClean, FailsAt, clash, undefined, edge, IsFirstIn, IsFirstOf, func_of}
use Rattle.checks.specs.Laws.{FirstIsOne, NotBoth}

-- ---- registers

none_behind : (P : RegId → Type 0) (x : RegId) (front : List RegId) → NoneOf P (x ∷ front) → NoneOf P front
none_behind P x front none = λ s among p. none s (Contains-append_right (x ∷ []) front s among) p

-- two first registers of one list are the same
first_same : (P : RegId → Type 0) (front front' rest rest' : List RegId) (r s : RegId) → front ++ r ∷ rest ≡ front' ++ s ∷ rest' →
    NoneOf P front → NoneOf P front' → P r → P s → r ≡ s
first_same P [] [] rest rest' r s e none none' p p' = cc
first_same P [] (y ∷ front') rest rest' r s e none none' p p' =
    let same : r ≡ y = cc in absurd (none' y (0, omega arith, refl) (subst P same p))
first_same P (x ∷ front) [] rest rest' r s e none none' p p' =
    let same : s ≡ x = cc in absurd (none x (0, omega arith, refl) (subst P same p'))
first_same P (x ∷ front) (y ∷ front') rest rest' r s e none none' p p' =
    let more : front ++ r ∷ rest ≡ front' ++ s ∷ rest' = cc in
    first_same P front front' rest rest' r s more (none_behind P x front none) (none_behind P y front' none') p p'

same_node : (o : Option Node) (x y : Node) → o ≡ Some x → o ≡ Some y → x ≡ y
same_node o x y e d = same_Some x y (cc)

first_register : (f : Func) (n : NodeId) (r s : RegId) → FirstAt f n r → FirstAt f n s → r ≡ s
first_register f n r s a b =
    let x : a.node ≡ b.node = same_node (slice_get f.nodes n.0) a.node b.node a.there b.there in
    first_same (IsUndefined f n) a.first.front b.first.front a.first.rest b.first.rest r s (sym a.first.order ∙ ap reads x ∙ b.first.order)
    a.first.earlier b.first.earlier a.first.is b.first.is

-- ---- nodes

unclean : (funcs : List Func) (k : FuncId) (f : Func) (n : NodeId) (e : CheckError) → FailsAt funcs k f n e → IsClean funcs f n → ⊥
unclean funcs k f n e (clash wrong) clean = clean.clash wrong
unclean funcs k f n e (undefined r free first) clean = clean.undefined r first.first.is
unclean funcs k f n e (edge free none bad) clean = clean.edge bad

same_failure : (funcs : List Func) (k : FuncId) (f : Func) (n : NodeId) (a b : CheckError) → FailsAt funcs k f n a → FailsAt funcs k f n b → a ≡ b
same_failure funcs k f n a b (clash c) (clash d) = refl
same_failure funcs k f n a b (clash c) (undefined s free first) = absurd (free c)
same_failure funcs k f n a b (clash c) (edge free none bad) = absurd (free c)
same_failure funcs k f n a b (undefined r free first) (clash d) = absurd (free d)
same_failure funcs k f n a b (undefined r free first) (undefined s free' first') = ap (λ (t : RegId). Undefined k n t) (first_register f n r s first first')
same_failure funcs k f n a b (undefined r free first) (edge free' none bad) = absurd (none r first.first.is)
same_failure funcs k f n a b (edge free none bad) (clash d) = absurd (free d)
same_failure funcs k f n a b (edge free none bad) (undefined s free' first) = absurd (none s first.first.is)
same_failure funcs k f n a b (edge free none bad) (edge free' none' bad') = refl

same_number : (n m : ℕ) → (n < m → ⊥) → (m < n → ⊥) → n ≡ m
same_number n m h k = omega arith

same_in : (funcs : List Func) (k : FuncId) (f : Func) (a b : CheckError) → IsFirstIn funcs k f a → IsFirstIn funcs k f b → a ≡ b
same_in funcs k f a b x y =
    let e : x.node ≡ y.node = same_number x.node y.node (λ lt. unclean funcs k f (node_of x.node) a x.fails (y.lowest x.node lt))
    (λ lt. unclean funcs k f (node_of y.node) b y.fails (x.lowest y.node lt)) in
    same_failure funcs k f (node_of y.node) a b (subst (λ (n : ℕ). FailsAt funcs k f (node_of n) a) e x.fails) y.fails

-- ---- functions

same_func : (o : Option Func) (f g : Func) → o ≡ Some f → o ≡ Some g → f ≡ g
same_func o f g e d = same_Some f g (cc)

pub not_clean : (funcs : List Func) (a : CheckError) (x : IsFirstOf funcs a) → ((n : ℕ) → IsClean funcs x.func (node_of n)) → ⊥
not_clean funcs a x clean = unclean funcs (func_of x.function) x.func (node_of x.first.node) a x.first.fails (clean x.first.node)

pub first_is_one : FirstIsOne
first_is_one funcs a b x y =
    let e : x.function ≡ y.function = same_number x.function y.function (λ lt. not_clean funcs a x (y.lowest x.function lt x.func x.there))
    (λ lt. not_clean funcs b y (x.lowest y.function lt y.func y.there)) in
    let there : slice_get funcs y.function ≡ Some x.func = subst (λ (k : ℕ). slice_get funcs k ≡ Some x.func) e x.there in
    let same : x.func ≡ y.func = same_func (slice_get funcs y.function) x.func y.func there y.there in
    let first : IsFirstIn funcs (func_of y.function) x.func a = subst (λ (k : ℕ). IsFirstIn funcs (func_of k) x.func a) e x.first in
    same_in funcs (func_of y.function) y.func a b (subst (λ (f : Func). IsFirstIn funcs (func_of y.function) f a) same first) y.first

pub not_both : NotBoth
not_both funcs e checked x = not_clean funcs e x (checked x.function x.func x.there)
