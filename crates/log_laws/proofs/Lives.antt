-- The life of an object in a log without marks, and the value of a pending value that is recovered.
use Rattle.std.proofs.Common.{◌≡◌, ℕ, Bool, true, false, not, List, [], ◌∷◌, ◌++◌, map, Option, Some, None, ◌+◌, ◌&&◌, ◌||◌, refl, sym, ap, ◌∙◌, subst, append_assoc}
use Rattle.std.specs.Prelude.{cond}
use Rattle.std.specs.List.{list_any}
use Rattle.terms.specs.Tree.{Tree}
use Rattle.flat_ir.specs.declared.names.CallStep.{CallStep}
use Rattle.flat_ir.specs.declared.names.ObjectName.{ObjectName}
use Rattle.flat_ir.specs.declared.names.ObjectName.TheVariants as object
use Rattle.flat_ir.specs.declared.program.ProgramData.{ProgramData}
use Rattle.flat_ir.specs.declared.values.ConcreteByte.{ConcreteByte}
use Rattle.sym_bytes.specs.Answers.{Dead}
use Rattle.flat_ir.specs.History as history
use Rattle.flat_ir.specs.History.{Change, Write, Alloc, Free, Get, Put, History, same_object}
use Rattle.sym_bytes.specs.Entry.{Entry}
use Rattle.sym_bytes.specs.Entry as entry
use Rattle.sym_bytes.specs.Byte.{SymByte}
use Rattle.sym_bytes.specs.Under.{Results, bits_under}
use Rattle.log_laws.specs.Law.{LifeIs}
use Rattle.flat_ir.specs.Locations.{life_of}
use Rattle.log_laws.specs.Logs.{Did, life, life_among, alive_with, newest_size, is_free_of}
use Rattle.log_laws.specs.Standing.{Gave, writes_under, all_under, StandsFor}
use Rattle.log_laws.proofs.Unmarked.{seen_entries, entries_under}

-- ---- lives

-- a write is no other change
skips_writes : (P : Change → Bool) (none : (x : ObjectName) (k : ℕ) (b : ConcreteByte) → P (Write x k b) ≡ false)
    (input : List ℕ) (results : Results) (x : ObjectName) (u j : ℕ) (bs : List SymByte) (h : History)
    → list_any P (writes_under input results x u j bs ++ h) ≡ list_any P h
skips_writes P none input results x u j [] h = refl
skips_writes P none input results x u j (b ∷ bs) h =
    ap (list_any P) (append_assoc (writes_under input results x u (j + 1) bs) _ h)
    ∙ skips_writes P none input results x u (j + 1) bs _
    ∙ ap (λ t. t || list_any P h) (none x _ _)

pub frees_under : (input : List ℕ) (results : Results) (x : ObjectName) (es : List Entry) → list_any (history.is_free_of x) (all_under input results es) ≡ list_any (is_free_of x) es
frees_under input results x [] = refl
frees_under input results x (entry.Free y ∷ es) = ap (λ t. same_object x y || t) (frees_under input results x es)
frees_under input results x (entry.Write y offset bs ∷ es) =
    skips_writes (history.is_free_of x) (λ z k b. refl) input results y (bits_under input offset) 0 bs (all_under input results es) ∙ frees_under input results x es
frees_under input results x (entry.Alloc y size ∷ es) = frees_under input results x es
frees_under input results x (entry.Put t ∷ es) = frees_under input results x es
frees_under input results x (entry.Get ∷ es) = frees_under input results x es

size_skips_writes : (input : List ℕ) (results : Results) (x y : ObjectName) (u j : ℕ) (bs : List SymByte) (h : History)
    → history.size_made x (writes_under input results y u j bs ++ h) ≡ history.size_made x h
size_skips_writes input results x y u j [] h = refl
size_skips_writes input results x y u j (b ∷ bs) h =
    ap (history.size_made x) (append_assoc (writes_under input results y u (j + 1) bs) _ h) ∙ size_skips_writes input results x y u (j + 1) bs _

-- whether the object was allocated, and its size, as the entries say
abbrev pub SizeIs : List ℕ → ObjectName → History → Option Tree → Type 0
SizeIs input x h None = list_any (history.is_alloc_of x) h ≡ false
SizeIs input x h (Some size) = (list_any (history.is_alloc_of x) h ≡ true) × (bits_under input size ≡ history.size_made x h)

pub size_moves : (input : List ℕ) (x : ObjectName) (g h : History) (o : Option Tree)
    → list_any (history.is_alloc_of x) g ≡ list_any (history.is_alloc_of x) h → history.size_made x g ≡ history.size_made x h → SizeIs input x h o → SizeIs input x g o
size_moves input x g h None e f is = e ∙ is
size_moves input x g h (Some size) e f is = (e ∙ is.0, is.1 ∙ sym f)

size_alloc : (input : List ℕ) (x y : ObjectName) (size : Tree) (h : History) (o : Option Tree) (same : Bool) → same_object x y ≡ same
    → SizeIs input x h o → SizeIs input x (Alloc y (bits_under input size) ∷ h) (cond same (Some size) o)
size_alloc input x y size h o true e is =
    (ap (λ t. t || list_any (history.is_alloc_of x) h) e, sym (ap (λ t. cond t (bits_under input size) (history.size_made x h)) e))
size_alloc input x y size h o false e is =
    size_moves input x (Alloc y (bits_under input size) ∷ h) h o (ap (λ t. t || list_any (history.is_alloc_of x) h) e) (ap (λ t. cond t (bits_under input size) (history.size_made x h)) e) is

pub sizes_under : (input : List ℕ) (results : Results) (x : ObjectName) (es : List Entry) → SizeIs input x (all_under input results es) (newest_size x es)
sizes_under input results x [] = refl
sizes_under input results x (entry.Alloc y size ∷ es) = size_alloc input x y size (all_under input results es) (newest_size x es) (same_object x y) refl (sizes_under input results x es)
sizes_under input results x (entry.Write y offset bs ∷ es) =
    size_moves input x (writes_under input results y (bits_under input offset) 0 bs ++ all_under input results es) (all_under input results es) (newest_size x es)
    (skips_writes (history.is_alloc_of x) (λ z k b. refl) input results y (bits_under input offset) 0 bs (all_under input results es))
    (size_skips_writes input results x y (bits_under input offset) 0 bs (all_under input results es)) (sizes_under input results x es)
sizes_under input results x (entry.Free y ∷ es) = size_moves input x (Free y ∷ all_under input results es) (all_under input results es) (newest_size x es) refl refl (sizes_under input results x es)
sizes_under input results x (entry.Put t ∷ es) = size_moves input x (Put (bits_under input t) ∷ all_under input results es) (all_under input results es) (newest_size x es) refl refl (sizes_under input results x es)
sizes_under input results x (entry.Get ∷ es) = size_moves input x (Get ∷ all_under input results es) (all_under input results es) (newest_size x es) refl refl (sizes_under input results x es)

pub and_false : (a : Bool) → a && false ≡ false
and_false true = refl
and_false false = refl

pub made_life : (p : ProgramData) (input : List ℕ) (frame : List CallStep) (made : CallStep) (h : History) (freed : Bool) (o : Option Tree)
    → list_any (history.is_free_of (object.Made frame made)) h ≡ freed → SizeIs input (object.Made frame made) h o
    → LifeIs p input (object.Made frame made) h (cond freed Dead (alive_with o))
made_life p input frame made h true o e is =
    ap (λ t. list_any (history.is_alloc_of (object.Made frame made)) h && not t) e ∙ and_false (list_any (history.is_alloc_of (object.Made frame made)) h)
made_life p input frame made h false None e is = ap (λ t. t && not (list_any (history.is_free_of (object.Made frame made)) h)) is
made_life p input frame made h false (Some size) e is =
    ((λ i. is.0 i && not (e i)), is.1)

-- the law of lives in a log without marks
pub life_law : (p : ProgramData) (input : List ℕ) (results : Results) (gave : Gave) (x : ObjectName) (es : List Entry) (h : History)
    → StandsFor (map Did es) h input results gave → LifeIs p input x h (life p.globals x (map Did es))
life_law p input results gave (object.Global g) es h stands = (refl, refl)
life_law p input results gave (object.Made frame made) es h stands =
    let x = object.Made frame made in
    let all = all_under input results es in
    subst (λ fs. LifeIs p input x h (life_among x fs)) (sym (seen_entries (life_of x) es))
    (subst (λ g. LifeIs p input x g (life_among x es)) (sym (stands.is ∙ entries_under input results gave es))
    (made_life p input frame made all (list_any (is_free_of x) es) (newest_size x es) (frees_under input results x es) (sizes_under input results x es)))
