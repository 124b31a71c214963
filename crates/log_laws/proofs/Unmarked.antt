-- The memory law without marks: a byte that a log gives is, under the input, the byte of the history.
use Rattle.std.proofs.Common.{◌≡◌, ℕ, true, List, [], ◌∷◌, ◌++◌, length, map, ◌^◌, ◌==◌, ◌&&◌, ◌≤◌, refl, sym, ap, ◌∙◌, subst}
use Rattle.std.specs.Prelude.{cond}
use Rattle.terms.specs.Tree.{Tree}
use Rattle.terms.specs.Folding.{constant_of}
use Rattle.flat_ir.specs.declared.names.Location.{Location}
use Rattle.flat_ir.specs.declared.names.ObjectName.{ObjectName}
use Rattle.flat_ir.specs.declared.program.ProgramData.{ProgramData}
use Rattle.flat_ir.specs.History.{Write, Alloc, Free, Get, Put, History, same_object, byte_at, initial}
use Rattle.sym_bytes.specs.Entry.{Entry}
use Rattle.sym_bytes.specs.Answers.{Byte}
use Rattle.sym_bytes.specs.Byte.{SymByte}
use Rattle.sym_bytes.specs.Under.{Results, bits_under, byte_under}
use Rattle.log_laws.specs.Law.{byte_over}
use Rattle.sym_bytes.specs.Fitting.{IsWide, AreEntries}
use Rattle.flat_ir.specs.Locations.{cells_of}
use Rattle.log_laws.specs.Logs.{Did, Log, seen_at}
use Rattle.log_laws.specs.Reading.{initial_bytes, initial_at, chain_of, read_byte}
use Rattle.terms.specs.Value.{are_met_by}
use Rattle.log_laws.specs.Standing.{Gave, changes_under, all_under, log_under, StandsFor}
use Rattle.log_laws.proofs.Chains.{answer_byte, through_byte}
use Rattle.log_laws.proofs.Initials.{initial_pick}

pub over_initial : (p : ProgramData) (h : History) (x : ObjectName) (k : ℕ) → byte_over (initial p x k) h x k ≡ byte_at p h x k
over_initial p [] x k = refl
over_initial p (Write y j b ∷ h) x k = ap (λ d. cond (same_object x y && (j == k)) b d) (over_initial p h x k)
over_initial p (Alloc y size ∷ h) x k = over_initial p h x k
over_initial p (Free y ∷ h) x k = over_initial p h x k
over_initial p (Get ∷ h) x k = over_initial p h x k
over_initial p (Put b ∷ h) x k = over_initial p h x k

-- a byte that is read is the one that the entries seen there leave
pub seen_law : (p : ProgramData) (input : List ℕ) (results : Results) (known : List Tree) (x : ObjectName) (at : Tree) (log : Log) (b : SymByte)
    → are_met_by input known ≡ true → IsWide at → length (initial_bytes p.globals x) ≤ 2 ^ 64 → AreEntries (seen_at (cells_of x) log)
    → read_byte p.globals known x at log ≡ Byte b
    → byte_under input results b ≡ byte_over (initial p x (bits_under input at)) (all_under input results (seen_at (cells_of x) log)) x (bits_under input at)
seen_law p input results known x at log b met wide_at room right e =
    answer_byte input results (chain_of p.globals known x at (seen_at (cells_of x) log)) b e
    ∙ through_byte input results known x at (initial_at (constant_of at) known at (initial_bytes p.globals x)) (seen_at (cells_of x) log) met wide_at right
    ∙ ap (λ d. byte_over d (all_under input results (seen_at (cells_of x) log)) x (bits_under input at)) (initial_pick p input results known x at met wide_at room)

pub seen_entries : (at : Location) (es : List Entry) → seen_at at (map Did es) ≡ es
seen_entries at [] = refl
seen_entries at (e ∷ es) = ap (λ more. e ∷ more) (seen_entries at es)

pub entries_under : (input : List ℕ) (results : Results) (gave : Gave) (es : List Entry) → log_under input results gave (map Did es) ≡ all_under input results es
entries_under input results gave [] = refl
entries_under input results gave (e ∷ es) = ap (λ h. changes_under input results e ++ h) (entries_under input results gave es)

-- the law of a log without marks
pub memory_law : (p : ProgramData) (input : List ℕ) (results : Results) (gave : Gave) (known : List Tree) (x : ObjectName) (at : Tree) (es : List Entry) (h : History) (b : SymByte)
    → are_met_by input known ≡ true → IsWide at → length (initial_bytes p.globals x) ≤ 2 ^ 64 → AreEntries es
    → StandsFor (map Did es) h input results gave
    → read_byte p.globals known x at (map Did es) ≡ Byte b
    → byte_under input results b ≡ byte_at p h x (bits_under input at)
memory_law p input results gave known x at es h b met wide_at room right stands e =
    seen_law p input results known x at (map Did es) b met wide_at room (subst AreEntries (sym (seen_entries (cells_of x) es)) right) e
    ∙ ap (λ fs. byte_over (initial p x (bits_under input at)) (all_under input results fs) x (bits_under input at)) (seen_entries (cells_of x) es)
    ∙ ap (λ g. byte_over (initial p x (bits_under input at)) g x (bits_under input at)) (sym (stands.is ∙ entries_under input results gave es))
    ∙ over_initial p h x (bits_under input at)
