-- The memory law where a log stands for a history in one location alone.
use Rattle.std.proofs.Common.{◌≡◌, ℕ, true, List, [], length, Option, ◌^◌, ◌≤◌, sym, ap, ◌∙◌}
use Rattle.terms.specs.Tree.{Tree}
use Rattle.flat_ir.specs.declared.names.ObjectName.{ObjectName}
use Rattle.flat_ir.specs.declared.program.ProgramData.{ProgramData}
use Rattle.flat_ir.specs.History.{History, byte_at, initial}
use Rattle.sym_bytes.specs.Answers.{Byte}
use Rattle.sym_bytes.specs.Byte.{SymByte}
use Rattle.sym_bytes.specs.Under.{Results, bits_under, byte_under}
use Rattle.log_laws.specs.Law.{byte_over, IsBorn, Wants}
use Rattle.sym_bytes.specs.Fitting.{IsWide, AreEntries}
use Rattle.flat_ir.specs.Locations.{cells_of}
use Rattle.log_laws.specs.Logs.{Log, seen_at}
use Rattle.log_laws.specs.Needs.{need_bytes}
use Rattle.log_laws.specs.Reading.{initial_bytes, read_byte}
use Rattle.terms.specs.Value.{are_met_by}
use Rattle.log_laws.specs.Standing.{Gave, log_under, StandsIn}
use Rattle.log_laws.proofs.LogChanges.{over_cells}
use Rattle.log_laws.proofs.Marks.{seen_changes}
use Rattle.log_laws.proofs.Unmarked.{over_initial, seen_law}

pub memory_law_in : (p : ProgramData) (input : List ℕ) (results : Results) (gave : Gave) (known : List Tree) (x : ObjectName) (at : Tree) (left : Option (List ℕ)) (log : Log) (h : History) (b : SymByte)
    → are_met_by input known ≡ true → IsWide at → length (initial_bytes p.globals x) ≤ 2 ^ 64 → AreEntries (seen_at (cells_of x) log)
    → StandsIn (cells_of x) log h input results gave → IsBorn x (log_under input results gave log)
    → need_bytes x left log ≡ [] → Wants (bits_under input at) left
    → read_byte p.globals known x at log ≡ Byte b
    → byte_under input results b ≡ byte_at p h x (bits_under input at)
memory_law_in p input results gave known x at left log h b met wide_at room right stands born none wants e =
    let k = bits_under input at in
    let d = initial p x k in
    seen_law p input results known x at log b met wide_at room right e
    ∙ seen_changes input results gave x k d log left stands.marks born none wants
    ∙ sym (over_cells d (log_under input results gave log) x k)
    ∙ ap (λ g. byte_over d g x k) (sym stands.is)
    ∙ over_cells d h x k
    ∙ over_initial p h x k
