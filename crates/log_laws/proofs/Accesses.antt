-- The memory law at an access: where the bytes wanted need no call, each byte that is read is the one last written.
use Rattle.std.proofs.Common.{◌≡◌, ℕ, zero, suc, true, List, [], length, Option, Some, None, inl, inr, ◌+◌, ◌%◌, ◌^◌, ◌==◌, ◌<◌, ◌≤◌, refl, sym, ap, ◌∙◌, subst, arith}
use Rattle.std.proofs.lemmas.Bool.{eq-eqb, or_left, or_right, cases_eq}
use Rattle.bitnum.specs.Number.{Number}
use Rattle.terms.specs.Tree.{Tree}
use Rattle.terms.specs.Folding.{constant_of}
use Rattle.flat_ir.specs.declared.names.ObjectName.{ObjectName}
use Rattle.flat_ir.specs.declared.program.ProgramData.{ProgramData}
use Rattle.flat_ir.specs.History.{History, byte_at}
use Rattle.flat_ir.specs.Registers.{first_of}
use Rattle.sym_bytes.specs.Answers.{Byte}
use Rattle.sym_bytes.specs.Byte.{SymByte}
use Rattle.sym_bytes.specs.Answers as wanted
use Rattle.sym_bytes.specs.Building.{behind}
use Rattle.sym_bytes.specs.Under.{Results, bits_under, byte_under}
use Rattle.sym_bytes.specs.Joining.{put_before}
use Rattle.sym_bytes.specs.Fitting.{IsWide, AreEntries}
use Rattle.log_laws.specs.Law.{IsBorn, Wants}
use Rattle.flat_ir.specs.Locations.{cells_of}
use Rattle.log_laws.specs.Logs.{Log, seen_at}
use Rattle.log_laws.specs.Needs.{need, bits_in, constants_of, offsets_from}
use Rattle.log_laws.specs.Reading.{initial_bytes, read_byte}
use Rattle.terms.specs.Value.{are_met_by}
use Rattle.log_laws.specs.Standing.{Gave, log_under, StandsFor, StandsIn}
use Rattle.log_laws.proofs.Tested.{behind_is, behind_value}
use Rattle.log_laws.proofs.Marks.{constant_bits, memory_law}
use Rattle.log_laws.proofs.Slices.{memory_law_in}

wants_here : (input : List ℕ) (t : Tree) (o : Option Number) (more : Option (List ℕ)) → constant_of t ≡ o → Wants (bits_under input t) (put_before (bits_in o) more)
wants_here input t None more is = tt
wants_here input t (Some n) None is = tt
wants_here input t (Some n) (Some ks) is = or_left _ _ (eq-eqb n.bits (bits_under input t) (sym (constant_bits t n input is)))

wants_later : (k : ℕ) (o : Option ℕ) (more : Option (List ℕ)) → Wants k more → Wants k (put_before o more)
wants_later k None more wants = tt
wants_later k (Some n) None wants = tt
wants_later k (Some n) (Some ks) wants = or_right (n == k) _ wants

-- each offset of an access is one of those wanted
wants_each : (input : List ℕ) (offset : Tree) (n i j : ℕ) → i ≤ j → j < i + n → Wants (bits_under input (behind offset j)) (constants_of (first_of n i (behind offset)))
wants_each input offset zero i j low high = absurd (omega (arith, low, high))
wants_each input offset (suc n) i j low high = elim (cases_eq i j) [
  | inl is ↦ subst (λ m. Wants (bits_under input (behind offset m)) (constants_of (first_of (suc n) i (behind offset)))) is
      (wants_here input (behind offset i) (constant_of (behind offset i)) (constants_of (first_of n (i + 1) (behind offset))) refl)
  | inr other ↦ wants_later (bits_under input (behind offset j)) (bits_in (constant_of (behind offset i))) (constants_of (first_of n (i + 1) (behind offset)))
      (wants_each input offset n (i + 1) j (below i j low other) (omega (arith, high)))
]
  where
    below : (i j : ℕ) → i ≤ j → (i ≡ j → ⊥) → i + 1 ≤ j
    below i j low other = omega (arith, low, other)

pub read_law : (p : ProgramData) (input : List ℕ) (results : Results) (gave : Gave) (known : List Tree) (x : ObjectName) (offset : Tree) (count j : ℕ) (log : Log) (h : History) (b : SymByte)
    → are_met_by input known ≡ true → IsWide offset → j < count → count ≤ 8 → length (initial_bytes p.globals x) ≤ 2 ^ 64 → AreEntries (seen_at (cells_of x) log)
    → StandsFor log h input results gave → IsBorn x h
    → need (wanted.Bytes x offset count) log ≡ []
    → read_byte p.globals known x (behind offset j) log ≡ Byte b
    → byte_under input results b ≡ byte_at p h x ((bits_under input offset + j) % 2 ^ 64)
read_law p input results gave known x offset count j log h b met wide_offset within most room right stands born none e =
    let small : j < 2 ^ 64 = omega (arith, within, most) in
    memory_law p input results gave known x (behind offset j) (constants_of (offsets_from offset count)) log h b met (behind_is offset j wide_offset small) room right stands born none
    (wants_each input offset count 0 j (omega arith) (omega (arith, within))) e
    ∙ ap (byte_at p h x) (behind_value offset j input wide_offset small)

-- the same where the log stands for the history in the object's cells alone
pub read_law_in : (p : ProgramData) (input : List ℕ) (results : Results) (gave : Gave) (known : List Tree) (x : ObjectName) (offset : Tree) (count j : ℕ) (log : Log) (h : History) (b : SymByte)
    → are_met_by input known ≡ true → IsWide offset → j < count → count ≤ 8 → length (initial_bytes p.globals x) ≤ 2 ^ 64 → AreEntries (seen_at (cells_of x) log)
    → StandsIn (cells_of x) log h input results gave → IsBorn x (log_under input results gave log)
    → need (wanted.Bytes x offset count) log ≡ []
    → read_byte p.globals known x (behind offset j) log ≡ Byte b
    → byte_under input results b ≡ byte_at p h x ((bits_under input offset + j) % 2 ^ 64)
read_law_in p input results gave known x offset count j log h b met wide_offset within most room right stands born none e =
    let small : j < 2 ^ 64 = omega (arith, within, most) in
    memory_law_in p input results gave known x (behind offset j) (constants_of (offsets_from offset count)) log h b met (behind_is offset j wide_offset small) room right stands born none
    (wants_each input offset count 0 j (omega arith) (omega (arith, within))) e
    ∙ ap (byte_at p h x) (behind_value offset j input wide_offset small)
