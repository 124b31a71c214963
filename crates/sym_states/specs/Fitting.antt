-- What holds of each state: its terms are over the bytes of its kept input, of which there are at most 64, and its conjuncts have
-- one bit.
use Rattle.std.specs.Prelude.{◌≡◌, ℕ, ◌<◌, ◌≤◌, ◌^◌, List, [], ◌∷◌, length, Option}
use Rattle.terms.specs.Tree.{Tree, width_of}
use Rattle.flat_ir.specs.declared.program.GlobalVar.{GlobalVar}
use Rattle.flat_ir.specs.declared.program.InitByte.{InitByte}
use Rattle.flat_ir.specs.declared.program.InitByte.TheVariants as init
use Rattle.sym_bytes.specs.Answers.{Living, Alive, Dead, Read, Byte, Undecided}
use Rattle.sym_bytes.specs.Value.{SymValue}
use Rattle.log_laws.specs.Logs.{Fill, Item, Did, Marked, Log}
use Rattle.leaves.specs.Fitting.{IsTermOf, AreTermsOf, ValueFits, ValueFitsIf, ByteFits, EntryFits, EntriesFit, EventsFit}
use Rattle.skip_records.specs.Snapshots.{Snapshot}
use Rattle.sym_states.specs.States.{Frame, State}

abbrev pub ValuesFit : ℕ → List SymValue → Type 0
ValuesFit n [] = Unit {0}
ValuesFit n (v ∷ vs) = ValueFits n v × ValuesFit n vs

abbrev pub RegsFit : ℕ → List (Option SymValue) → Type 0
RegsFit n [] = Unit {0}
RegsFit n (v ∷ vs) = ValueFitsIf n v × RegsFit n vs

abbrev pub FramesFit : ℕ → List Frame → Type 0
FramesFit n [] = Unit {0}
FramesFit n (f ∷ fs) = RegsFit n f.regs × FramesFit n fs

pub record SnapshotFits (n : ℕ) (s : Snapshot) : Type 0 where
  pub args : ValuesFit n s.args
  pub result : ValueFitsIf n s.result

abbrev pub SnapshotsFit : ℕ → List Snapshot → Type 0
SnapshotsFit n [] = Unit {0}
SnapshotsFit n (s ∷ ss) = SnapshotFits n s × SnapshotsFit n ss

abbrev pub FillsFit : ℕ → List Fill → Type 0
FillsFit n [] = Unit {0}
FillsFit n (f ∷ fs) = EntriesFit n f.entries × FillsFit n fs

abbrev pub ItemFits : ℕ → Item → Type 0
ItemFits n (Did e) = EntryFits n e
ItemFits n (Marked call mods fills) = FillsFit n fills

abbrev pub LogFits : ℕ → Log → Type 0
LogFits n [] = Unit {0}
LogFits n (item ∷ log) = ItemFits n item × LogFits n log

-- a byte, and an offset of 64 bits
abbrev pub InitFits : InitByte → Type 0
InitFits (init.Int b) = b < 256
InitFits (init.PtrByte g offset j) = offset < 2 ^ 64

abbrev pub InitsFit : List InitByte → Type 0
InitsFit [] = Unit {0}
InitsFit (b ∷ bs) = InitFits b × InitsFit bs

pub record GlobalFits (g : GlobalVar) : Type 0 where
  pub small : g.size < 2 ^ 64
  pub few : length g.init ≤ 2 ^ 64
  pub inits : InitsFit g.init

abbrev pub GlobalsFit : List GlobalVar → Type 0
GlobalsFit [] = Unit {0}
GlobalsFit (g ∷ gs) = GlobalFits g × GlobalsFit gs

pub record StateFits (s : State) : Type 0 where
  pub size : length s.kept ≤ 64
  pub frame : RegsFit (length s.kept) s.frame.regs
  pub callers : FramesFit (length s.kept) s.callers
  pub globals : GlobalsFit s.memory.globals
  pub log : LogFits (length s.kept) s.memory.log
  pub snapshots : SnapshotsFit (length s.kept) s.snapshots
  pub condition : AreTermsOf (length s.kept) 1 s.condition
  pub path : EventsFit (length s.kept) s.path

-- what memory answers
abbrev pub LivingFits : ℕ → Living → Type 0
LivingFits n (Alive size) = IsTermOf n 64 size
LivingFits n Dead = Unit {0}

abbrev pub ReadFits : ℕ → Read → Type 0
ReadFits n (Byte b) = ByteFits n b
ReadFits n (Undecided t) = IsTermOf n 1 t

abbrev pub HaveOneBit : List Tree → Type 0
HaveOneBit [] = Unit {0}
HaveOneBit (t ∷ ts) = (width_of t ≡ 1) × HaveOneBit ts
