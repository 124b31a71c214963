-- The first file of a name.
use Rattle.std.proofs.Common.{◌≡◌, ℕ, ◌<◌, zero, suc, true, List, [], ◌∷◌, length, drop, get_or, Some, arith, string_bytes}
use Rattle.std.specs.Str.{bytes_eq}
use Rattle.chop_outside.specs.MemReading.{MemFile, first_named, contents_at}

pub first_here : (files : List MemFile) (place : ℕ) (name : List ℕ) (file : MemFile) → place < length files → file ≡ get_or files place file → bytes_eq (string_bytes file.0) name ≡ true → Some (contents_at files place) ≡ first_named (drop place files) name
first_here [] place name file within is same = absurd (omega arith)
first_here (f ∷ fs) zero name file within is same = let here : bytes_eq (string_bytes f.0) name ≡ true = rw is at same in rw here
first_here (f ∷ fs) (suc place) name file within is same = first_here fs place name file (omega arith) is same
