-- Frees that are appended one after another.
use Rattle.std.proofs.Common.{◌≡◌, ℕ, suc, ◌+◌, ◌-◌, ◌<◌, List, [], ◌∷◌, ◌++◌, map, reverse, refl, sym, ◌∙◌, ap, append_assoc, arith}
use Rattle.std.proofs.lemmas.List.{map-append, reverse-append}
use Rattle.flat_ir.specs.declared.names.ObjectName.{ObjectName}
use Rattle.flat_ir.specs.declared.names.ObjectName.TheVariants as object
use Rattle.sym_bytes.specs.Entry.{Entry, Free}
use Rattle.log_laws.specs.Logs.{Log, Did}
use Rattle.write_log.specs.Memory.{Memory, with_log, with_item}
use Rattle.sym_states.specs.Attempts.{frees_of_node}
use Rattle.sym_states.specs.States.{Frame}
use Rattle.call_steps.specs.Frees.{with_frees}

-- those that come later are appended behind the others
pub with_frees-append : (es fs : List Entry) (m : Memory) → with_frees (es ++ fs) m ≡ with_frees fs (with_frees es m)
with_frees-append es fs m =
    ap (λ (log : Log). with_log log m)
    (ap (λ (xs : List Entry). map Did xs ++ m.log) (reverse-append es fs)
    ∙ (ap (λ xs. xs ++ m.log) (map-append Did (reverse fs) (reverse es)) ∙ append_assoc (map Did (reverse fs)) (map Did (reverse es)) m.log))

pub with_frees-one : (e : Entry) (es : List Entry) (m : Memory) → with_frees (e ∷ es) m ≡ with_frees es (with_item (Did e) m)
with_frees-one e es m = with_frees-append (e ∷ []) es m

-- the object of the next count, and those behind it
pub frees_of_node-next : (frame : Frame) (n count before : ℕ) → before < count
    → frees_of_node frame n (count - before) (before + 1) ≡ Free (object.Made frame.name (record { func = frame.func; node = record { 0 = n }; count = before + 1 })) ∷ frees_of_node frame n (count - (before + 1)) (before + 1 + 1)
frees_of_node-next frame n count before within =
    let more : count - before ≡ suc (count - (before + 1)) = omega arith in
    rw more refl

-- one more is appended
pub freed-more : (frame : Frame) (n count before : ℕ) (x : ObjectName) (e : Entry) (now new all : Memory) → before < count
    → x ≡ object.Made frame.name (record { func = frame.func; node = record { 0 = n }; count = before + 1 }) → e ≡ Free x → new ≡ with_item (Did e) now
    → with_frees (frees_of_node frame n (count - before) (before + 1)) now ≡ all
    → with_frees (frees_of_node frame n (count - (before + 1)) (before + 1 + 1)) new ≡ all
freed-more frame n count before x e now new all within named freed appended h =
    let rest = frees_of_node frame n (count - (before + 1)) (before + 1 + 1) in
    ap (with_frees rest) (appended ∙ ap (λ (f : Entry). with_item (Did f) now) (freed ∙ ap Free named))
    ∙ (sym (with_frees-one (Free (object.Made frame.name (record { func = frame.func; node = record { 0 = n }; count = before + 1 }))) rest now)
    ∙ (ap (λ (es : List Entry). with_frees es now) (sym (frees_of_node-next frame n count before within)) ∙ h))
