-- What bytes that were read make, fits.
use Rattle.std.proofs.Common.{◌≡◌, ℕ, List, [], ◌∷◌, length, map, refl, sym, ap, ◌∙◌, subst}
use Rattle.std.proofs.lemmas.List.{length-map}
use Rattle.flat_ir.specs.declared.nodes.RegType.{RegType}
use Rattle.flat_ir.specs.Registers.{bytes_of_type}
use Rattle.sym_bytes.specs.Answers.{Join}
use Rattle.sym_states.specs.Attempts.{ReadBytes}
use Rattle.sym_states.specs.Terms.{byte_resolved, joined_as}
use Rattle.state_laws.specs.Kept.{IsShortType, ReadBytesFits, JoinFits}
use Rattle.state_laws.proofs.States.{parts_of}
use Rattle.state_laws.proofs.Values.{bytes_resolved-fit, joined_as-fits}

pub join-fits : (n : ℕ) (t : RegType) (r : ReadBytes) (j : Join) → j ≡ joined_as t (map (byte_resolved r.state.snapshots) r.bytes) → IsShortType t → ReadBytesFits n (bytes_of_type t) r → JoinFits n j
join-fits n t r j is short h =
    let f = byte_resolved r.state.snapshots in
    subst (JoinFits n) (sym is)
    (joined_as-fits n t (map f r.bytes) short (length-map r.bytes f ∙ h.size) (bytes_resolved-fit n r.state.snapshots r.bytes (parts_of n r.state h.state).snapshots h.bytes))
