use Rattle.std.proofs.Common.{◌≡◌, ◌∙◌, ℕ, ◌+◌, ◌<◌, List, [], ◌∷◌, ◌++◌, length, drop, drop-cons, add-one, append_assoc, ap, sym, arith}
use Rattle.flat_ir.specs.declared.nodes.RegType.{RegType}
use Rattle.flat_ir.specs.declared.nodes.RegType.TheVariants as type
use Rattle.prelude.specs.Shapes.{no_names}
use Rattle.prelude.proofs.shapes.no_names.Goals as goal

first_name : (regs : List RegType) (i : ℕ) → i < length regs → no_names (drop i regs) ≡ [] ∷ no_names (drop (i + 1) regs)
first_name regs i lt = rw add-one (ap no_names (drop-cons regs i type.Ptr lt))

more : (xs ys : List (List ℕ)) (v : List ℕ) (regs : List RegType) (i : ℕ) → v ≡ [] → i < length regs → ys ≡ xs ++ v ∷ [] →
    xs ++ no_names (drop i regs) ≡ no_names regs → ys ++ no_names (drop (i + 1) regs) ≡ no_names regs
more xs ys v regs i e lt pushed before =
    ap (λ zs. zs ++ no_names (drop (i + 1) regs)) (pushed ∙ ap (λ (w : List ℕ). xs ++ w ∷ []) e) ∙ append_assoc xs ([] ∷ []) (no_names (drop (i + 1) regs))
    ∙ ap (λ zs. xs ++ zs) (sym (first_name regs i lt)) ∙ before

pub loop-reg-preserved : goal.loop-reg-preserved
loop-reg-preserved c =
    more c.loop-reg.names.items c.push.new.self.items c.new.result c.args.regs.now c.loop-reg._reg-index c.new.ensures (omega arith)
    c.in_ok-push.ensures.items c.loop-reg.invariant
