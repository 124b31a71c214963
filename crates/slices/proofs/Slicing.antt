-- Slices have what their runs use.
use Rattle.std.proofs.Common.{◌≡◌, ◌<◌, ℕ, refl, ap, arith}
use Rattle.control_closure.specs.Met.{Meets}
use Rattle.control_closure.proofs.ClosedSets.{meets_one}
use Rattle.flat_ir.specs.declared.names.FuncId.{FuncId}
use Rattle.flat_ir.specs.declared.names.NodeId.{NodeId}
use Rattle.flat_ir.specs.declared.names.Location.{Location}
use Rattle.flat_ir.specs.declared.program.ProgramData.{ProgramData}
use Rattle.flat_ir.specs.declared.residual.Next.{Next}
use Rattle.flat_ir.specs.declared.residual.Next.TheVariants as next
use Rattle.slices.specs.Slice.{Items, Looks, asked, returns, changes, defines, cells, lives, input, calls, results, IsGrown, IsClosedSlice, Slices, ends, round, graph_of, retained, end_of}
use Rattle.slices.specs.SliceFacts.{SliceFacts, GoesWhereMet}
use Rattle.slices.specs.Nexts.{Ways, AreNexts, IsMetFirst}

one : (p : ProgramData) (f : FuncId) (items : Items) → IsClosedSlice p f items → (g : FuncId) → Looks p f g → (n a b : ℕ) →
    Meets (graph_of p g) (retained p g items) n a → Meets (graph_of p g) (retained p g items) n b → a ≡ b
one p f items closed g looks = meets_one (graph_of p g) (retained p g items) (λ n open' parts. closed g (record { 0 = n }) open' (looks, parts))

grown_facts : (p : ProgramData) (f : FuncId) (at' : Location) (old items : Items) → IsGrown p f at' old items → IsClosedSlice p f items → SliceFacts p f at' items
grown_facts p f at' old items is closed = record {
  asked = (is _).1 asked;
  returns = λ n e e'. (is _).1 (returns n e e');
  changes = λ g n l looks c h. (is _).1 (changes g n l looks c ((is _).0 h));
  defines = λ g n m r h reads d. (is _).1 (defines g n m r ((is _).0 h) reads d);
  cells = λ g n a s h c pts. (is _).1 (cells g n a s ((is _).0 h) c pts);
  lives = λ g n a s h c pts. (is _).1 (lives g n a s ((is _).0 h) c pts);
  input = λ g n h e. (is _).1 (input g n ((is _).0 h) e);
  calls = λ g n callee m looks e h. (is _).1 (calls g n callee m looks e ((is _).0 h));
  results = λ g n m callee r k h reads e e' e''. (is _).1 (results g n m callee r k ((is _).0 h) reads e e' e'');
  one_met = one p f items closed;
}

pub facts : (p : ProgramData) (f : FuncId) (at' : Location) (old items : Items) → Slices p f at' old items → SliceFacts p f at' items
facts p f at' old items (ends _ _ is closed) = grown_facts p f at' old items is closed
facts p f at' old items (round _ grown closed _ is step more) = facts p f at' closed items more

goes_at : (p : ProgramData) (f : FuncId) (at' : Location) (items : Items) → SliceFacts p f at' items → (g : FuncId) → Looks p f g → (n m : NodeId) → m.0 < end_of p g →
    Meets (graph_of p g) (retained p g items) n.0 m.0 → (place : Next) → IsMetFirst p items g n place → place ≡ next.Node m
goes_at p f at' items s g looks n m within met (next.Node k) first = ap (λ (x : ℕ). next.Node (record { 0 = x })) (s.one_met g looks n.0 k.0 m.0 first.1 met)
goes_at p f at' items s g looks n m within met next.End first = let e = s.one_met g looks n.0 m.0 (end_of p g) met first in absurd (omega (arith, e))
goes_at p f at' items s g looks n m within met next.Never first = absurd (first m.0 met)

goes_end : (p : ProgramData) (f : FuncId) (at' : Location) (items : Items) → SliceFacts p f at' items → (g : FuncId) → Looks p f g → (n : NodeId) →
    Meets (graph_of p g) (retained p g items) n.0 (end_of p g) → (place : Next) → IsMetFirst p items g n place → place ≡ next.End
goes_end p f at' items s g looks n met (next.Node k) first = let e = s.one_met g looks n.0 k.0 (end_of p g) first.1 met in absurd (omega (arith, e, first.0))
goes_end p f at' items s g looks n met next.End first = refl
goes_end p f at' items s g looks n met next.Never first = absurd (first (end_of p g) met)

pub goes : (p : ProgramData) (f : FuncId) (at' : Location) (items : Items) → SliceFacts p f at' items → (ways : Ways) → AreNexts p items ways → GoesWhereMet p f items ways
goes p f at' items s ways nexts = record {
  node = λ g looks n m within met. goes_at p f at' items s g looks n m within met (ways g n) (nexts g n);
  end = λ g looks n met. goes_end p f at' items s g looks n met (ways g n) (nexts g n);
}
