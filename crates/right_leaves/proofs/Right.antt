-- The leaves of an exploration in which no call is skipped are right.
use Rattle.std.proofs.Common.{◌≡◌, ℕ, zero, suc, ◌+◌, ◌<◌, List, [], ◌∷◌, map, length, refl, ◌∙◌, ap, arith, sym, subst, ◌≤◌, ◌⊎◌, inl, inr}
use Rattle.std.specs.Prelude.{count_by}
use Rattle.std.specs.List.{AllByRecursion as Each}
use Rattle.std.proofs.lemmas.List.Elements.{All-from_recursion}
use Rattle.std.proofs.lemmas.List.Sums.{sum_by-cons}
use Rattle.std.proofs.Math.Nat.{add-zero, eq-zero-or-pos}
use Rattle.decider.specs.Inputs.{IsAtMost}
use Rattle.flat_ir.specs.Sound.{IsInput, IsSound}
use Rattle.terms.specs.Value.{are_met_by}
use Rattle.leaves.specs.Claims.{claim_of}
use Rattle.leaves.specs.Events.{Leaf, told_of}
use Rattle.sym_states.specs.Exploring.{Setting, zeros, Explores}
use Rattle.state_sides.specs.Views.{verdict_by}
use Rattle.state_laws.proofs.Roots.{zeros-length}
use Rattle.agreement.proofs.Starts.{first-plain, first-stands}
use Rattle.right_leaves.specs.Right.{IsLeast, KeepsLeast, IsPlainSetting, AreRightVerdicts, LeavesAreRight, IsPlainProgram, DecidedLeavesAreRight}
use Rattle.right_leaves.proofs.Counts.{one_if}
use Rattle.right_leaves.proofs.Programs.{plain-fits}
use Rattle.right_leaves.proofs.Verdicts.{decided-size, decided-right}
use Rattle.right_leaves.proofs.Explored.{LeavesHold, ListsHold, met_leaves, evaluates-hold}

-- ---- the first state keeps the least input

zeros-bytes : (n : ℕ) → Each (λ b. b < 256) (zeros n)
zeros-bytes zero = tt
zeros-bytes (suc n) = (omega arith, zeros-bytes n)

pub zeros-input : (n : ℕ) → IsInput n (zeros n)
zeros-input n = (zeros-length n, All-from_recursion (λ b. b < 256) (zeros n) (zeros-bytes n))

by-byte : (b : ℕ) (P : Type 0) → (b ≡ 0) ⊎ (0 < b) → P → (0 < b) ⊎ ((0 ≡ b) × P)
by-byte b P (inl e) h = inr (sym e, h)
by-byte b P (inr some) h = inl some

-- all zeros are at most each input
zeros-least : (n : ℕ) (input : List ℕ) → length input ≡ n → IsAtMost (zeros n) input
zeros-least zero input h = tt
zeros-least (suc n) [] h = absurd (omega (arith, h))
zeros-least (suc n) (b ∷ input) h = by-byte b (IsAtMost (zeros n) input) (eq-zero-or-pos b) (zeros-least n input (omega (arith, h)))

pub first-least : (n : ℕ) → IsLeast n [] (zeros n)
first-least n = record { fits = zeros-input n; met = refl; least = λ input is met. zeros-least n input is.0 }

-- ---- the law

counted : (i : List ℕ) (leaves : List Leaf) → count_by (λ c. c.is_met i) (map claim_of leaves) ≡ met_leaves i leaves
counted i [] = refl
counted i (l ∷ leaves) = sum_by-cons (λ c. one_if (c.is_met i)) (claim_of l) (map claim_of leaves) ∙ ap (λ n. one_if (are_met_by i (told_of l).condition) + n) (counted i leaves)

sound-all : (e : Setting) (leaves : List Leaf) → ((i : List ℕ) → IsInput e.inputs i → LeavesHold e i leaves) → Each (IsSound e.program [] e.inputs) (map claim_of leaves)
sound-all e [] h = tt
sound-all e (l ∷ leaves) h = (λ i is met returns. (h i is).0.1 met, sound-all e leaves (λ i is. (h i is).1))

least-all : (e : Setting) (i : List ℕ) (leaves : List Leaf) → LeavesHold e i leaves → Each (KeepsLeast e.inputs) leaves
least-all e i [] h = tt
least-all e i (l ∷ leaves) h = (h.0.0, least-all e i leaves h.1)

explored : (e : Setting) (leaves : List Leaf) (tasks : ℕ) → IsPlainSetting e → Explores e leaves tasks → (i : List ℕ) → IsInput e.inputs i → ListsHold e i 1 (leaves ∷ [])
explored e leaves tasks plain h i is = evaluates-hold h i plain is (((first-plain e (plain-fits e plain) plain.plain, λ met. first-stands e i), first-least e.inputs), tt)

pub leaves-right : LeavesAreRight
leaves-right e leaves tasks plain h =
    let holds = explored e leaves tasks plain h in
    record {
      split = λ i is. counted i leaves ∙ sym (add-zero (met_leaves i leaves)) ∙ (holds i is).count;
      sound = All-from_recursion (IsSound e.program [] e.inputs) (map claim_of leaves) (sound-all e leaves (λ i is. (holds i is).leaves.0));
      least = All-from_recursion (KeepsLeast e.inputs) leaves (least-all e (zeros e.inputs) leaves (holds (zeros e.inputs) (zeros-input e.inputs)).leaves.0);
    }

-- ---- verdicts that are decided

plain-setting : (e : Setting) (budget : ℕ) → IsPlainProgram e.program → e.skips ≡ [] → e.inputs ≤ 64 → e.verdict ≡ verdict_by budget → IsPlainSetting e
plain-setting e budget program skips most verdict =
    let by = sym verdict in
    record {
      most = most;
      verdicts = subst (λ v. AreRightVerdicts v e.inputs) by (decided-right budget e.inputs most);
      plain = record {
        whole = program.whole;
        checked = program.checked;
        numbers = program.numbers;
        fitting = record { sizes = λ condition n input few is. decided-size budget condition n input few ((λ j. by j condition n) ∙ is) };
        program = program.fits;
        no_skips = skips;
        no_slice = refl;
      };
      distinct = program.distinct;
    }

pub decided-leaves-right : DecidedLeavesAreRight
decided-leaves-right e budget leaves tasks program skips most verdict h = leaves-right e leaves tasks (plain-setting e budget program skips most verdict) h
