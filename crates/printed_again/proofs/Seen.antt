-- The tokens of a text of bytes have bytes.
use Rattle.std.proofs.Common.{◌≡◌, ℕ, zero, suc, ◌-◌, ◌<◌, ◌^◌, Bool, true, false, cond, ◌&&◌, nat_le, nat_lt, List, [], ◌∷◌, length, get_or, take, drop, refl, arith, lt-ltb}
use Rattle.ir_lexer.specs.declared.token.Token.{Token}
use Rattle.phrases.proofs.Classes.{and_left, and_right}
use Rattle.ir_grammar.specs.Tokens.{bytes_of, seen}
use Rattle.printed_again.specs.Again.{are_bytes, HaveBytes}
use Rattle.printed_again.proofs.Bytes.{both}

taken_bytes : (n : ℕ) (bs : List ℕ) → are_bytes bs ≡ true → are_bytes (take n bs) ≡ true
taken_bytes zero bs h = refl
taken_bytes (suc n) [] h = refl
taken_bytes (suc n) (b ∷ bs) h = both (nat_lt b 256) _ (and_left (nat_lt b 256) (are_bytes bs) h) (taken_bytes n bs (and_right (nat_lt b 256) (are_bytes bs) h))

dropped_bytes : (n : ℕ) (bs : List ℕ) → are_bytes bs ≡ true → are_bytes (drop n bs) ≡ true
dropped_bytes zero bs h = h
dropped_bytes (suc n) [] h = refl
dropped_bytes (suc n) (b ∷ bs) h = dropped_bytes n bs (and_right (nat_lt b 256) (are_bytes bs) h)

token_bytes : (bytes : List ℕ) (t : Token) → are_bytes bytes ≡ true → are_bytes (bytes_of bytes t) ≡ true
token_bytes bytes t h = go (nat_le t.start t.end && nat_le t.end (length bytes))
  where
    go : (b : Bool) → are_bytes (cond b (take (t.end - t.start) (drop t.start bytes)) []) ≡ true
    go true = taken_bytes (t.end - t.start) (drop t.start bytes) (dropped_bytes t.start bytes h)
    go false = refl

pub seen_have_bytes : (bytes : List ℕ) (tokens : List Token) → are_bytes bytes ≡ true → HaveBytes (seen bytes tokens)
seen_have_bytes bytes [] h = tt
seen_have_bytes bytes (t ∷ ts) h = (token_bytes bytes t h, seen_have_bytes bytes ts h)

-- what the type of a slice of bytes says
pub slice_has_bytes : (bs : List ℕ) → ((k : ℕ) → k < length bs → get_or bs k 0 < 2 ^ 8) → are_bytes bs ≡ true
slice_has_bytes [] h = refl
slice_has_bytes (b ∷ bs) h = both (nat_lt b 256) (are_bytes bs) (lt-ltb b 256 (h zero (omega arith))) (slice_has_bytes bs (λ k lt. h (suc k) (omega (arith, lt))))
