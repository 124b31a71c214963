-- The bytes that a value has.
use Rattle.std.specs.Prelude.{ℕ, ◌&&◌, nat_lt, Bool}
use Rattle.sym_bytes.specs.Value.{SymValue}
use Rattle.sym_states.specs.Terms.{bytes_of_value, is_of_bytes}

-- the value has a byte j
abbrev pub is_part : SymValue → ℕ → Bool
is_part v j = is_of_bytes v && nat_lt j (bytes_of_value v)
