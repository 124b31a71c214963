-- What a node's effect on memory appends to the history.
use Rattle.std.specs.Prelude.{ℕ, zero, suc, ◌+◌, ◌%◌, ◌^◌, ◌∷◌, None, Some}
use Rattle.flat_ir.specs.declared.values.Address.{Address}
use Rattle.flat_ir.specs.declared.values.ConcreteByte.{ConcreteByte}
use Rattle.flat_ir.specs.declared.values.ConcreteValue.{ConcreteValue}
use Rattle.flat_ir.specs.History.{History, Write, Free}
use Rattle.flat_ir.specs.Registers.{cut}

-- a byte is written j places behind an address
abbrev pub written_in : Address → ConcreteByte → ℕ → History → History
written_in a b j h = elim a.base [ None ↦ h | Some x ↦ Write x ((a.offset + j) % 2 ^ 64) b ∷ h ]

-- bytes j to j + n - 1 of a value are written, the lowest first
abbrev pub stored_in : ℕ → ℕ → Address → ConcreteValue → History → History
stored_in zero j a v h = h
stored_in (suc n) j a v h = stored_in n (j + 1) a v (written_in a (cut v j) j h)

-- the object at an address is freed
abbrev pub freed_in : Address → History → History
freed_in a h = elim a.base [ None ↦ h | Some x ↦ Free x ∷ h ]
