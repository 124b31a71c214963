-- What the history says of a name, as callers of a store need it.
use Rattle.std.proofs.Common.{◌≡◌, true, false, List, Option, Some, None, IsSome, refl}
use Rattle.flat_ir.specs.declared.names.CallStep.{CallStep}
use Rattle.flat_ir.specs.declared.names.ObjectName.TheVariants.{Made}
use Rattle.flat_ir.specs.declared.program.ProgramData.{ProgramData}
use Rattle.flat_ir.specs.History.{History, is_alive}
use Rattle.flat_ir.specs.Orderly.{is_made}
use Rattle.flat_ir.proofs.MadeBasics.{alive_made}
use Rattle.concrete_memory.specs.declared.objects.Store.{Store}
use Rattle.concrete_memory.specs.declared.objects.Life.{Life}
use Rattle.concrete_memory.specs.declared.objects.Life.TheVariants.{Live, Ended}
use Rattle.concrete_memory.specs.Standing.{StandsFor, Holds, life_of}

absent_by : (p : ProgramData) (h : History) (frame : List CallStep) (made : CallStep) (life : Option Life) → Holds p h (Made frame made) life → is_made (Made frame made) h ≡ false → life ≡ None
absent_by p h frame made None holds none = refl
absent_by p h frame made (Some (Live bytes)) holds none = let there = holds.named in cc
absent_by p h frame made (Some Ended) holds none = let there = holds.named in cc

present_by : (p : ProgramData) (h : History) (frame : List CallStep) (made : CallStep) (life : Option Life) → Holds p h (Made frame made) life → is_made (Made frame made) h ≡ true → IsSome life
present_by p h frame made None holds there = cc
present_by p h frame made (Some life) holds there = refl

-- a name that the history doesn't allocate is not in the store
pub new_name_is_absent : (p : ProgramData) (h : History) (store : Store) (frame : List CallStep) (made : CallStep)
    → StandsFor p store h → is_made (Made frame made) h ≡ false → life_of store (Made frame made) ≡ None
new_name_is_absent p h store frame made stands none = absent_by p h frame made (life_of store (Made frame made)) (stands.objects (Made frame made)) none

-- an object that is alive is in the store
pub alive_name_is_there : (p : ProgramData) (h : History) (store : Store) (frame : List CallStep) (made : CallStep)
    → StandsFor p store h → is_alive (Made frame made) h ≡ true → IsSome (life_of store (Made frame made))
alive_name_is_there p h store frame made stands alive = present_by p h frame made (life_of store (Made frame made)) (stands.objects (Made frame made)) (alive_made frame made h alive).0
