-- What contracts see of the code's questions and answers: the same, with no table of terms.
use Rattle.sym_bytes.specs.declared.answers.Joined.{Joined}
use Rattle.sym_bytes.specs.declared.answers.Joined.TheVariants as joined
use Rattle.sym_bytes.specs.declared.answers.LifeOf.{LifeOf}
use Rattle.sym_bytes.specs.declared.answers.LifeOf.TheVariants as life_of
use Rattle.sym_bytes.specs.declared.answers.ReadByte.{ReadByte}
use Rattle.sym_bytes.specs.declared.answers.ReadByte.TheVariants as read_byte
use Rattle.sym_bytes.specs.declared.answers.Wanted.{Wanted}
use Rattle.sym_bytes.specs.declared.answers.Wanted.TheVariants as wanted
use Rattle.sym_bytes.specs.Answers as answers
use Rattle.sym_bytes.specs.Answers.{Join, Want, Read, Living}

abbrev pub join_of : {H : Type 0} → Joined H → Join
join_of (joined.Value v) = answers.Value v
join_of (joined.Needs calls) = answers.Needs calls
join_of (joined.Test t v) = answers.Test t v
join_of joined.Mixed = answers.Mixed

abbrev pub want_of : {H : Type 0} → Wanted H → Want
want_of (wanted.Bytes x offset count) = answers.Bytes x offset count
want_of (wanted.Life x) = answers.Life x
want_of wanted.Input = answers.Input
want_of wanted.Output = answers.Output

abbrev pub read_of : {H : Type 0} → ReadByte H → Read
read_of (read_byte.Byte b) = answers.Byte b
read_of (read_byte.Undecided t) = answers.Undecided t

abbrev pub living_of : {H : Type 0} → LifeOf H → Living
living_of (life_of.Alive size) = answers.Alive size
living_of life_of.Dead = answers.Dead
