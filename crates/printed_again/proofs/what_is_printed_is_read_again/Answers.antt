use Rattle.printed_again.proofs.what_is_printed_is_read_again.Goals as goal
use Rattle.printed_again.proofs.Law.{spelled_again}

pub returns : goal.returns
returns c = record { spelled_again = spelled_again }
