-- What is printed is read again.
use Rattle.printed_again.specs.Again.{IsSpelledAgain}
use Rattle.printed_again.proofs.Module.{module_tells, module_back}
use Rattle.printed_again.proofs.Renumbered.{tree_again}

pub spelled_again : IsSpelledAgain
spelled_again tree written bytes d ts s =
    let found = (module_back tree (module_tells.told tree written bytes d)).read ts s in
    (found.0, found.1, tree_again found.0 tree found.2)
