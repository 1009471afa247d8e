-- Why `told` in src/paging.rt keeps its contract.

use Rattle.std.proofs.Common.{ap, option_map}
use Rattle.ls_labels.specs.Names.{names_of}
use Rattle.ls_commands.specs.Paged.{wanted_of}
use Rattle.ls_commands.proofs.PagedLemmas.{plain_told}
use Rattle.ls_commands.proofs.paging.told.Goals as goal

pub returns-in_ok-page-in-None : goal.returns-in_ok-page-in-None
returns-in_ok-page-in-None c =
    plain_told (wanted_of c.args.wanted) (names_of c.args.names) c.args.steps.now (wanted_of c.args.wanted).order _
    (ap (option_map (λ o. o.now)) c.in-None.is) c.in_ok-page-in-None.ensures
