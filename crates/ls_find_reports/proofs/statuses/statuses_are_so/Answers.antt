-- Why `statuses_are_so` in src/statuses.rt keeps its clauses.

use Rattle.std.proofs.Common.{refl}
use Rattle.ls_find_reports.proofs.StatusLemmas.{five_if_warned, four_if_cut}
use Rattle.ls_find_reports.proofs.statuses.statuses_are_so.Goals as goal

pub returns-clause-found : goal.returns-clause-found
returns-clause-found c = λ f number reason program schedule. refl

pub returns-clause-cut : goal.returns-clause-cut
returns-clause-cut c = four_if_cut

pub returns-clause-beside : goal.returns-clause-beside
returns-clause-beside c = five_if_warned
