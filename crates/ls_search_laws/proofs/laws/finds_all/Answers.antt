-- Why `finds_all` in src/laws.rt keeps its contract.

use Rattle.ls_search_laws.proofs.Search.{finds_all}
use Rattle.ls_search_laws.proofs.laws.finds_all.Goals as goal

pub returns : goal.returns
returns g c = λ o quiet file program. finds_all (g.O.Observe.first o) (g.O.Observe.next o) quiet (g.O.Observe.Names o)
    (g.O.Observe.Alike o) file program
