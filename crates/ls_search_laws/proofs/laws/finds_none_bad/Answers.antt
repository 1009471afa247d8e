-- Why `finds_none_bad` in src/laws.rt keeps its contract.

use Rattle.ls_search_laws.proofs.Search.{finds_none_bad}
use Rattle.ls_search_laws.proofs.laws.finds_none_bad.Goals as goal

pub returns : goal.returns
returns g c = λ o quiet file program. finds_none_bad (g.O.Observe.first o) (g.O.Observe.next o) quiet
    (g.O.Observe.Names o) (g.O.Observe.Alike o) file program (g.O.Observe.bad o)
