-- Why `sort` in src/adding.rt keeps its clause `rise`.

use Rattle.std.proofs.Common.{rules}
use Rattle.std.proofs.lemmas.List.Sorted.{IsNonDecreasingBy-from_sort_by_key}
use Rattle.ls_find_reports.proofs.adding.sort.Goals as goal

pub returns-clause-rise : goal.returns-clause-rise
returns-clause-rise c =
    IsNonDecreasingBy-from_sort_by_key (λ r. r.figures.from) _ c.in_ok-sort_by_key.ensures.sorted
    (λ a r q k. search rules)
