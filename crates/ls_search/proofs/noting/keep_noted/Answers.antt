-- Why `keep_noted` in src/noting.rt keeps its clause `keeps`.

use Rattle.std.proofs.Common.{[], ◌∷◌, ◌++◌, ap, ◌∙◌}
use Rattle.ls_transitions.proofs.Keeping.{keeps_more}
use Rattle.ls_search.proofs.noting.keep_noted.Goals as goal

pub returns-clause-keeps : goal.returns-clause-keeps
returns-clause-keeps g c =
    keeps_more (g.O.Observer.stands c.args.observer.now) c.args.pool.now.values.items c.push_reserved.new.self.items
    c.args.noted (c.push_reserved.ensures.items ∙ ap (λ l. l ++ c.args.noted ∷ []) c.reserve.ensures.items)
