-- Why `keep_work` in src/pools.rt keeps its clause `keeps`.

use Rattle.std.proofs.Common.{[], ◌∷◌, ◌++◌, ap, ◌∙◌}
use Rattle.ls_source.specs.SeenThread.{thread_of}
use Rattle.ls_transitions.proofs.Keeping.{keeps_more}
use Rattle.ls_transitions.proofs.pools.keep_work.Goals as goal

pub returns-clause-keeps : goal.returns-clause-keeps
returns-clause-keeps c =
    keeps_more thread_of c.args.works.now.items c.push_reserved.new.self.items c.args.work
    (c.push_reserved.ensures.items ∙ ap (λ l. l ++ c.args.work ∷ []) c.reserve.ensures.items)
