-- Why `keep_store` in src/pools.rt keeps its clause `keeps`.

use Rattle.std.proofs.Common.{[], ◌∷◌, ◌++◌, ap, ◌∙◌}
use Rattle.ls_source_store.specs.SeenStore.{store_of}
use Rattle.ls_transitions.proofs.Keeping.{keeps_more}
use Rattle.ls_transitions.proofs.pools.keep_store.Goals as goal

pub returns-clause-keeps : goal.returns-clause-keeps
returns-clause-keeps c =
    keeps_more store_of c.args.stores.now.items c.push_reserved.new.self.items c.args.store
    (c.push_reserved.ensures.items ∙ ap (λ l. l ++ c.args.store ∷ []) c.reserve.ensures.items)
