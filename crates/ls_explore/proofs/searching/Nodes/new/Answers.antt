-- Why `Nodes::new` in src/searching.rt keeps its clause `paths`.

use Rattle.std.proofs.Common.{◌∙◌, ◌++◌, [], ◌∷◌, ap}
use Rattle.ls_explore.proofs.Paths.{paths_first}
use Rattle.ls_explore.proofs.searching.Nodes.new.Goals as goal

pub returns-clause-paths : goal.returns-clause-paths
returns-clause-paths c = paths_first c.push-2.new.self.items c.first.result
    (c.in_ok-push-2.ensures.items ∙ ap (λ l. l ++ c.first.result ∷ []) c.new-paths.ensures.items) c.first.ensures
