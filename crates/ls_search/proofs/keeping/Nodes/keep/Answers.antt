-- Why `Nodes::keep` in src/keeping.rt keeps its clause `there`.

use Rattle.std.proofs.Common.{length, refl, ap, ◌∙◌}
use Rattle.std.specs.Prelude.{slice_get}
use Rattle.ls_search.proofs.Pairs.{last_there}
use Rattle.ls_search.proofs.keeping.Nodes.keep.Goals as goal

pub returns-clause-there : goal.returns-clause-there
returns-clause-there c = λ kept. record {
  at = length c.args.self.now.nodes.items;
  node = c.args.node;
  here = ap (λ l. slice_get l (length c.args.self.now.nodes.items)) c.in_ok-push.ensures.items ∙
      last_there c.args.self.now.nodes.items c.args.node;
  store = refl;
  works = refl;
  noted = refl;
}
