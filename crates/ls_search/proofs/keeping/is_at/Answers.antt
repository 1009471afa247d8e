-- Why `is_at` in src/keeping.rt keeps its contract.

use Rattle.std.proofs.Common.{◌≡◌, ◌<◌, length, get_or, refl, rules}
use Rattle.std.proofs.lemmas.Option.{slice_get_read}
use Rattle.ls_search.proofs.keeping.is_at.Goals as goal

pub returns-in-Some : goal.returns-in-Some
returns-in-Some c = λ same.
    let within : c.args.at < length c.args.nodes.now = search rules in
    let is : c.in-Some.node.now ≡ get_or c.args.nodes.now c.args.at c.in-Some.node.now = search rules in
    record {
      at = c.args.at;
      node = c.in-Some.node.now;
      here = slice_get_read c.args.nodes.now (length c.args.nodes.now) c.args.at c.in-Some.node.now refl within is;
      store = c.is_same_place.ensures.store same;
      works = c.is_same_place.ensures.works same;
      noted = c.is_same_place.ensures.noted same;
    }
