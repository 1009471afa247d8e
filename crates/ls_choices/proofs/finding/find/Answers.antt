-- Why `find` in src/finding.rt keeps its contract.

use Rattle.std.proofs.Common.{◌∙◌, ap, sym, Some}
use Rattle.std.proofs.lemmas.Option.{slice_get-get_or}
use Rattle.ls_choices.proofs.finding.find.Goals as goal

pub returns-then-is_same : goal.returns-then-is_same
returns-then-is_same c =
    let at = c.in_ok-kept.ensures.lookup in
    record {
      kept = c.in_ok-kept.kept.now;
      here = slice_get-get_or c.args.points.now c.in_ok-place.place c.in_ok-kept.kept.now at.3.0 ∙ ap Some (sym at.1);
      same = c.is_same.ensures c.if-is_same.true;
    }
