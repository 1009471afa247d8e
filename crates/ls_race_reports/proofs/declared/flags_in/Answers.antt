-- Why `flags_in` in src/declared.rt keeps its contract.

use Rattle.std.proofs.Common.{◌∙◌, ap, map}
use Rattle.ls_tree.specs.FileView.{bare_file}
use Rattle.ls_tree.specs.Views.{bare_class}
use Rattle.ls_races.specs.Flags.{flags_of}
use Rattle.ls_race_reports.proofs.declared.flags_in.Goals as goal

pub returns : goal.returns
returns c = record {
  tree = bare_file c.in-Ok.file;
  spelled = c.in-Ok.ensures.found;
  is = c.in_ok-flags.ensures ∙ ap (λ cs. flags_of (map bare_class cs)) c.classes.ensures;
}
