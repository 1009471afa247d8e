-- Why `has_try_lock` in src/declared.rt keeps its contract.

use Rattle.std.specs.Prelude.{codes}
use Rattle.std.proofs.lemmas.Str.Pattern.{contains_text}
use Rattle.ls_race_reports.proofs.declared.has_try_lock.Goals as goal

pub returns : goal.returns
returns c = contains_text c.contains.result (codes "tryLock") c.args.classes.now c.contains.ensures.cases
