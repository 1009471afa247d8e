-- Why `is_of_ranges` in src/merging.rt keeps its contract.

use Rattle.std.proofs.Common.{codes}
use Rattle.std.proofs.lemmas.Str.Pattern.{starts_text}
use Rattle.ls_commands.proofs.merging.is_of_ranges.Goals as goal

pub returns : goal.returns
returns c = starts_text c.starts_with.result (codes "//") c.args.text.now c.starts_with.ensures.cases
