-- Why `status_for` in src/said.rt keeps its clause `apart`.

use Rattle.std.proofs.Common.{◌∙◌, sym}
use Rattle.ls_tool.proofs.Statuses.{not_two}
use Rattle.ls_tool.proofs.said.status_for.Goals as goal

pub returns-then-seeking-clause-apart : goal.returns-then-seeking-clause-apart
returns-then-seeking-clause-apart c = λ two. not_two c.args.text.now (sym c.status_of.ensures ∙ two)
