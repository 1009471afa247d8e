-- Why `endless_by_states` in src/finding.rt keeps its contract.

use Rattle.std.proofs.lemmas.Result.{IfOk-weaker}
use Rattle.ls_endless_calls.proofs.finding.endless_by_states.Goals as goal

pub returns-in-Steps : goal.returns-in-Steps
returns-in-Steps c =
    IfOk-weaker c.confirmed.result _ _ (λ e so sfile sprogram are tell. so sfile sprogram tell) c.confirmed.ensures
