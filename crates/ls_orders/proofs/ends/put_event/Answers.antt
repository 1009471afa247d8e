-- Why `put_event` in src/ends.rt keeps its contract.

use Rattle.std.proofs.Common.{refl, sym, ◌∙◌}
use Rattle.std.proofs.lemmas.Result.{IfOk-weaker}
use Rattle.ls_orders.specs.Ends.{ended}
use Rattle.ls_orders.proofs.EndLemmas.{put_there}
use Rattle.ls_orders.proofs.ends.put_event.Goals as goal

pub returns-in-Pending : goal.returns-in-Pending
returns-in-Pending c =
    record {
      behind = c.take_end.ensures.behind;
      put = put_there (ended c.args.ends.now) (ended c.take_end.new.ends) _ _ _ _ _ refl
          (sym c.in-Pending.is ∙ c.end_at.ensures) c.take_end.ensures.put;
    }

pub returns-in_default : goal.returns-in_default
returns-in_default c =
    record {
      behind = c.put_end.ensures.behind;
      put = IfOk-weaker c.put_end.result _ _
          (λ v h. put_there (ended c.args.ends.now) (ended c.put_end.new.ends) _ _ _ _ _ refl c.end_at.ensures h)
          c.put_end.ensures.put;
    }
