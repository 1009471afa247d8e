-- Why `ProgressWatch::note` in src/progress.rt keeps its contract.

use Rattle.std.proofs.Common.{subst}
use Rattle.ls_tool.specs.Output.{HasTold}
use Rattle.ls_tool.proofs.Telling.{has_told_more}
use Rattle.ls_tool.proofs.progress.ProgressWatch.note.Goals as goal

pub returns : goal.returns
returns g c =
    let old = c.args.self.now in
    let err = c.tell_line-is_told.new.err in
    λ then h. (
      has_told_more then.lines old.lines c.args.depth c.tell_line-is_told.result
          (g.E.Write.contents then.err.now) (g.E.Write.contents old.err.now) (g.E.Write.contents err)
          (g.E.Outlet.has_failed old.err.now) (g.E.Outlet.has_failed err)
          (subst (λ b. HasTold then.lines old.lines b (g.E.Write.contents then.err.now) (g.E.Write.contents old.err.now)
          (g.E.Outlet.has_failed old.err.now)) c.if-not-self.false h.0) c.tell_line-is_told.ensures,
      h.1,
    )
