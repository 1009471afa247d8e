-- Why `ProgramsWatch::note` in src/programs.rt keeps its contract.

use Rattle.std.proofs.Common.{subst}
use Rattle.ls_tool.specs.Output.{HasToldPrograms}
use Rattle.ls_tool.proofs.Telling.{has_programs_more}
use Rattle.ls_tool.proofs.programs.ProgramsWatch.note.Goals as goal

pub returns : goal.returns
returns g c =
    let old = c.args.self.now in
    let err = c.tell_programs-is_told.new.err in
    λ then h. (
      has_programs_more (c.args.states, c.args.depth) c.tell_programs-is_told.result
          (g.E.Write.contents then.err.now) (g.E.Write.contents old.err.now) (g.E.Write.contents err)
          (g.E.Outlet.has_failed old.err.now) (g.E.Outlet.has_failed err)
          (subst (λ b. HasToldPrograms b (g.E.Write.contents then.err.now) (g.E.Write.contents old.err.now)
          (g.E.Outlet.has_failed old.err.now)) c.if-not-self.false h.0) c.tell_programs-is_told.ensures,
      h.1,
    )
