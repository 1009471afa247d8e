-- Why `answer_telling` in src/running.rt keeps its clause `progress`.

use Rattle.std.proofs.Common.{◌∙◌, refl, rules, sym}
use Rattle.ls_tool.proofs.Telling.{has_programs_none, has_told_none, programs_told, progresses, progresses_not}
use Rattle.ls_tool.proofs.running.answer_telling.Goals as goal

pub returns-in-Nothing-clause-progress : goal.returns-in-Nothing-clause-progress
returns-in-Nothing-clause-progress g c =
    progresses_not c.args.line.request (g.E.Write.contents c.args.err.now) (g.E.Outlet.has_failed c.args.err.now)
    (sym c.progress_of.ensures ∙ c.in-Nothing.is)

pub returns-in-States-clause-progress : goal.returns-in-States-clause-progress
returns-in-States-clause-progress g c =
    let then = c.new-progress.result in
    let told = c.answer_line-in-States.ensures.watched then (
      has_told_none then.lines then.is_open (g.E.Write.contents then.err.now) (g.E.Outlet.has_failed then.err.now)
          c.new-progress.ensures.open_still,
      refl,
    ) in
    let now = c.answer_line-in-States.new.watch in
    let name = told.1 in
    progresses g.E.Write.contents g.E.Outlet.has_failed c.args.line.request then.err.now c.args.err.now now.err.now _
    then.lines now.lines now.is_open (sym c.progress_of.ensures ∙ c.in-States.is)
    c.new-progress.ensures.lines c.new-progress.ensures.same (search rules) told.0

pub returns-in-Programs-clause-progress : goal.returns-in-Programs-clause-progress
returns-in-Programs-clause-progress g c =
    let then = c.new-programs.result in
    let told = c.answer_line-in-Programs.ensures.watched then (
      has_programs_none then.is_open (g.E.Write.contents then.err.now) (g.E.Outlet.has_failed then.err.now)
          c.new-programs.ensures.open_still,
      refl,
    ) in
    let now = c.answer_line-in-Programs.new.watch in
    let name = told.1 in
    programs_told g.E.Write.contents g.E.Outlet.has_failed c.args.line.request then.err.now c.args.err.now now.err.now _
    now.is_open (sym c.progress_of.ensures ∙ c.in-Programs.is) c.new-programs.ensures.same (search rules) told.0
