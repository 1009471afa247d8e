-- Why `run` in src/running.rt keeps its clauses `runs` and `unread`.

use Rattle.std.proofs.Common.{map, refl, subst, None, Some}
use Rattle.std.proofs.KnownBytes.{Keeps-refl}
use Rattle.std.specs.Prelude.{string_bytes}
use Rattle.ls_command_line.specs.Words.{AsksFor}
use Rattle.ls_tool.specs.Output.{left}
use Rattle.ls_tool.specs.Running.{Runs, Unable, Unasked}
use Rattle.ls_tool.proofs.Ending.{always, of_bytes}
use Rattle.ls_tool.proofs.Runs.{not_read}
use Rattle.ls_tool.proofs.running.run.Goals as goal

pub returns-in-Ok-read_whole-clause-runs : goal.returns-in-Ok-read_whole-clause-runs
returns-in-Ok-read_whole-clause-runs g c =
    let words = map string_bytes c.args.words.now in
    let ran = c.run_read.new in
    let out = left (g.W.Write.contents c.args.out.now) (g.W.Write.contents ran.out) (g.W.Outlet.has_failed ran.out) in
    let err = left (g.E.Write.contents c.args.err.now) (g.E.Write.contents ran.err) (g.E.Outlet.has_failed ran.err) in
    of_bytes (g.R.Read.remaining c.args.reader.now) c.in-Ok-read_whole.input.items
    (λ input. Runs words input c.run_read.result out err) c.in-Ok-read_whole.ensures.ok
    (subst (λ bytes. Runs words bytes c.run_read.result out err) c.as_slice.ensures.value c.run_read.ensures.runs)

pub returns-in-Err-clause-runs : goal.returns-in-Err-clause-runs
returns-in-Err-clause-runs g c =
    let words = map string_bytes c.args.words.now in
    let out = g.W.Write.contents c.args.out.now in
    let tell = c.tell_line in
    always (g.R.Read.remaining c.args.reader.now) _ (λ input.
    not_read words input c.in-Ok.line c.in-Err.fault tell.result
    (left out out (g.W.Outlet.has_failed c.args.out.now))
    (left (g.E.Write.contents c.args.err.now) (g.E.Write.contents tell.new.err) (g.E.Outlet.has_failed tell.new.err))
    (subst (λ ws. AsksFor ws (Some c.in-Ok.line)) c.asking.ensures c.in-Ok.ensures) c.in-Err.ensures.err
    tell.ensures.status (Keeps-refl out) tell.ensures.told)

pub returns-in-Err-Memory-clause-runs : goal.returns-in-Err-Memory-clause-runs
returns-in-Err-Memory-clause-runs g c =
    let words = map string_bytes c.args.words.now in
    let tell = c.tell_line-in-Err-Memory in
    let old = g.W.Write.contents c.args.out.now in
    let out = left old old (g.W.Outlet.has_failed c.args.out.now) in
    let err = left (g.E.Write.contents c.args.err.now) (g.E.Write.contents tell.new.err)
    (g.E.Outlet.has_failed tell.new.err) in
    always (g.R.Read.remaining c.args.reader.now) (λ input. Runs words input tell.result out err) (λ input.
    Unable (tell.ensures.status, Keeps-refl (g.W.Write.contents c.args.out.now), tell.ensures.told))

pub returns-in-Err-BadLine-clause-runs : goal.returns-in-Err-BadLine-clause-runs
returns-in-Err-BadLine-clause-runs g c =
    let found = rw c.in-Err-BadLine.field-0-is at c.in-Err-BadLine.ensures in
    let none = subst (λ ws. AsksFor ws None) c.asking.ensures found in
    always (g.R.Read.remaining c.args.reader.now) _ (λ input.
    Unasked none (refl, Keeps-refl (g.W.Write.contents c.args.out.now)))
