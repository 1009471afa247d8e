-- Why `run_read` in src/running.rt keeps its clause `runs`.

use Rattle.std.proofs.Common.{map, subst}
use Rattle.std.specs.Prelude.{string_bytes}
use Rattle.ls_tool.specs.Output.{left}
use Rattle.ls_tool.specs.Running.{AsRead, Runs}
use Rattle.ls_tool.proofs.Runs.{no_java, no_text}
use Rattle.ls_tool.proofs.running.run_read.Goals as goal

pub returns-then-not-asked-clause-runs : goal.returns-then-not-asked-clause-runs
returns-then-not-asked-clause-runs g c =
    AsRead c.args.asked.line c.requires (no_java c.args.asked.line c.args.input.now c.if-not-asked.true)
    c.run_input.ensures.ends

pub returns-in-None-clause-runs : goal.returns-in-None-clause-runs
returns-in-None-clause-runs g c =
    AsRead c.args.asked.line c.requires (no_text c.args.asked.line c.args.input.now c.in-None.ensures.none)
    c.run_input-in-None.ensures.ends

pub returns-in-Some-clause-runs : goal.returns-in-Some-clause-runs
returns-in-Some-clause-runs g c =
    let words = map string_bytes c.args.asked.words.now in
    let ran = c.run_java.new in
    let out = left (g.W.Write.contents c.args.out.now) (g.W.Write.contents ran.out) (g.W.Outlet.has_failed ran.out) in
    let err = left (g.E.Write.contents c.args.err.now) (g.E.Write.contents ran.err) (g.E.Outlet.has_failed ran.err) in
    subst (λ input. Runs words input c.run_java.result out err) c.in-Some.ensures.some.0 c.run_java.ensures.runs
