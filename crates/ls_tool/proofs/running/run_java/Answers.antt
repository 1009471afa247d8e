-- Why `run_java` in src/running.rt keeps its clause `runs`.

use Rattle.std.proofs.Common.{map, refl, subst}
use Rattle.std.proofs.KnownBytes.{Keeps-refl}
use Rattle.std.specs.Prelude.{string_bytes}
use Rattle.ls_outlets.specs.Written.{IsWritten}
use Rattle.ls_tool.specs.Output.{Ends, left}
use Rattle.ls_tool.specs.Running.{AsRestated, RestatesFirst, Unable, Unrestated}
use Rattle.ls_tool.proofs.Ending.{all_written}
use Rattle.ls_tool.proofs.Runs.{both_true}
use Rattle.ls_tool.proofs.running.run_java.Goals as goal

pub returns-then-not-tell_beside-clause-runs : goal.returns-then-not-tell_beside-clause-runs
returns-then-not-tell_beside-clause-runs g c =
    let out = g.W.Write.contents c.args.out.now in
    let old = g.E.Write.contents c.args.err.now in
    let new = g.E.Write.contents c.tell_beside.new.err in
    let failed = g.E.Outlet.has_failed c.tell_beside.new.err in
    let told = subst (λ z. IsWritten (string_bytes c.in-Ok.instead.notes) z old new failed) c.if-not-tell_beside.true
    (subst (λ z. IsWritten z c.tell_beside.result old new failed) c.as_bytes.ensures.value
    c.tell_beside.ensures.told) in
    Unrestated c.args.asked.line (string_bytes c.in-Ok.instead.notes) c.requires.asks
    (both_true c.args.asked.line c.args.text.now c.requires.java c.requires.text) (refl, Keeps-refl out, told)

pub returns-else-not-tell_beside-clause-runs : goal.returns-else-not-tell_beside-clause-runs
returns-else-not-tell_beside-clause-runs g c =
    let old = g.E.Write.contents c.args.err.now in
    let new = g.E.Write.contents c.tell_beside.new.err in
    let failed = g.E.Outlet.has_failed c.tell_beside.new.err in
    let told = all_written (string_bytes c.in-Ok.instead.notes) c.tell_beside.result old new failed
    c.if-not-tell_beside.false
    (subst (λ z. IsWritten z c.tell_beside.result old new failed) c.as_bytes.ensures.value
    c.tell_beside.ensures.told) in
    let words = map string_bytes c.args.asked.words.now in
    let ran = c.run_input.new in
    let out = left (g.W.Write.contents c.args.out.now) (g.W.Write.contents ran.out) (g.W.Outlet.has_failed ran.out) in
    let err = left new (g.E.Write.contents ran.err) (g.E.Outlet.has_failed ran.err) in
    let behind = string_bytes c.in-Ok.instead.behind in
    AsRestated c.args.asked.line c.in-Ok.instead.input.items behind (string_bytes c.in-Ok.instead.notes) new
    c.requires.asks
    (both_true c.args.asked.line c.args.text.now c.requires.java c.requires.text)
    (subst (λ ns. RestatesFirst ns c.args.asked.line.request c.args.text.now c.in-Ok.instead.input.items behind)
    c.file_names_in.ensures c.in-Ok.ensures) told
    (subst (λ bytes. Ends words bytes behind c.run_input.result out err) c.as_slice.ensures.value
    (subst (λ text. Ends words c.as_slice.result.now text c.run_input.result out err) c.as_str.ensures.value
    c.run_input.ensures.ends))

pub returns-in-Err-Memory-clause-runs : goal.returns-in-Err-Memory-clause-runs
returns-in-Err-Memory-clause-runs g c =
    Unable (
      c.tell_line.ensures.status,
      Keeps-refl (g.W.Write.contents c.args.out.now),
      c.tell_line.ensures.told,
    )

pub returns-in-Err-Told-clause-runs : goal.returns-in-Err-Told-clause-runs
returns-in-Err-Told-clause-runs g c =
    Unrestated c.args.asked.line c.as_slice-in-Err-Told.result.now c.requires.asks
    (both_true c.args.asked.line c.args.text.now c.requires.java c.requires.text) (
      c.tell.ensures.status,
      Keeps-refl (g.W.Write.contents c.args.out.now),
      c.tell.ensures.told,
    )
