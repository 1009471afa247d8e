-- Why `run_input` in src/running.rt keeps its clauses `ends` and `apart`.

use Rattle.std.proofs.Common.{◌++◌, ◌∙◌, ap, map, subst, sym}
use Rattle.std.proofs.KnownBytes.{Keeps-refl}
use Rattle.std.specs.Prelude.{string_bytes}
use Rattle.ls_outlets.specs.Written.{IsWritten}
use Rattle.ls_tool.specs.Output.{OutOfMemory, Progressed, left}
use Rattle.ls_tool.specs.declared.running.Exit.{Exit}
use Rattle.ls_tool.proofs.Ending.{all_written, cut_short, done, ends_so, explains, part_written, tells_fault}
use Rattle.ls_tool.proofs.running.run_input.Goals as goal

pub returns-in_default-clause-ends : goal.returns-in_default-clause-ends
returns-in_default-clause-ends g c =
    let words = map string_bytes c.args.asked.words.now in
    let out = g.W.Write.contents c.args.out.now in
    let out_failed = g.W.Outlet.has_failed c.args.out.now in
    let between = g.E.Write.contents c.answer_telling.new.err in
    let tell = c.tell_line in
    let err = g.E.Write.contents tell.new.err in
    let err_failed = g.E.Outlet.has_failed tell.new.err in
    ends_so words c.args.reading.input.now c.args.reading.behind.now tell.result (left out out out_failed)
    (left (g.E.Write.contents c.args.err.now) err err_failed) between (g.E.Outlet.has_failed c.answer_telling.new.err)
    tell.ensures.kept (Progressed c.args.asked.line between c.requires c.in-Ok.ensures.progress)
    (OutOfMemory (tell.ensures.status, Keeps-refl out, tell.ensures.told))

pub returns-then-not-write_out-clause-ends : goal.returns-then-not-write_out-clause-ends
returns-then-not-write_out-clause-ends g c =
    let words = map string_bytes c.args.asked.words.now in
    let input = c.args.reading.input.now in
    let behind = c.args.reading.behind.now in
    let old = g.W.Write.contents c.args.out.now in
    let new = g.W.Write.contents c.write_out.new.writer in
    let failed = g.W.Outlet.has_failed c.write_out.new.writer in
    let between = g.E.Write.contents c.answer_telling.new.err in
    let tell = c.tell_line-then-not-write_out in
    let err = g.E.Write.contents tell.new.err in
    let err_failed = g.E.Outlet.has_failed tell.new.err in
    let part = part_written (string_bytes c.in-Ok.said.text ++ behind) c.write_out.result old new failed
    c.if-not-write_out.true
    (subst (λ z. IsWritten z c.write_out.result old new failed)
    (c.as_bytes.ensures.value ∙ c.in-Ok-with_behind.ensures.0) c.write_out.ensures.written) in
    ends_so words input behind tell.result (left old new failed)
    (left (g.E.Write.contents c.args.err.now) err err_failed) between (g.E.Outlet.has_failed c.answer_telling.new.err)
    tell.ensures.kept (Progressed c.args.asked.line between c.requires c.in-Ok.ensures.progress)
    (cut_short words input behind c.in-Ok.said tell.result (left old new failed) (left between err err_failed)
    tell.ensures.status part tell.ensures.told
    (c.in-Ok.ensures.decides words c.requires (sym c.file_names_in.ensures)))

pub returns-in-Ok-clause-ends : goal.returns-in-Ok-clause-ends
returns-in-Ok-clause-ends g c =
    let words = map string_bytes c.args.asked.words.now in
    let input = c.args.reading.input.now in
    let behind = c.args.reading.behind.now in
    let old = g.W.Write.contents c.args.out.now in
    let new = g.W.Write.contents c.write_out.new.writer in
    let failed = g.W.Outlet.has_failed c.write_out.new.writer in
    let between = g.E.Write.contents c.answer_telling.new.err in
    let beside = c.tell_beside-is_told in
    let err = g.E.Write.contents beside.new.err in
    let err_failed = g.E.Outlet.has_failed beside.new.err in
    let exit : Exit = record { status = c.in-Ok-with_behind.whole.status; is_told = beside.result } in
    let told = subst (λ z. IsWritten z beside.result between err err_failed)
    (c.as_bytes-in-Ok.ensures.value ∙ ap string_bytes c.in-Ok-with_behind.ensures.1)
    beside.ensures.told in
    let written = all_written (string_bytes c.in-Ok.said.text ++ behind) c.write_out.result old new failed
    c.if-not-write_out.false
    (subst (λ z. IsWritten z c.write_out.result old new failed)
    (c.as_bytes.ensures.value ∙ c.in-Ok-with_behind.ensures.0) c.write_out.ensures.written) in
    ends_so words input behind exit (left old new failed)
    (left (g.E.Write.contents c.args.err.now) err err_failed) between (g.E.Outlet.has_failed c.answer_telling.new.err)
    beside.ensures.kept (Progressed c.args.asked.line between c.requires c.in-Ok.ensures.progress)
    (done words input behind c.in-Ok.said exit (left old new failed) (left between err err_failed)
    c.in-Ok-with_behind.ensures.2 told written
    (c.in-Ok.ensures.decides words c.requires (sym c.file_names_in.ensures)))

pub returns-in-Err-Fault-clause-ends : goal.returns-in-Err-Fault-clause-ends
returns-in-Err-Fault-clause-ends g c =
    let words = map string_bytes c.args.asked.words.now in
    let input = c.args.reading.input.now in
    let behind = c.args.reading.behind.now in
    let out = g.W.Write.contents c.args.out.now in
    let out_failed = g.W.Outlet.has_failed c.args.out.now in
    let between = g.E.Write.contents c.answer_telling.new.err in
    let tell = c.tell_line-in-Err-Fault in
    let err = g.E.Write.contents tell.new.err in
    let err_failed = g.E.Outlet.has_failed tell.new.err in
    let found = rw c.in-Err-Fault.field-0-is at c.in-Err-Fault.ensures in
    ends_so words input behind tell.result (left out out out_failed)
    (left (g.E.Write.contents c.args.err.now) err err_failed) between (g.E.Outlet.has_failed c.answer_telling.new.err)
    tell.ensures.kept (Progressed c.args.asked.line between c.requires found.progress)
    (tells_fault words input behind c.in-Err-Fault.fault tell.result (left out out out_failed)
    (left between err err_failed) tell.ensures.status (Keeps-refl out) tell.ensures.told
    (found.decides words c.requires (sym c.file_names_in.ensures)))

pub returns-in-Err-Explained-clause-ends : goal.returns-in-Err-Explained-clause-ends
returns-in-Err-Explained-clause-ends g c =
    let words = map string_bytes c.args.asked.words.now in
    let input = c.args.reading.input.now in
    let behind = c.args.reading.behind.now in
    let out = g.W.Write.contents c.args.out.now in
    let out_failed = g.W.Outlet.has_failed c.args.out.now in
    let between = g.E.Write.contents c.answer_telling.new.err in
    let err = g.E.Write.contents c.tell.new.err in
    let err_failed = g.E.Outlet.has_failed c.tell.new.err in
    let told = subst (λ z. IsWritten z c.tell.result.is_told between err err_failed) c.as_slice.ensures.value
    c.tell.ensures.told in
    let found = rw c.in-Err-Explained.field-0-is at c.in-Err-Explained.ensures in
    ends_so words input behind c.tell.result (left out out out_failed)
    (left (g.E.Write.contents c.args.err.now) err err_failed) between (g.E.Outlet.has_failed c.answer_telling.new.err)
    c.tell.ensures.kept (Progressed c.args.asked.line between c.requires found.progress)
    (explains words input behind c.in-Err-Explained.told.items c.tell.result (left out out out_failed)
    (left between err err_failed) c.tell.ensures.status (Keeps-refl out) told
    (found.decides words c.requires (sym c.file_names_in.ensures)))
