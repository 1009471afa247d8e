-- Why `paged` in src/paging.rt keeps its contract and what `run` requires.

use Rattle.std.proofs.lemmas.Result.{err_from_is_err_and}
use Rattle.ls_types_checked.specs.CheckedFile.{elaborated_file}
use Rattle.ls_types_elaboration.specs.PlacedStatements.{placed_file}
use Rattle.ls_faults.specs.Faults.{lifted_check, lifted_text}
use Rattle.ls_faults.proofs.Answering.{fails, wider}
use Rattle.ls_commands.proofs.ViewedLemmas.{err_of}
use Rattle.ls_commands.specs.Paged.{Breaks, Checks, NoFile, Pages, RunsTo, wanted_of}
use Rattle.ls_commands.proofs.ReadableLemmas.{programs_read}
use Rattle.ls_commands.proofs.paging.paged.Goals as goal

pub returns-in_err-parsed : goal.returns-in_err-parsed
returns-in_err-parsed c =
    let p = err_from_is_err_and c.from_residual.result c.from_residual.ensures.1 in
    let f = c.in_err-parsed.field-0.0 in
    rw (p.1, p.2) (fails (Pages (wanted_of c.args.wanted)) (lifted_text f) (NoFile f c.in_err-parsed.ensures.refused
    (record { may = c.in_err-parsed.ensures.comes; long = λ l. err_of f (c.in_err-parsed.ensures.long l) })))

pub returns-in_err-checked : goal.returns-in_err-checked
returns-in_err-checked c =
    let p = err_from_is_err_and c.from_residual-in_err-checked.result c.from_residual-in_err-checked.ensures.1 in
    let f = c.in_err-checked.field-0.0 in
    rw (p.1, p.2) (fails (Pages (wanted_of c.args.wanted)) (lifted_check f)
    (Breaks (placed_file c.in_ok-parsed.parsed) f c.in_ok-parsed.ensures.file c.in_err-checked.ensures.refused))

pub run-requires : goal.run-requires
run-requires c =
    programs_read c.source_is_readable.ensures (placed_file c.in_ok-parsed.parsed)
    (elaborated_file c.in_ok-checked.checked)
    c.in_ok-checked.ensures.checked

pub returns : goal.returns
returns c =
    let w = wanted_of c.args.wanted in
    let o = elaborated_file c.in_ok-checked.checked in
    wider (RunsTo w o) (Pages w) c.run.result
    (λ a h. Checks (placed_file c.in_ok-parsed.parsed) o a c.in_ok-parsed.ensures.file c.in_ok-checked.ensures.checked
    h) c.run.ensures
