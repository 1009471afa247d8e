-- Why `turned` in src/translating.rt keeps its contract.

use Rattle.std.proofs.lemmas.Result.{err_from_is_err_and}
use Rattle.ls_commands.proofs.TranslatedLemmas.{machine_fails, machine_turns, source_fails, source_turns}
use Rattle.ls_commands.proofs.translating.turned.Goals as goal

pub returns-in_err-to_source-in-Source : goal.returns-in_err-to_source-in-Source
returns-in_err-to_source-in-Source c =
    let p = err_from_is_err_and c.from_residual.result c.from_residual.ensures.1 in
    let h = c.in_err-to_source-in-Source in
    rw (c.in-Source.is, p.1, p.2) (source_fails c.args.image.now c.args.cells c.args.schedule.now h.field-0.0
    h.ensures.bad h.ensures.only)

pub returns-in_err-to_machine-in-Machine : goal.returns-in_err-to_machine-in-Machine
returns-in_err-to_machine-in-Machine c =
    let r = c.from_residual-in_err-to_machine-in-Machine in
    let p = err_from_is_err_and r.result r.ensures.1 in
    let h = c.in_err-to_machine-in-Machine in
    rw (c.in-Machine.is, p.1, p.2) (machine_fails c.args.image.now c.args.cells c.args.schedule.now h.field-0.0
    h.ensures.bad h.ensures.unfit h.ensures.long h.ensures.long_fits)

pub returns-in_ok-to_source-in-Source : goal.returns-in_ok-to_source-in-Source
returns-in_ok-to_source-in-Source c =
    let h = c.in_ok-to_source-in-Source in
    rw c.in-Source.is (source_turns c.args.image.now c.args.cells c.args.schedule.now h.field-0 h.ensures.bad
    h.ensures.steps)

pub returns-in_ok-to_machine-in-Machine : goal.returns-in_ok-to_machine-in-Machine
returns-in_ok-to_machine-in-Machine c =
    let h = c.in_ok-to_machine-in-Machine in
    rw c.in-Machine.is (machine_turns c.args.image.now c.args.cells c.args.schedule.now h.field-0 h.ensures.bad
    h.ensures.fits h.ensures.steps)
