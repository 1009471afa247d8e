-- Why `first_waiting` in src/waiting.rt keeps its clause `none` and its loop `at`.

use Rattle.std.proofs.Common.{◌∙◌, ap, sym, Some}
use Rattle.ls_explore.specs.Rows.{IsEnd}
use Rattle.std.proofs.lemmas.Option.{slice_get-get_or}
use Rattle.ls_serial_search.specs.Histories.{lists_of}
use Rattle.ls_endless_calls.proofs.Places.{each_so, one_so}
use Rattle.ls_endless_calls.specs.Waits.{AreExcused}
use Rattle.ls_find.proofs.waiting.first_waiting.Goals as goal

pub loop-at-preserved : goal.loop-at-preserved
loop-at-preserved c =
    one_so c.args.rows.now (λ k r. IsEnd r.ending → AreExcused (lists_of c.args.runs.now) r.history) c.loop-at.at
    c.index-rows-at.result
    (slice_get-get_or c.args.rows.now c.loop-at.at c.index-rows-at.result c.loop-at-test.true ∙
    ap Some (sym c.index-rows-at.is))
    c.loop-at.invariant c.if-waits_in.ensures

pub returns-clause-none : goal.returns-clause-none
returns-clause-none c =
    each_so c.args.rows.now (λ r. IsEnd r.ending → AreExcused (lists_of c.args.runs.now) r.history) c.loop-at.at
    c.loop-at-test.false c.loop-at.invariant
