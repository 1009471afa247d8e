-- Why `read_steps` in src/reading.rt keeps its contract and its loop `all`.

use Rattle.std.proofs.Common.{◌∙◌, ◌+◌, ◌∷◌, [], ap, sym, arith, drop, map, length, slice_index}
use Rattle.std.proofs.lemmas.Result.{err_from_is_err_and}
use Rattle.ls_schedule.specs.Answers.{capped_turns, so_far}
use Rattle.ls_items.specs.Items.{Item, items}
use Rattle.ls_schedule.specs.Reading.{each, thread_name}
use Rattle.ls_schedule.proofs.Digits.{fails_of}
use Rattle.ls_items.proofs.Items.{items_split}
use Rattle.ls_schedule.proofs.Short.{item_is, items_are}
use Rattle.ls_schedule.proofs.Steps.{ends_with, goes_on_to, goes_to}
use Rattle.ls_schedule.proofs.reading.read_steps.Goals as goal

pub returns-in_err-said : goal.returns-in_err-said
returns-in_err-said c =
    let p = err_from_is_err_and c.from_residual-in_err-said.result c.from_residual-in_err-said.ensures.1 in
    let f = capped_turns (map thread_name c.args.threads.now) in
    let state = so_far c.loop-all.fits c.loop-all.schedule in
    let split = items_split c.loop-all.at _ c.loop-all.rest.now _ _ c.item_len-len.ensures c.if-len-eq0.false
    c.split_at-else-len-eq0.ensures.front c.split_at-else-len-eq0.ensures.back in
    let item : Item = (c.loop-all.at, c.split_at-else-len-eq0.result.0.now) in
    let more = items (c.loop-all.at + c.item_len-len.result) c.split_at-else-len-eq0.result.1.now in
    rw (p.1, p.2)
    (fails_of _ _ (ends_with f state item _ more _ c.in_err-said.ensures
    (ap (λ is. goes_to state (each f is)) (sym split) ∙ c.loop-all.invariant.read)))

pub loop-all-preserved : goal.loop-all-preserved
loop-all-preserved c =
    let f = capped_turns (map thread_name c.args.threads.now) in
    let state = so_far c.loop-all.fits c.loop-all.schedule in
    let split = items_split c.loop-all.at _ c.loop-all.rest.now _ _ c.item_len-len.ensures c.if-len-eq0.false
    c.split_at-else-len-eq0.ensures.front c.split_at-else-len-eq0.ensures.back in
    let item : Item = (c.loop-all.at, c.split_at-else-len-eq0.result.0.now) in
    let more = items (c.loop-all.at + c.item_len-len.result) c.split_at-else-len-eq0.result.1.now in
    let now = c.in_ok-fits-2.ensures.more (length c.args.threads.now)
    (c.as_slice-all.ensures.value ∙ c.in_ok-numbers.ensures) in
    record {
      place = omega (arith, c.split_at-else-len-eq0.ensures.back_len);
      few = c.in_ok-fits-2.ensures.few;
      read = goes_on_to f state _ item _ more _ c.in_ok-said.ensures now
          (ap (λ is. goes_to state (each f is)) (sym split) ∙ c.loop-all.invariant.read);
    }

pub loop-all-preserved-in-Some : goal.loop-all-preserved-in-Some
loop-all-preserved-in-Some c =
    let names = map thread_name c.args.threads.now in
    let f = capped_turns names in
    let state = so_far c.loop-all.fits c.loop-all.schedule in
    let text = c.loop-all.rest.now in
    let entries = c.table_of-table.ensures in
    let short = c.in-Some.ensures in
    let split = items_are names c.table_of-table.result text c.in-Some.thread entries short c.loop-all.at in
    let said = item_is names c.table_of-table.result text c.in-Some.thread entries short c.loop-all.at in
    let item : Item = (c.loop-all.at, slice_index text 0 ∷ []) in
    let more = items (c.loop-all.at + 2) (drop 2 text) in
    record {
      place = omega (arith, c.split_at.ensures.back_len, short.two);
      few = c.in_ok-fits.ensures.few;
      read = rw c.split_at.ensures.back (goes_on_to f state _ item (c.in-Some.thread ∷ [], 1) more _ said
          c.in_ok-fits.ensures.more (ap (λ is. goes_to state (each f is)) (sym split) ∙ c.loop-all.invariant.read));
    }
