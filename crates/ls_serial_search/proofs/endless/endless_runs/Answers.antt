-- Why `endless_runs` in src/endless.rt keeps its clauses and its loop `at`.

use Rattle.std.proofs.Common.{◌≡◌, ◌⊎◌, inr, ◌∙◌, ◌<◌, ap, arith, subst, sym, Some, slice_get}
use Rattle.std.proofs.lemmas.List.{length-map}
use Rattle.ls_checked.specs.CheckedTree.{File}
use Rattle.ls_checked.specs.CheckedProgram.{Program}
use Rattle.ls_checked.specs.Plain.{plain_file}
use Rattle.ls_checked.specs.PlainProgram.{plain_program, plain_thread}
use Rattle.ls_serial.proofs.Lists.{get_contains, is_get}
use Rattle.ls_serial_search.specs.Endless.{AreEndlessRuns}
use Rattle.ls_serial_search.specs.Histories.{lists_of}
use Rattle.ls_serial_search.specs.Open.{HasLongCall, HasManyOrders}
use Rattle.ls_serial_search.proofs.Gone.{either_is, one_or_other}
use Rattle.ls_serial_search.proofs.NeverEnding.{none_tried, schedules_more, tell_endless}
use Rattle.ls_serial_search.proofs.Parked.{as_many, is_parked}
use Rattle.ls_serial_search.proofs.endless.endless_runs.Goals as goal

pub loop-at-init : goal.loop-at-init
loop-at-init c =
    let file : File = plain_file c.args.file.now in
    let program : Program = plain_program c.args.program.now in
    let known = c.in_ok-known.known.orders.schedules.items in
    record {
      endless = subst (λ vs. AreEndlessRuns file program (lists_of vs)) (sym c.new-runs.ensures.items)
          (λ run there. absurd (omega (arith, there.1)));
      known = λ all. all;
      why = λ cut. either_is c.in_ok-known.known.many (HasManyOrders file program c.args.bounds.now.orders)
          (HasLongCall file program c.args.bounds.now.steps)
          (λ many. (
            known,
            record {
              serial = c.in_ok-known.ensures.serial;
              acts = c.in_ok-known.ensures.acts;
              apart = c.in_ok-known.ensures.apart;
              many = c.in_ok-known.ensures.many many;
            },
          )) (c.in_ok-known.ensures.long cut);
      tried = λ all. none_tried file program known (lists_of c.new-runs.result.items);
    }

pub loop-at-preserved : goal.loop-at-preserved
loop-at-preserved c =
    let file : File = plain_file c.args.file.now in
    let program : Program = plain_program c.args.program.now in
    let known = c.in_ok-known.known.orders.schedules.items in
    let at : slice_get known c.loop-at.at ≡ Some c.index-schedule.result.now =
    is_get known c.loop-at.at c.index-schedule.result.now (omega (arith, c.loop-at-test.true, c.len-at-end.ensures))
    ∙ ap Some (sym c.index-schedule.ensures) in
    record {
      endless = c.in_ok-tried.ensures.endless
          (c.in_ok-known.ensures.serial c.index-schedule.result.now (get_contains known c.loop-at.at
          c.index-schedule.result.now at))
          c.loop-at.invariant.endless;
      known = λ all. c.loop-at.invariant.known (c.both-complete.ensures.hold all).0;
      why = λ cut. one_or_other c.loop-at.complete c.in_ok-tried.tried
          (HasManyOrders file program c.args.bounds.now.orders ⊎ HasLongCall file program c.args.bounds.now.steps)
          (c.both-complete.ensures.fail cut) c.loop-at.invariant.why
          (λ e. inr (c.in_ok-tried.ensures.why e
          (c.in_ok-known.ensures.serial c.index-schedule.result.now (get_contains known c.loop-at.at
          c.index-schedule.result.now at))
          (c.in_ok-known.ensures.acts c.index-schedule.result.now (get_contains known c.loop-at.at
          c.index-schedule.result.now at))));
      tried = λ all. schedules_more file program known c.loop-at.at c.index-schedule.result.now
          (lists_of c.loop-at.runs.items)
          (lists_of c.try_threads.new.runs.items) c.in_ok-tried.ensures.kept at
          (c.loop-at.invariant.tried (c.both-complete.ensures.hold all).0)
          (λ t lt. c.in_ok-tried.ensures.tried (c.both-complete.ensures.hold all).1 t
          (subst (λ n. t < n) (length-map c.args.program.now.threads.items plain_thread) lt));
    }

pub returns-clause-all : goal.returns-clause-all
returns-clause-all c = λ all.
    let file : File = plain_file c.args.file.now in
    let program : Program = plain_program c.args.program.now in
    tell_endless file program c.in_ok-known.known.orders.schedules.items (lists_of c.loop-at.runs.items) c.loop-at.at
    (c.in_ok-known.ensures.complete (c.loop-at.invariant.known all))
    (omega (arith, c.loop-at-test.false, c.len-at-end.ensures))
    (c.loop-at.invariant.tried all)

pub index-requires : goal.index-requires
index-requires c = omega (
  arith,
  c.loop-at-test.true,
  c.len-at-end.ensures,
  as_many (plain_file c.args.file.now) (plain_program c.args.program.now) c.in_ok-known.known.orders.schedules.items
      c.in_ok-known.known.orders.runs.items c.in_ok-known.ensures.parked,
)

pub standing-requires : goal.standing-requires
standing-requires c = is_parked (plain_file c.args.file.now) (plain_program c.args.program.now)
    c.in_ok-known.known.orders.schedules.items c.in_ok-known.known.orders.runs.items c.loop-at.at
    c.index-schedule.result.now c.index.result.now c.in_ok-known.ensures.parked
    (omega (arith, c.loop-at-test.true, c.len-at-end.ensures)) c.index-schedule.ensures c.index.ensures
