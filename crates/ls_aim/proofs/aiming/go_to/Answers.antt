-- Why `go_to` in src/aiming.rt keeps its contract.

use Rattle.ls_events.specs.Limits.{most_steps}
use Rattle.std.proofs.Common.{◌≡◌, ◌∙◌, ◌<◌, ◌++◌, ◌∷◌, [], length, sym, ap, arith}
use Rattle.std.proofs.lemmas.Grind.{common_steps}
use Rattle.std.proofs.lemmas.List.{length-append}
use Rattle.ls_aim.specs.Aims.{Arrived, GoesOn, Missed, gone_to, room_after, sight}
use Rattle.ls_aim.specs.Reading.{stop_of}
use Rattle.ls_aim.specs.Runs.{after_step}
use Rattle.ls_aim.specs.Seen.{names_in, run_in, sight_of}
use Rattle.ls_aim.proofs.Going.{arrives, goes_on, misses}
use Rattle.ls_aim.proofs.Taking.{fails_of}
use Rattle.ls_aim.proofs.aiming.go_to.Goals as goal

pub returns-in-Arrived : goal.returns-in-Arrived
returns-in-Arrived c =
    let names = names_in c.args.runner.now in
    let r = run_in c.walk.runner in
    let stop = stop_of c.walk.stop in
    let e : sight names c.args.at r c.args.target.thread stop ≡ Arrived =
    ap (λ n. sight n c.args.at r c.args.target.thread stop) (sym c.walk.invariant.names) ∙
    sym c.in_ok-sight.ensures.sight ∙ ap sight_of c.in-Arrived.is in
    sym c.walk.invariant.gone ∙ arrives names c.args.at c.args.target.thread r stop c.walk.steps
    (room_after c.walk.steps) e

pub returns-in-Missed : goal.returns-in-Missed
returns-in-Missed c =
    let names = names_in c.args.runner.now in
    let r = run_in c.walk.runner in
    let stop = stop_of c.walk.stop in
    let e : sight names c.args.at r c.args.target.thread stop ≡ Missed c.in-Missed.fault =
    ap (λ n. sight n c.args.at r c.args.target.thread stop) (sym c.walk.invariant.names) ∙
    sym c.in_ok-sight.ensures.sight ∙ ap sight_of c.in-Missed.is in
    fails_of c.in-Missed.fault _
    (sym c.walk.invariant.gone ∙ misses names c.args.at c.args.target.thread r stop c.walk.steps
    (room_after c.walk.steps) c.in-Missed.fault e)

pub walk-preserved : goal.walk-preserved
walk-preserved c =
    let names = names_in c.args.runner.now in
    let r = run_in c.walk.runner in
    let stop = stop_of c.walk.stop in
    let still = stop_of c.in-GoesOn.still in
    let thread = c.args.target.thread in
    let e : sight names c.args.at r thread stop ≡ GoesOn still =
    ap (λ n. sight n c.args.at r thread stop) (sym c.walk.invariant.names) ∙ sym c.in_ok-sight.ensures.sight ∙
    ap sight_of c.in-GoesOn.is in
    let small : length c.walk.steps < most_steps = grind (arith, common_steps) in
    let added = c.in_ok-push-in-GoesOn.ensures.added in
    let run : run_in c.sight.new.self ≡ after_step names r thread =
    c.in_ok-sight.ensures.run ∙ ap (λ n. after_step n r thread) c.walk.invariant.names in
    record {
      names = c.sight.ensures.names ∙ c.walk.invariant.names;
      runs = c.in_ok-sight.ensures.runs;
      few = omega (arith, small, ap length added, length-append c.walk.steps (thread ∷ []));
      gone =
          ap (λ q. gone_to names c.args.at thread q still c.push.new.self (room_after c.push.new.self)) run
          ∙ ap (λ ss. gone_to names c.args.at thread (after_step names r thread) still ss (room_after ss)) added
          ∙ goes_on names c.args.at thread r stop c.walk.steps still small e
          ∙ c.walk.invariant.gone;
    }
