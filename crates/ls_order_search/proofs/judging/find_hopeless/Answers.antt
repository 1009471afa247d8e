-- Why `find_hopeless` in src/judging.rt keeps its contract.

use Rattle.std.proofs.Common.{sym, subst, arith, le_of_eq, length, map, take, take_all, string_bytes, List, String}
use Rattle.std.proofs.Common.{Global}
use Rattle.std.proofs.lemmas.List.{length-map}
use Rattle.ls_report.specs.Plain.{plain_event}
use Rattle.ls_orders.specs.Legal.{IsLegal}
use Rattle.ls_order_search.specs.Answers.{NoneIsLegal}
use Rattle.ls_order_search.proofs.Beginnings.{empty_legal, hopeless_at, some_events}
use Rattle.ls_order_search.proofs.judging.find_hopeless.Goals as goal

pub bisect-init : goal.bisect-init
bisect-init c =
    let h = map plain_event c.args.events.now in
    let len = length-map c.args.events.now plain_event in
    let some = some_events h c.requires.none in
    record {
      apart = omega arith;
      within = omega arith;
      before = subst (λ (l : List (String Global)). IsLegal (take 0 h) (map string_bytes l))
          (sym c.new-order.ensures.items) empty_legal;
      after = subst NoneIsLegal (sym (take_all (length c.args.events.now) h (le_of_eq len))) c.requires.none;
    }

pub returns : goal.returns
returns c =
    let h = map plain_event c.args.events.now in
    let i = c.bisect.invariant in (
      c.requires.decided,
      hopeless_at h (length c.args.events.now) c.bisect.at c.bisect.illegal _
          (sym (length-map c.args.events.now plain_event)) i.apart i.within (omega arith) i.before i.after,
      i.before,
    )
