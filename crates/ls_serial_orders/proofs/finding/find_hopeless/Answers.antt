-- Why `find_hopeless` in src/finding.rt keeps its contract.

use Rattle.std.proofs.Common.{sym, subst, arith, le_of_eq, refl, length, map, take, take_all, string_bytes, List}
use Rattle.std.proofs.Common.{String}
use Rattle.std.proofs.Common.{Global}
use Rattle.ls_linearizable.specs.Linearizable.{IsLinearizable}
use Rattle.ls_serial_orders.specs.Known.{file_of, program_of}
use Rattle.ls_serial_orders.specs.Orders.{IsOrderOf}
use Rattle.ls_serial_orders.proofs.Ordering.{empty_order, hopeless_at, some_events}
use Rattle.ls_serial_orders.proofs.finding.find_hopeless.Goals as goal

pub bisect-init : goal.bisect-init
bisect-init c =
    let file = file_of c.args.known.now in
    let program = program_of c.args.known.now in
    let h = c.args.history.now in
    let some = some_events file program h c.requires.none in
    record {
      apart = omega arith;
      within = omega arith;
      before = subst (λ (l : List (String Global)). IsOrderOf file program (take 0 h) (map string_bytes l))
          (sym c.new-order.ensures.items) (empty_order file program);
      after = λ l. c.requires.none (subst (IsLinearizable file program) (take_all (length h) h (le_of_eq refl)) l);
    }

pub returns : goal.returns
returns c =
    let i = c.bisect.invariant in (
      hopeless_at (file_of c.args.known.now) (program_of c.args.known.now) c.args.history.now c.bisect.at
          c.bisect.hopeless _ i.apart i.within (omega arith) i.before i.after,
      i.before,
    )
