-- Why `note_fate` in src/noting.rt keeps its contract.

use Rattle.std.proofs.Common.{false, subst, sym}
use Rattle.std.proofs.lemmas.Result.{on_ok_weaker}
use Rattle.ls_serial_faults.specs.Noted.{AreNoted}
use Rattle.ls_serial_faults.proofs.Adding.{added_goes_on, added_stays}
use Rattle.ls_serial_faults.proofs.noting.note_fate.Goals as goal

pub returns-in-Waits : goal.returns-in-Waits
returns-in-Waits c = on_ok_weaker c.note_waits.result (λ noted file program bound.
    subst (λ f. AreNoted file program bound c.args.way.now c.args.thread f c.args.found.now c.note_waits.new.found)
    (sym c.in-Waits.is) (noted file program bound)) c.note_waits.ensures

pub returns-in-Turns : goal.returns-in-Turns
returns-in-Turns c = on_ok_weaker c.note_turns.result (λ noted file program bound.
    subst (λ f. AreNoted file program bound c.args.way.now c.args.thread f c.args.found.now c.note_turns.new.found)
    (sym c.in-Turns.is) (noted file program bound)) c.note_turns.ensures

pub returns-in-Ends : goal.returns-in-Ends
returns-in-Ends c = on_ok_weaker c.note_end.result (λ noted file program bound.
    subst (λ f. AreNoted file program bound c.args.way.now c.args.thread f c.args.found.now c.note_end.new.found)
    (sym c.in-Ends.is) (noted file program bound)) c.note_end.ensures

pub returns-in-Stays : goal.returns-in-Stays
returns-in-Stays c = λ file program bound.
    subst (λ f. AreNoted file program bound c.args.way.now c.args.thread f c.args.found.now c.args.found.now)
    (sym c.in-Stays.is) (added_stays file program bound c.args.way.now c.args.thread c.args.found.now)

pub returns-in-GoesOn : goal.returns-in-GoesOn
returns-in-GoesOn c = λ file program bound.
    subst (λ f. AreNoted file program bound c.args.way.now c.args.thread f c.args.found.now (record {
      throws = c.args.found.now.throws;
      waits = c.args.found.now.waits;
      turns = c.args.found.now.turns;
      complete = false;
    }))
    (sym c.in-GoesOn.is) (added_goes_on file program bound c.args.way.now c.args.thread c.args.found.now)
