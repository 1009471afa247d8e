-- Why `stay` in src/staying.rt keeps its clause `stays`, its loop `done` and what `acts` requires.

use Rattle.std.proofs.Common.{◌≡◌, ◌+◌, true, sym, subst, ◌∙◌, arith}
use Rattle.ls_code.specs.Machine.{is_running}
use Rattle.ls_machine_threads.specs.Memory.{KeptThread, MethodsFit}
use Rattle.ls_machine.proofs.Stays.{glide_stays, stays_more, stays_none}
use Rattle.ls_machine.proofs.staying.stay.Goals as goal

pub loop-done-init : goal.loop-done-init
loop-done-init c = record {
  few = omega arith;
  stays = stays_none c.args.code.now c.args.number c.args.thread.now
      c.args.cells.now;
}

pub acts-requires-clause-fit : goal.acts-requires-clause-fit
acts-requires-clause-fit c =
    let glided = glide_stays c.args.code.now c.args.number c.loop-done.done c.glide-done.result c.args.thread.now
    c.loop-done.thread c.glide-done.new.self c.args.cells.now c.loop-done.cells c.loop-done.invariant.stays
    (sym c.goes_on.ensures ∙ c.if-not-goes_on.false) (rw c.instructions.ensures at c.glide-done.ensures.glided)
    c.glide-done.ensures.others in
    subst (λ (t : KeptThread). MethodsFit c.args.code.now.methods t.locals_room t.operands_room) (sym glided.memory)
    c.requires.fit

pub returns-then-done-most-clause-stays : goal.returns-then-done-most-clause-stays
returns-then-done-most-clause-stays c = glide_stays c.args.code.now c.args.number c.loop-done.done c.glide-done.result
    c.args.thread.now c.loop-done.thread c.glide-done.new.self c.args.cells.now c.loop-done.cells
    c.loop-done.invariant.stays (sym c.goes_on.ensures ∙ c.if-not-goes_on.false)
    (rw c.instructions.ensures at c.glide-done.ensures.glided) c.glide-done.ensures.others

pub returns-then-not-acts-clause-stays : goal.returns-then-not-acts-clause-stays
returns-then-not-acts-clause-stays c =
    let glided = glide_stays c.args.code.now c.args.number c.loop-done.done c.glide-done.result c.args.thread.now
    c.loop-done.thread c.glide-done.new.self c.args.cells.now c.loop-done.cells c.loop-done.invariant.stays
    (sym c.goes_on.ensures ∙ c.if-not-goes_on.false) (rw c.instructions.ensures at c.glide-done.ensures.glided)
    c.glide-done.ensures.others in
    rw (c.acts.ensures.left c.if-not-acts.true, c.acts.ensures.cells c.if-not-acts.true) glided

pub loop-done-preserved : goal.loop-done-preserved
loop-done-preserved c =
    let running : is_running c.glide-done.new.self.thread.mode ≡ true = rw c.glide-done.ensures.others
    (sym c.goes_on.ensures ∙ c.if-not-goes_on.false) in
    let glided = glide_stays c.args.code.now c.args.number c.loop-done.done c.glide-done.result c.args.thread.now
    c.loop-done.thread c.glide-done.new.self c.args.cells.now c.loop-done.cells c.loop-done.invariant.stays
    (sym c.goes_on.ensures ∙ c.if-not-goes_on.false) (rw c.instructions.ensures at c.glide-done.ensures.glided)
    c.glide-done.ensures.others in
    record {
      few = omega arith;
      stays = stays_more c.args.code.now c.args.number (c.loop-done.done + c.glide-done.result)
          (c.loop-done.done + c.glide-done.result + 1) c.args.thread.now c.glide-done.new.self c.acts.new.thread
          c.args.cells.now c.loop-done.cells c.acts.new.cells glided running (c.acts.ensures.acted c.if-not-acts.false)
          (omega arith);
    }
