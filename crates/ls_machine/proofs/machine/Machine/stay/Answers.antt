-- Why `Machine::stay` in src/machine/running.rt keeps its clause `same` and what `is_due`, `thread` and `stay` require.

use Rattle.std.proofs.Common.{◌≡◌, ◌<◌, length, get_or, true, false, refl, sym, subst, ◌∙◌, rules, arith}
use Rattle.std.proofs.lemmas.List.{get_or_read}
use Rattle.std.specs.Vec.{with_item}
use Rattle.ls_code.specs.Machine.{Machine, is_due, machine_run}
use Rattle.ls_machine_threads.specs.Memory.{KeptThread, no_thread, MethodsFit}
use Rattle.ls_machine.specs.Staying.{Stays, turns}
use Rattle.ls_machine.specs.contracts.machine.Machine.{the_view}
use Rattle.ls_machine.proofs.Stays.{idle_run, machine_stays, memory_stays, of_stays}
use Rattle.ls_machine.proofs.Whole.{step_past, step_stopped, step_undue}
use Rattle.ls_machine.proofs.machine.Machine.stay.Goals as goal

pub invariant_of-self : goal.invariant_of-self
invariant_of-self c =
    let n = c.args.number in
    let ts = c.self.inside.threads.items in
    let inside : n < length ts = search rules in
    let is = get_or_read _ _ _ inside c.index_mut-thread.ensures.value no_thread in
    let stays = subst (λ (k : KeptThread). Stays c.self.inside.code n c.stay.result k c.stay.new.thread
    c.self.inside.cells c.stay.new.cells) is c.stay.ensures.stays in (
      memory_stays c.self.inside.code ts n c.stay.result c.self.inside.limit c.stay.new.thread c.self.inside.cells
          c.stay.new.cells inside stays _ c.self.invariant.0,
      search rules,
      of_stays c.self.inside.code ts n c.stay.result c.self.inside.limit c.stay.new.thread c.self.inside.cells
          c.stay.new.cells inside stays c.self.invariant.2,
    )

pub returns-clause-same : goal.returns-clause-same
returns-clause-same c = λ rest.
    let n = c.args.number in
    let ts = c.self.inside.threads.items in
    let inside : n < length ts = search rules in
    let is = get_or_read _ _ _ inside c.index_mut-thread.ensures.value no_thread in
    let stays = subst (λ (k : KeptThread). Stays c.self.inside.code n c.stay.result k c.stay.new.thread
    c.self.inside.cells c.stay.new.cells) is c.stay.ensures.stays in
    let due : is_due (the_view c.self.inside).threads n (get_or ts n no_thread).thread ≡ true = rw c.deref.ensures.value
    at (sym c.is_due.ensures ∙ c.if-not-is_due.false) in
    let run = machine_stays (the_view c.self.inside) n c.stay.result ts c.stay.new.thread c.stay.new.cells rest inside
    refl c.if-self.false due stays in
    subst (λ (m : Machine). machine_run m (turns c.stay.result n rest) ≡ machine_run
    (the_view (record {
      code = c.self.inside.code;
      threads = with_item c.self.inside.threads n c.stay.new.thread;
      cells = c.stay.new.cells;
      stopped = c.self.inside.stopped;
      history = c.self.inside.history;
      limit = c.self.inside.limit;
    })) rest) c.self.view_is run

pub returns-then-number-len-clause-same : goal.returns-then-number-len-clause-same
returns-then-number-len-clause-same c = idle_run _ _ c.args.number c.args.most _ c.self.view_is
    (step_past (the_view c.self.inside) c.args.number c.self.inside.threads.items
    (omega (arith, c.if-number-len.true, c.len.ensures, c.self.inside.threads.ok.0)) refl)

pub returns-then-self-clause-same : goal.returns-then-self-clause-same
returns-then-self-clause-same c = idle_run _ _ c.args.number c.args.most _ c.self.view_is
    (step_stopped (the_view c.self.inside) c.args.number c.self.inside.threads.items
    (omega (arith, c.if-number-len.false, c.len.ensures, c.self.inside.threads.ok.0)) refl c.if-self.true)

pub is_due-requires : goal.is_due-requires
is_due-requires c = omega (arith, c.if-number-len.false, c.len.ensures, c.deref.ensures.len)

pub returns-then-not-is_due-clause-same : goal.returns-then-not-is_due-clause-same
returns-then-not-is_due-clause-same c =
    let undue : is_due (the_view c.self.inside).threads c.args.number
    (get_or c.self.inside.threads.items c.args.number no_thread).thread ≡ false = rw c.deref.ensures.value at
    (sym c.is_due.ensures ∙ c.if-not-is_due.true) in
    idle_run _ _ c.args.number c.args.most _ c.self.view_is (step_undue (the_view c.self.inside) c.args.number
    c.self.inside.threads.items (omega (arith, c.if-number-len.false, c.len.ensures, c.self.inside.threads.ok.0))
    refl c.if-self.false undue)

pub index_mut-thread-requires : goal.index_mut-thread-requires
index_mut-thread-requires c = omega (arith, c.if-number-len.false, c.len.ensures)

pub stay-requires-clause-number : goal.stay-requires-clause-number
stay-requires-clause-number c = omega (
  arith,
  c.if-number-len.false,
  c.len.ensures,
  c.self.inside.threads.ok.0,
  c.self.invariant.0.few,
)

pub stay-requires-clause-fit : goal.stay-requires-clause-fit
stay-requires-clause-fit c =
    let inside : c.args.number < length c.self.inside.threads.items = omega
    (arith, c.if-number-len.false, c.len.ensures, c.self.inside.threads.ok.0) in
    subst (λ (t : KeptThread). MethodsFit c.self.inside.code.methods t.locals_room t.operands_room)
    (sym c.index_mut-thread.ensures.value) (c.self.invariant.0.fit c.args.number c.index_mut-thread.result.now
    inside)
