-- Why `Machine::any_step` in src/machine.rt keeps its contract and what it calls with.

use Rattle.std.proofs.Common.{◌≡◌, ◌<◌, length, get_or, true, refl, ap, sym, subst, ◌∙◌, rules, arith, false}
use Rattle.std.proofs.lemmas.List.{get_or_read}
use Rattle.std.specs.Vec.{with_item}
use Rattle.ls_code.specs.declared.step.Did.TheVariants as did
use Rattle.ls_machine_threads.specs.Memory.{KeptThread, no_thread, MethodsFit}
use Rattle.ls_machine.specs.Outcomes.{Came}
use Rattle.ls_machine.specs.Takes.{TakesEvents}
use Rattle.ls_code.specs.Machine.{Machine, is_due, machine_step, Stepped, stepped_by}
use Rattle.ls_code.specs.Steps.{performed, thread_move}
use Rattle.ls_machine.proofs.Back.{of_kept}
use Rattle.ls_machine.proofs.Whole.{memory_kept, step_due, left_as_it_was, said, step_past, step_stopped, step_undue}
use Rattle.ls_machine.specs.contracts.machine.Machine.{the_view}
use Rattle.ls_machine.proofs.machine.Machine.any_step.Goals as goal
use Rattle.ls_machine.proofs.machine.Machine.any_step.Goals.{After-record}

inside : (c : After-record) → c.args.number < length c.self.inside.threads.items
inside c = search rules

thread_is : (c : After-record) →
    c.index_mut-thread.result.now ≡ get_or c.self.inside.threads.items c.args.number no_thread
thread_is c = get_or_read _ _ _ (inside c) c.index_mut-thread.ensures.value no_thread

came : (c : After-record) →
    let k = get_or c.self.inside.threads.items c.args.number no_thread in
    Came (performed c.self.inside.cells c.args.number k.thread (thread_move c.self.inside.code k.thread)) k
    c.run-did.new.thread c.run-did.new.cells c.run-did.result
came c = subst
    (λ (k : KeptThread). Came (performed c.self.inside.cells c.args.number k.thread
    (thread_move c.self.inside.code k.thread)) k c.run-did.new.thread c.run-did.new.cells c.run-did.result)
    (thread_is c) c.run-did.ensures.came

takes : (c : After-record) →
    TakesEvents c.self.inside.code c.args.number c.run-did.result
    (get_or c.self.inside.threads.items c.args.number no_thread).thread c.run-did.new.thread.thread
takes c = subst (λ (k : KeptThread). TakesEvents c.self.inside.code c.args.number c.run-did.result k.thread
    c.run-did.new.thread.thread) (thread_is c) c.run-did.ensures.events

pub invariant_of-self : goal.invariant_of-self
invariant_of-self c = (
  rw c.record.ensures.len (memory_kept c.self.inside.code c.self.inside.threads.items _ c.self.inside.limit
      c.args.number c.run-did.new.thread _ c.run-did.new.cells c.run-did.result (inside c) c.self.invariant.0 (came c)
      (takes c)),
  omega arith,
  of_kept c.self.inside.code c.self.inside.threads.items c.self.inside.cells c.self.inside.limit c.args.number
      c.run-did.new.thread c.run-did.new.cells c.run-did.result (inside c) c.self.invariant.2 (came c),
)

due : (c : After-record) →
    is_due (the_view c.self.inside).threads c.args.number (get_or c.self.inside.threads.items c.args.number
    no_thread).thread ≡ true
due c = rw c.deref.ensures.value at (sym c.is_due.ensures ∙ c.if-not-is_due.false)

stepped : (c : After-record) →
    machine_step (the_view c.self.inside) c.args.number ≡ stepped_by
    (the_view
    (record {
      code = c.self.inside.code;
      threads = with_item c.self.inside.threads c.args.number
          c.run-did.new.thread;
      cells = c.run-did.new.cells;
      stopped = c.is_stop-self-inside.result;
      history = c.record.new.history;
      limit = c.self.inside.limit;
    })) c.run-did.result
stepped c = rw (c.is_stop-self-inside.ensures, c.record.ensures.events)
    (step_due (the_view c.self.inside) c.args.number c.self.inside.threads.items c.run-did.new.thread
    c.run-did.new.cells c.run-did.result (inside c) refl c.if-self.false (due c) (came c))

pub returns-clause-machine : goal.returns-clause-machine
returns-clause-machine c = subst
    (λ (m : Machine).
    the_view (record {
      code = c.self.inside.code;
      threads = with_item c.self.inside.threads c.args.number
          c.run-did.new.thread;
      cells = c.run-did.new.cells;
      stopped = c.is_stop-self-inside.result;
      history = c.record.new.history;
      limit = c.self.inside.limit;
    }) ≡ (machine_step m c.args.number).machine)
    c.self.view_is (sym (ap (λ (s : Stepped). s.machine) (stepped c)))

pub returns-clause-did : goal.returns-clause-did
returns-clause-did c = subst (λ (m : Machine). c.run-did.result ≡ (machine_step m c.args.number).did) c.self.view_is
    (sym (ap (λ (s : Stepped). s.did) (stepped c)))

pub returns-then-number-len-clause-machine : goal.returns-then-number-len-clause-machine
returns-then-number-len-clause-machine c = left_as_it_was _ _ _ did.Idle c.self.view_is
    (step_past (the_view c.self.inside) c.args.number c.self.inside.threads.items
    (omega (arith, c.if-number-len.true, c.len.ensures, c.self.inside.threads.ok.0)) refl)

pub returns-then-number-len-clause-did : goal.returns-then-number-len-clause-did
returns-then-number-len-clause-did c = said _ _ _ did.Idle c.self.view_is
    (step_past (the_view c.self.inside) c.args.number c.self.inside.threads.items
    (omega (arith, c.if-number-len.true, c.len.ensures, c.self.inside.threads.ok.0)) refl)

pub returns-then-self-clause-machine : goal.returns-then-self-clause-machine
returns-then-self-clause-machine c = left_as_it_was _ _ _ did.Stopped c.self.view_is
    (step_stopped (the_view c.self.inside) c.args.number c.self.inside.threads.items
    (omega (arith, c.if-number-len.false, c.len.ensures, c.self.inside.threads.ok.0)) refl c.if-self.true)

pub returns-then-self-clause-did : goal.returns-then-self-clause-did
returns-then-self-clause-did c = said _ _ _ did.Stopped c.self.view_is
    (step_stopped (the_view c.self.inside) c.args.number c.self.inside.threads.items
    (omega (arith, c.if-number-len.false, c.len.ensures, c.self.inside.threads.ok.0)) refl c.if-self.true)

pub is_due-requires : goal.is_due-requires
is_due-requires c = omega (arith, c.if-number-len.false, c.len.ensures, c.deref.ensures.len)

pub returns-then-not-is_due-clause-machine : goal.returns-then-not-is_due-clause-machine
returns-then-not-is_due-clause-machine c =
    let undue : is_due (the_view c.self.inside).threads c.args.number
    (get_or c.self.inside.threads.items c.args.number no_thread).thread ≡ false = rw c.deref.ensures.value at
    (sym c.is_due.ensures ∙ c.if-not-is_due.true) in
    left_as_it_was _ _ _ did.Idle c.self.view_is (step_undue (the_view c.self.inside) c.args.number
    c.self.inside.threads.items (omega (arith, c.if-number-len.false, c.len.ensures, c.self.inside.threads.ok.0))
    refl c.if-self.false undue)

pub returns-then-not-is_due-clause-did : goal.returns-then-not-is_due-clause-did
returns-then-not-is_due-clause-did c =
    let undue : is_due (the_view c.self.inside).threads c.args.number
    (get_or c.self.inside.threads.items c.args.number no_thread).thread ≡ false = rw c.deref.ensures.value at
    (sym c.is_due.ensures ∙ c.if-not-is_due.true) in
    said _ _ _ did.Idle c.self.view_is (step_undue (the_view c.self.inside) c.args.number c.self.inside.threads.items
    (omega (arith, c.if-number-len.false, c.len.ensures, c.self.inside.threads.ok.0)) refl c.if-self.false undue)

pub index_mut-thread-requires : goal.index_mut-thread-requires
index_mut-thread-requires c = omega (arith, c.if-number-len.false, c.len.ensures)

pub run-did-requires-clause-number : goal.run-did-requires-clause-number
run-did-requires-clause-number c = omega (
  arith,
  c.if-number-len.false,
  c.len.ensures,
  c.self.inside.threads.ok.0,
  c.self.invariant.0.few,
)

pub run-did-requires-clause-fit : goal.run-did-requires-clause-fit
run-did-requires-clause-fit c =
    let inside : c.args.number < length c.self.inside.threads.items = omega
    (arith, c.if-number-len.false, c.len.ensures, c.self.inside.threads.ok.0) in
    subst (λ (t : KeptThread). MethodsFit c.self.inside.code.methods t.locals_room t.operands_room)
    (sym c.index_mut-thread.ensures.value) (c.self.invariant.0.fit c.args.number c.index_mut-thread.result.now
    inside)
