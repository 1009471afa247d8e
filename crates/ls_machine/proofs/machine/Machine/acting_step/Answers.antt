-- Why `Machine::acting_step` in src/machine.rt keeps its contract and what `is_due`, `thread` and `act` require.

use Rattle.std.proofs.Common.{◌≡◌, ◌<◌, length, get_or, true, refl, ap, sym, subst, ◌∙◌, rules, false, arith}
use Rattle.std.proofs.lemmas.List.{get_or_read}
use Rattle.std.specs.Vec.{with_item}
use Rattle.ls_code.specs.declared.step.Did.TheVariants as did
use Rattle.ls_machine_threads.specs.Memory.{KeptThread, no_thread, MethodsFit}
use Rattle.ls_machine.specs.Takes.{TakesEvents}
use Rattle.ls_machine_threads.specs.Threads.{instruction_of}
use Rattle.ls_code.specs.Machine.{Machine, is_due, machine_step, Stepped}
use Rattle.ls_machine.proofs.Back.{of_kept}
use Rattle.ls_machine.proofs.Whole.{memory_unseen, step_unseen, came_here, left_as_it_was, said, step_past}
use Rattle.ls_machine.proofs.Whole.{step_stopped, step_undue, same_threads}
use Rattle.ls_machine.specs.contracts.machine.Machine.{the_view}
use Rattle.ls_machine.proofs.machine.Machine.acting_step.Goals as goal

pub invariant_of-self-2 : goal.invariant_of-self-2
invariant_of-self-2 c =
    let n = c.args.number in
    let ts = c.self.inside.threads.items in
    let inside : n < length ts = search rules in
    let is = get_or_read _ _ _ inside c.index_mut-thread.ensures.value no_thread in
    let came = came_here c.self.inside.code c.self.inside.cells n c.index_mut-thread.result.now (get_or ts n no_thread)
    c.act.new.thread c.act.new.cells c.act.result (instruction_of c.in-Some.acting) is c.in-Some.ensures.here
    c.act.ensures.came in
    let takes = subst (λ (k : KeptThread). TakesEvents c.self.inside.code n c.act.result k.thread
    c.act.new.thread.thread) is c.act.ensures.events in (
      memory_unseen c.self.inside.code ts _ c.self.inside.limit n c.act.new.thread _ c.act.new.cells c.act.result inside
          c.self.invariant.0 came takes c.act.ensures.unseen,
      search rules,
      of_kept c.self.inside.code ts c.self.inside.cells c.self.inside.limit n c.act.new.thread c.act.new.cells
          c.act.result inside c.self.invariant.2 came,
    )

pub returns : goal.returns
returns c =
    let n = c.args.number in
    let ts = c.self.inside.threads.items in
    let inside : n < length ts = search rules in
    let is = get_or_read _ _ _ inside c.index_mut-thread.ensures.value no_thread in
    let came = came_here c.self.inside.code c.self.inside.cells n c.index_mut-thread.result.now (get_or ts n no_thread)
    c.act.new.thread c.act.new.cells c.act.result (instruction_of c.in-Some.acting) is c.in-Some.ensures.here
    c.act.ensures.came in
    let due : is_due (the_view c.self.inside).threads n (get_or ts n no_thread).thread ≡ true = rw c.deref.ensures.value
    at (sym c.is_due.ensures ∙ c.if-not-is_due.false) in
    let stepped = step_unseen (the_view c.self.inside) n ts c.act.new.thread c.act.new.cells c.act.result inside refl
    c.if-self.false due came c.act.ensures.unseen in
    record {
      machine = subst
          (λ (m : Machine).
          the_view (record {
            code = c.self.inside.code;
            threads = with_item c.self.inside.threads n c.act.new.thread;
            cells = c.act.new.cells;
            stopped = c.self.inside.stopped;
            history = c.self.inside.history;
            limit = c.self.inside.limit;
          }) ≡ (machine_step m n).machine) c.self.view_is
          (sym (ap (λ (s : Stepped). s.machine) stepped));
      did = subst (λ (m : Machine). c.act.result ≡ (machine_step m n).did) c.self.view_is
          (sym (ap (λ (s : Stepped). s.did) stepped));
    }

pub returns-then-number-len-clause-machine : goal.returns-then-number-len-clause-machine
returns-then-number-len-clause-machine c = left_as_it_was _ _ _ did.Idle c.self.view_is
    (step_past (the_view c.self.inside) c.args.number c.self.inside.threads.items
    (omega (arith, c.if-number-len.true, c.len.ensures, c.self.inside.threads.ok.0)) refl)

pub returns-then-number-len-clause-did : goal.returns-then-number-len-clause-did
returns-then-number-len-clause-did c = said _ _ _ did.Idle c.self.view_is
    (step_past (the_view c.self.inside) c.args.number c.self.inside.threads.items
    (omega (arith, c.if-number-len.true, c.len.ensures, c.self.inside.threads.ok.0)) refl)

pub returns-then-self-clause-machine : goal.returns-then-self-clause-machine
returns-then-self-clause-machine c = left_as_it_was _ _ _ did.Stopped c.self.view_is
    (step_stopped (the_view c.self.inside) c.args.number c.self.inside.threads.items
    (omega (arith, c.if-number-len.false, c.len.ensures, c.self.inside.threads.ok.0)) refl c.if-self.true)

pub returns-then-self-clause-did : goal.returns-then-self-clause-did
returns-then-self-clause-did c = said _ _ _ did.Stopped c.self.view_is
    (step_stopped (the_view c.self.inside) c.args.number c.self.inside.threads.items
    (omega (arith, c.if-number-len.false, c.len.ensures, c.self.inside.threads.ok.0)) refl c.if-self.true)

pub is_due-requires : goal.is_due-requires
is_due-requires c = omega (arith, c.if-number-len.false, c.len.ensures, c.deref.ensures.len)

pub returns-then-not-is_due-clause-machine : goal.returns-then-not-is_due-clause-machine
returns-then-not-is_due-clause-machine c =
    let undue : is_due (the_view c.self.inside).threads c.args.number
    (get_or c.self.inside.threads.items c.args.number no_thread).thread ≡ false = rw c.deref.ensures.value at
    (sym c.is_due.ensures ∙ c.if-not-is_due.true) in
    left_as_it_was _ _ _ did.Idle c.self.view_is (step_undue (the_view c.self.inside) c.args.number
    c.self.inside.threads.items (omega (arith, c.if-number-len.false, c.len.ensures, c.self.inside.threads.ok.0))
    refl c.if-self.false undue)

pub returns-then-not-is_due-clause-did : goal.returns-then-not-is_due-clause-did
returns-then-not-is_due-clause-did c =
    let undue : is_due (the_view c.self.inside).threads c.args.number
    (get_or c.self.inside.threads.items c.args.number no_thread).thread ≡ false = rw c.deref.ensures.value at
    (sym c.is_due.ensures ∙ c.if-not-is_due.true) in
    said _ _ _ did.Idle c.self.view_is (step_undue (the_view c.self.inside) c.args.number c.self.inside.threads.items
    (omega (arith, c.if-number-len.false, c.len.ensures, c.self.inside.threads.ok.0)) refl c.if-self.false undue)

pub index_mut-thread-requires : goal.index_mut-thread-requires
index_mut-thread-requires c = omega (arith, c.if-number-len.false, c.len.ensures)

pub act-requires-clause-number : goal.act-requires-clause-number
act-requires-clause-number c = omega (
  arith,
  c.if-number-len.false,
  c.len.ensures,
  c.self.inside.threads.ok.0,
  c.self.invariant.0.few,
)

pub act-requires-clause-fit : goal.act-requires-clause-fit
act-requires-clause-fit c =
    let inside : c.args.number < length c.self.inside.threads.items = omega
    (arith, c.if-number-len.false, c.len.ensures, c.self.inside.threads.ok.0) in
    subst (λ (t : KeptThread). MethodsFit c.self.inside.code.methods t.locals_room t.operands_room)
    (sym c.index_mut-thread.ensures.value) (c.self.invariant.0.fit c.args.number c.index_mut-thread.result.now
    inside)

pub invariant_of-self : goal.invariant_of-self
invariant_of-self c =
    let inside : c.args.number < length c.self.inside.threads.items = omega
    (arith, c.if-number-len.false, c.len.ensures, c.self.inside.threads.ok.0) in
    rw (same_threads c.self.inside.threads.items c.args.number c.index_mut-thread.result.now
    (get_or_read _ _ _ inside c.index_mut-thread.ensures.value no_thread)) c.self.invariant

pub act-requires-clause-place : goal.act-requires-clause-place
act-requires-clause-place c = c.in-Some.ensures.within
