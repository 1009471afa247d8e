-- Why `Machine::moves_silently` in src/machine/running.rt keeps its clauses `silent` and `did` and what it calls with.

use Rattle.std.proofs.Common.{◌≡◌, ◌<◌, ◌≤◌, length, get_or, set, true, refl, ap, sym, subst, ◌∙◌, rules, arith}
use Rattle.std.proofs.lemmas.List.{get_or_read}
use Rattle.std.specs.Vec.{with_item}
use Rattle.ls_machine_threads.specs.Memory.{KeptThread, no_thread, events_left}
use Rattle.ls_machine.specs.Outcomes.{Came, IsSilentMove}
use Rattle.ls_machine.specs.Takes.{IsUnseen, TakesEvents}
use Rattle.ls_code.specs.Machine.{Machine, is_due, machine_step, Stepped, stepped_by}
use Rattle.ls_code.specs.Steps.{performed, thread_move}
use Rattle.ls_code.specs.declared.step.Did.TheVariants as did
use Rattle.ls_machine.proofs.Back.{of_kept}
use Rattle.ls_machine.proofs.Whole.{memory_unseen, same_threads, step_unseen}
use Rattle.ls_machine.specs.contracts.machine.Machine.{the_view}
use Rattle.ls_machine.proofs.machine.Machine.moves_silently.Goals as goal
use Rattle.ls_machine.proofs.machine.Machine.moves_silently.Goals.{Then-move_silently, Else-move_silently}

unseen : IsUnseen did.Silent
unseen = (refl, λ p thread. refl)

inside : (c : Then-move_silently) → c.args.number < length c.self.inside.threads.items
inside c = search rules

thread_is : (c : Then-move_silently) →
    c.index_mut-thread.result.now ≡ get_or c.self.inside.threads.items c.args.number no_thread
thread_is c = get_or_read _ _ _ (inside c) c.index_mut-thread.ensures.value no_thread

came : (c : Then-move_silently) →
    let k = get_or c.self.inside.threads.items c.args.number no_thread in
    Came (performed c.self.inside.cells c.args.number k.thread (thread_move c.self.inside.code k.thread)) k
    c.move_silently.new.thread c.self.inside.cells did.Silent
came c = subst (λ (k : KeptThread). IsSilentMove c.self.inside.code k c.move_silently.new.thread) (thread_is c)
    (c.move_silently.ensures.silent c.if-move_silently.true) c.self.inside.cells c.args.number

takes : (c : Then-move_silently) →
    TakesEvents c.self.inside.code c.args.number did.Silent (get_or c.self.inside.threads.items c.args.number
    no_thread).thread c.move_silently.new.thread.thread
takes c =
    let less : events_left c.move_silently.new.thread.thread ≤ events_left
    (get_or c.self.inside.threads.items c.args.number no_thread).thread = subst
    (λ (k : KeptThread). events_left c.move_silently.new.thread.thread ≤ events_left k.thread) (thread_is c)
    c.move_silently.ensures.events in
    omega (arith, less)

pub invariant_of-self : goal.invariant_of-self
invariant_of-self c = (
  memory_unseen c.self.inside.code c.self.inside.threads.items _ c.self.inside.limit c.args.number
      c.move_silently.new.thread _ c.self.inside.cells did.Silent (inside c) c.self.invariant.0 (came c) (takes c)
      unseen,
  search rules,
  of_kept c.self.inside.code c.self.inside.threads.items c.self.inside.cells c.self.inside.limit c.args.number
      c.move_silently.new.thread c.self.inside.cells did.Silent (inside c) c.self.invariant.2 (came c),
)

-- where nothing was done, the threads are as they were
same : (c : Else-move_silently) →
    set c.self.inside.threads.items c.args.number c.move_silently.new.thread ≡ c.self.inside.threads.items
same c =
    let within : c.args.number < length c.self.inside.threads.items = search rules in
    let thread : c.move_silently.new.thread ≡ get_or c.self.inside.threads.items c.args.number no_thread =
    c.move_silently.ensures.left c.if-move_silently.false ∙
    get_or_read _ _ _ within c.index_mut-thread.ensures.value no_thread in
    same_threads c.self.inside.threads.items c.args.number c.move_silently.new.thread thread

pub invariant_of-self-2 : goal.invariant_of-self-2
invariant_of-self-2 c = rw (same c) c.self.invariant

due : (c : Then-move_silently) →
    is_due (the_view c.self.inside).threads c.args.number (get_or c.self.inside.threads.items c.args.number
    no_thread).thread ≡ true
due c = rw c.deref.ensures.value at (sym c.is_due.ensures ∙ c.if-not-is_due.false)

stepped : (c : Then-move_silently) →
    machine_step (the_view c.self.inside) c.args.number ≡ stepped_by
    (the_view
    (record {
      code = c.self.inside.code;
      threads = with_item c.self.inside.threads c.args.number
          c.move_silently.new.thread;
      cells = c.self.inside.cells;
      stopped = c.self.inside.stopped;
      history = c.self.inside.history;
      limit = c.self.inside.limit;
    })) did.Silent
stepped c = step_unseen (the_view c.self.inside) c.args.number c.self.inside.threads.items c.move_silently.new.thread
    c.self.inside.cells did.Silent (inside c) refl c.if-self.false (due c) (came c) unseen

pub returns-then-move_silently-clause-silent : goal.returns-then-move_silently-clause-silent
returns-then-move_silently-clause-silent c = λ _. subst (λ (m : Machine).
    the_view (record {
      code = c.self.inside.code;
      threads = with_item c.self.inside.threads c.args.number
          c.move_silently.new.thread;
      cells = c.self.inside.cells;
      stopped = c.self.inside.stopped;
      history = c.self.inside.history;
      limit = c.self.inside.limit;
    }) ≡ (machine_step m c.args.number).machine)
    c.self.view_is (sym (ap (λ (s : Stepped). s.machine) (stepped c)))

pub returns-then-move_silently-clause-did : goal.returns-then-move_silently-clause-did
returns-then-move_silently-clause-did c = λ _. subst (λ (m : Machine). (machine_step m c.args.number).did ≡ did.Silent)
    c.self.view_is (ap (λ (s : Stepped). s.did) (stepped c))

pub is_due-requires : goal.is_due-requires
is_due-requires c = omega (arith, c.if-number-len.false, c.len.ensures, c.deref.ensures.len)

pub index_mut-thread-requires : goal.index_mut-thread-requires
index_mut-thread-requires c = omega (arith, c.if-number-len.false, c.len.ensures)
