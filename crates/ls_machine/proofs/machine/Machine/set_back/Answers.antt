-- Why `Machine::set_back` in src/machine.rt keeps its contract.

use Rattle.std.proofs.Common.{◌≡◌, ◌∙◌, List, length, map, refl, ap, sym, subst, rules, arith, vec_len, false}
use Rattle.std.proofs.lemmas.List.{with_items_is}
use Rattle.std.specs.Vec.{with_items}
use Rattle.ls_code.specs.Cells.{Cells}
use Rattle.ls_code.specs.Code.{Start}
use Rattle.ls_code.specs.Machine.{Machine, loaded}
use Rattle.ls_machine.specs.Back.{IsOf, all_back}
use Rattle.ls_machine_threads.specs.Memory.{KeptThread}
use Rattle.ls_machine.specs.Room.{HasMemory}
use Rattle.ls_machine.specs.contracts.machine.Machine.{the_view}
use Rattle.ls_machine.proofs.Back.{all_loaded, count_back, memory_back, of_back}
use Rattle.ls_machine.proofs.machine.Machine.set_back.Goals as goal
use Rattle.ls_machine.proofs.machine.Machine.set_back.Goals.{After-forget}

-- the threads are those at their starts
threads_are : (c : After-forget) →
    (with_items c.self.inside.threads c.set_all_back.new.threads).items ≡ all_back c.self.inside.code.starts
    c.self.inside.threads.items
threads_are c =
    let is : c.set_all_back.new.threads ≡ all_back c.self.inside.code.starts c.self.inside.threads.items =
    c.set_all_back.ensures ∙ (ap (λ (ss : List Start). all_back ss c.deref_mut.result.now)
    c.starts.ensures.starts ∙ ap (all_back c.self.inside.code.starts) c.deref_mut.ensures.value) in
    let count = count_back c.self.inside.code.starts c.self.inside.threads.items in
    let same = ap length is in
    let len = c.self.inside.threads.ok.0 in
    with_items_is c.self.inside.threads c.set_all_back.new.threads (omega (arith, count, same, len)) ∙ is

pub invariant_of-self : goal.invariant_of-self
invariant_of-self c =
    let is = c.self.invariant.2 in
    let names = ap (λ (x : Cells). x.names) c.set_back.ensures in
    let sizes = ap (λ (x : Cells). x.sizes) c.set_back.ensures in
    let limit = ap (λ (x : Cells). x.limit) c.set_back.ensures in (
      subst (λ (ts : List KeptThread). HasMemory c.self.inside.code ts (vec_len c.forget.new.history)
          c.self.inside.limit) (sym (threads_are c))
          (rw c.forget.ensures.len (memory_back c.self.inside.code c.self.inside.threads.items c.self.inside.cells _
          c.self.inside.limit c.self.invariant.0 is)),
      search rules,
      subst (λ (ts : List KeptThread). IsOf c.self.inside.code ts c.set_back.new.self c.self.inside.limit)
          (sym (threads_are c))
          (of_back c.self.inside.code c.self.inside.threads.items c.self.inside.cells c.set_back.new.self
          c.self.inside.limit is names sizes limit),
    )

pub returns : goal.returns
returns c =
    let is = c.self.invariant.2 in
    let threads = ap (map (λ (t : KeptThread). t.thread)) (threads_are c) ∙
    all_loaded c.self.inside.code c.self.inside.threads.items c.self.inside.cells c.self.inside.limit is in
    subst (λ (m : Machine).
    the_view (record {
      code = c.self.inside.code;
      threads = with_items c.self.inside.threads
          c.set_all_back.new.threads;
      cells = c.set_back.new.self;
      stopped = false;
      history = c.forget.new.history;
      limit = c.self.inside.limit;
    }) ≡ loaded m.code m.cells.limit) c.self.view_is
    (rw (threads, c.set_back.ensures, c.forget.ensures.events, is.names, is.sizes) refl)
