-- Why `Machine::set_as` in src/machine/saving.rt keeps what `left` and `history` require.

use Rattle.std.proofs.Common.{◌<◌, ◌∙◌, List, length, map, ap, sym, subst, rules, arith, vec_len}
use Rattle.std.proofs.lemmas.List.{with_items_is}
use Rattle.std.specs.List.{sum_by}
use Rattle.ls_machine_threads.specs.Memory.{KeptThread, events_left}
use Rattle.ls_machine.specs.Back.{IsOf}
use Rattle.ls_machine.specs.Room.{HasMemory}
use Rattle.ls_machine.proofs.Back.{calls_of}
use Rattle.ls_machine.proofs.Saving.{left_small, memory_set, of_set}
use Rattle.ls_machine.proofs.machine.Machine.set_as.Goals as goal

pub count_left-left-requires : goal.count_left-left-requires
count_left-left-requires c =
    let s = c.self.inside in
    let new = c.set_threads-threads.new.threads in
    let was = c.deref_mut.ensures.value in
    let calls = c.set_threads-threads.ensures.calls ∙ ap (map calls_of) was in
    let locals = c.set_threads-threads.ensures.locals ∙ ap (map (λ (t : KeptThread). t.locals_room)) was in
    let operands = c.set_threads-threads.ensures.operands ∙ ap (map (λ (t : KeptThread). t.operands_room)) was in
    let count = c.set_threads-threads.ensures.count ∙ ap length was in
    let items = with_items_is s.threads new (omega (arith, count, s.threads.ok.0)) in
    let small = left_small s.code s.threads.items new s.cells c.set_as-cells.new.self s.limit c.self.invariant.2 calls
    locals operands in
    let limit : s.limit < 18446744073709551616 = search rules in
    subst (λ (ts : List KeptThread). sum_by (λ t. events_left t.thread) ts < 18446744073709551616)
    (sym (c.deref.ensures.value ∙ items)) (omega (arith, small, limit))

pub remember-history-requires-clause-left : goal.remember-history-requires-clause-left
remember-history-requires-clause-left c =
    let s = c.self.inside in
    let new = c.set_threads-threads.new.threads in
    let was = c.deref_mut.ensures.value in
    let calls = c.set_threads-threads.ensures.calls ∙ ap (map calls_of) was in
    let locals = c.set_threads-threads.ensures.locals ∙ ap (map (λ (t : KeptThread). t.locals_room)) was in
    let operands = c.set_threads-threads.ensures.operands ∙ ap (map (λ (t : KeptThread). t.operands_room)) was in
    let count = c.set_threads-threads.ensures.count ∙ ap length was in
    let items = with_items_is s.threads new (omega (arith, count, s.threads.ok.0)) in
    let small = left_small s.code s.threads.items new s.cells c.set_as-cells.new.self s.limit c.self.invariant.2 calls
    locals operands in
    let is = c.count_left-left.ensures ∙ ap (λ (ts : List KeptThread). sum_by (λ t. events_left t.thread) ts)
    (c.deref.ensures.value ∙ items) in
    omega (arith, is, small)

pub invariant_of-self : goal.invariant_of-self
invariant_of-self c =
    let s = c.self.inside in
    let new = c.set_threads-threads.new.threads in
    let was = c.deref_mut.ensures.value in
    let calls = c.set_threads-threads.ensures.calls ∙ ap (map calls_of) was in
    let locals = c.set_threads-threads.ensures.locals ∙ ap (map (λ (t : KeptThread). t.locals_room)) was in
    let operands = c.set_threads-threads.ensures.operands ∙ ap (map (λ (t : KeptThread). t.operands_room)) was in
    let count = c.set_threads-threads.ensures.count ∙ ap length was in
    let items = with_items_is s.threads new (omega (arith, count, s.threads.ok.0)) in
    let small = left_small s.code s.threads.items new s.cells c.set_as-cells.new.self s.limit c.self.invariant.2 calls
    locals operands in
    let is = c.count_left-left.ensures ∙ ap (λ (ts : List KeptThread). sum_by (λ t. events_left t.thread) ts)
    (c.deref.ensures.value ∙ items) in
    let kept = c.set_as-cells.ensures.kept in (
      subst (λ (ts : List KeptThread). HasMemory s.code ts (vec_len c.remember-history.new.history) s.limit) (sym items)
          (memory_set s.code s.threads.items new s.cells c.set_as-cells.new.self s.limit c.self.invariant.2 calls locals
          operands (vec_len c.remember-history.new.history) _ c.count_left-left.result c.self.invariant.0 is
          c.remember-history.ensures.room),
      search rules,
      subst (λ (ts : List KeptThread). IsOf s.code ts c.set_as-cells.new.self s.limit) (sym items)
          (of_set s.code s.threads.items new s.cells c.set_as-cells.new.self s.limit c.self.invariant.2 calls locals
          operands kept.1 kept.2 kept.0),
    )
