-- Why `set_threads` in src/machine/saving.rt keeps its clauses `calls`, `locals` and `operands` and its loop `i`.

use Rattle.std.proofs.Common.{◌<◌, ◌∙◌, List, length, ap, arith}
use Rattle.std.proofs.Math.Seq.{map-set_same}
use Rattle.std.proofs.lemmas.List.{length-set}
use Rattle.ls_machine_threads.specs.Memory.{KeptThread}
use Rattle.ls_machine_threads.proofs.Saving.{written}
use Rattle.ls_machine.proofs.machine.saving.set_threads.Goals as goal

pub loop-i-preserved : goal.loop-i-preserved
loop-i-preserved c =
    let ts : List KeptThread = c.loop-i.threads in
    let new : KeptThread = c.set_as.new.self in
    let i = c.loop-i.i in
    let old : KeptThread = c.index-threads-i.result in
    let there : i < length ts = omega (arith, c.loop-i-test.true, c.loop-i.invariant.count) in
    let same = ap (λ (t : KeptThread). t.thread) (c.set_as.ensures.same c.if-not-set_as.false) ∙ c.as_ref.ensures in
    record {
      count = length-set ts i new ∙ c.loop-i.invariant.count;
      same = written (λ (t : KeptThread). t.thread) (λ t. t.value) ts c.args.saved.now i new c.index-saved-i.result
          there (omega arith) c.loop-i.invariant.same (same ∙ ap (λ t. t.value) c.index-saved-i.is);
      calls = map-set_same (λ (t : KeptThread). t.thread.calls) ts i new old c.set_as.ensures.calls ∙
          c.loop-i.invariant.calls;
      locals = map-set_same (λ (t : KeptThread). t.locals_room) ts i new old c.set_as.ensures.locals ∙
          c.loop-i.invariant.locals;
      operands = map-set_same (λ (t : KeptThread). t.operands_room) ts i new old c.set_as.ensures.operands ∙
          c.loop-i.invariant.operands;
    }

pub returns-then-not-set_as-clause-calls : goal.returns-then-not-set_as-clause-calls
returns-then-not-set_as-clause-calls c =
    map-set_same (λ (t : KeptThread). t.thread.calls) c.loop-i.threads c.loop-i.i c.set_as.new.self
    c.index-threads-i.result c.set_as.ensures.calls ∙ c.loop-i.invariant.calls

pub returns-then-not-set_as-clause-locals : goal.returns-then-not-set_as-clause-locals
returns-then-not-set_as-clause-locals c =
    map-set_same (λ (t : KeptThread). t.locals_room) c.loop-i.threads c.loop-i.i c.set_as.new.self
    c.index-threads-i.result c.set_as.ensures.locals ∙ c.loop-i.invariant.locals

pub returns-then-not-set_as-clause-operands : goal.returns-then-not-set_as-clause-operands
returns-then-not-set_as-clause-operands c =
    map-set_same (λ (t : KeptThread). t.operands_room) c.loop-i.threads c.loop-i.i c.set_as.new.self
    c.index-threads-i.result c.set_as.ensures.operands ∙ c.loop-i.invariant.operands
