-- Why `are_same` in src/machine.rt keeps what `is_same` requires.

use Rattle.std.proofs.Common.{◌<◌, length, sym, ap, ◌∙◌, arith}
use Rattle.ls_machine_threads.specs.Memory.{KeptThread}
use Rattle.ls_machine.proofs.SameAt.{same_at}
use Rattle.ls_machine.proofs.machine.are_same.Goals as goal

pub is_same-requires : goal.is_same-requires
is_same-requires c =
    let within : c.loop-i.i < length c.args.others.now = omega arith in
    ap (λ (t : KeptThread). t.thread.calls) c.index-threads-i.is
    ∙ same_at (λ (t : KeptThread). t.thread.calls) c.args.threads.now c.args.others.now c.loop-i.i
    c.index-threads-i.result c.index-others-i.result c.requires c.loop-i-test.true within
    ∙ sym (ap (λ (t : KeptThread). t.thread.calls) c.index-others-i.is)
