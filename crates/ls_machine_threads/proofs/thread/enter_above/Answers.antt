-- Why `enter_above` in src/thread.rt keeps its contract.

use Rattle.std.proofs.Common.{◌<◌, ◌++◌, length}
use Rattle.ls_machine_moves.specs.Frames.{no_frame}
use Rattle.ls_machine_threads.proofs.Frames.{set_both, callee_is, caller_is}
use Rattle.ls_machine_threads.proofs.thread.enter_above.Goals as goal

pub returns : goal.returns
returns c =
    let s = c.split_at_mut-above.ensures in
    let there : c.args.inner < length (c.split_at_mut-above.result.0.now ++ c.split_at_mut-above.result.1.now) = rw
    (← s.value) c.requires.there in
    let above = callee_is c.split_at_mut-above.result.0.now c.split_at_mut-above.result.1.now c.args.inner s.front_len
    c.requires.above there c.index-above-inner.result no_frame in
    let here = caller_is c.split_at_mut-above.result.0.now c.split_at_mut-above.result.1.now c.args.inner s.front_len
    c.requires.above there c.index-here-0.result no_frame in
    let both = set_both c.split_at_mut-above.result.0.now c.split_at_mut-above.result.1.now c.args.inner s.front_len
    c.requires.above there c.enter.new.self c.enter.new.caller in
    cc (above, here, both, c.enter.ensures.callee, c.enter.ensures.caller, s.value)
