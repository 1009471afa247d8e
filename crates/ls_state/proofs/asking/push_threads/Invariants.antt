-- What the loop `thread` of `push_threads` in src/asking.rt keeps.

use Rattle.std.proofs.Common.{◌≡◌, ◌++◌, drop, map, string_bytes}
use Rattle.ls_checked.specs.PlainProgram.{plain_thread}
use Rattle.ls_state.specs.Parts.{numbered}
use Rattle.ls_state.specs.Asking.{thread_line}
use Rattle.ls_state.specs.Seen.{names_in, scene_seen}
use Rattle.ls_state.proofs.asking.push_threads.Given as goal

abbrev pub invariant-loop-thread : goal.invariant-loop-thread
invariant-loop-thread l =
    string_bytes l.out ++ numbered (thread_line (names_in l.scene) (scene_seen l.scene)) l.thread
    (map plain_thread (drop l.thread l.threads))
    ≡ string_bytes l.fn.out ++ numbered (thread_line (names_in l.scene) (scene_seen l.scene)) 0
    (map plain_thread l.threads)
