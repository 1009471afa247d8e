-- Why `push_thread` in src/threads.rt keeps its contract.

use Rattle.std.proofs.Common.{◌≡◌, ◌+◌, ◌-◌, length, map, arith}
use Rattle.ls_checked.specs.Plain.{plain_class}
use Rattle.ls_checked.specs.PlainProgram.{plain_call}
use Rattle.ls_linker.proofs.UnitSizes.{thread_pushed, code_some}
use Rattle.ls_linker.proofs.threads.push_thread.Goals as goal

pub overflow_sub-last : goal.overflow_sub-last
overflow_sub-last c =
    let long : c.len-last.result ≡ length c.push_calls.new.code.items = search in
    let some = code_some (map plain_class c.args.classes.now) (map plain_call c.args.calls.now) c.args.code.now.items
    c.push_calls.new.code.items c.in_ok-push_calls.ensures in
    omega (arith, long, some)

pub returns : goal.returns
returns c =
    let first : c.len-from.result ≡ length c.args.code.now.items = search in
    let long : c.len-last.result ≡ length c.push_calls.new.code.items = search in
    let some = code_some (map plain_class c.args.classes.now) (map plain_call c.args.calls.now) c.args.code.now.items
    c.push_calls.new.code.items c.in_ok-push_calls.ensures in
    let last : c.len-last.result - 1 + 1 ≡ length c.push_calls.new.code.items = omega (arith, long, some) in
    thread_pushed (map plain_class c.args.classes.now) (map plain_call c.args.calls.now) c.args.code.now.items
    c.push_calls.new.code.items c.len-from.result (c.len-last.result - 1) c.in_ok-push_calls.ensures first last
