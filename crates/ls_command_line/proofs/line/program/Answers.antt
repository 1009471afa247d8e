-- Why `program` in src/line.rt keeps its contract.

use Rattle.std.proofs.lemmas.Result.{IfOk-weaker}
use Rattle.ls_command_line.proofs.line.program.Goals as goal

pub returns : goal.returns
returns c =
    let to = c.translate_command.ensures.shape in
    let one = c.with_command-program.ensures _ _ c.top_command.ensures c.check_command.ensures.shape in
    let two = c.with_command-program-2.ensures _ _ one c.order_command.ensures.shape in
    let three = c.with_command-program-3.ensures _ _ two c.compile_command.ensures.shape in
    let four = c.with_command-program-4.ensures _ _ three c.replay_command.ensures.shape in
    let five = c.with_command-program-5.ensures _ _ four c.source_command.ensures.shape in
    let six = c.with_command-program-6.ensures _ _ five c.trace_command.ensures.shape in
    let seven = c.with_command-program-7.ensures _ _ six c.state_command.ensures.shape in
    let eight = c.with_command-program-8.ensures _ _ seven c.page_command.ensures.shape in
    let nine = c.with_command-program-9.ensures _ _ eight c.aim_command.ensures.shape in
    let ten = c.with_command-program-10.ensures _ _ nine to.2 in
    let eleven = c.with_command-program-11.ensures _ _ ten c.live_command.ensures.shape in
    let twelve = c.with_command-program-12.ensures _ _ eleven c.batch_command.ensures.shape in
    let thirteen = c.with_command-program-13.ensures _ _ twelve c.sample_command.ensures.shape in
    let fourteen = c.with_command-program-14.ensures _ _ thirteen c.explore_command.ensures.shape in
    let fifteen = c.with_command-program-15.ensures _ _ fourteen c.find_command.ensures.shape in
    let sixteen = c.with_command-program-16.ensures _ _ fifteen c.merge_command.ensures.shape in
    IfOk-weaker c.with_command.result _ _ (λ r h. (to.0, to.1, h))
    (c.with_command.ensures _ _ sixteen c.java_command.ensures.shape)
