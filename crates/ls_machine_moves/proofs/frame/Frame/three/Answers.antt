-- Why `Frame::three` in src/frame.rt keeps its contract.

use Rattle.std.proofs.Common.{◌<◌, length, drop, sym, arith, length-drop}
use Rattle.ls_machine_moves.proofs.Operands.{three_short}
use Rattle.ls_machine_moves.proofs.frame.Frame.three.Goals as goal

pub returns-else-count-ge3 : goal.returns-else-count-ge3
returns-else-count-ge3 c =
    let h : length (drop c.self.inside.top c.self.inside.operands.items) < 3 = simp length-drop (omega arith) in
    rw (← c.self.view_is) (sym (three_short _ h))
