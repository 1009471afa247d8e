-- Why `Frame::two` in src/frame.rt keeps its contract.

use Rattle.std.proofs.Common.{◌<◌, length, drop, sym, arith, length-drop}
use Rattle.ls_machine_moves.proofs.Operands.{two_short}
use Rattle.ls_machine_moves.proofs.frame.Frame.two.Goals as goal

pub returns-else-count-ge2 : goal.returns-else-count-ge2
returns-else-count-ge2 c =
    let h : length (drop c.self.inside.top c.self.inside.operands.items) < 2 = simp length-drop (omega arith) in
    rw (← c.self.view_is) (sym (two_short _ h))
