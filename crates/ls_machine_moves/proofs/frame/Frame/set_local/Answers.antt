-- Why `Frame::set_local` in src/frame.rt keeps its contract.

use Rattle.std.proofs.Common.{◌≡◌, ◌<◌, length, take, arith, refl, ap, min, length-take}
use Rattle.ls_machine_moves.specs.Frames.{Kept}
use Rattle.ls_machine_moves.proofs.Operands.{take_set_below}
use Rattle.ls_machine_moves.proofs.frame.Frame.set_local.Goals as goal

pub returns : goal.returns
returns c =
    let v : take c.self.inside.count c.self.inside.locals.items ≡ c.args.self.now.frame.locals = ap
    (λ (k : Kept). k.frame.locals) c.self.view_is in
    let l : min c.self.inside.count (length c.self.inside.locals.items) ≡ length c.args.self.now.frame.locals = simp
    length-take at (ap length v) in
    let h : c.args.number < c.self.inside.count = omega arith in
    let e = take_set_below c.self.inside.locals.items c.self.inside.count c.args.number c.args.word h in
    rw (e, ← c.self.view_is) refl
