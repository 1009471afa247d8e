-- Why `Turnstile::play` in src/turnstile.rt keeps what `slot_mut` requires.

use Rattle.std.proofs.Common.{ap, ◌∙◌, sym, take}
use Rattle.ls_code.specs.Machine.{machine_run}
use Rattle.ls_live.proofs.Moves.{held_first}
use Rattle.ls_live.proofs.turnstile.Turnstile.play.Goals as goal

pub slot_mut-requires : goal.slot_mut-requires
slot_mut-requires c =
    let v = c.args.seat.now.me.0 in
    let y = machine_run v.start (take v.seen v.tape) in
    (c.requires.id ∙ ap (λ s. s.id) (sym c.self.view_is), (y, held_first y c.args.seat.now.me.1 c.requires.held))
