-- Why `seat_of` in src/turnstile.rt keeps what `seat` requires.

use Rattle.std.proofs.Common.{ap, arith}
use Rattle.ls_live.proofs.Moves.{deal_at}
use Rattle.ls_live.proofs.turnstile.seat_of.Goals as goal

pub split_seat-seat-requires : goal.split_seat-seat-requires
split_seat-seat-requires c = (
  c.requires.id.0,
  omega arith,
  deal_at _ _ _ _ _ _ _ (ap (λ m. m.0) c.requires.hand)
      c.requires.some,
)
