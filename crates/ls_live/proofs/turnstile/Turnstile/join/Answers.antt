-- Why `Turnstile::join` in src/turnstile.rt keeps what `join_seat` requires.

use Rattle.std.proofs.Common.{ap, ◌∙◌, sym, arith}
use Rattle.ls_live.proofs.Moves.{join_moves}
use Rattle.ls_live.proofs.turnstile.Turnstile.join.Goals as goal

pub join_seat-requires : goal.join_seat-requires
join_seat-requires c =
    let i = c.self.invariant in
    let me = c.seat.invariant.0 in
    let its = ap (λ s. s.id) (sym c.self.view_is) in
    let part = ap (λ m. m.0.parts) me in (
      c.requires.id ∙ its,
      ap (λ s. s.id) c.seat.view_is ∙ (c.requires.seat.0 ∙ its),
      ap (λ m. m.1) me,
      omega arith,
      join_moves _ _ _ _ _ _ _ c.requires.all.0 (ap (λ m. m.0.out) me) (omega arith),
    )
