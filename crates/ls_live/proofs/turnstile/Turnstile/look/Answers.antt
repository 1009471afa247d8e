-- Why `Turnstile::look` in src/turnstile.rt keeps what `load` requires.

use Rattle.std.proofs.Common.{ap, ◌∙◌, sym, arith}
use mathlib.Core.Option.{none}
use Rattle.atomic_table.specs.Table.{step}
use Rattle.ls_live.proofs.Moves.{look_moves}
use Rattle.ls_live.proofs.turnstile.Turnstile.look.Goals as goal

pub load-requires : goal.load-requires
load-requires c = let i = c.self.invariant in let v = c.requires.view in (
  c.requires.id ∙ ap (λ s. s.id) (sym c.self.view_is),
  omega arith,
  look_moves _ _ _ _ _ _ (step 0 0 0 0 none) v.0 v.1 v.2,
)
