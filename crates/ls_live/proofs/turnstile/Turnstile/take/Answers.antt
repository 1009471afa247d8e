-- Why `Turnstile::take` in src/turnstile.rt keeps what `compare_exchange` requires.

use Rattle.std.proofs.Common.{ap, ◌∙◌, sym, refl, arith}
use mathlib.Core.Option.{none}
use Rattle.atomic_table.specs.Table.{step}
use Rattle.ls_live.proofs.Moves.{take_moves}
use Rattle.ls_live.proofs.turnstile.Turnstile.take.Goals as goal

pub compare_exchange-requires : goal.compare_exchange-requires
compare_exchange-requires c = let i = c.self.invariant in let v = c.requires.view in (
  c.requires.id ∙ ap (λ s. s.id) (sym c.self.view_is),
  omega arith,
  take_moves _ _ _ _ _ _ _ _ (step 0 0 c.args.found 0 none) refl v.0 v.1 v.2 v.3 refl,
)
