-- Why `keeps_at` in src/explaining.rt keeps its contract and its loop `place`.

use Rattle.std.proofs.Common.{get_or, refl}
use Rattle.ls_serial.proofs.Lists.{is_get}
use Rattle.ls_endless_calls.specs.Waits.{KeepsPair}
use Rattle.ls_endless_calls.proofs.Places.{all_so, no_event, one_so}
use Rattle.ls_endless_calls.proofs.explaining.keeps_at.Goals as goal

pub loop-place-preserved : goal.loop-place-preserved
loop-place-preserved c =
    one_so c.args.events.now (λ k y. KeepsPair c.args.events.now k c.args.history.now c.args.at) c.loop-place.place
    (get_or c.args.events.now c.loop-place.place no_event)
    (is_get c.args.events.now c.loop-place.place no_event c.loop-place-test.true) c.loop-place.invariant
    (c.if-not-keeps_pair.ensures.0 refl)

pub returns : goal.returns
returns c = (
  λ up e j call at_h at_g.
      all_so c.args.events.now (λ k y. KeepsPair c.args.events.now k c.args.history.now c.args.at) c.loop-place.place
      c.loop-place-test.false c.loop-place.invariant j e at_g e at_h at_g,
  λ keeps. refl,
)
