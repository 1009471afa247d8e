-- Why `exchanged_place` in src/exchanges.rt keeps its contract and its loop `place`.

use Rattle.std.proofs.Common.{arith, map}
use Rattle.std.proofs.lemmas.List.{length-map}
use Rattle.ls_checked.specs.PlainProgram.{plain_thread}
use Rattle.ls_exchanged.specs.Doubles.{HaveExchangedAt}
use Rattle.ls_exchanged.proofs.Below.{none_next}
use Rattle.ls_exchanged.proofs.exchanges.exchanged_place.Goals as goal

pub loop-place-preserved : goal.loop-place-preserved
loop-place-preserved c =
    none_next (HaveExchangedAt (map plain_thread c.args.first.now) (map plain_thread c.args.second.now))
    c.loop-place.place c.loop-place.invariant c.have_exchanged_at.result c.have_exchanged_at.ensures
    c.if-have_exchanged_at.false

pub returns-clause-none : goal.returns-clause-none
returns-clause-none c = λ u is.
    c.loop-place.invariant u
    (let within = is.within in
    omega (arith, within, c.loop-place-test.false, length-map c.args.first.now plain_thread)) is
