-- Why `Store::act_on` in src/store.rt keeps its clauses `effect`, `err` and `waits`.

use Rattle.std.proofs.Common.{arith, ◌<◌, ◌≤◌, ◌-◌, length, ap, ◌∙◌}
use Rattle.std.proofs.Math.Seq.{map-set_same}
use Rattle.ls_source_store.specs.SeenThing.{thing_of}
use Rattle.ls_source_store.specs.SeenStore.{store_of, plain_effect}
use Rattle.ls_source_store.proofs.Stores.{acted_within, acted_past, on_err}
use Rattle.ls_source_store.proofs.store.Store.act_on.Goals as goal

pub returns-in_ok-effect-clause-effect : goal.returns-in_ok-effect-clause-effect
returns-in_ok-effect-clause-effect c =
    let within : c.args.o - 1 < length c.args.self.now.things.items = omega (arith, c.args.self.now.things.ok.0) in
    acted_within c.args.self.now c.args.o c.args.thread c.args.action.now c.index_mut.result.now c.change.new.thing
    c.in_ok-effect.effect c.if-o-eq0.false within c.index_mut.ensures.value c.in_ok-effect.ensures.change

pub returns-else-place-len-clause-effect : goal.returns-else-place-len-clause-effect
returns-else-place-len-clause-effect c =
    let past : length c.args.self.now.things.items ≤ c.args.o - 1 = omega (arith, c.args.self.now.things.ok.0) in
    ap (plain_effect (store_of c.args.self.now)) c.done-else-place-len.ensures ∙
    acted_past c.args.self.now c.args.o c.args.thread c.args.action.now c.if-o-eq0.false past

pub returns-in_err-effect-clause-err : goal.returns-in_err-effect-clause-err
returns-in_err-effect-clause-err c = on_err c.from_residual.result (
    ap (λ things. record { things = things; names = c.args.self.now.names.items })
    (map-set_same thing_of c.args.self.now.things.items (c.args.o - 1) c.change.new.thing c.index_mut.result.now
    (c.in_err-effect.ensures.err ∙ ap thing_of c.index_mut.ensures.value)))

pub returns-in_ok-effect-clause-waits : goal.returns-in_ok-effect-clause-waits
returns-in_ok-effect-clause-waits c waits =
    ap (λ things. record { things = things; names = c.args.self.now.names.items })
    (map-set_same thing_of c.args.self.now.things.items (c.args.o - 1) c.change.new.thing c.index_mut.result.now
    (c.in_ok-effect.ensures.waits waits ∙ ap thing_of c.index_mut.ensures.value))
