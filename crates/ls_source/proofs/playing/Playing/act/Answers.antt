-- Why `Playing::act` in src/playing.rt keeps its clauses `refused`, `did` and `run`.

use Rattle.std.proofs.Common.{refl, sym, ap, ◌∙◌}
use Rattle.std.specs.Prelude.{map}
use Rattle.std.proofs.lemmas.List.{length-set}
use Rattle.ls_checked.specs.Plain.{plain_class}
use Rattle.ls_meaning.specs.Effect.{effect}
use Rattle.ls_source_store.specs.SeenStore.{store_of}
use Rattle.ls_source_store.proofs.Stores.{on_err}
use Rattle.ls_source.specs.SeenRun.{did_by}
use Rattle.ls_source.proofs.Standing.{did_there, has_waited, has_taken, has_stayed}
use Rattle.ls_source.proofs.playing.Playing.act.Goals as goal

pub invariant_of-self-in-Does : goal.invariant_of-self-in-Does
invariant_of-self-in-Does c = record {
  works = length-set c.args.self.now.threads.items c.args.thread c.take.new.self ∙ c.args.self.now.works;
}

pub returns-in_err-perform-clause-refused : goal.returns-in_err-perform-clause-refused
returns-in_err-perform-clause-refused c = on_err c.from_residual.result (
    has_stayed c.args.self.now c.perform.new.self _ c.in_err-perform.ensures.err c.in_err-perform.ensures.err_events)

pub returns-in-Waits-clause-did : goal.returns-in-Waits-clause-did
returns-in-Waits-clause-did c p s =
    let r = c.args.self.now in
    let action = c.args.action.now in
    ap (did_by action) (sym c.in-Waits.is)
    ∙ did_there r c.args.thread action c.in_ok-perform.field-0 (store_of c.perform.new.self.store)
    (c.in_ok-perform.ensures.effect ∙ ap (λ l. effect (map plain_class l) (store_of r.store_and_events.store)
    c.args.thread action)
    c.deref.ensures.value) p s

pub returns-in-Waits-clause-run : goal.returns-in-Waits-clause-run
returns-in-Waits-clause-run c =
    let r = c.args.self.now in
    let action = c.args.action.now in
    has_waited r c.args.thread action c.perform.new.self _ c.in_ok-perform.field-0 c.in-Waits.is
    (c.in_ok-perform.ensures.effect ∙ ap (λ l. effect (map plain_class l) (store_of r.store_and_events.store)
    c.args.thread action)
    c.deref.ensures.value) c.in_ok-perform.ensures.waits c.in_ok-perform.ensures.events

pub returns-in-Does-clause-did : goal.returns-in-Does-clause-did
returns-in-Does-clause-did c p s =
    let r = c.args.self.now in
    let action = c.args.action.now in
    ap (did_by action) (sym c.in-Does.is)
    ∙ did_there r c.args.thread action c.in_ok-perform.field-0 (store_of c.perform.new.self.store)
    (c.in_ok-perform.ensures.effect ∙ ap (λ l. effect (map plain_class l) (store_of r.store_and_events.store)
    c.args.thread action)
    c.deref.ensures.value) p s

pub returns-in-Does-clause-run : goal.returns-in-Does-clause-run
returns-in-Does-clause-run c =
    let r = c.args.self.now in
    let action = c.args.action.now in
    has_taken r c.args.thread action c.perform.new.self _ _ c.in_ok-perform.field-0 c.in-Does.answer
    c.index_mut.result.now c.take.new.self c.in-Does.is
    (c.in_ok-perform.ensures.effect ∙ ap (λ l. effect (map plain_class l) (store_of r.store_and_events.store)
    c.args.thread action)
    c.deref.ensures.value) c.in_ok-perform.ensures.waits c.in_ok-perform.ensures.events c.requires.within
    c.requires.asks
    c.index_mut.ensures.value c.take.ensures refl
