-- Why `go_on` in src/searching.rt keeps its clauses `reaches`, `node` and `grows`, and may settle and renumber.

use Rattle.std.proofs.Common.{◌≡◌, ◌<◌, ℕ, List, Some, length, map, sym, ap, ◌∙◌, subst}
use Rattle.std.specs.Prelude.{slice_get, slice_index_or, slice_set}
use Rattle.std.specs.List.{fold}
use Rattle.std.proofs.lemmas.List.{length-set}
use Rattle.ls_meaning.specs.Constants.{FileHasConstants}
use Rattle.ls_meaning.specs.Runs.{event_of}
use Rattle.ls_search_laws.specs.Configuration.{Configuration, stride}
use Rattle.ls_search_laws.specs.Stepping.{events_in}
use Rattle.ls_transitions.specs.Tables.{Table}
use Rattle.ls_transitions.specs.Seen.{table_of}
use Rattle.ls_transitions.specs.declared.moves.Step.{Step}
use Rattle.ls_transitions.proofs.Growing.{grows_not, grows_on}
use Rattle.ls_transitions.proofs.Keeping.{below}
use Rattle.ls_search.specs.declared.places.NumberedState.{NumberedState}
use Rattle.ls_search.specs.Places.{AreThere, configuration_at, configuration_of}
use Rattle.ls_search.specs.Strides.{HasStarted}
use Rattle.ls_search.proofs.Reaching.{reaches_after}
use Rattle.ls_search.proofs.Settling.{started_still, there_after}
use Rattle.ls_search.proofs.searching.go_on.Goals as goal

pub settle-requires-clause-there : goal.settle-requires-clause-there
settle-requires-clause-there g c =
    let t : Table = table_of c.args.transitions.now in
    let p : NumberedState = c.args.place.now in
    let u : ℕ = c.args.thread in
    let step : Step = c.args.step.now in
    let there : AreThere t step.store (slice_set p.works.items u step.work) =
    there_after t t p.store p.works.items u step (stride t.file (configuration_of t p) u) c.requires.there (grows_not t)
    c.requires.acts c.requires.within in
    let works : c.take.new.place.works.items ≡ slice_set p.works.items u step.work =
    c.take.ensures.works ∙ ap (λ l. slice_set l u step.work) c.in_ok-place.ensures.works in
    record {
      store_there = subst (λ k. k < length t.stores) (sym c.take.ensures.store) there.store_there;
      works_there = λ v w e. there.works_there v w (ap (λ l. slice_get l v) (sym works) ∙ e);
    }

pub settle-requires-clause-started : goal.settle-requires-clause-started
settle-requires-clause-started g c =
    let t : Table = table_of c.args.transitions.now in
    let p : NumberedState = c.args.place.now in
    let u : ℕ = c.args.thread in
    let step : Step = c.args.step.now in
    let works : c.take.new.place.works.items ≡ slice_set p.works.items u step.work =
    c.take.ensures.works ∙ ap (λ l. slice_set l u step.work) c.in_ok-place.ensures.works in
    let after : Configuration = configuration_at t step.store (slice_set p.works.items u step.work) in
    let same : configuration_of t c.take.new.place ≡ after =
    λ i. configuration_at t (c.take.ensures.store i) (works i) in
    subst (λ (k : Configuration). HasStarted k u) (sym same) (started_still t t p.store p.works.items u step
    (stride t.file (configuration_of t p) u) c.requires.there (grows_not t) c.requires.acts c.requires.within
    c.requires.started)

pub renumber-requires-clause-constants : goal.renumber-requires-clause-constants
renumber-requires-clause-constants g c = subst FileHasConstants (sym c.settle.ensures.grows.file) c.requires.constants

pub returns-clause-reaches : goal.returns-clause-reaches
returns-clause-reaches g c =
    let first = g.O.Observer.first c.args.ground.now.observer.now in
    let next = g.O.Observer.next c.args.ground.now.observer.now in
    let stands = g.O.Observer.stands c.args.ground.now.observer.now in
    let t : Table = table_of c.args.transitions.now in
    let p : NumberedState = c.args.place.now in
    let u : ℕ = c.args.thread in
    let step : Step = c.args.step.now in
    let states0 : List g.O.Observer.State = map stands c.args.pool.now.values.items in
    let states1 : List g.O.Observer.State = map stands c.note.new.pool.values.items in
    let works : c.take.new.place.works.items ≡ slice_set p.works.items u step.work =
    c.take.ensures.works ∙ ap (λ l. slice_set l u step.work) c.in_ok-place.ensures.works in
    let told = subst (λ (m : ℕ). slice_get states1 c.in_ok-place-2.field-0 ≡ Some
    (fold next (slice_index_or states0 m first) (events_in (event_of u step.action))))
    (c.take.ensures.noted ∙ c.in_ok-place.ensures.noted) c.in_ok-place-2.ensures.number in
    reaches_after first next t.file t.program t (table_of c.renumber.new.transitions) states0 states1 p u step
    c.requires.acts c.take.new.place.store c.take.new.place.works.items c.in_ok-place-3.place
    c.in_ok-place-2.field-0 c.in_ok-steps.steps
    (configuration_of (table_of c.settle.new.transitions) c.settle.new.place) c.take.ensures.store works told
    (c.in_ok-place-3.ensures.noted ∙ c.settle.ensures.noted) c.in_ok-steps.ensures.leads c.in_ok-place-3.ensures.other

pub returns-clause-node : goal.returns-clause-node
returns-clause-node g c =
    let states : List g.O.Observer.State =
    map (g.O.Observer.stands c.args.ground.now.observer.now) c.note.new.pool.values.items in
    let within : c.in_ok-place-2.field-0 < length states =
    below states c.in_ok-place-2.field-0 _ c.in_ok-place-2.ensures.number in
    record {
      numbers = c.in_ok-place-3.ensures.there;
      noted_there = subst (λ (k : ℕ). k < length states)
          (sym (c.in_ok-place-3.ensures.noted ∙ c.settle.ensures.noted)) within;
      width = c.in_ok-place-3.ensures.width
          ∙ c.settle.ensures.width
          ∙ ap length c.take.ensures.works
          ∙ length-set c.in_ok-place.place.works.items c.args.thread c.args.step.now.work
          ∙ ap length c.in_ok-place.ensures.works;
    }

pub returns-clause-grows : goal.returns-clause-grows
returns-clause-grows g c =
    grows_on (table_of c.args.transitions.now) (table_of c.settle.new.transitions)
    (table_of c.renumber.new.transitions) c.settle.ensures.grows c.renumber.ensures.grows
