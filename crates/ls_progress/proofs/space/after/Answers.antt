-- Why `after` in src/space.rt keeps its contract, and may renumber.
use Rattle.std.proofs.Common.{◌≡◌, ◌<◌, ℕ, length, sym, ap, ◌∙◌, subst}
use Rattle.std.specs.Prelude.{slice_get, slice_set}
use Rattle.std.proofs.lemmas.List.{length-set}
use Rattle.ls_search_laws.specs.Configuration.{stride}
use Rattle.ls_transitions.specs.Tables.{Table}
use Rattle.ls_transitions.specs.Seen.{table_of}
use Rattle.ls_transitions.specs.declared.moves.Step.{Step}
use Rattle.ls_transitions.proofs.Growing.{grows_not}
use Rattle.ls_search.specs.declared.places.NumberedState.{NumberedState}
use Rattle.ls_search.specs.Objects.{IsOther}
use Rattle.ls_search.specs.Places.{AreThere, configuration_at, configuration_of}
use Rattle.ls_search.proofs.Settling.{there_after}
use Rattle.ls_progress.proofs.space.after.Goals as goal

pub renumber-requires-clause-there : goal.renumber-requires-clause-there
renumber-requires-clause-there c =
    let t : Table = table_of c.args.tables.now.transitions in
    let p : NumberedState = c.args.place.now in
    let u : ℕ = c.args.thread in
    let step : Step = c.args.step.now in
    let there : AreThere t step.store (slice_set p.works.items u step.work) =
    there_after t t p.store p.works.items u step (stride t.file (configuration_of t p) u) c.requires.there
    (grows_not t) c.requires.acts c.requires.within in
    let works : c.take.new.place.works.items ≡ slice_set p.works.items u step.work =
    c.take.ensures.works ∙ ap (λ l. slice_set l u step.work) c.in_ok-place.ensures.works in
    record {
      store_there = subst (λ k. k < length t.stores) (sym c.take.ensures.store) there.store_there;
      works_there = λ v w e. there.works_there v w (ap (λ l. slice_get l v) (sym works) ∙ e);
    }

pub returns-clause-other : goal.returns-clause-other
returns-clause-other c =
    let t : Table = table_of c.args.tables.now.transitions in
    let p : NumberedState = c.args.place.now in
    let u : ℕ = c.args.thread in
    let step : Step = c.args.step.now in
    let works : c.take.new.place.works.items ≡ slice_set p.works.items u step.work =
    c.take.ensures.works ∙ ap (λ l. slice_set l u step.work) c.in_ok-place.ensures.works in
    let same : configuration_of t c.take.new.place ≡ (stride t.file (configuration_of t p) u).after =
    (λ i. configuration_at t (c.take.ensures.store i) (works i)) ∙ sym (ap (λ s. s.after) c.requires.acts.is) in
    subst (IsOther _) same c.in_ok-place-2.ensures.other

pub returns-clause-width : goal.returns-clause-width
returns-clause-width c =
    let p : NumberedState = c.args.place.now in
    let works : c.take.new.place.works.items ≡ slice_set p.works.items c.args.thread c.args.step.now.work =
    c.take.ensures.works ∙ ap (λ l. slice_set l c.args.thread c.args.step.now.work) c.in_ok-place.ensures.works in
    c.in_ok-place-2.ensures.width ∙ ap length works ∙ length-set p.works.items c.args.thread c.args.step.now.work
