-- Why `settle` in src/advancing.rt keeps its clauses `leads` and `there` and its loop `count`.

use Rattle.std.proofs.Common.{◌≡◌, ◌<◌, ◌+◌, length, refl, sym, ap, ◌∙◌, subst, arith, replicate}
use Rattle.std.specs.Prelude.{slice_get, slice_set}
use Rattle.std.proofs.lemmas.List.{length-set}
use Rattle.ls_search_laws.specs.Configuration.{Configuration, Stride, stride}
use Rattle.ls_search_laws.specs.Search.{LeadsTo}
use Rattle.ls_transitions.specs.declared.moves.Step.{Step}
use Rattle.ls_transitions.specs.declared.moves.Move.{Move}
use Rattle.ls_transitions.specs.Tables.{Table}
use Rattle.ls_transitions.specs.Seen.{table_of}
use Rattle.ls_transitions.proofs.Growing.{grows_not, grows_on}
use Rattle.ls_search.specs.declared.places.NumberedState.{NumberedState}
use Rattle.ls_search.specs.Places.{AreThere, configuration_at, configuration_of}
use Rattle.ls_search.specs.Strides.{ActsBy, HasStarted, IsStrideBy, at_once}
use Rattle.ls_search.proofs.Strides.{stays, there_still}
use Rattle.ls_search.proofs.Settling.{leads_after, started_after, there_after}
use Rattle.ls_search.proofs.advancing.settle.Goals as goal

pub loop-count-init : goal.loop-count-init
loop-count-init c = record {
  there = c.requires.there;
  width = refl;
  started = c.requires.started;
  grows = grows_not (table_of c.args.transitions.now);
  leads = refl;
  noted = refl;
}

pub returns-in_default-clause-leads : goal.returns-in_default-clause-leads
returns-in_default-clause-leads c =
    let old : Table = table_of c.args.transitions.now in
    let mid : Table = table_of c.loop-count.transitions in
    let new : Table = table_of c.move_of.new.transitions in
    let p : NumberedState = c.loop-count.place in
    subst (λ (k : Configuration). LeadsTo at_once old.file (configuration_of old c.args.place.now)
    (replicate c.loop-count.count c.args.thread) k)
    (sym (stays mid new p.store p.works.items c.move_of.ensures.grows c.loop-count.invariant.there))
    c.loop-count.invariant.leads

pub returns-in_default-clause-there : goal.returns-in_default-clause-there
returns-in_default-clause-there c =
    there_still (table_of c.loop-count.transitions) (table_of c.move_of.new.transitions) c.loop-count.place.store
    c.loop-count.place.works.items c.move_of.ensures.grows c.loop-count.invariant.there

pub loop-count-preserved : goal.loop-count-preserved
loop-count-preserved c =
    let old : Table = table_of c.args.transitions.now in
    let mid : Table = table_of c.loop-count.transitions in
    let new : Table = table_of c.move_of.new.transitions in
    let p : NumberedState = c.loop-count.place in
    let q : NumberedState = c.take.new.place in
    let u = c.args.thread in
    let step : Step = c.in-Some.step in
    let s : Stride = stride mid.file (configuration_of mid p) u in
    let within : u < length p.works.items = omega (arith, c.requires.within, c.loop-count.invariant.width) in
    let acts : ActsBy new p.works.items u step s =
    subst (λ (m : Move). IsStrideBy new (configuration_of mid p) p.works.items u m s) c.in-Some.ensures.0
    c.in_ok-made.ensures.stride in
    let there : AreThere new step.store (slice_set p.works.items u step.work) =
    there_after mid new p.store p.works.items u step s c.loop-count.invariant.there c.move_of.ensures.grows acts
    within in
    let same : configuration_of new q ≡ configuration_at new step.store (slice_set p.works.items u step.work) =
    λ i. configuration_at new (c.take.ensures.store i) (c.take.ensures.works i) in
    record {
      there = record {
        store_there = subst (λ k. k < length new.stores) (sym c.take.ensures.store) there.store_there;
        works_there = λ v w e. there.works_there v w (ap (λ l. slice_get l v) (sym c.take.ensures.works) ∙ e);
      };
      width = ap length c.take.ensures.works ∙ length-set p.works.items u step.work ∙ c.loop-count.invariant.width;
      started = subst (λ (k : Configuration). HasStarted k u) (sym same)
          (started_after mid new p.store p.works.items u step s c.loop-count.invariant.there c.move_of.ensures.grows
          acts
          within c.if-thread-eq0.false c.loop-count.invariant.started);
      grows = grows_on old mid new c.loop-count.invariant.grows c.move_of.ensures.grows;
      leads = subst (λ (k : Configuration). LeadsTo at_once old.file (configuration_of old c.args.place.now)
          (replicate (c.loop-count.count + 1) u) k) (sym same)
          (leads_after mid new p.store p.works.items u step s c.loop-count.invariant.there c.move_of.ensures.grows acts
          within old.file (configuration_of old c.args.place.now) c.loop-count.count c.loop-count.invariant.grows.file
          refl c.if-thread-eq0.false c.in-Some.ensures.1 c.loop-count.invariant.leads);
      noted = c.take.ensures.noted ∙ c.loop-count.invariant.noted;
    }
