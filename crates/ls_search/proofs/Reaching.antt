-- What comes after an action, with the steps that are taken at once after it.
use Rattle.std.proofs.Common.{◌≡◌, ℕ, suc, ◌+◌, true, false, List, [], ◌∷◌}
use Rattle.std.proofs.Common.{Some, refl, sym, ap, ◌∙◌, subst, arith, replicate}
use Rattle.std.specs.Prelude.{slice_get, slice_index_or, slice_set}
use Rattle.std.specs.List.{fold}
use Rattle.std.proofs.lemmas.Option.{get_or_from_slice_get}
use Rattle.ls_events.specs.declared.value.Value.{Value}
use Rattle.ls_events.specs.declared.action.Action.{Action}
use Rattle.ls_events.specs.declared.action.Action.TheVariants.{Turn, Enter, ReadField}
use Rattle.ls_events.specs.declared.action.Answer.{Answer}
use Rattle.ls_events.specs.declared.event.Event.{Event}
use Rattle.ls_checked.specs.CheckedTree.{File}
use Rattle.ls_checked.specs.CheckedProgram.{Program}
use Rattle.ls_meaning.specs.declared.step.Did.{Did}
use Rattle.ls_meaning.specs.declared.step.Did.TheVariants as did
use Rattle.ls_meaning.specs.Runs.{event_of}
use Rattle.ls_meaning.specs.Still.{IsActing}
use Rattle.ls_search_laws.specs.Stepping.{events_in, events_of}
use Rattle.ls_search_laws.specs.Configuration.{Configuration, Stride, stride}
use Rattle.ls_search_laws.specs.Noticing.{Noticed, noticed_after}
use Rattle.ls_search_laws.specs.Search.{IsPrompt, LeadsTo}
use Rattle.ls_transitions.specs.declared.moves.Step.{Step}
use Rattle.ls_transitions.specs.Tables.{Table}
use Rattle.ls_search.specs.declared.places.Node.{Node}
use Rattle.ls_search.specs.declared.places.NumberedState.{NumberedState}
use Rattle.ls_search.specs.Found.{HasPlace}
use Rattle.ls_search.specs.Places.{configuration_at, configuration_of}
use Rattle.ls_search.specs.Strides.{ActsBy, at_once}
use Rattle.ls_search.specs.Searched.{ActsIn, IsAfter, IsLike, IsOther, Reaches, noticed_at, pairs_at}
use Rattle.ls_search.proofs.Pairs.{place_there}

module _ {S : Type 0} (first : S) (next : S → Event → S) (file : File) (program : Program) where
  not_both : false ≡ true → ⊥
  not_both e = cc

  -- a step that is taken at once has no event
  no_event : (u : ℕ) (action : Action Value) (answer : Answer Value) → at_once u action answer ≡ true →
      events_of u (did.Acted action answer) ≡ []
  no_event u Turn answer e = refl
  no_event u (Enter m) answer e = refl
  no_event u (ReadField o f) answer e = refl
  no_event u _ answer e = absurd (not_both e)

  prompt_after : (p : Noticed S) (u : ℕ) → IsPrompt at_once file p.configuration u →
      noticed_after first next file program p u ≡
      record { configuration = (stride file p.configuration u).after; noted = p.noted }
  prompt_after p u h =
      ap (λ (d : Did). record {
        configuration = (stride file p.configuration u).after;
        noted = fold next p.noted (events_of u d);
      }) h.did
      ∙ ap (λ (es : List Event). record {
        configuration = (stride file p.configuration u).after;
        noted = fold next p.noted es;
      }) (no_event u h.action h.answer h.chosen)

  -- such steps, one after another, change nothing that is noted
  folded : (p : Noticed S) (ts : List ℕ) (last : Configuration) → LeadsTo at_once file p.configuration ts last →
      fold (noticed_after first next file program) p ts ≡ record { configuration = last; noted = p.noted }
  folded p [] last e = ap (λ (c : Configuration). record { configuration = c; noted = p.noted }) e
  folded p (u ∷ us) last h =
      ap (λ (q : Noticed S). fold (noticed_after first next file program) q us) (prompt_after p u h.0)
      ∙ folded (record { configuration = (stride file p.configuration u).after; noted = p.noted }) us last h.1

  pub reaches_fold : (p q : Noticed S) (u k : ℕ) →
      Reaches file (noticed_after first next file program p u) q u k →
      IsLike q (fold (noticed_after first next file program) p (replicate (k + 1) u))
  reaches_fold p q u k h =
      let after : Noticed S = noticed_after first next file program p u in
      let one_more : k + 1 ≡ suc k = omega arith in
      let is : fold (noticed_after first next file program) p (replicate (k + 1) u) ≡
      record { configuration = h.last; noted = (noticed_after first next file program p u).noted } =
      ap (λ n. fold (noticed_after first next file program) p (replicate n u)) one_more
      ∙ folded after (replicate k u) h.last h.leads in
      subst (IsLike q) (sym is) (record { other = h.other; noted = sym h.noted_still })

  pub acting_is : (d : Did) (action : Action Value) (answer : Answer Value) → d ≡ did.Acted action answer → IsActing d
  acting_is d action answer e = subst IsActing (sym e) tt

  -- ---- after an action

  module _ (t0 t1 : Table) (states0 states1 : List S) (p : NumberedState) (u : ℕ) (step : Step)
      (acts : ActsBy t0 p.works.items u step (stride t0.file (configuration_of t0 p) u)) where
    pub acted : Noticed S
    acted = noticed_after first next t0.file program (noticed_at first t0 states0 p) u

    pub reaches_after : (store : ℕ) (works : List ℕ) (q : NumberedState) (n k : ℕ) (last : Configuration) →
        store ≡ step.store →
        works ≡ slice_set p.works.items u step.work →
        slice_get states1 n ≡ Some (fold next (slice_index_or states0 p.noted first) (events_in (event_of u
        step.action))) →
        q.noted ≡ n →
        LeadsTo at_once t0.file (configuration_at t0 store works) (replicate k u) last →
        IsOther (configuration_of t1 q) last →
        Reaches t0.file (noticed_after first next t0.file program (noticed_at first t0 states0 p) u)
        (noticed_at first t1 states1 q) u k
    reaches_after store works q n k last store_is works_is told noted_is leads other =
        let c : Configuration = configuration_of t0 p in
        let s : Stride = stride t0.file c u in
        let same : configuration_at t0 store works ≡ s.after =
        (λ i. configuration_at t0 (store_is i) (works_is i)) ∙ sym (ap (λ (z : Stride). z.after) acts.is) in
        let events : events_of u s.did ≡ events_in (event_of u step.action) =
        ap (λ (z : Stride). events_of u z.did) acts.is in
        record {
          last = last;
          other = other;
          leads = subst (λ (k' : Configuration). LeadsTo at_once t0.file k' (replicate k u) last)
              same
              leads;
          noted_still =
              ap (λ m. slice_index_or states1 m first) noted_is
              ∙ get_or_from_slice_get states1 n
              (fold next (slice_index_or states0 p.noted first) (events_in (event_of u step.action))) first told
              ∙ ap (fold next (slice_index_or states0 p.noted first)) (sym events);
        }

  -- ---- what a thread does at one of the states that were found

  module _ (t : Table) (states : List S) (nodes : List Node) (p : Noticed S) (u : ℕ) (q : NumberedState) (k : ℕ)
      (reaches : Reaches file (noticed_after first next file program p u) (noticed_at first t states q) u k) where
    pub acts_in : IsActing (stride file p.configuration u).did → HasPlace nodes q →
        ActsIn first next file program (pairs_at first t states nodes) p u
    acts_in acts there =
        let at = place_there first t states nodes q there in
        record {
          acts = acts;
          leads = record {
            place = at.0;
            pair = noticed_at first t states q;
            here = at.1;
            thread = u;
            steps = k;
            reaches = reaches;
          };
        }

    pub is_after : (pairs : List (Noticed S)) (node : Node) →
        slice_get pairs node.before ≡ Some p →
        node.place ≡ q →
        node.thread ≡ u →
        node.steps ≡ k + 1 →
        IsAfter first next file program pairs node (noticed_at first t states q)
    is_after pairs node there place_is thread_is steps_is = record {
      earlier = p;
      there = there;
      is = subst (IsLike (noticed_at first t states q))
          (sym (λ i. fold (noticed_after first next file program) p (replicate (steps_is i) (thread_is i))))
          (reaches_fold p (noticed_at first t states q) u k reaches);
    }
