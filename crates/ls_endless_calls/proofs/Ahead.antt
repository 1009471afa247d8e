-- Steps of threads, up to an event or to rest.
use Rattle.std.proofs.Common.{◌≡◌, ◌⊎◌, inl, inr, ℕ, ◌+◌, ◌<◌, ◌≤◌, Bool, true, List, [], ◌∷◌, length, Some}
use Rattle.std.proofs.Common.{sym, ap, ◌∙◌, subst, arith}
use Rattle.std.specs.Prelude.{slice_get, slice_set, if◌then◌else◌}
use Rattle.std.proofs.lemmas.Bool.{cases_lt}
use Rattle.std.proofs.lemmas.List.{length-set}
use Rattle.ls_checked.specs.CheckedTree.{File}
use Rattle.ls_events.specs.declared.event.Event.{Event}
use Rattle.ls_meaning.specs.Runs.{event_of, has_ended}
use Rattle.ls_meaning.specs.Still.{IsStill}
use Rattle.ls_search_laws.specs.Configuration.{Configuration, Stride, stride}
use Rattle.ls_search_laws.specs.Stepping.{events_in, events_of}
use Rattle.ls_transitions.specs.declared.moves.Move.{Move}
use Rattle.ls_transitions.specs.declared.moves.Step.{Step}
use Rattle.ls_transitions.specs.Tables.{Grows, Table}
use Rattle.ls_transitions.proofs.Growing.{grows_not, grows_on}
use Rattle.ls_search.specs.declared.places.NumberedState.{NumberedState}
use Rattle.ls_search.specs.Places.{AreThere, IsThere, configuration_at, configuration_of}
use Rattle.ls_search.specs.Strides.{ActsBy, HasStarted, IsStrideBy}
use Rattle.ls_search.proofs.Settling.{not_same, started_after, there_after}
use Rattle.ls_search.proofs.Strides.{stays, there_still}
use Rattle.ls_spinning.specs.Moves.{IsStillMove}
use Rattle.ls_spinning.proofs.Seeing.{still_by}
use Rattle.ls_endless_calls.specs.Breaking.{Breaks, CanBreak, IsAhead}

-- the setup has ended
abbrev pub HasEnded : Configuration → Type 0
HasEnded c = true ≡ has_ended (c.continues 0 [])

-- a thread but the setup has started exactly where the setup has ended
setup_ended : (c : Configuration) (u : ℕ) → 1 ≤ u → HasStarted c u → HasEnded c
setup_ended c u some started =
    let isnt = not_same u 0 (λ e. omega (arith, some, e)) in
    sym (sym (ap (λ (b : Bool). if b then true else has_ended (c.continues 0 [])) isnt) ∙ started)

has_started : (c : Configuration) (u : ℕ) → 1 ≤ u → HasEnded c → HasStarted c u
has_started c u some ended =
    let isnt = not_same u 0 (λ e. omega (arith, some, e)) in
    ap (λ (b : Bool). if b then true else has_ended (c.continues 0 [])) isnt ∙ sym ended

nothing : {e : Event} → e ∷ [] ≡ [] → ⊥
nothing h = cc

-- ---- one step of a thread

module _ (file : File) (threads : ℕ) (c : Configuration) (u : ℕ) (t : Table) (works : List ℕ) (step : Step)
    (acts : ActsBy t works u step (stride file c u)) where
  -- it has an event
  breaks_now : (e : Event) → event_of u step.action ≡ Some e → CanBreak file threads c
  breaks_now e is = (
    u ∷ [],
    inl (λ none. nothing
        (sym (ap (λ (k : Stride). events_of u k.did) acts.is ∙ ap events_in is) ∙ none)),
  )

  -- or more steps come there
  breaks_on : CanBreak file threads (configuration_at t step.store (slice_set works u step.work)) →
      CanBreak file threads c
  breaks_on h = (u ∷ h.0, inr (subst (Breaks file threads h.0) (sym (ap (λ (k : Stride). k.after) acts.is)) h.1))

-- ---- states that are ahead

-- where steps begin
pub at_start : (threads : ℕ) (old : Table) (place here : NumberedState) → IsThere old place → here.store ≡ place.store →
    here.works.items ≡ place.works.items → HasEnded (configuration_of old place) →
    IsAhead threads old place old here
at_start threads old place here there store works ended =
    let same : configuration_of old here ≡ configuration_of old place = λ i. configuration_at old (store i) (works i) in
    record {
      there = record {
        store_there = subst (λ k. k < length old.stores) (sym store) there.store_there;
        works_there = λ v w e. there.works_there v w (ap (λ l. slice_get l v) (sym works) ∙ e);
      };
      width = ap length works;
      ended = subst HasEnded (sym same) ended;
      grows = grows_not old;
      back = subst (CanBreak old.file threads) same;
    }

-- numbers are added
pub later : (threads : ℕ) (old mid new : Table) (start p : NumberedState) → IsAhead threads old start mid
    p → Grows mid new →
    IsAhead threads old start new p
later threads old mid new start p h grows =
    let same = stays mid new p.store p.works.items grows h.there in
    record {
      there = there_still mid new p.store p.works.items grows h.there;
      width = h.width;
      ended = subst HasEnded (sym same) h.ended;
      grows = grows_on old mid new h.grows grows;
      back = λ breaks. h.back (subst (CanBreak old.file threads) same breaks);
    }

-- one after another
pub further : (threads : ℕ) (old mid new : Table) (start p q : NumberedState) → IsAhead threads old start mid p →
    IsAhead threads mid p new q → IsAhead threads old start new q
further threads old mid new start p q h g = record {
  there = g.there;
  width = g.width ∙ h.width;
  ended = g.ended;
  grows = grows_on old mid new h.grows g.grows;
  back = λ breaks. h.back (subst (λ (f : File). CanBreak f threads (configuration_of mid p)) h.grows.file
      (g.back (subst (λ (f : File). CanBreak f threads (configuration_of new q)) (sym h.grows.file) breaks)));
}

-- where steps come there from a state that is ahead, they come there from the other
pub breaks_ahead : (threads : ℕ) (old mid : Table) (start p : NumberedState) → IsAhead threads old start mid p →
    CanBreak mid.file threads (configuration_of mid p) →
    CanBreak old.file threads (configuration_of old start)
breaks_ahead threads old mid start p h breaks =
    h.back (subst (λ (f : File). CanBreak f threads (configuration_of mid p)) h.grows.file breaks)

-- a state at rest
pub rests_ahead : (threads : ℕ) (old mid : Table) (start p : NumberedState) → IsAhead threads old start mid p →
    ((t : ℕ) → t < threads → IsStill (stride mid.file (configuration_of mid p) t).did) →
    CanBreak old.file threads (configuration_of old start)
rests_ahead threads old mid start p h still = breaks_ahead threads old mid start p h ([], still)

module _ (threads : ℕ) (old : Table) (start : NumberedState) (u : ℕ) (some : 1 ≤ u)
    (inside : u < length start.works.items)
    (mid new : Table) (p : NumberedState) (h : IsAhead threads old start mid p) (grows : Grows mid new) (step : Step)
    (acts : ActsBy new p.works.items u step (stride mid.file (configuration_of mid p) u)) where
  within : u < length p.works.items
  within = omega (arith, inside, h.width)

  acts_old : ActsBy new p.works.items u step (stride old.file (configuration_of mid p) u)
  acts_old = subst (λ (f : File). ActsBy new p.works.items u step (stride f (configuration_of mid p) u)) h.grows.file
      acts

  pub breaks_here : (e : Event) → event_of u step.action ≡ Some e →
      CanBreak old.file threads (configuration_of old start)
  breaks_here e is =
      h.back (breaks_now old.file threads (configuration_of mid p) u new p.works.items step acts_old e is)

  pub goes_ahead : (q : NumberedState) → q.store ≡ step.store → q.works.items ≡ slice_set p.works.items u step.work →
      IsAhead threads old start new q
  goes_ahead q store works =
      let there : AreThere new step.store (slice_set p.works.items u step.work) =
      there_after mid new p.store p.works.items u step (stride mid.file (configuration_of mid p) u) h.there grows acts
      within in
      let same : configuration_of new q ≡ configuration_at new step.store (slice_set p.works.items u step.work) =
      λ i. configuration_at new (store i) (works i) in
      record {
        there = record {
          store_there = subst (λ k. k < length new.stores) (sym store) there.store_there;
          works_there = λ v w e. there.works_there v w (ap (λ l. slice_get l v) (sym works) ∙ e);
        };
        width = ap length works ∙ length-set p.works.items u step.work ∙ h.width;
        ended = subst HasEnded (sym same)
            (setup_ended (configuration_at new step.store (slice_set p.works.items u step.work)) u some
            (started_after mid new p.store p.works.items u step (stride mid.file (configuration_of mid p) u) h.there
            grows acts within (λ e. omega (arith, some, e)) (has_started (configuration_of mid p) u some h.ended)));
        grows = grows_on old mid new h.grows grows;
        back = λ breaks. h.back
            (breaks_on old.file threads (configuration_of mid p) u new p.works.items step acts_old
            (subst (CanBreak old.file threads) same breaks));
      }

-- ---- numbers that stay

pub break_before : (threads : ℕ) (old new : Table) (p : NumberedState) → Grows old new → IsThere old p →
    CanBreak new.file threads (configuration_of new p) →
    CanBreak old.file threads (configuration_of old p)
break_before threads old new p grows there breaks =
    subst (λ (f : File). CanBreak f threads (configuration_of old p)) grows.file
    (subst (CanBreak new.file threads) (stays old new p.store p.works.items grows there) breaks)

-- one thread more doesn't act
pub still_more : (old mid new : Table) (p : NumberedState) (u : ℕ) → Grows old mid → IsThere old p →
    ((t : ℕ) → t < u → IsStill (stride old.file (configuration_of old p) t).did) →
    (m : Move) → IsStillMove m →
    IsStrideBy new (configuration_of mid p) p.works.items u m (stride mid.file (configuration_of mid p) u) →
    (t : ℕ) → t < u + 1 → IsStill (stride old.file (configuration_of old p) t).did
still_more old mid new p u grows there before m still is t less = by_place (cases_lt t u)
  where
    here : IsStill (stride old.file (configuration_of old p) u).did
    here = subst (λ (c : Configuration). IsStill (stride old.file c u).did)
        (stays old mid p.store p.works.items grows there)
        (subst (λ (f : File). IsStill (stride f (configuration_of mid p) u).did) grows.file
        (still_by new (configuration_of mid p) p.works.items u m (stride mid.file (configuration_of mid p) u) still is))

    by_place : (t < u) ⊎ (u ≤ t) → IsStill (stride old.file (configuration_of old p) t).did
    by_place (inl lt) = before t lt
    by_place (inr past) =
        let same : u ≡ t = omega (arith, past, less) in
        subst (λ n. IsStill (stride old.file (configuration_of old p) n).did) same here
