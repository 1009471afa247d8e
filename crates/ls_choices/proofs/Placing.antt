-- States by numbers while tables grow.
use Rattle.std.proofs.Common.{◌≡◌, ℕ, ◌<◌, zero, suc, List, [], ◌∷◌, ◌++◌, length, map, Some, refl, sym, ap, ◌∙◌, subst}
use Rattle.std.specs.Prelude.{option_to_list, slice_get, slice_set}
use Rattle.ls_checked.specs.CheckedTree.{File}
use Rattle.ls_labels.specs.Labels.{label_of}
use Rattle.ls_meaning.specs.declared.step.Did.TheVariants as did
use Rattle.ls_graph.proofs.Lists.{map_there}
use Rattle.ls_search_laws.specs.Configuration.{Configuration, Stride, stride}
use Rattle.ls_search.specs.Places.{AreThere, IsThere, configuration_at, configuration_of}
use Rattle.ls_search.specs.Strides.{ActsBy}
use Rattle.ls_search.proofs.Settling.{there_after}
use Rattle.ls_search.proofs.Strides.{stays, there_still}
use Rattle.ls_trace.specs.Told.{call_noted, calls_after, labels_after}
use Rattle.ls_transitions.specs.Tables.{Grows, Table}
use Rattle.ls_transitions.specs.declared.moves.Step.{Step}
use Rattle.ls_choices.specs.Points.{ArePlaced, IsActing, IsKept, IsPlaced, IsSamePoint, standing_at}
use Rattle.ls_choices.specs.Standing.{Standing, standing_after}
use Rattle.ls_choices.specs.declared.points.Point.{Point}

pub placed_still : (file : File) (t t' : Table) (p : Point) → Grows t t' → IsPlaced file t p → IsPlaced file t' p
placed_still file t t' p grows is = record {
  file_is = grows.file ∙ is.file_is;
  numbers = there_still t t' p.place.store p.place.works.items grows is.numbers;
}

pub standing_still : (file : File) (t t' : Table) (p : Point) → Grows t t' → IsPlaced file t p →
    standing_at t' p ≡ standing_at t p
standing_still file t t' p grows is =
    ap (λ (c : Configuration). record { configuration = c; labels = p.labels.items; calls = p.calls.items })
    (stays t t' p.place.store p.place.works.items grows is.numbers)

pub all_placed_still : (file : File) (t t' : Table) (points : List Point) → Grows t t' → ArePlaced file t points →
    ArePlaced file t' points
all_placed_still file t t' points grows are n p e = placed_still file t t' p grows (are n p e)

-- what the states stand for stays
pub states_still : (file : File) (t t' : Table) (points : List Point) → Grows t t' → ArePlaced file t points →
    map (standing_at t') points ≡ map (standing_at t) points
states_still file t t' [] grows are = refl
states_still file t t' (p ∷ points) grows are =
    λ i. standing_still file t t' p grows (are 0 p refl) i ∷
    states_still file t t' points grows (λ n q e. are (suc n) q e) i

-- the same numbers stand for the same
pub same_standing : (t : Table) (p q : Point) → IsSamePoint p q → standing_at t p ≡ standing_at t q
same_standing t p q is = λ i. record {
  configuration = configuration_at t (is.store i) (is.works i);
  labels = is.labels i;
  calls = is.calls i;
}

-- a state that was kept stands at its place
pub kept_there : (t : Table) (points : List Point) (p : Point) (n : ℕ) → IsKept points p n →
    slice_get (map (standing_at t) points) n ≡ Some (standing_at t p)
kept_there t points p n is =
    map_there (standing_at t) points n is.kept is.here ∙ ap Some (same_standing t is.kept p is.same)

-- ---- the state after a step that acts

-- the same step in a table that has grown
pub acting_still : (t t' : Table) (p : Point) (u : ℕ) (step : Step) → Grows t t' → IsThere t p.place →
    IsActing t.file t' (configuration_of t p.place) p.place.works.items u step →
    IsActing t'.file t' (configuration_of t' p.place) p.place.works.items u step
acting_still t t' p u step grows there acts =
    let same = stays t t' p.place.store p.place.works.items grows there in
    subst (λ (f : File). IsActing f t' (configuration_of t' p.place) p.place.works.items u step) (sym grows.file)
    (subst (λ (k : Configuration). IsActing t.file t' k p.place.works.items u step) (sym same) acts)

module _ (t : Table) (p q : Point) (u : ℕ) (step : Step) (file : File) (file_is : t.file ≡ file)
    (acts : IsActing t.file t (configuration_of t p.place) p.place.works.items u step)
    (store : q.place.store ≡ step.store) (works : q.place.works.items ≡ slice_set p.place.works.items u step.work)
    (labels : q.labels.items ≡ p.labels.items ++ option_to_list (label_of step.action))
    (calls : q.calls.items ≡ call_noted p.calls.items u step.action) where
  -- what its thread did
  pub did_acting : (stride file (configuration_of t p.place) u).did ≡ did.Acted step.action step.answer
  did_acting =
      ap (λ (f : File). (stride f (configuration_of t p.place) u).did) (sym file_is)
      ∙ ap (λ (s : Stride). s.did) acts.acts.is

  pub stands_acting : standing_at t q ≡ standing_after file (standing_at t p) u
  stands_acting =
      let after : configuration_of t q.place ≡ (stride file (configuration_of t p.place) u).after =
      (λ i. configuration_at t (store i) (works i)) ∙ sym (ap (λ (s : Stride). s.after) acts.acts.is)
      ∙ ap (λ (f : File). (stride f (configuration_of t p.place) u).after) file_is in
      let noted : q.labels.items ≡ labels_after p.labels.items (stride file (configuration_of t p.place) u).did =
      labels ∙ sym (ap (labels_after p.labels.items) did_acting) in
      let called : q.calls.items ≡ calls_after p.calls.items u (stride file (configuration_of t p.place) u).did =
      calls ∙ sym (ap (calls_after p.calls.items u) did_acting) in
      λ i. record { configuration = after i; labels = noted i; calls = called i }

  pub placed_acting : IsThere t p.place → IsPlaced file t q
  placed_acting there =
      let after : AreThere t step.store (slice_set p.place.works.items u step.work) =
      there_after t t p.place.store p.place.works.items u step (stride t.file (configuration_of t p.place) u) there
      (record { file = refl; program = refl; stores = λ n x e. e; works = λ n x e. e }) acts.acts acts.within in
      record {
        file_is = file_is;
        numbers = record {
          store_there = subst (λ k. k < length t.stores) (sym store) after.store_there;
          works_there = λ v w e. after.works_there v w (ap (λ l. slice_get l v) (sym works) ∙ e);
        };
      }
