-- What is seen of a thread at one of the states that were found.
use Rattle.std.proofs.Common.{◌≡◌, ℕ, List, Some, refl, sym, ap, ◌∙◌, subst}
use Rattle.std.specs.Prelude.{slice_get}
use Rattle.ls_events.specs.declared.event.Event.{Event}
use Rattle.ls_checked.specs.CheckedTree.{File}
use Rattle.ls_checked.specs.CheckedProgram.{Program}
use Rattle.ls_meaning.specs.declared.step.Did.TheVariants as did
use Rattle.ls_search_laws.specs.Configuration.{Configuration, Stride, idling, stride}
use Rattle.ls_search_laws.specs.Noticing.{Noticed}
use Rattle.ls_transitions.specs.declared.moves.Step.{Step}
use Rattle.ls_transitions.specs.Tables.{Table, Grows, Keeps}
use Rattle.ls_search.specs.declared.places.Node.{Node}
use Rattle.ls_search.specs.Places.{configuration_of}
use Rattle.ls_search.specs.Strides.{ActsBy, HasStarted}
use Rattle.ls_search.specs.Searched.{IsSound, noticed_at, pairs_at}
use Rattle.ls_search.proofs.Pairs.{map_there, pairs_stay}
use Rattle.ls_search.proofs.Sounding.{sound_stays}
use Rattle.ls_search.proofs.Strides.{stays}

some_is : {A : Type 0} {x y : A} → Some x ≡ Some y → x ≡ y
some_is h = cc

module _ {S : Type 0} (first : S) (next : S → Event → S) (file : File) (program : Program) (threads : ℕ) (t t' : Table)
    (states : List S) (nodes : List Node) (sound : IsSound first next file program threads t states nodes)
    (grows : Grows t t') where
  pub sound_then : IsSound first next file program threads t' states nodes
  sound_then = sound_stays first next file program threads t t' states states nodes nodes sound grows (λ n x e. e) refl

  pub pairs_then : pairs_at first t' states nodes ≡ pairs_at first t states nodes
  pairs_then = pairs_stay first t t' states states grows (λ n x e. e) threads nodes sound.are

  pub keeps_then : Keeps (pairs_at first t states nodes) (pairs_at first t' states nodes)
  keeps_then = subst (Keeps (pairs_at first t states nodes)) (sym pairs_then) (λ n x e. e)

  -- what is kept from then on is kept from the beginning
  pub keeps_since : (pairs : List (Noticed S)) → Keeps (pairs_at first t' states nodes) pairs →
      Keeps (pairs_at first t states nodes) pairs
  keeps_since pairs keeps = subst (λ (l : List (Noticed S)). Keeps l pairs) pairs_then keeps

  pub here_then : (at : ℕ) (p : Noticed S) → slice_get (pairs_at first t states nodes) at ≡ Some p →
      slice_get (pairs_at first t' states nodes) at ≡ Some p
  here_then at p e = ap (λ (l : List (Noticed S)). slice_get l at) pairs_then ∙ e

  module _ (at : ℕ) (n : Node) (here : slice_get nodes at ≡ Some n) (u : ℕ) where
    pub pair_here : slice_get (pairs_at first t states nodes) at ≡ Some (noticed_at first t states n.place)
    pair_here = map_there (λ (m : Node). noticed_at first t states m.place) nodes at n here

    did_then : (s : Stride) → stride t.file (configuration_of t n.place) u ≡ s → (p : Noticed S) →
        slice_get (pairs_at first t states nodes) at ≡ Some p →
        (stride file p.configuration u).did ≡ s.did
    did_then s is p p_here =
        let same : noticed_at first t states n.place ≡ p = some_is (sym pair_here ∙ p_here) in
        ap (λ (q : Noticed S). (stride file q.configuration u).did) (sym same)
        ∙ ap (λ (f : File). (stride f (configuration_of t n.place) u).did) (sym sound.file_is)
        ∙ ap (λ (z : Stride). z.did) is

    pub idle_then : stride t.file (configuration_of t n.place) u ≡ idling (configuration_of t n.place) →
        (p : Noticed S) → slice_get (pairs_at first t states nodes) at ≡ Some p →
        (stride file p.configuration u).did ≡ did.Idle
    idle_then is p p_here = did_then (idling (configuration_of t n.place)) is p p_here

    pub waits_then :
        stride t.file (configuration_of t n.place) u ≡ record { did = did.Waits; after = configuration_of t n.place } →
        (p : Noticed S) → slice_get (pairs_at first t states nodes) at ≡ Some p →
        (stride file p.configuration u).did ≡ did.Waits
    waits_then is p p_here = did_then (record { did = did.Waits; after = configuration_of t n.place }) is p p_here

    -- in the table after it
    pub acts_then : (step : Step) →
        ActsBy t' n.place.works.items u step (stride t.file (configuration_of t n.place) u) →
        (m : Node) → slice_get nodes at ≡ Some m →
        ActsBy t' m.place.works.items u step (stride t'.file (configuration_of t' m.place) u)
    acts_then step acts m m_here =
        let same : n ≡ m = some_is (sym here ∙ m_here) in
        let c_same : configuration_of t n.place ≡ configuration_of t' n.place =
        sym (stays t t' n.place.store n.place.works.items grows (sound.are at n here).numbers) in
        subst (λ (k : Node). ActsBy t' k.place.works.items u step (stride t'.file (configuration_of t' k.place) u)) same
        (subst (λ (c : Configuration). ActsBy t' n.place.works.items u step (stride t'.file c u)) c_same
        (subst (λ (f : File). ActsBy t' n.place.works.items u step (stride f (configuration_of t n.place) u))
        (sym grows.file) acts))

    pub started_then : HasStarted (configuration_of t n.place) u →
        (m : Node) → slice_get nodes at ≡ Some m → HasStarted (configuration_of t' m.place) u
    started_then started m m_here =
        let same : n ≡ m = some_is (sym here ∙ m_here) in
        subst (λ (k : Node). HasStarted (configuration_of t' k.place) u) same
        (subst (λ (c : Configuration). HasStarted c u)
        (sym (stays t t' n.place.store n.place.works.items grows (sound.are at n here).numbers)) started)
