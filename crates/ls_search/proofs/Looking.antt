-- A state that is reached from one of those that were found.
use Rattle.std.proofs.Common.{◌≡◌, ℕ, ◌+◌, ◌<◌, List, length, Some, sym, ap}
use Rattle.std.proofs.Common.{◌∙◌, subst, arith}
use Rattle.std.specs.Prelude.{slice_get}
use Rattle.ls_events.specs.declared.event.Event.{Event}
use Rattle.ls_checked.specs.CheckedTree.{File}
use Rattle.ls_checked.specs.CheckedProgram.{Program}
use Rattle.ls_meaning.specs.Still.{IsActing}
use Rattle.ls_search_laws.specs.Configuration.{Stride, stride}
use Rattle.ls_search_laws.specs.Noticing.{Noticed, noticed_after}
use Rattle.ls_transitions.specs.declared.moves.Step.{Step}
use Rattle.ls_transitions.specs.Tables.{Table, Grows, Keeps}
use Rattle.ls_transitions.proofs.Keeping.{below}
use Rattle.ls_search.specs.declared.places.Node.{Node}
use Rattle.ls_search.specs.declared.places.NumberedState.{NumberedState}
use Rattle.ls_search.specs.Found.{HasPlace, Pushed}
use Rattle.ls_search.specs.Places.{configuration_of}
use Rattle.ls_search.specs.Strides.{ActsBy}
use Rattle.ls_search.specs.Searched.{ActsIn, IsAfter, IsNode, IsSound, Reaches, noticed_at, pairs_at}
use Rattle.ls_search.proofs.Pairs.{map_there, pairs_keep}
use Rattle.ls_search.proofs.Reaching.{acting_is, acts_in, is_after}
use Rattle.ls_search.proofs.Sounding.{sound_pushed}

some_is : {A : Type 0} {x y : A} → Some x ≡ Some y → x ≡ y
some_is h = cc

module _ {S : Type 0} (first : S) (next : S → Event → S) (file : File) (program : Program) (threads : ℕ) (t t' : Table)
    (states states' : List S) (nodes nodes' : List Node)
    (sound : IsSound first next file program threads t states nodes) (grows : Grows t t') (keeps : Keeps states states')
    (at : ℕ) (n : Node) (here : slice_get nodes at ≡ Some n) (u : ℕ) (step : Step)
    (acts : ActsBy t n.place.works.items u step (stride t.file (configuration_of t n.place) u))
    (q : NumberedState) (k : ℕ) (other : Program)
    (reaches : Reaches t.file (noticed_after first next t.file other (noticed_at first t states n.place) u)
    (noticed_at first t' states' q) u k)
    (width : ℕ) (width_is : width ≡ length n.place.works.items) (is_node : IsNode t' states' width q)
    (node : Node) (pushed : Pushed nodes nodes' node) (place_is : node.place ≡ q) (before_is : node.before ≡ at)
    (thread_is : node.thread ≡ u) (steps_is : node.steps ≡ k + 1) where
  pair : Noticed S
  pair = noticed_at first t states n.place

  pair_here : slice_get (pairs_at first t states nodes) at ≡ Some (noticed_at first t states n.place)
  pair_here = map_there (λ (m : Node). noticed_at first t states m.place) nodes at n here

  reached_so : Reaches file (noticed_after first next file program (noticed_at first t states n.place) u)
      (noticed_at first t' states' q) u k
  reached_so =
      subst (λ (f : File). Reaches f (noticed_after first next f program (noticed_at first t states n.place) u)
      (noticed_at first t' states' q) u k) sound.file_is reaches

  pub sound_reached : IsSound first next file program threads t' states' nodes'
  sound_reached =
      let is_width : width ≡ threads = width_is ∙ (sound.are at n here).width in
      let with_place : IsNode t' states' threads node.place =
      subst (λ (p : NumberedState). IsNode t' states' threads p) (sym place_is)
      (subst (λ w. IsNode t' states' w q) is_width is_node) in
      let within : node.before < length nodes = let b = below nodes at n here in omega (arith, b, before_is) in
      let there : slice_get (pairs_at first t states nodes) node.before ≡ Some (noticed_at first t states n.place) =
      ap (slice_get (pairs_at first t states nodes)) before_is ∙ pair_here in
      sound_pushed first next file program threads t t' states states' nodes nodes' sound grows keeps node pushed
      with_place within
      (subst (λ (p : NumberedState). IsAfter first next file program
      (pairs_at first t states nodes) node (noticed_at first t' states' p)) (sym place_is)
      (is_after first next file program t' states' nodes' (noticed_at first t states n.place) u q k reached_so
      (pairs_at first t states nodes) node there place_is thread_is steps_is))

  pub keeps_reached : Keeps (pairs_at first t states nodes) (pairs_at first t' states' nodes')
  keeps_reached = pairs_keep first t t' states states' grows keeps threads nodes sound.are nodes' node pushed

  pub acts_reached : HasPlace nodes' node.place → (p : Noticed S) →
      slice_get (pairs_at first t states nodes) at ≡ Some p →
      ActsIn first next file program (pairs_at first t' states' nodes') p u
  acts_reached there p p_here =
      let same : noticed_at first t states n.place ≡ p = some_is (sym pair_here ∙ p_here) in
      let did_act : IsActing (stride file (configuration_of t n.place) u).did =
      subst (λ (f : File). IsActing (stride f (configuration_of t n.place) u).did) sound.file_is
      (acting_is first next file program (stride t.file (configuration_of t n.place) u).did step.action step.answer
      (ap (λ (s : Stride). s.did) acts.is)) in
      subst (λ (r : Noticed S). ActsIn first next file program (pairs_at first t' states' nodes') r u) same
      (acts_in first next file program t' states' nodes' (noticed_at first t states n.place) u q k reached_so did_act
      (subst (HasPlace nodes') place_is there))
