-- Pairs after so many effects, each once.
use Rattle.std.specs.Prelude.{ℕ, suc, List, [], ◌∷◌, ◌++◌, slice_get}
use Rattle.std.specs.List.{flat_map}
use Rattle.std.specs.declared.vec.Vec.{Vec}
use Rattle.std.specs.declared.alloc.Global.{Global}
use Rattle.ls_events.specs.declared.event.Event.{Event}
use Rattle.ls_automaton.specs.declared.outcome.Outcome.{Outcome}
use Rattle.ls_automaton.specs.Held.{AreSame, Held, ends, further, row_of}

module _ (rows : List (Vec Outcome Global)) where
  -- what a pair becomes where one pending call takes effect
  abbrev pub nexts : Held → List Held
  nexts p = flat_map (further (λ q. q ∷ []) p) (row_of (slice_get rows p.state))

  -- What is found with this end, and what more effects lead to from the next pairs, is what was found, and what one
  -- effect more leads to from the layer's.
  abbrev pub IsLayered : Event → List Held → List Held → List Held → List Held → List Held → Type 0
  IsLayered e layer next found next' found' =
      (k : ℕ) → AreSame (found' ++ flat_map (ends rows k e) next')
      (found ++ (flat_map (ends rows k e) next ++ flat_map (ends rows (suc k) e) layer))
