-- A pair is held exactly if a serial run explains the history.
use Rattle.ls_events.specs.declared.event.Event.{Event}
use Rattle.ls_automaton.specs.Laws.{HeldIfExplained}
use Rattle.ls_automaton.proofs.Whole.{held_all}
use Rattle.ls_automaton.proofs.Holding.{held_explained}

pub held_exactly : {S : Type 0} (Leads : S → Event → Event → S → Type 0) (first : S) → HeldIfExplained Leads first
held_exactly Leads first runs_once h once = (
  λ p. held_explained Leads first runs_once h p.0 once p.1,
  λ e. let k = held_all Leads first h e.run e.last e.serially (runs_once e.run e.last e.serially) e.explains once in
      (k.pair, k.held),
)
