-- What an observer of an automaton holds.
use Rattle.std.specs.Prelude.{◌↔◌, List}
use Rattle.ls_events.specs.declared.event.Event.{Event}
use Rattle.ls_linearizable.specs.Once.{AreOnce}
use Rattle.ls_automaton.specs.Automaton.{Holds, IsExplainedFrom, Pair, Serially}

module _ {S : Type 0} (Leads : S → Event → Event → S → Type 0) (first : S) where
  -- no serial run has an event twice
  abbrev pub RunsAreOnce : Type 0
  RunsAreOnce = (g : List Event) (last : S) → Serially Leads first g last → AreOnce g

  -- if a pair is left, a serial run explains the history
  abbrev pub HeldIsExplained : Type 0
  HeldIsExplained =
      RunsAreOnce → (h : List Event) (p : Pair S) → AreOnce h → Holds Leads first h p → IsExplainedFrom Leads first h

  -- A pair is left exactly if a serial run explains the history.
  abbrev pub HeldIfExplained : Type 0
  HeldIfExplained = RunsAreOnce → (h : List Event) → AreOnce h →
      ((p : Pair S) × Holds Leads first h p) ↔ IsExplainedFrom Leads first h
