-- What the code keeps of a run and of all states, in the definitions' words.
use Rattle.std.specs.Prelude.{◌≡◌, ℕ, List, Some, map, slice_get, string_bytes}
use Rattle.ls_events.specs.declared.event.Event.{Event}
use Rattle.ls_source.specs.Stands.{StandsFor}
use Rattle.ls_labels.specs.Names.{Names}
use Rattle.ls_trace.specs.Told.{Told}
use Rattle.ls_transitions.specs.Seen.{table_of}
use Rattle.ls_choices.specs.Points.{ArePlaced, standing_at}
use Rattle.ls_choices.specs.Rows.{Graph, Row}
use Rattle.ls_choices.specs.Standing.{AreReached}
use Rattle.ls_choices.specs.declared.moment.Moment.{Moment}
use Rattle.ls_choices.specs.declared.rows.Row.{Row as KeptRow}
use Rattle.ls_choices.specs.declared.graph.Choices.{Choices}
use Rattle.ls_choices.specs.declared.graph.States.{States}

-- the code stands at a run
pub record IsAt (names : Names) (m : Moment) (r : Told) : Type 0 where
  pub history : List Event
  pub stands : StandsFor m.playing (record {
    file = names.file;
    program = names.program;
    state = r.state;
    history = history;
  })
  pub labels : m.labels.items ≡ r.labels
  pub calls : m.calls.items ≡ r.calls

-- the states that are kept have numbers, and the paths lead to them; the first of these is this one
pub record AreStates (names : Names) (first : List ℕ) (s : States) : Type 0 where
  pub placed : ArePlaced names.file (table_of s.transitions) s.closing.graph.found.nodes.items
  pub begins : slice_get (map (λ p. p.items) s.paths.items) 0 ≡ Some first
  pub reached : AreReached names (map (standing_at (table_of s.transitions)) s.closing.graph.found.nodes.items)
      (map (λ p. p.items) s.paths.items)

abbrev pub row_of : KeptRow → Row
row_of r = record { words = string_bytes r.words; acts = r.acts; waits = r.waits; to = r.to }

abbrev pub graph_of : Choices → Graph
graph_of c = record {
  paths = map (λ p. p.items) c.paths.items;
  rows = map (λ v. map row_of v.items) c.rows.items;
}
