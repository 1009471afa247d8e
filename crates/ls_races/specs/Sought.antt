-- What a search for data races plays, numbers and finds.
use Rattle.std.specs.Prelude.{◌≡◌, ◌⊎◌, ◌≤◌, ℕ, Bool, List, [], None, Some, length, slice_get}
use Rattle.ls_checked.specs.CheckedTree.{File}
use Rattle.ls_checked.specs.CheckedProgram.{Program}
use Rattle.ls_meaning.specs.Runs.{source_run}
use Rattle.ls_graph.specs.Graph.{IsGraph}
use Rattle.ls_graph.specs.declared.closing.Closing.{Closing}
use Rattle.ls_graph.specs.declared.closing.Edge.{Edge}
use Rattle.ls_graph.specs.declared.closing.Halt.TheVariants.{Full}
use Rattle.ls_search.specs.Places.{AreThere, configuration_at}
use Rattle.ls_search.specs.Places as places
use Rattle.ls_search.specs.Runs.{progress_at}
use Rattle.ls_search.specs.Space.{GoesTo, Rests}
use Rattle.ls_search.specs.Verdicts.{AreAll, AreReached, IsCut}
use Rattle.ls_search.specs.declared.numbering.Numbered.{Numbered}
use Rattle.ls_search.specs.declared.space.Kept.{Kept}
use Rattle.ls_search_laws.specs.Configuration.{configuration_of}
use Rattle.ls_search_laws.specs.Noticing.{Noticed, noticed_of}
use Rattle.ls_search_laws.specs.Stepping.{ActAll}
use Rattle.ls_source.specs.Stands.{StandsFor}
use Rattle.ls_transitions.specs.Seen.{table_of}
use Rattle.ls_transitions.specs.Tables.{Table}
use Rattle.ls_race_laws.specs.Accesses.{Volatile}
use Rattle.ls_race_laws.specs.Meeting.{MeetsAfter}
use Rattle.ls_race_laws.specs.declared.access.Kind.{Kind}
use Rattle.ls_races.specs.declared.finding.Sight.{Sight}
use Rattle.ls_races.specs.declared.finding.Sight.TheVariants as sights
use Rattle.ls_races.specs.declared.meetings.Met.{Met}
use Rattle.ls_races.specs.declared.playing.Played.{Played}
use Rattle.ls_races.specs.Extents.{MeetsLate}
use Rattle.ls_races.specs.Met.{MeetsUntold}
use Rattle.ls_spinning.specs.Mute.{no_note, nothing_noted}
use Rattle.ls_races.specs.Races.{AllAreOn, HaveAtLeast, IsRaceBy, IsUntold}

-- the run is that after the steps, each of which acts
pub record IsPlayed (file : File) (program : Program) (p : Played) : Type 0 where
  pub stands : StandsFor p.playing (progress_at file program p.steps.items)
  pub acts : ActAll file program p.steps.items

-- the numbers are those of the state after the schedule
pub record IsNumberedAt (file : File) (program : Program) (schedule : List ℕ) (n : Numbered) : Type 0 where
  pub there : AreThere (table_of n.transitions) n.store n.works.items
  pub width : length n.works.items ≡ length program.threads
  pub file_is : (table_of n.transitions).file ≡ file
  pub state : configuration_at (table_of n.transitions) n.store n.works.items ≡
      configuration_of file program (source_run file program schedule)

-- after the schedule these two threads are about to access one variable, of a kind that wasn't told
pub record IsMetAfter (volatile : Volatile) (told : List Kind) (file : File) (program : Program) (schedule : List ℕ)
    (m : Met) : Type 0 where
  pub meets : MeetsAfter volatile file program schedule m.on
  pub one : meets.one ≡ m.one
  pub other : meets.other ≡ m.other
  pub untold : IsUntold told m.on

-- accesses meet at none of these states
abbrev pub AreQuiet : Volatile → Table → List Kept → Type 0
AreQuiet volatile t nodes =
    (at : ℕ) (n : Kept) → slice_get nodes at ≡ Some n →
    MeetsUntold volatile [] t.file (places.configuration_of t n.place) →
    ⊥

-- the graph of a program's states, from that before the first step on
pub record IsRaceGraph (volatile : Volatile) (told : List Kind) (file : File) (program : Program) (edges : List Edge)
    (count : ℕ) (looked : List Bool) : Type 0 where
  pub states : List (Noticed (Unit {0}))
  pub many : length states ≡ count
  pub graph : IsGraph (Rests tt nothing_noted file program no_note None)
      (GoesTo tt nothing_noted file program) (λ p. MeetsUntold volatile told file p.configuration)
      (length program.threads) (noticed_of tt nothing_noted file program []) states edges looked

-- So is that which was found, of whose states so many may be kept. If it was left since no more may be, as many were
-- kept, or they have too many objects.
pub record IsRaceClosing (volatile : Volatile) (told : List Kind) (file : File) (program : Program) (limit : ℕ)
    (c : Closing Kept) : Type 0 where
  pub graph : IsRaceGraph volatile told file program c.graph.edges.items (length c.graph.found.nodes.items)
      c.looked.items
  pub reached : AreReached file program 0 (length c.graph.found.nodes.items)
  pub few : 1 ≤ limit → length c.graph.found.nodes.items ≤ limit
  pub full : 1 ≤ limit → c.halt ≡ Full → IsCut file program limit 0 (length c.graph.found.nodes.items)

-- What a search tells, where it is told so that there is no race, and so why it isn't known, and of a number whether it
-- is the least.
abbrev pub IsSightBy : (Free Cut : Type 0) → (ℕ → Type 0) → Volatile → List Kind → File → Program → Sight → Type 0
IsSightBy Free Cut AtLeast volatile told file program sights.Free = Free
IsSightBy Free Cut AtLeast volatile told file program (sights.Met r) = IsRaceBy AtLeast volatile told file program r
IsSightBy Free Cut AtLeast volatile told file program sights.Cut = Cut

-- what a search tells that has kept so many states, of so many that may be kept
abbrev pub IsSight : Volatile → List Kind → File → Program → (limit states : ℕ) → Sight → Type 0
IsSight volatile told file program limit states sight =
    IsSightBy (AllAreOn volatile told file program × AreAll file program 0 states)
    (IsCut file program limit 0 states ⊎ MeetsLate volatile told file program)
    (HaveAtLeast volatile told file program) volatile told file program sight
