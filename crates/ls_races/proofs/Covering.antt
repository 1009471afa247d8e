-- What a graph of a program's states tells of the data races of all its schedules.
use Rattle.std.proofs.Common.{ℕ, Bool, List, [], fold, length, subst, sym}
use Rattle.ls_checked.specs.CheckedTree.{File}
use Rattle.ls_checked.specs.CheckedProgram.{Program}
use Rattle.ls_meaning.specs.Runs.{source_run}
use Rattle.ls_search_laws.specs.Configuration.{configuration_of}
use Rattle.ls_search_laws.specs.Noticing.{noticed_of}
use Rattle.ls_search_laws.proofs.Cells.{turns_fair}
use Rattle.ls_search.specs.Near.{Run}
use Rattle.ls_search.proofs.Covering.{run_of}
use Rattle.ls_graph.specs.declared.closing.Edge.{Edge}
use Rattle.ls_graph.specs.declared.costs.Counted.TheVariants.{Changes}
use Rattle.ls_graph.specs.Graph.{IsWhole}
use Rattle.ls_graph.specs.Walks.{IsLeast}
use Rattle.ls_graph.proofs.Runs.{at_least, none}
use Rattle.ls_race_laws.specs.declared.access.Kind.{Kind}
use Rattle.ls_race_laws.specs.Accesses.{Volatile}
use Rattle.ls_race_laws.specs.Meeting.{Meets, MeetsIn}
use Rattle.ls_race_laws.proofs.Quiet.{meets_ahead}
use Rattle.ls_race_laws.proofs.Renamed.{meets_before}
use Rattle.ls_spinning.specs.Mute.{nothing_noted}
use Rattle.ls_spinning.specs.States.{Place}
use Rattle.ls_spinning.proofs.Covering.{Leading, Near, Resting, after, covers, near_start, runs_on}
use Rattle.ls_races.specs.Met.{MeetsUntold}
use Rattle.ls_races.specs.Races.{AllAreOn, HaveAtLeast, IsUntold}
use Rattle.ls_races.specs.Sought.{IsRaceGraph}
use Rattle.ls_races.proofs.Configurations.{of_configuration}

module _ (volatile : Volatile) (told : List Kind) (file : File) (program : Program) where
  abbrev Ending : Place → Type 0
  Ending p = MeetsUntold volatile told file p.configuration

  -- accesses meet in the run's state, on a variable of a kind that wasn't told
  record Bad (r : Run) : Type 0 where
    pub on : Kind
    pub untold : IsUntold told on
    pub meets : MeetsIn volatile file program r.state on

  -- accesses that meet in a run meet at each node that is near
  meets_node : (q : Place) (r : Run) (on : Kind) → Near file program q r → MeetsIn volatile file program r.state on →
      Meets volatile file q.configuration on
  meets_node q r on near m =
      meets_before volatile file near.names near.renaming q.configuration near.last near.same on
      (meets_ahead volatile file turns_fair.fair.setup turns_fair.fair.reading near.threads
      (configuration_of file program r.state) near.last on near.leads
      (of_configuration volatile file program r.state near.long on m))

  ends : (q : Place) (r : Run) → Near file program q r → Bad r → Ending q
  ends q r near bad = record { on = bad.on; untold = bad.untold; meets = meets_node q r bad.on near bad.meets }

  bad_after : (schedule : List ℕ) (on : Kind) → IsUntold told on →
      MeetsIn volatile file program (source_run file program schedule) on →
      Bad (fold (after file program) (run_of file program []) schedule)
  bad_after schedule on untold m =
      subst Bad (sym (runs_on file program schedule [])) (record { on = on; untold = untold; meets = m })

  module _ (edges : List Edge) (count : ℕ) (looked : List Bool)
      (found : IsRaceGraph volatile told file program edges count looked) where
    -- a schedule to accesses that meet changes threads as often as the least walk to a node that wasn't looked at
    pub races_cost : (least : ℕ) → IsLeast Changes edges count looked least →
        HaveAtLeast volatile told file program least
    races_cost least is schedule on m untold =
        at_least (Resting file program) (Leading file program) Ending (Near file program) (after file program) Bad
        (length program.threads) (covers file program) ends
        (noticed_of tt nothing_noted file program []) found.states edges looked found.graph Changes least
        (run_of file program []) (near_start file program)
        (subst (λ n. IsLeast Changes edges n looked least) (sym found.many) is) schedule
        (bad_after schedule on untold m)

    -- where all nodes were looked at, none does
    pub races_none : IsWhole count looked → AllAreOn volatile told file program
    races_none whole schedule on m untold =
        none (Resting file program) (Leading file program) Ending (Near file program) (after file program) Bad
        (length program.threads) (covers file program) ends
        (noticed_of tt nothing_noted file program []) found.states edges looked found.graph Changes
        (run_of file program []) (near_start file program) (subst (λ n. IsWhole n looked) (sym found.many) whole)
        schedule (bad_after schedule on untold m)
