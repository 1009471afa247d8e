-- Schedules that are shorter.
use Rattle.std.proofs.Common.{◌≤◌, ℕ, Bool, false, List, length}
use Rattle.std.proofs.Common.{arith}
use Rattle.std.specs.List.{Contains}
use Rattle.ls_events.specs.declared.event.Event.{Event}
use Rattle.ls_checked.specs.CheckedTree.{File}
use Rattle.ls_checked.specs.CheckedProgram.{Program}
use Rattle.ls_meaning.specs.Runs.{source_history}
use Rattle.ls_graph.specs.declared.costs.Counted.TheVariants.{Steps}
use Rattle.ls_fewest_switches.specs.Among.{is_one_whole, lefts_after}
use Rattle.ls_fewest_switches.specs.Levels.{HaveAtLeast}
use Rattle.ls_fewest_switches.specs.Shortest.{IsShortestOf}
use Rattle.ls_fewest_switches.specs.Switches.{IsSought}
use Rattle.ls_graph.proofs.Changes.{costs_steps}
use Rattle.ls_fewest_switches.proofs.Lefts.{is_one}

module _ {S : Type 0} (first : S) (next : S → Event → S) (is_bad : S → Bool) (file : File) (program : Program) where
  -- if each costs as many steps as a schedule, that is a shortest one
  pub none_shorter : (schedule : List ℕ) (count : ℕ) → length schedule ≤ count →
      HaveAtLeast first next is_bad false file program Steps count →
      IsShortestOf (IsSought first next is_bad) file program schedule
  none_shorter schedule count short least s sought =
      let h = least s sought tt in
      omega (arith, h, short, costs_steps 0 s)

-- a shortest of those whose histories are bad is a shortest of those that have one of these
pub shortest_of : (histories : List (List Event)) (file : File) (program : Program) (schedule : List ℕ) →
    IsShortestOf (IsSought histories lefts_after is_one_whole) file program schedule →
    IsShortestOf (Contains histories) file program schedule
shortest_of histories file program schedule least s one =
    least s (is_one histories (source_history file program s) one)
