-- What schedules cost that are looked for.
use Rattle.std.proofs.Common.{◌≤◌, ℕ, Bool, true, false, List, arith}
use Rattle.ls_events.specs.declared.event.Event.{Event}
use Rattle.ls_checked.specs.CheckedTree.{File}
use Rattle.ls_checked.specs.CheckedProgram.{Program}
use Rattle.ls_graph.specs.declared.costs.Counted.{Counted}
use Rattle.ls_graph.specs.declared.costs.Counted.TheVariants as counted
use Rattle.ls_graph.specs.Costs.{changes, costs}
use Rattle.ls_graph.proofs.Changes.{costs_changes}
use Rattle.ls_search.proofs.Covering.{Leaves}
use Rattle.ls_fewest_switches.specs.Levels.{HaveAtLeast, IsLevel, wanted_of}
use Rattle.ls_fewest_switches.specs.Switches.{EndsSo, HasFewestOf, IsSought, switches}
use Rattle.ls_fewest_switches.specs.declared.least.Level.{Level}
use Rattle.ls_fewest_switches.specs.declared.least.Level.TheVariants as levels

-- fewer changes are no more switches
pub no_more_switches : (few many : List ℕ) → costs counted.Changes 0 few ≤ changes 0 many →
    switches few ≤ switches many
no_more_switches few many h = let same = costs_changes 0 few in omega (arith, h, same)

-- where changes of thread are counted, it has the fewest context switches
pub fewest_of : {S : Type 0} (first : S) (next : S → Event → S) (is_bad : S → Bool) (stuck : Bool) (file : File)
    (program : Program) (schedule : List ℕ) →
    HaveAtLeast first next is_bad stuck file program counted.Changes (costs counted.Changes 0 schedule) →
    HasFewestOf (IsSought first next is_bad) stuck file program schedule
fewest_of first next is_bad stuck file program schedule least s sought ends =
    let h = least s sought ends in
    no_more_switches schedule s (omega (arith, h, costs_changes 0 s))

-- what is told of a graph is told of schedules
pub level_map : {S : Type 0} (first : S) (next : S → Event → S) (is_bad : S → Bool) (stuck : Bool) (file : File)
    (program : Program) (c : Counted) (A B : ℕ → Type 0) → ((k : ℕ) → A k → B k) → (count : ℕ) (l : Level) →
    IsLevel first next is_bad stuck file program c A count l →
    IsLevel first next is_bad stuck file program c B count l
level_map first next is_bad stuck file program c A B f count levels.Nothing h = f count h
level_map first next is_bad stuck file program c A B f count (levels.Steps steps) h =
    (h.0, f (costs c 0 steps.items) h.1, h.2)
level_map first next is_bad stuck file program c A B f count levels.Cut h = h

pub leaves : (stuck : Bool) (file : File) (program : Program) (s : List ℕ) → EndsSo stuck file program s →
    Leaves (wanted_of stuck) file program s
leaves true file program s h = h
leaves false file program s h = h
