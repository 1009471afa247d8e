-- What is found of schedules that cost less than so much.
use Rattle.std.specs.Prelude.{◌≡◌, ◌<◌, ◌≤◌, ℕ, Bool, true, false, List, [], Option, length}
use Rattle.ls_events.specs.Limits.{most_steps}
use Rattle.ls_events.specs.declared.event.Event.{Event}
use Rattle.ls_checked.specs.CheckedTree.{File}
use Rattle.ls_checked.specs.CheckedProgram.{Program}
use Rattle.ls_meaning.specs.declared.step.Did.TheVariants as did
use Rattle.ls_meaning.specs.Runs.{source_history, step}
use Rattle.ls_meaning.specs.Still.{IsOver}
use Rattle.ls_search_laws.specs.Noticing.{Noticed, noticed_of}
use Rattle.ls_search_laws.specs.Stepping.{ActAll}
use Rattle.ls_search.specs.declared.space.Wanted.{Wanted}
use Rattle.ls_search.specs.declared.space.Wanted.TheVariants as wanted
use Rattle.ls_search.specs.Space.{GoesTo, IsEnd, Rests}
use Rattle.ls_graph.specs.declared.closing.Edge.{Edge}
use Rattle.ls_graph.specs.Graph.{IsGraph}
use Rattle.ls_source.specs.Progress.{Progress}
use Rattle.ls_fewest_switches.specs.declared.least.Level.{Level}
use Rattle.ls_fewest_switches.specs.declared.least.Level.TheVariants as levels
use Rattle.ls_graph.specs.declared.costs.Counted.{Counted}
use Rattle.ls_graph.specs.Costs.{costs}
use Rattle.ls_fewest_switches.specs.Switches.{EndsSo, IsSought}

module _ {S : Type 0} (first : S) (next : S → Event → S) (is_bad : S → Bool) (stuck : Bool) (file : File)
    (program : Program) (counted : Counted) where
  -- a schedule whose history is looked for, with an end as is asked, each step of which acts
  pub record IsSuch (schedule : List ℕ) : Type 0 where
    pub acts : ActAll file program schedule
    pub sought : IsSought first next is_bad (source_history file program schedule)
    pub ends : EndsSo stuck file program schedule
    pub short : length schedule ≤ most_steps

  -- each that is looked for costs so much at least
  abbrev pub HaveAtLeast : ℕ → Type 0
  HaveAtLeast count = (s : List ℕ) → IsSought first next is_bad (source_history file program s) →
      EndsSo stuck file program s → count ≤ costs counted 0 s

  -- Each costs at least so much as is asked. Or it is this one, which costs less, and each costs as much at least. Or
  -- nothing is said.
  abbrev pub IsLevel : (ℕ → Type 0) → ℕ → Level → Type 0
  IsLevel AtLeast count levels.Nothing = AtLeast count
  IsLevel AtLeast count (levels.Steps steps) =
      IsSuch steps.items × AtLeast (costs counted 0 steps.items) × (costs counted 0 steps.items < count)
  IsLevel AtLeast count levels.Cut = Unit {0}

  abbrev pub IsBelow : ℕ → Level → Type 0
  IsBelow count level = IsLevel HaveAtLeast count level

-- which states are looked for
abbrev pub wanted_of : Bool → Wanted
wanted_of true = wanted.Stuck
wanted_of false = wanted.Bad

-- what a graph tells of a program's states, the first of which is that before the first step
pub record IsFound {S N : Type 0} (first : S) (next : S → Event → S) (is_bad : S → Bool) (stands : N → S)
    (lost : Option N) (w : Wanted) (file : File) (program : Program) (edges : List Edge) (count : ℕ)
    (looked : List Bool) : Type 0 where
  pub states : List (Noticed S)
  pub many : length states ≡ count
  pub graph : IsGraph (Rests first next file program stands lost) (GoesTo first next file program)
      (IsEnd stands is_bad w file) (length program.threads) (noticed_of first next file program []) states edges
      looked

-- no thread of a run acts, and one waits
pub record IsWaiting (r : Progress) : Type 0 where
  pub over : IsOver r.file r.program r.state
  pub thread : ℕ
  pub waits : (step r.file r.program r.state thread).did ≡ did.Waits
