-- Where steps of threads lead, but for names of objects.
use Rattle.std.specs.Prelude.{◌≡◌, ◌≢◌, ◌≤◌, ℕ, Bool, List, [], Some, length, slice_get}
use Rattle.ls_checked.specs.CheckedTree.{File}
use Rattle.ls_checked.specs.CheckedProgram.{Program}
use Rattle.ls_checked.specs.Plain.{plain_file}
use Rattle.ls_checked.specs.PlainProgram.{plain_program}
use Rattle.ls_meaning.specs.Constants.{FileHasConstants, ProgramHasConstants}
use Rattle.ls_meaning.specs.declared.step.Did.TheVariants as did
use Rattle.ls_graph.specs.Graph.{IsGraph}
use Rattle.ls_graph.specs.declared.closing.Edge.{Edge}
use Rattle.ls_search_laws.specs.Configuration.{Configuration, stride}
use Rattle.ls_transitions.specs.Tables.{Table}
use Rattle.ls_search.specs.Objects.{IsOther}
use Rattle.ls_search.specs.Places.{IsThere, configuration_of}
use Rattle.ls_search.specs.declared.places.NumberedState.{NumberedState}
use Rattle.ls_progress_laws.specs.Again.{again_in}
use Rattle.ls_progress_laws.specs.Laws.{place_after}
use Rattle.ls_progress.specs.Roots.{repeats}
use Rattle.ls_progress.specs.Sorts.{sort_at, sort_of}
use Rattle.ls_progress.specs.declared.space.EndsSpace.{EndsSpace}

-- the numbers stand for a state of a program of this file with so many threads
pub record IsPlaced (file : File) (threads : ℕ) (t : Table) (p : NumberedState) : Type 0 where
  pub file_is : t.file ≡ file
  pub constants : FileHasConstants file
  pub numbers : IsThere t p
  pub width : length p.works.items ≡ threads

-- the thread does nothing there
abbrev pub Rests : File → Configuration → ℕ → Type 0
Rests file c u = (stride file c u).did ≡ did.Idle

-- the thread's step is of the sort that the mark says, and leads to the other. One that waits leads to where it was.
pub record StepsTo (file : File) (c : Configuration) (u mark : ℕ) (d : Configuration) : Type 0 where
  pub sort : sort_of (stride file c u).did ≡ Some (sort_at mark)
  pub other : IsOther d (stride file c u).after

abbrev pub NoEnd : Configuration → Type 0
NoEnd c = ⊥

-- The graph of the states to which steps of so many threads lead from the root on. Threads that aren't there do
-- nothing.
pub record IsStates (file : File) (threads : ℕ) (root : Configuration) (edges : List Edge) (count : ℕ)
    (looked : List Bool) : Type 0 where
  pub states : List Configuration
  pub many : length states ≡ count
  pub graph : IsGraph (Rests file) (StepsTo file) NoEnd threads root states edges looked
  pub others : (at : ℕ) (c : Configuration) → slice_get states at ≡ Some c → (u : ℕ) → threads ≤ u → Rests file c u

-- ---- threads that begin their calls again

-- the numbers stand for the state before the first step
pub record IsRoot (file : File) (program : Program) (threads : ℕ) (t : Table) (p : NumberedState) : Type 0 where
  pub placed : IsPlaced file threads t p
  pub constants : ProgramHasConstants program
  pub same : configuration_of t p ≡ place_after file program []

-- The second is the first where threads begin their calls again, and there the thread goes on as it is told without
-- that.
pub record IsSetBack (root c d : Configuration) (u : ℕ) : Type 0 where
  pub same : again_in root.continues d ≡ again_in root.continues c
  pub goes : u ≢ 0 → (again_in root.continues d).continues u [] ≡ d.continues u []

-- ---- the space

abbrev pub file_in : EndsSpace → File
file_in s = plain_file s.file.now

abbrev pub program_in : EndsSpace → Program
program_in s = plain_program s.program.now

-- before the first step, as the program is
abbrev pub first_in : EndsSpace → Configuration
first_in s = place_after (file_in s) (program_in s) []

-- what a state of the program is in the space
abbrev pub stands_in : EndsSpace → Configuration → Configuration
stands_in s c = repeats s.again (first_in s) c

pub record IsIn (s : EndsSpace) (t : Table) (p : NumberedState) : Type 0 where
  pub placed : IsPlaced (file_in s) s.threads t p
  pub root : IsRoot (file_in s) (program_in s) s.threads t s.root
