-- What is told of a call and one way to end, by the graph of a program's states.
use Rattle.std.specs.Prelude.{ℕ, List, length}
use Rattle.ls_checked.specs.CheckedTree.{File}
use Rattle.ls_checked.specs.CheckedProgram.{Program}
use Rattle.ls_checked.specs.Plain.{plain_file}
use Rattle.ls_checked.specs.PlainProgram.{plain_program}
use Rattle.ls_graph.specs.Found.{IsGrown}
use Rattle.ls_graph.specs.declared.closing.Edge.{Edge}
use Rattle.ls_search_laws.specs.Configuration.{Configuration}
use Rattle.ls_progress_laws.specs.From.{GoesRoundByLocksFrom, GoesRoundFairlyFrom, GoesRoundFrom, IsBoundedFrom}
use Rattle.ls_progress_laws.specs.Progress.{Kind}
use Rattle.ls_progress.specs.Ends.{AreEndsFrom, IsCallEnds, IsFair, IsFree, IsGoing, IsShort}
use Rattle.ls_progress.specs.Labels.{AreLabels}
use Rattle.ls_progress.specs.Roots.{root_of}
use Rattle.ls_progress.specs.Steps.{IsStates}
use Rattle.ls_progress.specs.declared.judging.CallEnds.{CallEnds}
use Rattle.ls_progress.specs.declared.judging.Fair.{Fair}
use Rattle.ls_progress.specs.declared.judging.Free.{Free}
use Rattle.ls_progress.specs.declared.judging.Going.{Going}
use Rattle.ls_progress.specs.declared.labelled.Labelled.{Labelled}
use Rattle.ls_progress.specs.declared.labelled.Told.{Told}
use Rattle.ls_progress.specs.declared.judging.Whole.{Whole}
use Rattle.ls_progress.specs.declared.labelled.Told.TheVariants as tellings
use Rattle.ls_progress.specs.declared.lassos.Lasso.{Lasso}
use Rattle.ls_progress.specs.declared.states.Scope.{Scope}

-- ---- the runs of which it is told

abbrev pub file_in : Scope → File
file_in s = plain_file s.file.now

abbrev pub program_in : Scope → Program
program_in s = plain_program s.program.now

abbrev pub threads_in : Scope → ℕ
threads_in s = length (program_in s).threads

abbrev pub root_in : Scope → Configuration
root_in s = root_of s.again (file_in s) (program_in s)

abbrev pub AreEndsIn : Scope → List CallEnds → Type 0
AreEndsIn s = AreEndsFrom (file_in s) (threads_in s) (root_in s)

abbrev pub edges_in : Labelled → List Edge
edges_in l = l.closing.now.graph.edges.items

-- the graph is that of the program's states, with the call of the thread that is pending at each
pub record IsLabelled (l : Labelled) : Type 0 where
  pub states : IsStates (file_in l.scope) (threads_in l.scope) (root_in l.scope) (edges_in l)
      (length l.closing.now.graph.found.nodes.items) l.closing.now.looked.items
  pub grown : IsGrown l.closing.now.graph
  pub labels : AreLabels l.thread (edges_in l) l.labels.now

-- ---- of a call

module _ (l : Labelled) where
  abbrev Bounded : Kind → ℕ → ℕ → Type 0
  Bounded kind = IsBoundedFrom kind (file_in l.scope) (root_in l.scope)

  abbrev Round : Kind → ℕ → List ℕ → List ℕ → Type 0
  Round kind = GoesRoundFrom kind (file_in l.scope) (root_in l.scope)

  abbrev Fairly : Kind → ℕ → List ℕ → List ℕ → Type 0
  Fairly kind = GoesRoundFairlyFrom kind (file_in l.scope) (root_in l.scope) (threads_in l.scope)

  abbrev ByLocks : Kind → ℕ → List ℕ → List ℕ → Type 0
  ByLocks kind = GoesRoundByLocksFrom kind (file_in l.scope) (root_in l.scope) (threads_in l.scope)

  abbrev pub BoundsIn : Kind → ℕ → ℕ → Type 0
  BoundsIn kind call most = Bounded kind call most

  abbrev pub GoesIn : Kind → ℕ → Lasso → Type 0
  GoesIn kind call lasso = IsShort lasso × Round kind call lasso.way.items lasso.cycle.items

  abbrev pub GoesFairlyIn : Kind → ℕ → Lasso → Type 0
  GoesFairlyIn kind call lasso = IsShort lasso × Fairly kind call lasso.way.items lasso.cycle.items

  abbrev pub GoesByLocksIn : Kind → ℕ → Lasso → Type 0
  GoesByLocksIn kind call lasso = IsShort lasso × ByLocks kind call lasso.way.items lasso.cycle.items

  abbrev pub IsTold : Kind → ℕ → Told → Type 0
  IsTold kind call (tellings.Bounded most) = BoundsIn kind call most
  IsTold kind call (tellings.Endless lasso) = GoesIn kind call lasso
  IsTold kind call tellings.Unknown = Unit {0}

  abbrev pub IsFreeIn : ℕ → Free → Type 0
  IsFreeIn = IsFree Bounded Round Fairly ByLocks l.thread

  abbrev pub IsGoingIn : Kind → ℕ → Going → Type 0
  IsGoingIn = IsGoing Bounded Round Fairly ByLocks

  abbrev pub IsFairIn : ℕ → Fair → Type 0
  IsFairIn = IsFair Bounded Round Fairly ByLocks l.thread

  abbrev pub IsCallEndsIn : CallEnds → Type 0
  IsCallEndsIn = IsCallEnds Bounded Round Fairly ByLocks

-- ---- of all threads

-- the graph is that of the program's states
pub record IsWholeGraph (w : Whole) : Type 0 where
  pub states : IsStates (file_in w.scope) (threads_in w.scope) (root_in w.scope) w.closing.now.graph.edges.items
      (length w.closing.now.graph.found.nodes.items) w.closing.now.looked.items
  pub grown : IsGrown w.closing.now.graph
