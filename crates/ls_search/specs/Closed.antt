-- States that steps of threads don't leave. A state is a configuration: the store, and how each thread goes on.
use Rattle.std.specs.Prelude.{◌≡◌, ℕ, zero, suc, ◌<◌, List, Some, Contains, length, slice_get}
use Rattle.ls_events.specs.declared.action.Action.TheVariants.{Turn, Enter}
use Rattle.ls_checked.specs.CheckedTree.{File}
use Rattle.ls_meaning.specs.declared.step.Did.{Did}
use Rattle.ls_meaning.specs.declared.step.Did.TheVariants as did
use Rattle.ls_meaning.specs.Renamings.{IsRenaming}
use Rattle.ls_meaning.specs.Still.{IsActing}
use Rattle.ls_search_laws.specs.Configuration.{Configuration, IsRenamed, stride}

-- a step that no other thread notices: a turn of a loop, or the entering of a call
abbrev pub IsUnnoticed : Did → Type 0
IsUnnoticed (did.Acted Turn answer) = Unit {0}
IsUnnoticed (did.Acted (Enter m) answer) = Unit {0}
IsUnnoticed d = ⊥

-- so many such steps of a thread lead from one state to the other
abbrev pub LeadsUnnoticed : File → ℕ → ℕ → Configuration → Configuration → Type 0
LeadsUnnoticed file thread zero c last = c ≡ last
LeadsUnnoticed file thread (suc n) c last =
    IsUnnoticed (stride file c thread).did × LeadsUnnoticed file thread n (stride file c thread).after last

-- such steps lead to one of the list, but for names of objects
pub record LeadsInto (file : File) (list : List Configuration) (c : Configuration) : Type 0 where
  pub one : Configuration
  pub there : Contains list one
  pub thread : ℕ
  pub steps : ℕ
  pub last : Configuration
  pub leads : LeadsUnnoticed file thread steps c last
  pub names : ℕ → ℕ
  pub renaming : IsRenaming names
  pub same : IsRenamed names one last

-- So many states, from this one on. Whatever one of so many threads does that acts at one of them leads to one
-- of them so.
pub record HasClosed (file : File) (threads : ℕ) (root : Configuration) (count : ℕ) : Type 0 where
  pub list : List Configuration
  pub many : length list ≡ count
  pub begins : slice_get list 0 ≡ Some root
  pub more : (c : Configuration) (u : ℕ) → Contains list c → u < threads → IsActing (stride file c u).did →
      LeadsInto file list (stride file c u).after
