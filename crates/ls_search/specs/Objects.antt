-- States under other names of objects, and how many objects states have.
use Rattle.std.specs.Prelude.{◌<◌, ◌≡◌, ℕ, List, Some, length, slice_get}
use Rattle.ls_graph.specs.Weights.{total}
use Rattle.ls_meaning.specs.Renamings.{IsRenaming}
use Rattle.ls_search_laws.specs.Configuration.{Configuration, IsRenamed}
use Rattle.ls_search.specs.Tried.{HasTried, Tried}

-- the second configuration is the first with other names of objects
pub record IsOther (c d : Configuration) : Type 0 where
  pub names : ℕ → ℕ
  pub renaming : IsRenaming names
  pub same : IsRenamed names c d

-- how many objects a state has
abbrev pub weight_of : Configuration → ℕ
weight_of c = length c.store.things

-- the most objects that states have together before no more are kept
abbrev pub most_objects : ℕ
most_objects = 4194304

-- There are so many schedules, each of which goes on from an earlier one. Each leads to the state that is kept for it.
-- The states that are kept have more than so many objects together.
pub record HaveObjects (acts : List ℕ → ℕ → Type 0) (Leads : List ℕ → Configuration → Type 0) (states most : ℕ) :
    Type 0 where
  pub schedules : HasTried acts states
  pub kept : List Configuration
  pub many : length kept ≡ states
  pub reached : (at : ℕ) (t : Tried) (c : Configuration) → slice_get schedules.tried at ≡ Some t →
      slice_get kept at ≡ Some c →
      Leads t.path c
  pub more : most < total weight_of kept
