-- What a search tells of all that its beginning leads to.
use Rattle.std.specs.Prelude.{◌≡◌, ℕ, ◌<◌, Bool, List, Some, Option, IfNone, Contains, slice_get}
use Rattle.ls_events.specs.declared.event.Event.{Event}
use Rattle.ls_checked.specs.CheckedTree.{File}
use Rattle.ls_checked.specs.CheckedProgram.{Program}
use Rattle.ls_meaning.specs.declared.step.Did.TheVariants as did
use Rattle.ls_meaning.specs.Still.{IsActing, IsStill}
use Rattle.ls_meaning.specs.Renamings.{IsRenaming}
use Rattle.ls_search_laws.specs.Configuration.{Configuration, stride}
use Rattle.ls_search_laws.specs.Noticing.{AreAllGood, Noticed, noticed_after}
use Rattle.ls_search_laws.specs.Search.{IsFound}
use Rattle.ls_transitions.specs.Tables.{Table}
use Rattle.ls_search.specs.declared.roots.Root.{Root}
use Rattle.ls_search.specs.Places.{configuration_at}
use Rattle.ls_search.specs.Strides.{at_once}

-- where a search begins
abbrev pub root_of : {N S : Type 0} → (N → S) → Table → Root N → Noticed S
root_of stands t r = record { configuration = configuration_at t r.store r.works.items; noted = stands r.noted }

-- no thread acts, and one waits
pub record IsStuck (file : File) (c : Configuration) : Type 0 where
  pub still : (u : ℕ) → IsStill (stride file c u).did
  pub thread : ℕ
  pub waits : (stride file c thread).did ≡ did.Waits

-- A list from the root on. Whatever one of so many threads does that acts at one of these leads to one of them, but for
-- names of objects, by steps that are taken at once. Something stands for what is noted at each. Where no bad path was
-- told, none of them is bad. Where no stuck one was told, none of them is stuck.
pub record ClosesAll {N S P : Type 0} (stands : N → S) (first : S) (next : S → Event → S) (is_bad : S → Bool)
    (file : File) (program : Program) (threads : ℕ) (root : Noticed S) (bad stuck : Option P) : Type 0 where
  pub pairs : List (Noticed S)
  pub begins : slice_get pairs 0 ≡ Some root
  pub more : (p : Noticed S) (u : ℕ) → Contains pairs p → u < threads → IsActing (stride file p.configuration u).did →
      IsFound at_once IsRenaming (λ m n. m ≡ n) file pairs (noticed_after first next file program p u)
  pub noted : (p : Noticed S) → Contains pairs p → (n : N) × (stands n ≡ p.noted)
  pub good : IfNone bad (AreAllGood is_bad pairs)
  pub free : IfNone stuck ((p : Noticed S) → Contains pairs p → IsStuck file p.configuration → ⊥)
