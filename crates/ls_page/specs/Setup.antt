-- The steps of the setup.
use Rattle.std.specs.Prelude.{◌≡◌, ℕ, true, false, List, All, replicate}
use Rattle.ls_labels.specs.Names.{Names}
use Rattle.ls_choices.specs.Schedules.{acts, told_after}
use Rattle.ls_search_laws.specs.Stepping.{ActAll}

-- steps of the setup alone, each of which acts, and after which it doesn't act
pub record IsSetup (names : Names) (steps : List ℕ) : Type 0 where
  pub alone : All (λ thread. thread ≡ 0) steps
  pub ends : acts names (told_after names steps) 0 ≡ false
  pub acts : ActAll names.file names.program steps

-- after so many steps of the setup it acts still
abbrev pub IsLongSetup : Names → ℕ → Type 0
IsLongSetup names most = acts names (told_after names (replicate most 0)) 0 ≡ true
