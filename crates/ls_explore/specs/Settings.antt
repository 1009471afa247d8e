-- How a setup goes.
use Rattle.std.specs.Prelude.{◌≡◌, ◌⊎◌, ℕ, ◌<◌, ◌≤◌, map, replicate, true, false}
use Rattle.ls_checked.specs.CheckedTree.{File}
use Rattle.ls_checked.specs.CheckedProgram.{Program}
use Rattle.ls_meaning.specs.Runs.{source_run, source_trace}
use Rattle.ls_preservation.specs.Translations.{has_setup_ended}
use Rattle.ls_explore.specs.Stuck.{IsStuck}
use Rattle.ls_explore.specs.declared.setting.Setting.{Setting}
use Rattle.ls_explore.specs.declared.setting.Setting.TheVariants.{Ends, Sticks, GoesOn}

-- the setup's source ends with so many of its steps, and not before that; each of them acts
pub record EndsAt (file : File) (program : Program) (k : ℕ) : Type 0 where
  pub ended : has_setup_ended file program (source_run file program (replicate k 0)) ≡ true
  pub before : (j : ℕ) → j < k → has_setup_ended file program (source_run file program (replicate j 0)) ≡ false
  pub acts : map (λ e. e.thread) (source_trace file program (replicate k 0)) ≡ replicate k 0

-- it has not ended with fewer steps
abbrev pub GoesOnAfter : File → Program → ℕ → Type 0
GoesOnAfter file program k = (j : ℕ) → j < k → has_setup_ended file program (source_run file program (replicate j 0)) ≡
    false

-- it has not ended with fewer steps than these, each of which acts
pub record GoesOnFor (file : File) (program : Program) (k : ℕ) : Type 0 where
  pub before : GoesOnAfter file program k
  pub acts : map (λ e. e.thread) (source_trace file program (replicate k 0)) ≡ replicate k 0

-- it stands still after so many steps, each of which acts, and has not ended
pub record SticksAt (file : File) (program : Program) (k : ℕ) : Type 0 where
  pub stuck : IsStuck file program k
  pub acts : map (λ e. e.thread) (source_trace file program (replicate k 0)) ≡ replicate k 0

-- it ends, or stands still, after so many steps
abbrev pub StopsAt : File → Program → ℕ → Type 0
StopsAt file program k = EndsAt file program k ⊎ SticksAt file program k

abbrev pub IsSetting : File → Program → Setting → Type 0
IsSetting file program (Ends k) = EndsAt file program k
IsSetting file program (Sticks k) = SticksAt file program k
IsSetting file program GoesOn = GoesOnFor file program 100001

-- it ends, or stands still, after at most 100,000 steps
abbrev pub IsFew : Setting → Type 0
IsFew (Ends k) = k ≤ 100000
IsFew (Sticks k) = k ≤ 100000
IsFew GoesOn = Unit {0}
