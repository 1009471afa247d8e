-- A run with one step more that acts.
use Rattle.std.proofs.Common.{◌≡◌, ℕ, true, List, [], ◌∷◌, ◌++◌, sym, subst}
use Rattle.ls_checked.specs.CheckedTree.{File}
use Rattle.ls_checked.specs.CheckedProgram.{Program}
use Rattle.ls_meaning.specs.declared.step.Did.{Did}
use Rattle.ls_meaning.specs.declared.step.Did.TheVariants as did
use Rattle.ls_meaning.specs.Runs.{source_run, step}
use Rattle.ls_meaning.specs.Still.{IsActing, has_acted}
use Rattle.ls_search_laws.specs.Stepping.{ActAll}
use Rattle.ls_search_laws.proofs.Acting.{acts_more}
use Rattle.ls_search.specs.Runs.{progress_at}
use Rattle.ls_search.proofs.Progressing.{gone}
use Rattle.ls_source.specs.Progress.{Progress, gone_on}
use Rattle.ls_source.specs.Stands.{StandsFor}
use Rattle.ls_source.specs.declared.playing.Playing.{Playing}

acting_of : (d : Did) → has_acted d ≡ true → IsActing d
acting_of (did.Acted action answer) e = tt
acting_of did.Waits e = absurd cc
acting_of did.Idle e = absurd cc

module _ (file : File) (program : Program) (steps : List ℕ) (t : ℕ) (after : List ℕ)
    (is : after ≡ steps ++ t ∷ []) where
  pub stands_more : (playing : Playing) → StandsFor playing (gone_on (progress_at file program steps) t) →
      StandsFor playing (progress_at file program after)
  stands_more playing stands =
      subst (λ (s : List ℕ). StandsFor playing (progress_at file program s)) (sym is)
      (subst (λ (p : Progress). StandsFor playing p) (gone file program steps t) stands)

  pub acts_on : (d : Did) → d ≡ (step file program (source_run file program steps) t).did → has_acted d ≡ true →
      ActAll file program steps →
      ActAll file program after
  acts_on d at acted acts =
      subst (λ (s : List ℕ). ActAll file program s) (sym is)
      (acts_more file program steps t acts (subst IsActing at (acting_of d acted)))
