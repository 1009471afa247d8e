-- Schedules each of whose steps acts, one step more.
use Rattle.std.proofs.Common.{◌≡◌, ◌≤◌, ◌&&◌, ◌++◌, ◌∷◌, ℕ, Bool, true, false, List, []}
use Rattle.std.proofs.Common.{Option, None, Some, length, arith}
use Rattle.std.specs.Prelude.{is_some}
use Rattle.std.proofs.Common.{refl, sym, subst}
use Rattle.ls_checked.specs.CheckedTree.{File}
use Rattle.ls_checked.specs.CheckedProgram.{Program}
use Rattle.ls_labels.specs.Names.{Names}
use Rattle.ls_meaning.specs.Still.{IsActing}
use Rattle.ls_search.specs.Runs.{progress_at}
use Rattle.ls_source.specs.Progress.{Progress}
use Rattle.ls_search_laws.proofs.Acting.{acts_more}
use Rattle.ls_fewest_switches.proofs.Ending.{did_at}
use Rattle.ls_explore.specs.Rows.{ActAll}
use Rattle.ls_explore_reports.specs.Shortest.{ActsNext, IsKnown, IsShortestIllegal}
use Rattle.ls_explore_reports.specs.declared.printing.Exploring.{Exploring}

-- a thread that acts after the run after a schedule acts after the schedule
pub goes_after : (file : File) (program : Program) (steps : List ℕ) (r : Progress) →
    r ≡ progress_at file program steps → ActAll file program steps → ActsNext r →
    (t : ℕ) × ActAll file program (steps ++ t ∷ [])
goes_after file program steps r at all acts = (
  acts.0,
  acts_more file program steps acts.0 all (subst (λ (q : Progress). IsActing (did_at q acts.0)) at acts.1),
)

-- it is known only if all these say so
pub known_of : (names : Names) (e : Exploring) (schedule : List ℕ) (known shortest whole decided : Bool) →
    known ≡ (shortest && (whole && decided)) →
    e.cells ≡ None →
    (shortest ≡ true → whole ≡ true → decided ≡ true → IsShortestIllegal names.file names.program schedule) →
    IsKnown known names e schedule
known_of names e schedule known true true true is none so =
    subst (λ b. IsKnown b names e schedule) (sym is) (none, so refl refl refl)
known_of names e schedule known false whole decided is none so = subst (λ b. IsKnown b names e schedule) (sym is) tt
known_of names e schedule known true false decided is none so = subst (λ b. IsKnown b names e schedule) (sym is) tt
known_of names e schedule known true true false is none so = subst (λ b. IsKnown b names e schedule) (sym is) tt

-- a schedule that is no longer is a shortest one too
pub as_short : (file : File) (program : Program) (one other : List ℕ) → length other ≤ length one →
    IsShortestIllegal file program one →
    IsShortestIllegal file program other
as_short file program one other le short = λ s i. let few = short s i in omega (arith, few, le)

pub no_cells : (o : Option ℕ) → is_some o ≡ false → o ≡ None
no_cells None e = refl
no_cells (Some n) e = absurd cc
