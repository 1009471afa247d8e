-- What rows by where runs stand say of runs.
use Rattle.std.proofs.Common.{◌≡◌, ℕ, ◌<◌, List, length, refl, sym, ap, ◌∙◌, subst, Option, None, Some, arith}
use Rattle.std.specs.Prelude.{slice_get}
use Rattle.std.specs.Option.{option_and_then}
use Rattle.ls_graph.proofs.Lists.{below, there}
use Rattle.ls_labels.specs.Names.{Names}
use Rattle.ls_meaning.specs.declared.step.Did.{Did}
use Rattle.ls_trace.specs.Told.{Told, after_step}
use Rattle.ls_choices.specs.Reaching.{IsClosed, target_in}
use Rattle.ls_choices.specs.Rows.{AreCut, AreRows, AreRowsOfAll, Row}
use Rattle.ls_choices.specs.Schedules.{is_action, is_waiting, told_after}
use Rattle.ls_choices.specs.Standing.{AreReached, Standing, standing_after}
use Rattle.ls_choices.specs.StandingRows.{AreStandingRowsOfAll}
use Rattle.ls_choices.proofs.Standing.{alike_there, did_there, stands_after}

-- the rows of the states are those of the runs along their paths
pub rows_told : (names : Names) (states : List Standing) (paths : List (List ℕ)) (all : List (List Row)) →
    AreReached names states paths → AreStandingRowsOfAll names states all → AreRowsOfAll names paths all
rows_told names states paths all reached are number path rows found at thread row here =
    let s = there states number (let w = below paths number path found in omega (arith, w, reached.many)) in
    let r : Told = told_after names path in
    let stands = reached.each number s.0 path s.1 found in
    let is = are number s.0 rows s.1 at thread row here in
    let did = did_there names s.0 r thread stands in
    record {
      words = is.words r stands;
      acts = is.acts ∙ sym (ap is_action did);
      waits = is.waits ∙ sym (ap is_waiting did);
      leads = λ to e.
          let kept = is.leads to e in
          let other = there paths to (let w = below states to (standing_after names.file s.0 thread) kept in
          omega (arith, w, reached.many)) in
          record {
            path = other.0;
            found = other.1;
            alike = alike_there names (standing_after names.file s.0 thread) (after_step names r thread)
                (told_after names other.0) (stands_after names s.0 r thread stands)
                (reached.each to (standing_after names.file s.0 thread) other.0 kept other.1);
          };
    }

-- what is cut only where one thing holds is cut only where another does that follows from it
pub cut_weaker : (F G : Type 0) (all : List (List Row)) → (F → G) → AreCut F all → AreCut G all
cut_weaker F G all more h i rows at t row here none = more (h i rows at t row here none)

-- where a row leads to a number, that is the number of a path
target_is_path : (names : Names) (paths : List (List ℕ)) (r : Told) (rows : List Row) (thread to : ℕ) →
    AreRows names paths r rows → target_in rows thread ≡ Some to → to < length paths
target_is_path names paths r rows thread to h e = by_found (slice_get rows thread) refl e
  where
    by_found : (o : Option Row) → slice_get rows thread ≡ o → option_and_then (λ row. row.to) o ≡ Some to →
        to < length paths
    by_found None at is = cc
    by_found (Some row) at is = let l = (h thread row at).leads to is in below paths to l.path l.found

-- where each path has its rows, steps lead to states that have rows
pub closed_there : (names : Names) (first : List ℕ) (paths : List (List ℕ)) (all : List (List Row)) →
    slice_get paths 0 ≡ Some first → length paths ≡ length all → AreRowsOfAll names paths all →
    IsClosed (record { paths = paths; rows = all })
closed_there names first paths all begins same rows_are = record {
  begins = let one = below paths 0 first begins in omega (arith, one, same);
  within = λ number thread to rows found e.
      let at = below all number rows found in
      let path = there paths number (omega (arith, at, same)) in
      let far = target_is_path names paths (told_after names path.0) rows thread to
      (rows_are number path.0 rows path.1 found) e in
      omega (arith, far, same);
}
