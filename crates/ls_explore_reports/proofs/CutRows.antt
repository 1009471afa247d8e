-- Rows without a legal order, and the one that is cut first.
use Rattle.std.proofs.Common.{◌≡◌, ◌∙◌, ◌<◌, ◌≤◌, ◌+◌, ◌&&◌, Option, ℕ, suc, Bool, true, false, cond, List, [], ◌∷◌}
use Rattle.std.proofs.Common.{◌++◌, None, Some}
use Rattle.std.proofs.Common.{length, filter, take, refl, sym, ap, subst, arith, get_or, slice_get, true≢false}
use Rattle.std.proofs.lemmas.List.{get_or-map, length-map, length-take-le, map-append, take_more}
use Rattle.std.proofs.lemmas.Option.{same_Some, slice_get-get_or, slice_get-map, slice_get_within}
use Rattle.std.specs.Prelude.{All, IfOk, IsErrOf, Result, Ok, Err, option_map}
use Rattle.ls_events.specs.declared.event.Event.{Event as RunEvent}
use Rattle.ls_checked.specs.CheckedTree.{File}
use Rattle.ls_checked.specs.CheckedProgram.{Program}
use Rattle.ls_meaning.specs.Runs.{source_history}
use Rattle.ls_verdicts.specs.Cuts.{IsCut, IsLeast, IsLeastOf}
use Rattle.ls_verdicts.specs.declared.least.Cut.{Cut}
use Rattle.ls_verdicts.specs.Hopeless.{IsIllegal}
use Rattle.ls_verdicts.specs.Verdicts.{IsVerdict}
use Rattle.ls_verdicts.specs.declared.verdicts.Verdict.{Verdict}
use Rattle.ls_verdicts.specs.declared.verdicts.Verdict.TheVariants as verdicts
use Rattle.ls_verdicts.proofs.Illegal.{only_verdict}
use Rattle.ls_events.specs.Limits.{most_steps}
use Rattle.ls_explore.specs.Tellings.{schedule_of}
use Rattle.ls_explore_reports.specs.Cuts.{IsLeastCut, IsSo, schedules_of}
use Rattle.ls_explore_reports.specs.Shortest.{IsCutOf}
use Rattle.ls_explore_reports.specs.Judged.{Judged, count_illegal, is_illegal, rows_of}
use Rattle.ls_explore_reports.specs.Long.{HasLong}

illegal_is : (v : Verdict) → is_illegal v ≡ true → v ≡ verdicts.Illegal
illegal_is verdicts.Illegal e = refl
illegal_is verdicts.Legal e = absurd cc
illegal_is verdicts.NotOneSet e = absurd cc
illegal_is verdicts.TooManyTrapped e = absurd cc

module _ (file : File) (program : Program) (k : ℕ) where
  -- the history of the row's schedule
  abbrev history : Judged → List RunEvent
  history j = source_history file program (schedule_of k j.row)

  illegal_so : (j : Judged) → IsSo file program k j → j.verdict ≡ verdicts.Illegal → IsIllegal program (history j)
  illegal_so j so e = subst (λ (h : List RunEvent). IsIllegal program h) so.history
      (subst (λ (v : Verdict). IsVerdict program j.row.history v) e so.verdict)

  verdict_so : (j : Judged) → IsSo file program k j → IsIllegal program (history j) → j.verdict ≡ verdicts.Illegal
  verdict_so j so is = only_verdict program (history j) j.verdict
      (subst (λ (h : List RunEvent). IsVerdict program h j.verdict) so.history so.verdict) is

  -- a row with another verdict isn't illegal
  pub not_illegal : (j : Judged) → IsSo file program k j → is_illegal j.verdict ≡ false →
      ¬ IsIllegal program (history j)
  not_illegal j so other = λ is. true≢false (sym (ap is_illegal (verdict_so j so is)) ∙ other)

  pub is_one : (j : Judged) → IsSo file program k j → is_illegal j.verdict ≡ true → IsIllegal program (history j)
  is_one j so is = illegal_so j so (illegal_is j.verdict is)

  -- where none of the schedules is illegal, none of the rows is counted
  none_more : (j : Judged) (js : List Judged) (b : Bool) → is_illegal j.verdict ≡ b → IsSo file program k j →
      IsLeastOf file program (schedules_of k (j ∷ js)) None → count_illegal js ≡ 0 →
      length (cond b (j ∷ filter (λ (x : Judged). is_illegal x.verdict) js)
      (filter (λ (x : Judged). is_illegal x.verdict) js)) ≡ 0
  none_more j js true e so none rest = absurd (none 0 (schedule_of k j.row) refl (is_one j so e))
  none_more j js false e so none rest = rest

  none_of : (js : List Judged) →
      ((n : ℕ) (x : Judged) → n < length js → IsSo file program k (get_or js n x)) →
      IsLeastOf file program (schedules_of k js) None → count_illegal js ≡ 0
  none_of [] all none = refl
  none_of (j ∷ js) all none = none_more j js (is_illegal j.verdict) refl (all 0 j (omega arith)) none
      (none_of js (λ n x lt. all (suc n) x (omega arith)) (λ p other at. none (suc p) other at))

  module _ (judged : List Judged) (all : All (IsSo file program k) judged) where
    pub none_counted : IsLeastOf file program (schedules_of k judged) None → count_illegal judged ≡ 0
    none_counted none = none_of judged (λ n x lt. all n x lt) none

    schedule_at : (n : ℕ) (d : Judged) → n < length judged →
        slice_get (schedules_of k judged) n ≡ Some (schedule_of k (get_or judged n d).row)
    schedule_at n d lt = slice_get-map (λ (j : Judged). schedule_of k j.row) judged n
        ∙ ap (λ o. option_map (λ (j : Judged). schedule_of k j.row) o) (slice_get-get_or judged n d lt)

    module _ (c : Cut) (so : IsLeast file program (schedules_of k judged) c) where
      pub place_within : c.place < length judged
      place_within = let lt = slice_get_within (schedules_of k judged) c.place so.schedule so.there in
          let same = length-map judged (λ (j : Judged). schedule_of k j.row) in omega arith

      module _ (row : Judged) (at : row ≡ get_or judged c.place row) where
        pub schedule_is : so.schedule ≡ schedule_of k row.row
        schedule_is = same_Some so.schedule (schedule_of k row.row) (sym so.there
            ∙ schedule_at c.place row place_within ∙ ap (λ (j : Judged). Some (schedule_of k j.row)) (sym at))

        pub row_so : IsSo file program k row
        row_so = subst (IsSo file program k) (sym at) (all c.place row place_within)

        pub cut_is : IsCut file program (schedule_of k row.row) c.steps
        cut_is = subst (λ ts. IsCut file program ts c.steps) schedule_is so.cut

        -- the row at its place is the one that is cut first
        pub least_cut : IsLeastCut file program k judged row c.steps
        least_cut = record {
          there = (c.place, place_within, sym at);
          illegal = verdict_so row row_so
              (subst (λ ts. IsIllegal program (source_history file program ts)) schedule_is so.illegal);
          cut = cut_is;
          least = λ n d lt e m less. so.least n (schedule_of k (get_or judged n d).row) (schedule_at n d lt)
              (illegal_so (get_or judged n d) (all n d lt) e) m less;
        }

        -- and its first steps are those of an illegal row
        pub cut_of : (schedule : List ℕ) → schedule ≡ take c.steps (schedule_of k row.row) →
            IsCutOf file program judged schedule
        cut_of schedule first = record {
          row = row;
          there = least_cut.there;
          illegal = least_cut.illegal;
          whole = schedule_of k row.row;
          history = row_so.history;
          steps = c.steps;
          cut = cut_is;
          first = first;
        }

-- the schedules of one row more
pub schedules_more : (k : ℕ) (judged : List Judged) (i : ℕ) (j : Judged) → i < length judged → j ≡ get_or judged i j →
    schedules_of k (take (i + 1) judged) ≡ schedules_of k (take i judged) ++ schedule_of k j.row ∷ []
schedules_more k judged i j lt at =
    ap (schedules_of k) (take_more judged i j lt ∙ ap (λ (x : Judged). take i judged ++ x ∷ []) (sym at))
    ∙ map-append (λ (x : Judged). schedule_of k x.row) (take i judged) (j ∷ [])

pub as_many_schedules : (k : ℕ) (judged : List Judged) (i : ℕ) → i ≤ length judged →
    length (schedules_of k (take i judged)) ≡ i
as_many_schedules k judged i le = length-map (take i judged) (λ (j : Judged). schedule_of k j.row)
    ∙ length-take-le i judged le

-- ---- what is printed

pub if_ok : {A E : Type 0} (r : Result A E) (P Q : A → Type 0) → ((x : A) → P x → Q x) → IfOk r P → IfOk r Q
if_ok (Ok x) P Q f h = f x h
if_ok (Err e) P Q f h = tt

-- the same error of a result of another type
pub as_error : {A B E : Type 0} (e f : E) → IsErrOf {T = A} (Err e) f → IsErrOf {T = B} (Err e) f
as_error {A} {B} {E} e f h = ap (λ (x : E). Err x) (inner h)
  where
    inner : IsErrOf {T = A} (Err e) f → e ≡ f
    inner k = cc

pub some_wanted : (wanted : Bool) (o : Option Cut) (c : Cut) → (wanted ≡ false → o ≡ None) → o ≡ Some c → wanted ≡ true
some_wanted true o c none some = refl
some_wanted false o c none some = absurd (apart (sym (none refl) ∙ some))
  where
    apart : None ≡ Some c → ⊥
    apart e = cc

pub both : (a b : Bool) → (a && b) ≡ true → (a ≡ true) × (b ≡ true)
both true b e = (refl, e)
both false b e = absurd cc

pub together : (a b : Bool) → a ≡ true → b ≡ true → (a && b) ≡ true
together true b e f = f
together false b e f = absurd cc

-- one of the rows has a long schedule
pub long_there : (k : ℕ) (judged : List Judged) (n : ℕ) (row : Judged) → n < length judged → row ≡ get_or judged n row →
    most_steps < length (schedule_of k row.row) → HasLong k (rows_of judged)
long_there k judged n row lt at long = (row.row, (n, few, is), long)
  where
    few : n < length (rows_of judged)
    few = omega (arith, lt, length-map judged (λ (j : Judged). j.row))

    is : get_or (rows_of judged) n row.row ≡ row.row
    is = get_or-map (λ (j : Judged). j.row) judged n row row.row lt ∙ ap (λ (j : Judged). j.row) (sym at)
