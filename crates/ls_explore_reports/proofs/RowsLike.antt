-- Rows all of which are known to be linearizable to a specification.
use Rattle.std.proofs.Common.{◌≡◌, ◌∙◌, ℕ, zero, suc, ◌<◌, true, false, List, [], ◌∷◌, length}
use Rattle.std.proofs.Common.{refl, sym, subst, arith, get_or, Contains}
use Rattle.ls_events.specs.declared.event.Event.{Event}
use Rattle.ls_checked.specs.CheckedTree.{File}
use Rattle.ls_checked.specs.CheckedProgram.{Program}
use Rattle.ls_meaning.specs.Runs.{source_history}
use Rattle.ls_explore.specs.Rows.{Told}
use Rattle.ls_explore_reports.specs.Laws.{EachIsLike, NoneIsUnlike, NoneIsUnlikeThatFits}
use Rattle.ls_explore_reports.specs.Rows.{histories}
use Rattle.ls_linearity.specs.Meant.{IsMeant}
use Rattle.ls_linearity.specs.declared.judging.Linearity.{Linearity}
use Rattle.ls_linearity.specs.declared.judging.Linearity.TheVariants as linearities
use Rattle.ls_explore_reports.specs.Judged.{AreMeant, Judged, are_known, count_not_linearizable}
use Rattle.ls_explore_reports.specs.Judged.{is_known, is_not_linearizable, rows_of}
use Rattle.ls_linearizable.specs.Linearizable.{IsLinearizable}
use Rattle.ls_linearizable.proofs.Linearizing.{begun_linearizable}
use Rattle.ls_explore_reports.proofs.Known.{both, parts, row_at, same_length, some_row}
use Rattle.ls_explore_reports.proofs.RowsTold.{all_of_histories, told_begins}

module _ (file : File) (program : Program) where
  so_of : (h : List Event) (l : Linearity) →
      is_known l ≡ true →
      is_not_linearizable l ≡ false →
      IsMeant file program h l →
      IsLinearizable file program h
  so_of h linearities.Linearizable known none is = is
  so_of h linearities.NotLinearizable known none is = absurd cc
  so_of h linearities.LongCall known none is = absurd cc
  so_of h linearities.ManyStates known none is = absurd cc

  at_place : (js : List Judged) (k : ℕ) (d : Judged) →
      k < length js →
      ((n : ℕ) (x : Judged) → n < length js →
      IsMeant file program (get_or js n x).row.history (get_or js n x).linearity) →
      are_known js ≡ true →
      count_not_linearizable js ≡ 0 →
      IsLinearizable file program (get_or js k d).row.history
  at_place [] k d lt all known none = absurd (omega arith)
  at_place (j ∷ js) zero d lt all known none =
      so_of j.row.history j.linearity (both (is_known j.linearity) (are_known js) known).0
      (parts j js (is_not_linearizable j.linearity) refl none).0 (all 0 d lt)
  at_place (j ∷ js) (suc k) d lt all known none =
      at_place js k d (omega arith) (λ n x less. all (suc n) x (omega arith))
      (both (is_known j.linearity) (are_known js) known).1
      (parts j js (is_not_linearizable j.linearity) refl none).1

  rows_are : (js : List Judged) →
      AreMeant file program js →
      are_known js ≡ true →
      count_not_linearizable js ≡ 0 →
      (r : Told) →
      Contains (rows_of js) r →
      IsLinearizable file program r.history
  rows_are js all known none = λ r there.
      let d : Judged = some_row js there.0 there.1 in
      let lt : there.0 < length js = omega (arith, there.1, same_length js) in
      let is : (get_or js there.0 d).row ≡ r = sym (row_at js there.0 d r lt) ∙ there.2 in
      subst (λ (x : Told). IsLinearizable file program x.history) is (at_place js there.0 d lt all known none)

-- where the rows tell of every schedule, each schedule's history is linearizable to it
pub each_like : EachIsLike
each_like sfile sprogram file program rows whole linear schedule =
    begun_linearizable sfile sprogram (histories rows) (all_of_histories sfile sprogram rows linear)
    (source_history file program schedule)
    (told_begins rows (source_history file program schedule) (whole.begun schedule))

pub none_unlike : NoneIsUnlike
none_unlike sfile sprogram file program judged meant known none whole schedule =
    each_like sfile sprogram file program (rows_of judged) whole (rows_are sfile sprogram judged meant known none)
    schedule

-- where they tell of every schedule that fits the cells, that of each of these is
pub none_unlike_that_fits : NoneIsUnlikeThatFits
none_unlike_that_fits sfile sprogram file program cells judged meant known none all schedule fits =
    begun_linearizable sfile sprogram (histories (rows_of judged))
    (all_of_histories sfile sprogram (rows_of judged) (rows_are sfile sprogram judged meant known none))
    (source_history file program schedule)
    (told_begins (rows_of judged) (source_history file program schedule) (all.begun schedule fits))
