-- What is bad isn't linearizable, and what isn't bad is.
use Rattle.std.proofs.Common.{◌≡◌, Bool, false, List, [], ◌∷◌, ap, subst, sym, ◌∙◌}
use Rattle.std.proofs.Common.{ℕ}
use Rattle.std.specs.List.{fold}
use Rattle.std.specs.declared.vec.Vec.{Vec}
use Rattle.std.specs.declared.alloc.Global.{Global}
use Rattle.ls_checked.specs.CheckedTree.{File}
use Rattle.ls_checked.specs.CheckedProgram.{Program}
use Rattle.ls_meaning.specs.Runs.{source_history}
use Rattle.ls_events.specs.declared.event.Event.{Event}
use Rattle.ls_linearizable.specs.Judging.{later, now}
use Rattle.ls_serial_search.specs.Open.{HasLongCall}
use Rattle.ls_serial_search.specs.Told.{IsDoubt}
use Rattle.ls_serial_search.specs.declared.telling.Bounds.{Bounds}
use Rattle.ls_serial_search.specs.declared.telling.Doubt.{Doubt}
use Rattle.ls_serial_search.specs.declared.telling.Doubt.TheVariants as doubts
use Rattle.ls_automaton.specs.declared.outcome.Outcome.{Outcome}
use Rattle.ls_automaton.specs.Held.{first_held, leaves_none}
use Rattle.ls_automaton.specs.Merged.{AreMerged}
use Rattle.ls_automaton.specs.Tables.{AreOutcomes}
use Rattle.ls_source_judge.proofs.Deciding.{bad_is_not, bad_not_within, good_is}
use Rattle.ls_automaton.proofs.Once.{once}
use Rattle.ls_source_judge.specs.Judged.{IsUnexplained}
use Rattle.ls_source_judge.specs.Laws.{BadAreNotJudged, BadAreNotLinearizable, GoodAreLinearizable, is_bad}
use Rattle.ls_source_judge.specs.Watched.{first_pairs}
use Rattle.ls_source_judge.specs.declared.watched.PairsObserver.{PairsObserver}

module _ (o : PairsObserver) (sfile : File) (sprogram : Program) (bound : ℕ) (goes_on : Bool)
    (rows merged : List (Vec Outcome Global)) (own : o.rows.items ≡ merged) (first : first_pairs o ≡ first_held ∷ [])
    (are : AreOutcomes sfile sprogram bound goes_on rows)
    (joined : AreMerged rows merged) where
  bad_as : (h : List Event) → is_bad o h ≡ now (fold later (leaves_none merged (first_held ∷ [])) h)
  bad_as h =
      ap (λ r. now (fold later (leaves_none r (first_pairs o)) h)) own
      ∙ ap (λ p. now (fold later (leaves_none merged p) h)) first

  pub good_are : GoodAreLinearizable o sfile sprogram
  good_are file program schedule good =
      let h : List Event = source_history file program schedule in
      good_is sfile sprogram bound goes_on rows are merged joined h (once file program schedule) (sym (bad_as h) ∙ good)

  pub bad_are_not : goes_on ≡ false → BadAreNotLinearizable o sfile sprogram
  bad_are_not known file program schedule bad =
      let h : List Event = source_history file program schedule in
      bad_is_not sfile sprogram bound goes_on rows are merged joined h (once file program schedule) known
      (sym (bad_as h) ∙ bad)

  pub bad_not_judged : HasLongCall sfile sprogram bound → (d : Doubt) → d ≡ doubts.LongCall →
      BadAreNotJudged o sfile sprogram bound d
  bad_not_judged long d is file program schedule bad =
      let h : List Event = source_history file program schedule in
      subst (λ x. IsUnexplained sfile sprogram bound x h) (sym is)
      (record {
        long = long;
        unexplained =
            bad_not_within sfile sprogram bound goes_on rows are merged joined h (once file program schedule)
            (sym (bad_as h) ∙ bad);
      })

-- a call that goes on is the doubt
pub is_long : (file : File) (program : Program) (bounds : Bounds) (d : Doubt) → d ≡ doubts.LongCall →
    HasLongCall file program bounds.steps → IsDoubt file program bounds d
is_long file program bounds d is long = subst (IsDoubt file program bounds) (sym is) long
