-- What rows of the source tell, as rows of an image.
use Rattle.std.proofs.Common.{◌≡◌, ◌≢◌, ℕ, ◌+◌, ◌<◌, ◌≤◌, Bool, true, false, List, [], ◌∷◌, ◌++◌, length}
use Rattle.std.proofs.Common.{map, refl, sym, ap}
use Rattle.std.proofs.Common.{◌∙◌, subst, arith, replicate}
use Rattle.std.specs.Prelude.{Contains, IsSorted}
use Rattle.std.specs.Ordering.{is_lt}
use Rattle.std.proofs.lemmas.List.{length-map}
use Rattle.ls_events.specs.Beginnings.{IsBeginning}
use Rattle.ls_events.specs.declared.event.Event.{Event}
use Rattle.ls_checked.specs.CheckedTree.{File}
use Rattle.ls_checked.specs.CheckedProgram.{Program}
use Rattle.ls_meaning.specs.Runs.{source_history, source_run}
use Rattle.ls_meaning.specs.Still.{IsOver}
use Rattle.ls_source_rows.specs.Rows as rows
use Rattle.ls_source_rows.specs.declared.rows.Ending.{Ending as SourceEnding}
use Rattle.ls_source_rows.specs.declared.rows.Ending.TheVariants as source
use Rattle.ls_source_rows.specs.declared.rows.Row.{Row as SourceRow}
use Rattle.ls_search.specs.Verdicts.{IsCut}
use Rattle.ls_search_laws.proofs.Acting.{acts_more}
use Rattle.ls_explore.specs.declared.rows.Ending.{Ending}
use Rattle.ls_explore.specs.declared.rows.Ending.TheVariants as ending
use Rattle.ls_explore.specs.Rows.{ActAll, AreApart, HasEnd, IsEnd, IsToldBy, NoneEnds, StandAlone, TellStates, Told}
use Rattle.ls_explore.specs.Rows.{row_order}
use Rattle.ls_explore.specs.Sources.{TellSource, ending_of, told_of}
use Rattle.ls_explore.specs.Tellings.{TellTruth, TellWhole, schedule_of}
use Rattle.ls_explore.proofs.Mapped.{image_there, index_image, item, mapped}

-- ---- how rows end

module _ (file : File) (program : Program) (schedule : List ℕ) where
  goes_so : rows.ActAll file program schedule → (e : SourceEnding) → rows.EndsAs file program schedule e →
      ending_of e ≡ ending.GoesOn →
      (t : ℕ) × ActAll file program (schedule ++ t ∷ [])
  goes_so acts source.GoesOn h is = (h.0, acts_more file program schedule h.0 acts h.1)
  goes_so acts source.Ended h is = absurd cc
  goes_so acts source.Waiting h is = absurd cc
  goes_so acts source.NotSeen h is = absurd cc

  over_so : (e : SourceEnding) → rows.EndsAs file program schedule e → ending_of e ≡ ending.Over →
      IsOver file program (source_run file program schedule)
  over_so source.Ended h is = h.over
  over_so source.Waiting h is = h.over
  over_so source.GoesOn h is = absurd cc
  over_so source.NotSeen h is = absurd cc

ends_so : (e : SourceEnding) → rows.IsEnd e → IsEnd (ending_of e)
ends_so source.Ended h = tt
ends_so source.Waiting h = tt
ends_so source.GoesOn h = absurd h
ends_so source.NotSeen h = absurd h

seen_so : (e : SourceEnding) → e ≢ source.NotSeen → ending_of e ≢ ending.NotSeen
seen_so source.Ended h is = cc
seen_so source.Waiting h is = cc
seen_so source.GoesOn h is = cc
seen_so source.NotSeen h is = h refl

in_cells : (e : SourceEnding) → ending_of e ≢ ending.OutOfCells
in_cells source.Ended is = cc
in_cells source.Waiting is = cc
in_cells source.GoesOn is = cc
in_cells source.NotSeen is = cc

-- ---- rows

module _ (all : List SourceRow) where
  abbrev told : List Told
  told = map told_of all

  of_row : (r : Told) → Contains told r → (s : SourceRow) × Contains all s × (told_of s ≡ r)
  of_row r there = mapped told_of all r there

  seen : ((r : SourceRow) → Contains all r → r.ending ≢ source.NotSeen) → NoneEnds ending.NotSeen told
  seen h r there is =
      let s = of_row r there in seen_so s.0.ending (h s.0 s.1) (ap (λ (x : Told). x.ending) s.2 ∙ is)

  cells : NoneEnds ending.OutOfCells told
  cells r there is = let s = of_row r there in in_cells s.0.ending (ap (λ (x : Told). x.ending) s.2 ∙ is)

  alone : rows.StandAlone all → StandAlone told
  alone h r s r_there s_there =
      let a = of_row r r_there in
      let b = of_row s s_there in
      subst (λ (x : Told). (IsEnd x.ending → ⊥) → IsBeginning x.history s.history → x.history ≡ s.history) a.2
      (subst (λ (y : Told). (IsEnd (told_of a.0).ending → ⊥) → IsBeginning a.0.history.items y.history →
      a.0.history.items ≡ y.history) b.2
      (λ unended begins. h a.0 b.0 a.1 b.1 (λ end. unended (ends_so a.0.ending end)) begins))

  many : length told ≡ length all
  many = length-map all told_of

  apart : rows.AreApart all → AreApart told
  apart h i j d less within same =
      let j_within : j < length all = omega (arith, within, many) in
      let a : SourceRow = item told_of all j j_within in
      h i j a less j_within
      (sym (ap (λ (x : Told). x.history) (index_image told_of all i d a (omega (arith, less, j_within))))
      ∙ same
      ∙ ap (λ (x : Told). x.history) (index_image told_of all j d a j_within))

  order : IsSorted rows.row_order all → IsSorted row_order told
  order h k d low high =
      let within : k + 1 < length all = omega (arith, high, many) in
      let a : SourceRow = item told_of all (k + 1) within in
      (λ i. is_lt (row_order (index_image told_of all (k + 1) d a within i)
      (index_image told_of all k d a (omega (arith, within)) i)))
      ∙ h k a low within

  begun_so : (h : List Event) → rows.IsBegun all h → IsToldBy told h
  begun_so h b = record { row = told_of b.row; there = image_there told_of all b.row b.there; begins = b.begins }

  end_so : (h : List Event) → rows.HasEnd all h → HasEnd told h
  end_so h e = record {
    row = told_of e.row;
    there = image_there told_of all e.row e.there;
    same = e.same;
    ends = ends_so e.row.ending e.ends;
  }

  module _ (file : File) (program : Program) (k : ℕ) where
    truth : rows.AreTrue file program k all → TellTruth file program k told
    truth h = record {
      told = λ r there.
          let s = of_row r there in
          subst (λ (x : Told). x.history ≡ source_history file program (schedule_of k x)) s.2 (h s.0 s.1).history;
      acts = λ r there.
          let s = of_row r there in
          subst (λ (x : Told). ActAll file program (schedule_of k x)) s.2 (h s.0 s.1).acts;
      goes = λ r there.
          let s = of_row r there in
          subst (λ (x : Told). x.ending ≡ ending.GoesOn → (t : ℕ) × ActAll file program (schedule_of k x ++ t ∷ []))
          s.2 (goes_so file program (rows.schedule_of k s.0) (h s.0 s.1).acts s.0.ending (h s.0 s.1).ends);
      over = λ r there.
          let s = of_row r there in
          subst (λ (x : Told). x.ending ≡ ending.Over → IsOver file program (source_run file program (schedule_of k x)))
          s.2 (over_so file program (rows.schedule_of k s.0) s.0.ending (h s.0 s.1).ends);
    }

    states : (kept : ℕ) → rows.TellStates file program k all kept → TellStates file program k told kept
    states kept h = record {
      paths = h.paths;
      many = h.many;
      apart = h.apart;
      acts = h.acts;
      told = λ path there. begun_so (source_history file program (replicate k 0 ++ path)) (h.told path there);
      own = λ r there. let s = of_row r there in subst (λ (x : Told). Contains h.paths x.path) s.2 (h.own s.0 s.1);
    }

    whole : rows.TellWhole file program all → TellWhole file program told
    whole h = record {
      begun = λ schedule. begun_so (source_history file program schedule) (h.begun schedule);
      ended = λ schedule over. end_so (source_history file program schedule) (h.ended schedule over);
    }

    pub tell_source : (limit kept : ℕ) (complete : Bool) → rows.AreTrue file program k all → rows.AreApart all →
        rows.StandAlone all → IsSorted rows.row_order all → rows.TellStates file program k all kept →
        (complete ≡ true → rows.TellWhole file program all) → (complete ≡ false → IsCut file program limit k kept) →
        kept ≤ limit →
        TellSource file program limit k (map told_of all) kept complete
    tell_source limit kept complete is_true is_apart is_alone is_ordered kept_so tells cut few = record {
      truth = truth is_true;
      states = states kept kept_so;
      few = few;
      cut = cut;
      whole = λ done. whole (tells done);
      seen = λ done. seen (tells done).seen;
      cells = cells;
      alone = alone is_alone;
      apart = apart is_apart;
      order = order is_ordered;
    }
