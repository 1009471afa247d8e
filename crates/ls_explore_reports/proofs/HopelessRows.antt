-- What the hopeless beginnings of illegal rows tell of all schedules.
use Rattle.std.proofs.Common.{◌≡◌, ◌∙◌, ◌⊎◌, inl, inr, ◌+◌, ◌<◌, ◌≤◌, ℕ, zero, suc, true, List, [], ◌∷◌, ◌++◌, Some}
use Rattle.std.proofs.Common.{length, map, take, refl, sym, ap, subst, arith, get_or}
use Rattle.std.proofs.Math.Seq.{take-append_seam}
use Rattle.std.proofs.lemmas.Bool.{cases_lt}
use Rattle.std.proofs.lemmas.List.{get_or-map, length-map, length-take-le, map-append, take-append-le, take-map}
use Rattle.std.proofs.lemmas.List.Elements.{All-contains}
use Rattle.std.proofs.lemmas.List.Sums.{AllPass-from_list_all}
use Rattle.std.specs.Prelude.{All, Contains}
use Rattle.ls_events.specs.Beginnings.{IsBeginning}
use Rattle.ls_events.specs.declared.event.Event.{Event as RunEvent}
use Rattle.ls_checked.specs.CheckedTree.{File}
use Rattle.ls_checked.specs.CheckedProgram.{Program}
use Rattle.ls_meaning.specs.Runs.{source_history}
use Rattle.ls_report.specs.Events.{Event}
use Rattle.ls_report.specs.Printing.{named}
use Rattle.ls_order_search.specs.Answers.{HasOrder, NoneIsLegal}
use Rattle.ls_order_search.proofs.Beginnings.{beginning}
use Rattle.ls_verdicts.specs.Hopeless.{IsHopelessRun}
use Rattle.ls_verdicts.specs.Verdicts.{IsVerdictOn}
use Rattle.ls_verdicts.specs.declared.verdicts.Verdict.{Verdict}
use Rattle.ls_verdicts.specs.declared.verdicts.Verdict.TheVariants as verdicts
use Rattle.ls_verdicts.proofs.Named.{all_there}
use Rattle.ls_verdicts.specs.Cuts.{IsCut, IsIllegalRun, IsLegalRun, history_to}
use Rattle.ls_verdicts.proofs.Begins.{begins_whole}
use Rattle.ls_fewest_switches.specs.Shortest.{IsShortestOf}
use Rattle.ls_explore.specs.Rows.{IsToldBy, Told}
use Rattle.ls_explore.specs.Tellings.{TellWhole}
use Rattle.ls_explore_reports.specs.Judged.{IsJudged, Judged, are_decided, is_decided, rows_of}
use Rattle.ls_explore_reports.specs.Shortest.{AreBeginnings, HasBeginning, IsCutOf, IsJustIllegal, IsShortestIllegal}
use Rattle.ls_explore_reports.proofs.FirstSteps.{begun_by, is_begun, none_yet, one_step}

-- ---- beginnings of a history that becomes hopeless

first_events : (h g : List RunEvent) (n : ℕ) → IsBeginning h g → n ≤ length h → take n h ≡ take n g
first_events h g n b le = sym (take-append-le n h b.0 le) ∙ ap (take n) b.1

module _ (program : Program) where
  -- the names of the first events
  named_first : (h g : List RunEvent) (events : List Event) → IsBeginning h g →
      map (named program) g ≡ map Some events →
      map (named program) h ≡ map Some (take (length h) events)
  named_first h g events b e =
      let first = map (named program) h in
      let whole : first ++ map (named program) b.0 ≡ map (named program) g =
      sym (map-append (named program) h b.0) ∙ ap (map (named program)) b.1 in
      sym (take-append_seam first (map (named program) b.0)) ∙ ap (take (length first)) (whole ∙ e)
      ∙ take-map Some (length first) events
      ∙ ap (λ n. map Some (take n events)) (length-map h (named program))

  same_names : (h : List RunEvent) (xs ys : List Event) → map (named program) h ≡ map Some xs →
      map (named program) h ≡ map Some ys →
      xs ≡ ys
  same_names h xs ys e f = sym (all_there (named program) h xs e) ∙ all_there (named program) h ys f

  none_first : (h g : List RunEvent) (events : List Event) → IsBeginning h g →
      map (named program) g ≡ map Some events → IsIllegalRun program h →
      NoneIsLegal (take (length h) events)
  none_first h g events b e i =
      subst NoneIsLegal (same_names h i.0 (take (length h) events) i.1 (named_first h g events b e)) i.2

  one_first : (h g : List RunEvent) (events : List Event) → IsBeginning h g →
      map (named program) g ≡ map Some events → IsLegalRun program h →
      HasOrder (take (length h) events)
  one_first h g events b e l =
      subst HasOrder (same_names h l.0 (take (length h) events) l.1 (named_first h g events b e)) l.2

  module _ (h g : List RunEvent) (at : ℕ) (b : IsBeginning h g) (hopeless : IsHopelessRun program g at) where
    -- a beginning without a legal order has the event with which there is none
    pub is_past : IsIllegalRun program h → at < length h
    is_past i = by_place (cases_lt at (length h))
      where
        by_place : (at < length h) ⊎ (length h ≤ at) → at < length h
        by_place (inl less) = less
        by_place (inr few) =
            let order = hopeless.hopeless.before (length h) few in
            absurd (none_first h g hopeless.events b hopeless.named.is_named i order.0 order.1)

    -- one with a legal order lacks it
    pub is_before : IsLegalRun program h → length h ≤ at
    is_before l = by_place (cases_lt at (length h))
      where
        by_place : (at < length h) ⊎ (length h ≤ at) → length h ≤ at
        by_place (inl less) =
            let order = one_first h g hopeless.events b hopeless.named.is_named l in
            absurd (hopeless.hopeless.with_it (length h) less order.0 order.1)
        by_place (inr few) = few

  -- ---- rows

  module _ (judged : List Judged) (beginnings : List (List RunEvent)) (are : AreBeginnings program judged beginnings)
    where
      -- what is one of the beginnings has no legal order, and its beginnings have one
      pub one_is_illegal : (h : List RunEvent) → Contains beginnings h → IsJustIllegal program h
      one_is_illegal h there = All-contains (IsJustIllegal program) beginnings h are.only there

      module _ (file : File) where
        cut_there : (whole : List ℕ) (n at : ℕ) → IsCut file program whole n →
            IsHopelessRun program (source_history file program whole) at →
            length (history_to file program whole n) ≡ at + 1
        cut_there whole zero at c hopeless =
            let past : at < length (history_to file program whole 0) =
            is_past (history_to file program whole 0) (source_history file program whole) at
            (begins_whole file program whole 0 c.within) hopeless c.illegal in
            absurd (omega (arith, past, none_yet file program whole))
        cut_there whole (suc n) at c hopeless =
            let le = c.within in
            let past : at < length (history_to file program whole (suc n)) =
            is_past (history_to file program whole (suc n)) (source_history file program whole) at
            (begins_whole file program whole (suc n) le) hopeless c.illegal in
            let before : length (history_to file program whole n) ≤ at =
            is_before (history_to file program whole n) (source_history file program whole) at
            (begins_whole file program whole n (omega (arith, le))) hopeless (c.legal n (omega arith)) in
            let same : n + 1 ≡ suc n = omega arith in
            let next : length (history_to file program whole (suc n)) ≤ length (history_to file program whole n) + 1 =
            subst (λ i. length (history_to file program whole i) ≤ length (history_to file program whole n) + 1) same
            (one_step file program whole n (omega (arith, le))) in
            omega (arith, past, before, next)

        -- the history of the first steps of an illegal row's schedule that have none is one of the beginnings
        pub cut_contained : (schedule : List ℕ) → IsCutOf file program judged schedule →
            Contains beginnings (source_history file program schedule)
        cut_contained schedule c =
            let own = All-contains (HasBeginning program beginnings) judged c.row are.each c.there c.illegal in
            let hopeless = subst (λ (h : List RunEvent). IsHopelessRun program h own.0) c.history own.1 in
            let is : source_history file program schedule ≡ take (own.0 + 1) c.row.row.history =
            ap (source_history file program) c.first
            ∙ is_begun file program c.whole c.steps c.cut.within
            ∙ ap (λ n. take n (source_history file program c.whole)) (cut_there c.whole c.steps own.0 c.cut hopeless)
            ∙ ap (take (own.0 + 1)) (sym c.history) in
            subst (Contains beginnings) (sym is) own.2

        -- if the history of a schedule begins that of an illegal row and has no legal order, it begins with that
        -- beginning
        begun_of_row : (s : List ℕ) (g : List RunEvent) (at : ℕ) → IsBeginning (source_history file program s) g →
            IsHopelessRun program g at → IsIllegalRun program (source_history file program s) →
            (m : ℕ) × (m ≤ length s) × (history_to file program s m ≡ take (at + 1) g)
        begun_of_row s g at b hopeless i =
            let h = source_history file program s in
            let past : at < length h = is_past h g at b hopeless i in
            let few : at + 1 ≤ length h = omega (arith, past) in
            let m = begun_by file program s (at + 1) few in
            (m.0, m.1, m.2 ∙ first_events h g (at + 1) b few)

        module _ (schedule : List ℕ) (least : IsShortestOf (Contains beginnings) file program schedule) (s : List ℕ)
            (i : IsIllegalRun program (source_history file program s)) where
          -- by the row's verdict
          by_verdict : (j : Judged) → HasBeginning program beginnings j → IsJudged program j →
              IsBeginning (source_history file program s) j.row.history →
              (v : Verdict) → j.verdict ≡ v → is_decided v ≡ true → length schedule ≤ length s
          by_verdict j has is b verdicts.Illegal e decided =
              let own = has e in
              let m = begun_of_row s j.row.history own.0 b own.1 i in
              let there = subst (Contains beginnings) (sym m.2) own.2 in
              let short : length schedule ≤ length (take m.0 s) = least (take m.0 s) there in
              omega (arith, short, length-take-le m.0 s m.1, m.1)
          by_verdict j has is b verdicts.Legal e decided =
              let on : IsVerdictOn is.events verdicts.Legal = subst (IsVerdictOn is.events) e is.verdict in
              let order = beginning is.events (length (source_history file program s)) on.1 in
              absurd (none_first (source_history file program s) j.row.history is.events b is.named.is_named i order.0
              order.1)
          by_verdict j has is b verdicts.NotOneSet e decided = absurd cc
          by_verdict j has is b verdicts.TooManyTrapped e decided = absurd cc

          by_row : All (IsJudged program) judged → are_decided judged ≡ true → (n : ℕ) (d : Judged) (r : Told) →
              n < length judged →
              get_or (rows_of judged) n r ≡ r → IsBeginning (source_history file program s) r.history →
              length schedule ≤ length s
          by_row verdicts decided n d r lt is b =
              let j = get_or judged n d in
              let row : r ≡ j.row = sym is ∙ get_or-map (λ (x : Judged). x.row) judged n d r lt in
              by_verdict j (are.each n d lt) (verdicts n d lt)
              (subst (λ (x : Told). IsBeginning (source_history file program s) x.history) row b) j.verdict refl
              (AllPass-from_list_all (λ (x : Judged). is_decided x.verdict) judged decided n d lt)

          some_row : (n : ℕ) (js : List Judged) → n < length js → Judged
          some_row n [] lt = absurd (omega arith)
          some_row n (j ∷ js) lt = j

          -- so the schedule is no longer than this one
          pub is_no_longer : All (IsJudged program) judged → are_decided judged ≡ true →
              IsToldBy (rows_of judged) (source_history file program s) →
              length schedule ≤ length s
          is_no_longer verdicts decided told =
              let many = told.there.1 in
              let lt : told.there.0 < length judged =
              omega (arith, many, length-map judged (λ (x : Judged). x.row)) in
              let row = some_row told.there.0 judged lt in
              by_row verdicts decided told.there.0 row told.row lt told.there.2 told.begins

        -- Where the rows tell of all schedules and each verdict is known, no schedule without a legal order is shorter
        -- than a shortest one that has one of the beginnings.
        pub shortest_of_rows : (schedule : List ℕ) → All (IsJudged program) judged → are_decided judged ≡ true →
            TellWhole file program (rows_of judged) → IsShortestOf (Contains beginnings) file program schedule →
            IsShortestIllegal file program schedule
        shortest_of_rows schedule verdicts decided whole least = λ s i.
            is_no_longer schedule least s i verdicts decided (whole.begun s)
