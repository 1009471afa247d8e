-- A tally's text with what there is to say of each history, row by row.
use Rattle.std.proofs.Common.{◌≡◌, ◌∙◌, ◌+◌, ◌<◌, ◌≤◌, ℕ, List, [], ◌∷◌, ◌++◌, length, get_or, drop, map, zero, suc}
use Rattle.std.proofs.Common.{append_assoc, append-nil, ap, sym, subst, refl, arith}
use Rattle.std.proofs.lemmas.List.{drop_all, drop_more, length-map}
use Rattle.ls_events.specs.declared.event.Event.{Event as RunEvent}
use Rattle.ls_checked.specs.CheckedProgram.{Program}
use Rattle.ls_report.specs.Events.{Text}
use Rattle.ls_batch.specs.Tallies.{Row}
use Rattle.ls_verdicts.specs.Verdicts.{IsHistoryOf}
use Rattle.ls_batch.specs.Judged.{AreHistoriesOf, AreSaid, IsSaid, judged_entry_text}
use Rattle.ls_batch.specs.Judged.{judged_text}
use Rattle.ls_batch.specs.declared.judging.Judgement.{Judgement}

got : {A B : Type 0} (f : A → B) (xs : List A) (k : ℕ) (d : B) (e : A) →
    k < length xs →
    get_or (map f xs) k d ≡ f (get_or xs k e)
got f [] k d e lt = absurd (omega arith)
got f (x ∷ xs) zero d e lt = refl
got f (x ∷ xs) (suc k) d e lt = got f xs k d e (omega arith)

module _ (May : List RunEvent → Judgement → Type 0) (p : Program) (rows : List Row) where
  -- with whatever is said of the rest, the text so far is begun right
  abbrev pub Begins : List Row → Text → Type 0
  Begins rest out = (said : List Judgement) → AreSaid May rest said →
      IsSaid May p rows (out ++ judged_text p rest said)

  one_more : (r : Row) (rest : List Row) (s : Judgement) (out new : Text) →
      Begins (r ∷ rest) out →
      May r.history s →
      new ≡ out ++ judged_entry_text p r s →
      Begins rest new
  one_more r rest s out new begins is e said are =
      subst (IsSaid May p rows)
      (sym (append_assoc out (judged_entry_text p r s) (judged_text p rest said)) ∙
      ap (λ t. t ++ judged_text p rest said) (sym e))
      (begins (s ∷ said) (is, are))

  module _ {X : Type 0} (row : X → Row) (items : List X) (i : ℕ) where
    own_row : (x : X) →
        map row items ≡ rows →
        AreHistoriesOf p rows →
        i < length items →
        x ≡ get_or items i x →
        IsHistoryOf p (row x).history
    own_row x e all lt is =
        let own : AreHistoriesOf p (map row items) = subst (AreHistoriesOf p) (sym e) all in
        let len = length-map items row in
        let at : get_or (map row items) i (row x) ≡ row x = got row items i (row x) x lt ∙ ap row (sym is) in
        subst (λ (q : Row). IsHistoryOf p q.history) at (own i (row x) (omega (arith, len, lt)))

    -- the row at a place has a history of the program
    pub row_named : (x : X) (run : List RunEvent) →
        map row items ≡ rows →
        AreHistoriesOf p rows →
        i < length items →
        x ≡ get_or items i x →
        run ≡ (row x).history →
        IsHistoryOf p run
    row_named x run e all lt is same = subst (IsHistoryOf p) (sym same) (own_row x e all lt is)

    -- and is told with what there is to say of that
    pub row_told : (x : X) (run : List RunEvent) (s : Judgement) (out new : Text) →
        i < length items →
        x ≡ get_or items i x →
        run ≡ (row x).history →
        Begins (map row (drop i items)) out
        → May run s → new ≡ out ++ judged_entry_text p (row x) s →
        Begins (map row (drop (i + 1) items)) new
    row_told x run s out new lt is same begins said e =
        one_more (row x) (map row (drop (i + 1) items)) s out new
        (subst (λ rest. Begins (map row rest) out) (drop_more items i x lt ∙ ap (λ y. y ∷ drop (i + 1) items) (sym is))
        begins)
        (subst (λ h. May h s) same said) e

    pub all_told : (out : Text) → length items ≤ i → Begins (map row (drop i items)) out → IsSaid May p rows out
    all_told out le begins =
        let at_end : Begins [] out = subst (λ rest. Begins (map row rest) out) (drop_all i items le) begins in
        subst (IsSaid May p rows) (append-nil out) (at_end [] tt)
