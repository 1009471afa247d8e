-- Hopeless beginnings of one row more.
use Rattle.std.proofs.Common.{◌≡◌, ◌∙◌, ◌+◌, ◌≤◌, ℕ, true, false, List, [], ◌∷◌, ◌++◌, Some, length, map, take}
use Rattle.std.proofs.Common.{sym, ap, subst, arith}
use Rattle.std.proofs.lemmas.List.{length-map, length-take-le, take-map, take-take}
use Rattle.std.proofs.lemmas.List.Elements.{All-push, All-weaker, Contains-append_left, Contains-push}
use Rattle.std.specs.Prelude.{Contains}
use Rattle.ls_events.specs.declared.event.Event.{Event as RunEvent}
use Rattle.ls_checked.specs.CheckedProgram.{Program}
use Rattle.ls_report.specs.Events.{Event}
use Rattle.ls_report.specs.Printing.{named}
use Rattle.ls_verdicts.specs.Hopeless.{IsHopelessRun}
use Rattle.ls_verdicts.specs.declared.verdicts.Verdict.TheVariants as verdicts
use Rattle.ls_verdicts.specs.Cuts.{IsLegalRun}
use Rattle.ls_explore_reports.specs.Judged.{Judged, is_illegal}
use Rattle.ls_explore_reports.specs.Shortest.{AreBeginnings, HasBeginning, IsJustIllegal}

module _ (program : Program) where
  -- the place of the event lies in the history
  pub at_within : (run : List RunEvent) (at : ℕ) → IsHopelessRun program run at → at + 1 ≤ length run
  at_within run at h =
      let lt = h.hopeless.within in
      let many : length h.events ≡ length run = sym (length-map h.events (λ (e : Event). Some e))
      ∙ sym (ap length h.named.is_named) ∙ length-map run (named program) in
      omega (arith, lt, many)

  -- the first events have the names of the first events
  begun_named : (run : List RunEvent) (at n : ℕ) → (h : IsHopelessRun program run at) →
      map (named program) (take n run) ≡ map Some (take n h.events)
  begun_named run at n h =
      sym (take-map (named program) n run) ∙ ap (take n) h.named.is_named ∙ take-map Some n h.events

  -- the events up to it have no legal order, and fewer have one
  begun_illegal : (run : List RunEvent) (at : ℕ) → IsHopelessRun program run at →
      IsJustIllegal program (take (at + 1) run)
  begun_illegal run at h = record {
    illegal = (take (at + 1) h.events, begun_named run at (at + 1) h, h.hopeless.with_it (at + 1) (omega arith));
    legal = λ m less.
        let many = length-take-le (at + 1) run (at_within run at h) in
        let few : m ≤ at = omega (arith, less, many) in
        subst (IsLegalRun program) (sym (take-take m (at + 1) run (omega (arith, few))))
        (take m h.events, begun_named run at m h, h.hopeless.before m few);
  }

  module _ (rows : List Judged) (beginnings : List (List RunEvent)) (are : AreBeginnings program rows beginnings)
      (j : Judged)
    where
      -- none comes with a row that isn't illegal
      pub none_more : (j.verdict ≡ verdicts.Illegal → ⊥) → AreBeginnings program (rows ++ j ∷ []) beginnings
      none_more nay = record {
        each = All-push (HasBeginning program beginnings) rows j are.each (λ e. absurd (nay e));
        only = are.only;
      }

      more_there : (x : List RunEvent) (i : Judged) → HasBeginning program beginnings i →
          HasBeginning program (beginnings ++ x ∷ []) i
      more_there x i h e =
          let own = h e in
          (own.0, own.1, Contains-append_left beginnings (x ∷ []) (take (own.0 + 1) i.row.history) own.2)

      -- that of an illegal row comes with it
      pub one_more : (at : ℕ) (x : List RunEvent) → IsHopelessRun program j.row.history at →
          x ≡ take (at + 1) j.row.history →
          AreBeginnings program (rows ++ j ∷ []) (beginnings ++ x ∷ [])
      one_more at x hopeless is = record {
        each = All-push (HasBeginning program (beginnings ++ x ∷ [])) rows j
            (All-weaker (HasBeginning program beginnings) (HasBeginning program (beginnings ++ x ∷ []))
            (more_there x) rows
            are.each)
            (λ e. (at, hopeless, subst (Contains (beginnings ++ x ∷ [])) is (Contains-push beginnings x)));
        only = All-push (IsJustIllegal program) beginnings x are.only
            (subst (IsJustIllegal program) (sym is) (begun_illegal j.row.history at hopeless));
      }

  pub not_illegal_verdict : (j : Judged) → is_illegal j.verdict ≡ false → j.verdict ≡ verdicts.Illegal → ⊥
  not_illegal_verdict j other e = apart (sym (ap is_illegal e) ∙ other)
    where
      apart : true ≡ false → ⊥
      apart h = cc
