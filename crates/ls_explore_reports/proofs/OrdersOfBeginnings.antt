-- Beginnings of histories with legal orders.
use Rattle.std.proofs.Common.{◌≡◌, ◌∙◌, ◌++◌, List, length, map, Some, sym, ap, take}
use Rattle.std.proofs.Math.Seq.{take-append_seam}
use Rattle.std.proofs.lemmas.List.{map-append, take-map}
use Rattle.ls_events.specs.declared.event.Event.{Event as RunEvent}
use Rattle.ls_checked.specs.CheckedProgram.{Program}
use Rattle.ls_report.specs.Printing.{named}
use Rattle.ls_order_search.proofs.Beginnings.{beginning}
use Rattle.ls_events.specs.Beginnings.{IsBeginning}
use Rattle.ls_explore.specs.Rows.{IsToldBy, Told}
use Rattle.ls_explore_reports.specs.Verdicts.{HasLegalOrder, RowsAreLegal}

module _ (program : Program) where
  -- the beginning of a history with a legal order has one
  first_legal : (h g : List RunEvent) → IsBeginning h g → HasLegalOrder program g → HasLegalOrder program h
  first_legal h g begins legal =
      let n = length (map (named program) h) in
      let whole : map (named program) h ++ map (named program) begins.0 ≡ map (named program) g =
      sym (map-append (named program) h begins.0) ∙ ap (map (named program)) begins.1 in (
        take n legal.0,
        sym (take-append_seam (map (named program) h) (map (named program) begins.0)) ∙ ap (take n) (whole ∙ legal.1) ∙
            take-map Some n legal.0,
        beginning legal.0 n legal.2,
      )

  pub told_legal : (rows : List Told) (h : List RunEvent) →
      RowsAreLegal program rows →
      IsToldBy rows h →
      HasLegalOrder program h
  told_legal rows h legal told = first_legal h told.row.history told.begins (legal told.row told.there)
