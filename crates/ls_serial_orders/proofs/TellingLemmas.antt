-- The text of an outcome.
use Rattle.std.proofs.Common.{◌≡◌, ◌∙◌, ◌+◌, ℕ, List, [], ◌∷◌, ◌++◌, Some, slice_get, take, sym, ap, subst}
use Rattle.std.proofs.Common.{append_assoc, append-nil}
use Rattle.std.specs.Prelude.{codes}
use Rattle.std.specs.Fmt.{decimal}
use Rattle.std.specs.Option.{option_map_or}
use Rattle.ls_events.specs.declared.event.Event.{Event as RunEvent}
use Rattle.ls_checked.specs.CheckedTree.{File}
use Rattle.ls_checked.specs.CheckedProgram.{Program}
use Rattle.ls_report.specs.Events.{Event, Text}
use Rattle.ls_report.specs.Lines.{event_text, line}
use Rattle.ls_report.specs.Printing.{named, run_text}
use Rattle.ls_order_search.specs.OrderLines.{order_line}
use Rattle.ls_order_search.specs.Telling.{hopeless_text}
use Rattle.ls_serial_orders.specs.Known.{file_of, program_of, IsKnownOf}
use Rattle.ls_serial_orders.specs.Named.{AreNamed}
use Rattle.ls_serial_orders.specs.Orders.{IsHopeless, IsOrderOf}
use Rattle.ls_serial_orders.specs.Telling.{Hopeless, Tells}
use Rattle.ls_serial_orders.specs.declared.finding.Known.{Known}
use Rattle.ls_serial_orders.proofs.NameLemmas.{event_there}

module _ (p : Program) where
  -- the line of an event alone
  one_line : (r : RunEvent) (e : Event) → named p r ≡ Some e → run_text p (r ∷ []) ≡ event_text e ++ 10 ∷ []
  one_line r e is = ap (λ o. option_map_or line o [] ++ []) is ∙ append-nil (line e)

  -- the text with that line
  pub hopeless_is : (at : ℕ) (r : RunEvent) (e : Event) (order : List Text) (text : Text) →
      named p r ≡ Some e →
      text ≡ codes "hopeless " ++ (decimal (at + 1) ++ (32 ∷ (run_text p (r ∷ []) ++ order_line order))) →
      text ≡ hopeless_text at (event_text e) order
  hopeless_is at r e order text is told =
      told ∙ ap (λ l. codes "hopeless " ++ (decimal (at + 1) ++ (32 ∷ l)))
      (ap (λ l. l ++ order_line order) (one_line r e is) ∙ append_assoc (event_text e) (10 ∷ []) (order_line order))

module _ (file : File) (p : Program) (run : List RunEvent) where
  -- what is told where no order explains the events from one on
  pub hopeless_told : (at : ℕ) (r : RunEvent) (order : List Text) (text : Text) →
      IsHopeless file p run at →
      IsOrderOf file p (take at run) order →
      slice_get run at ≡ Some r →
      ((e : Event) → named p r ≡ Some e → text ≡ hopeless_text at (event_text e) order) →
      (events : List Event) → AreNamed p run events → Tells file p run events text
  hopeless_told at r order text hopeless before there is events named =
      let found = event_there p run events at r named there in
      subst (Tells file p run events) (sym (is found.0 found.2)) (Hopeless at found.0 order hopeless found.1 before)

-- what is told where the states are known already is told of their program
pub known_tells : (f : File) (p : Program) (k : Known) (run : List RunEvent) (text : Text) →
    IsKnownOf f p k →
    ((events : List Event) → AreNamed (program_of k) run events → Tells (file_of k) (program_of k) run events text) →
    (events : List Event) → AreNamed p run events → Tells f p run events text
known_tells f p k run text is told =
    subst (λ (q : Program). (events : List Event) → AreNamed q run events → Tells f q run events text) is.program
    (subst (λ (g : File). (events : List Event) → AreNamed (program_of k) run events →
    Tells g (program_of k) run events text) is.file told)
