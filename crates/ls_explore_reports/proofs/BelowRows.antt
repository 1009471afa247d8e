-- What stands below a row.
use Rattle.std.proofs.Common.{◌≡◌, Bool, true, List, [], Option, None, Some, sym, subst}
use Rattle.ls_checked.specs.CheckedTree.{File}
use Rattle.ls_checked.specs.CheckedProgram.{Program}
use Rattle.ls_events.specs.declared.event.Event.{Event as RunEvent}
use Rattle.ls_report.specs.Events.{Event, Text}
use Rattle.ls_serial_orders.specs.Known.{file_of, program_of, IsKnown, IsKnownOf}
use Rattle.ls_serial_orders.specs.Named.{AreNamed}
use Rattle.ls_serial_orders.specs.Telling.{Tells}
use Rattle.ls_serial_orders.specs.declared.finding.Known.{Known}
use Rattle.ls_serial_orders.proofs.TellingLemmas.{known_tells}
use Rattle.ls_verdicts.specs.Verdicts.{IsHistoryOf}
use Rattle.ls_explore_reports.specs.Below.{HasNames, IsBelow, IsFor}

pub names_of_history : (program : Program) (run : List RunEvent) → IsHistoryOf program run → HasNames program run
names_of_history program run h = (h.0, h.1.is_named)

module _ (known : Option Known) (orders : Bool) (file : File) (program : Program) where
  -- the runs that are there are those of the program
  some_for : (k : Known) →
      known ≡ Some k →
      IsFor orders file program known →
      (orders ≡ true) × IsKnownOf file program k
  some_for k is for = subst (IsFor orders file program) is for

  pub is_known : (k : Known) → known ≡ Some k → IsFor orders file program known → IsKnown k
  is_known k is for = (some_for k is for).1.known

  -- what they tell is what stands below
  pub some_below : (run : List RunEvent) (k : Known) (text : Text) →
      known ≡ Some k →
      ((events : List Event) → AreNamed (program_of k) run events → Tells (file_of k) (program_of k) run events text) →
      IsFor orders file program known →
      HasNames program run →
      IsBelow orders file program run text
  some_below run k text is told for named =
      let f = some_for k is for in
      subst (λ (b : Bool). IsBelow b file program run text) (sym f.0) (
        named.0,
        named.1,
        known_tells file program k run text f.1 told named.0 named.1,
      )

  -- where there are none, nothing does
  pub none_below : (run : List RunEvent) (text : Text) →
      known ≡ None →
      text ≡ [] →
      IsFor orders file program known →
      IsBelow orders file program run text
  none_below run text is empty for =
      subst (λ (b : Bool). IsBelow b file program run text) (sym (subst (IsFor orders file program) is for)) empty
