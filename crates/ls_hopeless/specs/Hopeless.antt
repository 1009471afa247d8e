-- Which event of a history no order of whole calls explains.
use Rattle.std.specs.Prelude.{◌≡◌, ℕ, List, [], Option, None, Some, slice_get, take}
use Rattle.ls_checked.specs.CheckedTree.{File}
use Rattle.ls_checked.specs.CheckedProgram.{Program}
use Rattle.ls_events.specs.declared.event.Event.{Event}
use Rattle.ls_linearity.specs.Meant.{IsUndecided}
use Rattle.ls_report.specs.Events.{Text}
use Rattle.ls_serial.specs.Serial.{IsEnd}
use Rattle.ls_serial_orders.specs.Orders.{IsHopeless}
use Rattle.ls_hopeless.specs.Words.{line_of}

-- the place of the first event with which the history ceases to be linearizable, or that isn't known
abbrev pub IsHopelessAt : File → Program → List Event → Option ℕ → Type 0
IsHopelessAt file program h None = IsUndecided file program h
IsHopelessAt file program h (Some at) = IsHopeless file program h at

-- What is told of a history of a program that isn't linearizable to a specification: its first event with which it
-- ceases to be linearizable, which is a return or a trap. Nothing is told if that isn't known.
pub data IsHopelessLine (sfile : File) (sprogram program : Program) (h : List Event) : Text → Type 0 where
  Told : (at : ℕ) (e : Event) →
      IsHopeless sfile sprogram h at →
      slice_get h at ≡ Some e →
      IsEnd e →
      IsHopelessLine sfile sprogram program h (line_of program (take at h) e)
  Untold : IsUndecided sfile sprogram h → IsHopelessLine sfile sprogram program h []
