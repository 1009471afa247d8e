-- Linearizable histories of programs that are alike but for the numbers of threads.
use Rattle.std.proofs.Common.{◌≡◌, ℕ, List, map, sym, ap, ◌∙◌, subst}
use Rattle.ls_events.specs.declared.event.Event.{Event}
use Rattle.ls_checked.specs.CheckedTree.{File}
use Rattle.ls_checked.specs.CheckedProgram.{Program}
use Rattle.ls_meaning.specs.Runs.{source_history}
use Rattle.ls_serial.specs.Serial.{Explains, IsSerial}
use Rattle.ls_linearizable.specs.Linearizable.{IsLinearizable}
use Rattle.ls_exchanged.specs.Exchanged.{exchanged}
use Rattle.ls_exchanged.specs.Laws.{ExchangedIsLinearizable}
use Rattle.ls_exchanged.proofs.Alike.{AreAlike, alike, list_twice}
use Rattle.ls_exchanged.proofs.Histories.{explains_other, serial_other}
use Rattle.ls_exchanged.proofs.Runs.{histories, other_events}

module _ (file : File) (f : ℕ → ℕ) (p q : Program) (r : AreAlike f p q) where
  -- each history is one of the first program's, with other numbers
  pub history_is : (schedule : List ℕ) →
      other_events f (source_history file p (map f schedule)) ≡ source_history file q schedule
  history_is schedule = sym (histories file f p q r (map f schedule)) ∙
      ap (source_history file q) (list_twice f r.twice schedule)

  -- a linearizable history is one under other numbers
  linearizable_other : (h : List Event) → IsLinearizable file p h → IsLinearizable file q (other_events f h)
  linearizable_other h l = record {
    schedule = map f l.schedule;
    serial = subst IsSerial (sym (histories file f p q r l.schedule))
        (serial_other f r.twice (source_history file p l.schedule) l.serial);
    explains = subst (λ g. Explains g (other_events f h)) (sym (histories file f p q r l.schedule))
        (explains_other f r.twice (source_history file p l.schedule) h l.explains);
  }

-- if each history of a program is linearizable, so is each with two threads exchanged
pub linearizable : ExchangedIsLinearizable
linearizable sfile file u v sp sq p q se e all schedule =
    let s = alike u v sp sq se in
    let r = alike u v p q e in
    subst (IsLinearizable sfile sq) (history_is file (exchanged u v) p q r schedule)
    (linearizable_other sfile (exchanged u v) sp sq s (source_history file p (map (exchanged u v) schedule))
    (all (map (exchanged u v) schedule)))
