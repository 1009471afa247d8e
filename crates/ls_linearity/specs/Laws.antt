-- What the table of a program says of a history.
use Rattle.std.specs.Prelude.{◌≡◌, true, false, List}
use Rattle.ls_events.specs.declared.event.Event.{Event}
use Rattle.ls_checked.specs.CheckedTree.{File}
use Rattle.ls_checked.specs.CheckedProgram.{Program}
use Rattle.ls_automaton.specs.Held.{first_held, goes_along}
use Rattle.ls_linearizable.specs.Linearizable.{IsLinearizable}
use Rattle.ls_linearizable.specs.Once.{AreOnce}
use Rattle.ls_serial_search.specs.Told.{usual}
use Rattle.ls_source_judge.specs.Judged.{IsUnexplainedWithin}
use Rattle.ls_linearity.specs.Tabled.{IsTableOf}
use Rattle.ls_linearity.specs.declared.table.SerialTable.{SerialTable}

-- If a pair is left after a history, the history is linearizable. If no call goes on, a pair is left after each that
-- is. If one goes on and no pair is left, no serial run explains the history, each call of which ends within 10,000
-- steps.
pub record IsDecided (file : File) (program : Program) (t : SerialTable) (h : List Event) : Type 0 where
  pub left : goes_along t.rows.items h first_held ≡ true → IsLinearizable file program h
  pub exact : t.goes_on ≡ false → IsLinearizable file program h → goes_along t.rows.items h first_held ≡ true
  pub within : t.goes_on ≡ true → goes_along t.rows.items h first_held ≡ false →
      IsUnexplainedWithin file program usual.steps h

-- so it is of each history in which no event stands twice
abbrev pub TablesDecide : Type 0
TablesDecide =
    (file : File) (program : Program) (t : SerialTable) → IsTableOf file program usual t → (h : List Event) →
    AreOnce h → IsDecided file program t h
