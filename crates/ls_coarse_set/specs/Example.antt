-- A program of the law, with two threads.
use Rattle.std.specs.Prelude.{◌∷◌, ℕ, pos, List, [], Some, codes}
use Rattle.ls_events.specs.declared.value.Value.TheVariants as values
use Rattle.ls_events.specs.declared.value.ValueType.TheVariants as types
use Rattle.ls_checked.specs.CheckedProgram.{Program, ThreadProgram, Calling, SetupName}
use Rattle.ls_meaning.specs.Runs.{source_history}
use Rattle.ls_explore_reports.specs.Verdicts.{HasLegalOrder}
use Rattle.ls_one_at_a_time.specs.CoarseList.{file, of_list}

abbrev pub name : SetupName
name = record { name = codes "s"; class = 1 }

-- thread A { s.add(3); }
abbrev pub first : ThreadProgram
first = record {
  name = codes "A";
  calls =
      Calling 0 2 (codes "add") (Some types.Boolean) (values.Int (pos 3) ∷ []) ∷ [];
}

-- thread B { s.remove(3); s.contains(3); }
abbrev pub second : ThreadProgram
second = record {
  name = codes "B";
  calls = Calling 0 3 (codes "remove") (Some types.Boolean) (values.Int (pos 3) ∷ [])
      ∷ Calling 0 4 (codes "contains") (Some types.Boolean) (values.Int (pos 3) ∷ []) ∷ [];
}

-- setup { s = new CoarseList(); }
abbrev pub example : Program
example = of_list name (codes "CoarseList") (codes "setup") [] (first ∷ second ∷ [])

abbrev pub ExampleIsLegal : Type 0
ExampleIsLegal = (schedule : List ℕ) → HasLegalOrder example (source_history file example schedule)
