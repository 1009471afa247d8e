-- A small program, its history as text, and lists of events that are no history.
--
--     class A { int get() { return 7; } }
--     setup { a = new A(); } thread T { a.get(); }
use Rattle.std.specs.Prelude.{◌≡◌, ℕ, pos, true, false, List, [], ◌∷◌, ◌++◌, Some, None, codes, filter_map}
use Rattle.ls_events.specs.declared.event.Event.{Event}
use Rattle.ls_events.specs.declared.event.Happening.TheVariants.{Called, Returned}
use Rattle.ls_events.specs.declared.value.Value.TheVariants.{Int}
use Rattle.ls_events.specs.declared.value.ValueType.TheVariants as type
use Rattle.ls_checked.specs.CheckedTree.{File, Literal, Block, ReturnValue, Done}
use Rattle.ls_checked.specs.CheckedProgram.{Program, Making, Calling}
use Rattle.ls_meaning.specs.Runs.{source_history}
use Rattle.ls_report.specs.Discipline.{is_history}
use Rattle.ls_report.specs.Printing.{named, run_text}

abbrev pub file : File
file = record {
  classes = record { fields = []; constructor = 1 } ∷ [];
  methods =
      record {
        class = 0;
        parameters = 0;
        slots = type.Class 0 ∷ [];
        result = Some type.Int;
        body = ReturnValue (Literal (Int (pos 7)));
      }
      ∷ record { class = 0; parameters = 0; slots = type.Class 0 ∷ []; result = None; body = Block Done }
      ∷ [];
}

abbrev pub program : Program
program = record {
  names = record { name = codes "a"; class = 0 } ∷ [];
  threads =
      record { name = codes "setup"; calls = Making 0 0 (codes "A") [] ∷ [] }
      ∷ record { name = codes "T"; calls = Calling 0 0 (codes "get") (Some type.Int) [] ∷ [] }
      ∷ [];
}

-- five steps of the setup, and the call event of T; and then three steps more
abbrev pub called : List ℕ
called = 0 ∷ 0 ∷ 0 ∷ 0 ∷ 0 ∷ 1 ∷ []

abbrev pub returned : List ℕ
returned = called ++ 1 ∷ 1 ∷ 1 ∷ []

abbrev pub first_lines : List ℕ
first_lines = codes "setup.1 call a = new A()" ++ 10 ∷ codes "setup.1 return" ++ 10 ∷ codes "T.1 call a.get()" ++ 10 ∷
    []

abbrev pub all_lines : List ℕ
all_lines = first_lines ++ codes "T.1 return 7" ++ 10 ∷ []

-- a call without its return; then the call with its return
abbrev pub LateReturnIsReadable : Type 0
LateReturnIsReadable =
    (run_text program (source_history file program called) ≡ first_lines)
    × (run_text program (source_history file program returned) ≡ all_lines)
    × (is_history (filter_map (named program) (source_history file program returned)) ≡ true)

abbrev t_returns : Event
t_returns = record { thread = 1; call = 1; happening = Returned (Some (Int (pos 7))) }

abbrev t_calls : Event
t_calls = record { thread = 1; call = 1; happening = Called }

-- a return without its call, and a second call before the return
abbrev pub ReturnWithoutCallIsNot : Type 0
ReturnWithoutCallIsNot =
    (is_history (filter_map (named program) (t_returns ∷ [])) ≡ false)
    × (is_history (filter_map (named program) (t_calls ∷ t_calls ∷ [])) ≡ false)
