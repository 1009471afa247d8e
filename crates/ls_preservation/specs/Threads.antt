-- What is asked of code and of the meaning. If it is met, the code's runs are the source's.
use Rattle.std.specs.Prelude.{◌≡◌, ℕ, ◌+◌, List, length, map, Option, Some, None, slice_get}
use Rattle.ls_events.specs.declared.value.Value.{Value}
use Rattle.ls_events.specs.declared.value.ValueType.{ValueType}
use Rattle.ls_events.specs.declared.value.ValueType.TheVariants as type
use Rattle.ls_events.specs.declared.action.Action.{Action}
use Rattle.ls_checked.specs.CheckedTree.{Class, File}
use Rattle.ls_checked.specs.CheckedProgram.{Program, ThreadProgram, ProgramCall, Making, Calling}
use Rattle.ls_meaning.specs.declared.sort.Sort.{Sort}
use Rattle.ls_meaning.specs.Course.{Answers}
use Rattle.ls_meaning.specs.Threads.{Next, Goes, Ended, Trapped, next}
use Rattle.ls_code.specs.Code.{Code, Start}
use Rattle.ls_code.specs.Machine.{started}
use Rattle.ls_code.specs.Fed.{Fed}
use Rattle.ls_code.specs.Reading.{fed}
use Rattle.ls_code.specs.Fed as fed
use Rattle.ls_code.specs.declared.code.CallResult.{CallResult}
use Rattle.ls_code.specs.declared.code.CallResult.TheVariants as result
use Rattle.ls_preservation.specs.InWords.{word_of, map_action, map_answer}
use Rattle.ls_preservation.specs.Sorts.{ActionHas, InKind, Known}
use Rattle.ls_preservation.specs.Translations.{most_silent}

-- what a thread of the machine is to tell if the source does this next
abbrev pub told : Next → Fed
told (Goes action sort) = fed.Asked (map_action (λ n. n) word_of action)
told Ended = fed.Ended
told Trapped = fed.Trapped

-- the cells of an object: one for its monitor, and one for each field
abbrev pub object_cells : ℕ → ℕ
object_cells fields = fields + 1

-- what a call answers, as the code's table of calls has it
abbrev pub result_type : Option ValueType → CallResult
result_type None = result.Nothing
result_type (Some type.Int) = result.Int
result_type (Some type.Boolean) = result.Boolean
result_type (Some t) = result.Nothing

abbrev pub call_result : ProgramCall → CallResult
call_result (Making name c text values) = result.Nothing
call_result (Calling name m text answers values) = result_type answers

abbrev pub calls_of : Option Start → Option ThreadProgram → Type 0
calls_of None None = Unit {0}
calls_of (Some s) (Some t) = s.calls ≡ map call_result t.calls
calls_of _ _ = ⊥

-- what the code promises
pub record Asks (file : File) (program : Program) (code : Code) : Type 0 where
  -- If a thread gets answers in kind, it asks what the source asks next, and ends as the source ends. It is never
  -- stuck, nor silent for too long. Its waiting for a lock doesn't count.
  pub asks : (t : ℕ) (s : Start) (had : Answers) → slice_get code.starts t ≡ Some s → InKind file program t had →
      fed code t (most_silent code) (most_silent code) (started s) (map (map_answer word_of) had) ≡ told
      (next file program t had)
  -- the threads of the program, with their calls, and its names
  pub threads : (t : ℕ) → calls_of (slice_get code.starts t) (slice_get program.threads t)
  pub names : code.names ≡ length program.names
  -- the cells of an object of each class
  pub sizes : (c : ℕ) (class : Class) →
      slice_get file.classes c ≡ Some class →
      slice_get code.sizes c ≡ Some (object_cells (length class.fields))

-- what the meaning of a file and a program promises
pub record IsSound (file : File) (program : Program) : Type 0 where
  -- after answers that name things of the right types, it asks for an action on things and values of the right types
  pub sound : (things : List ValueType) (t : ℕ) (had : Answers) (a : Action Value) (s : Sort) →
      Known file program things t had → next file program t had ≡ Goes a s → ActionHas file program things t a s
