-- What a thread does with its calls, one after another, and what that means.
use Rattle.std.specs.Prelude.{ℕ, ◌+◌, nat_eq, List, [], ◌∷◌, Option, Some, None, if◌then◌else◌}
use Rattle.ls_events.specs.declared.value.Value.{Value}
use Rattle.ls_events.specs.declared.value.ValueType.TheVariants as types
use Rattle.ls_events.specs.declared.kind.Kind.{Kind}
use Rattle.ls_events.specs.declared.kind.Kind.TheVariants.{NullPointer}
use Rattle.ls_events.specs.declared.action.Action.TheVariants.{ReadName, WriteName, New, Call, Return, Trap, Enter}
use Rattle.ls_events.specs.declared.action.Action.TheVariants.{Turn}
use Rattle.ls_events.specs.declared.action.Answer.{Answer}
use Rattle.ls_events.specs.declared.action.Answer.TheVariants as answers
use Rattle.ls_checked.specs.CheckedTree.{File}
use Rattle.ls_checked.specs.CheckedProgram.{Program, ProgramCall, Making, Calling}
use Rattle.ls_meaning.specs.declared.sort.Sort.TheVariants.{NoValue, NewOf}
use Rattle.ls_meaning.specs.declared.completion.Completion.TheVariants.{Normal, Broke, Continued, Returned, Threw}
use Rattle.ls_meaning.specs.Values.{reference_of, nothing}
use Rattle.ls_meaning.specs.Course.{Answers, Evaluated, Results, Throws, ask, tell, with_value, unless_null}
use Rattle.ls_meaning.specs.Expressions.{constructor_of}
use Rattle.ls_meaning.specs.Methods.{invoke, depth_limit}
use Rattle.ls_meaning.specs.Threads.{Next, Goes, Ended, Trapped, result_of, named, one_call, after_call, all_calls}
use Rattle.ls_source_pending.specs.Pending.{State, Control, Invokes, Gives, Ends, Asks, Enters, Turns}
use Rattle.ls_source_pending.specs.ExpressionMoves.{at}
use Rattle.ls_source_pending.specs.Moves.{is_left, taken}
use Rattle.ls_source_pending.specs.Meaning.{OfValue, OfEnd, Rest, meaning}

-- why a body was entered
pub data Bottom : Type 0 where
  OfMaking : (name : ℕ) (object : Value) → Bottom
  OfCalling : (method : ℕ) → Bottom

pub data Phase : Type 0 where
  Starts : Phase
  Announces : (call : ProgramCall) → Phase
  Makes : (name class : ℕ) (values : List Value) → Phase
  Fetches : (name method : ℕ) (values : List Value) → Phase
  Works : (bottom : Bottom) (work : State) → Phase
  Names : (name : ℕ) (object : Value) → Phase
  ReturnsWith : (v : Option Value) → Phase
  TrapsWith : (kind : Kind) → Phase
  IsTrapped : Phase

-- how many calls have begun, and the calls after them
pub record Thread : Type 0 where
  pub number : ℕ
  pub left : List ProgramCall
  pub phase : Phase

abbrev pub then_calls : File → Program → ℕ → List ProgramCall → Evaluated (Option Value) → Next
then_calls file program n cs x = after_call n x (all_calls file program (n + 1) cs)

abbrev pub naming : ℕ → Value → Answers → Evaluated (Option Value)
naming name o q = with_value (tell (WriteName name o) q) (λ _ rest. Results None rest)

abbrev pub after_work : File → Program → ℕ → List ProgramCall → Bottom → Rest
after_work file program n cs (OfMaking name o) d ls (OfValue v) q = then_calls file program n cs (naming name o q)
after_work file program n cs (OfCalling m) d ls (OfValue v) q = then_calls file program n cs
    (Results (result_of file m v) q)
after_work file program n cs b d ls (OfEnd Normal) q = Trapped
after_work file program n cs b d ls (OfEnd (Broke m)) q = Trapped
after_work file program n cs b d ls (OfEnd (Continued m)) q = Trapped
after_work file program n cs b d ls (OfEnd (Returned v)) q = Trapped
after_work file program n cs b d ls (OfEnd (Threw kind)) q = then_calls file program n cs (Throws kind q)

abbrev pub made : File → ℕ → ℕ → List Value → Value → Answers → Evaluated (Option Value)
made file name c values o q =
    with_value (invoke file depth_limit (constructor_of file.classes c) (o ∷ values) q) (λ _ rest. naming name o rest)

abbrev pub fetched : File → ℕ → List Value → Value → Answers → Evaluated (Option Value)
fetched file m values o q =
    unless_null (reference_of o) q (with_value (invoke file depth_limit m (o ∷ values) q)
    (λ v rest. Results (result_of file m v) rest))

abbrev pub phase_meaning : File → Program → ℕ → List ProgramCall → Phase → Answers → Next
phase_meaning file program n cs Starts q = all_calls file program (n + 1) cs q
phase_meaning file program n cs (Announces c) q = then_calls file program n cs (one_call file program n c q)
phase_meaning file program n cs (Makes name c values) q =
    then_calls file program n cs (with_value (ask (New c) (NewOf (types.Class c)) q)
    (λ o rest. made file name c values o rest))
phase_meaning file program n cs (Fetches name m values) q =
    then_calls file program n cs (with_value (ask (ReadName name) (named program name) q)
    (λ o rest. fetched file m values o rest))
phase_meaning file program n cs (Works b work) q = meaning file (after_work file program n cs b) work q
phase_meaning file program n cs (Names name o) q = then_calls file program n cs (naming name o q)
phase_meaning file program n cs (ReturnsWith v) q = then_calls file program n cs (Results v q)
phase_meaning file program n cs (TrapsWith kind) q = then_calls file program n cs (Throws kind q)
phase_meaning file program n cs IsTrapped q = Trapped

-- what a thread does next after these answers
abbrev pub thread_meaning : File → Program → Thread → Answers → Next
thread_meaning file program t q = phase_meaning file program t.number t.left t.phase q

-- The moves.

-- the next call begins
abbrev pub begun_with : ℕ → List ProgramCall → Thread
begun_with n [] = record { number = n; left = []; phase = Starts }
begun_with n (c ∷ cs) = record { number = n + 1; left = cs; phase = Announces c }

abbrev pub begun_in : Phase → ℕ → List ProgramCall → Thread
begun_in Starts n cs = begun_with n cs
begun_in p n cs = record { number = n; left = cs; phase = p }

abbrev pub begun : Thread → Thread
begun t = begun_in t.phase t.number t.left

-- after a body that has come to its end
abbrev pub worked : File → Bottom → State → Control → Phase
worked file (OfMaking name o) w (Gives v) = Names name o
worked file (OfCalling m) w (Gives v) = ReturnsWith (result_of file m v)
worked file b w (Ends (Threw kind)) = TrapsWith kind
worked file b w (Ends c) = IsTrapped
worked file b w c = Works b w

abbrev pub finished_phase : File → Phase → Phase
finished_phase file (Works b w) = if is_left w.control w.frames then Works b w else worked file b w w.control
finished_phase file p = p

abbrev pub finished : File → Thread → Thread
finished file t = record { number = t.number; left = t.left; phase = finished_phase file t.phase }

-- an answer is taken
abbrev pub object_made : File → ℕ → ℕ → List Value → Answer Value → Phase
object_made file name c values answers.Done = Works (OfMaking name nothing)
    (at (Invokes (constructor_of file.classes c) (nothing ∷ values)) [] [] depth_limit)
object_made file name c values (answers.Gives o) = Works (OfMaking name o)
    (at (Invokes (constructor_of file.classes c) (o ∷ values)) [] [] depth_limit)
object_made file name c values (answers.Fails kind) = TrapsWith kind

abbrev pub entered : File → ℕ → List Value → Value → Phase
entered file m values o = if nat_eq (reference_of o) 0 then TrapsWith NullPointer else
    Works (OfCalling m) (at (Invokes m (o ∷ values)) [] [] depth_limit)

abbrev pub object_fetched : File → ℕ → List Value → Answer Value → Phase
object_fetched file m values answers.Done = entered file m values nothing
object_fetched file m values (answers.Gives o) = entered file m values o
object_fetched file m values (answers.Fails kind) = TrapsWith kind

abbrev pub announced : ProgramCall → Phase
announced (Making name c text values) = Makes name c values
announced (Calling name m text result values) = Fetches name m values

abbrev pub answered_phase : File → Answer Value → Phase → Phase
answered_phase file a Starts = Starts
answered_phase file a (Announces c) = announced c
answered_phase file a (Makes name c values) = object_made file name c values a
answered_phase file a (Fetches name m values) = object_fetched file m values a
answered_phase file a (Works b w) = Works b (taken a w)
answered_phase file a (Names name o) = ReturnsWith None
answered_phase file a (ReturnsWith v) = Starts
answered_phase file a (TrapsWith kind) = IsTrapped
answered_phase file a IsTrapped = IsTrapped

abbrev pub answered : File → Answer Value → Thread → Thread
answered file a t = record { number = t.number; left = t.left; phase = answered_phase file a t.phase }

-- What is asked for, if no move is left.

abbrev pub asked_by : Control → Option Next
asked_by (Asks action sort) = Some (Goes action sort)
asked_by (Enters m vs) = Some (Goes (Enter m) NoValue)
asked_by (Turns e s) = Some (Goes Turn NoValue)
asked_by c = None

abbrev pub asked_at_start : List ProgramCall → Option Next
asked_at_start [] = Some Ended
asked_at_start (c ∷ cs) = None

abbrev pub asked_in : Program → ℕ → List ProgramCall → Phase → Option Next
asked_in program n cs Starts = asked_at_start cs
asked_in program n cs (Announces c) = Some (Goes (Call n) NoValue)
asked_in program n cs (Makes name c values) = Some (Goes (New c) (NewOf (types.Class c)))
asked_in program n cs (Fetches name m values) = Some (Goes (ReadName name) (named program name))
asked_in program n cs (Works b w) = asked_by w.control
asked_in program n cs (Names name o) = Some (Goes (WriteName name o) NoValue)
asked_in program n cs (ReturnsWith v) = Some (Goes (Return n v) NoValue)
asked_in program n cs (TrapsWith kind) = Some (Goes (Trap n kind) NoValue)
asked_in program n cs IsTrapped = Some Trapped

abbrev pub asked_now : Program → Thread → Option Next
asked_now program t = asked_in program t.number t.left t.phase
