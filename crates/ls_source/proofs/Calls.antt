-- The moves of a thread keep what it does, and an answer that is taken is one answer more.
use Rattle.std.proofs.Common.{◌≡◌, ℕ, ◌+◌, Bool, true, false, cond, List, [], ◌∷◌, Some, refl, ◌∙◌}
use Rattle.std.specs.Prelude.{nat_eq}
use Rattle.ls_events.specs.declared.value.Value.{Value}
use Rattle.ls_events.specs.declared.value.ValueType.TheVariants as types
use Rattle.ls_events.specs.declared.kind.Kind.TheVariants.{NullPointer}
use Rattle.ls_events.specs.declared.action.Action.{Action}
use Rattle.ls_events.specs.declared.action.Action.TheVariants.{ReadName, WriteName, New, Call, Return, Trap, Enter}
use Rattle.ls_events.specs.declared.action.Action.TheVariants.{Turn}
use Rattle.ls_events.specs.declared.action.Answer.{Answer}
use Rattle.ls_events.specs.declared.action.Answer.TheVariants as answers
use Rattle.ls_checked.specs.CheckedTree.{File}
use Rattle.ls_checked.specs.CheckedProgram.{Program, ProgramCall, Making, Calling}
use Rattle.ls_meaning.specs.declared.sort.Sort.TheVariants.{NoValue, NewOf}
use Rattle.ls_meaning.specs.declared.completion.Completion.TheVariants.{Normal, Broke, Continued, Returned, Threw}
use Rattle.ls_meaning.specs.Values.{reference_of, nothing}
use Rattle.ls_meaning.specs.Course.{Answers, Evaluated, Asks as EAsks, Results, Throws, with_value}
use Rattle.ls_meaning.specs.Expressions.{constructor_of}
use Rattle.ls_meaning.specs.Methods.{invoke, depth_limit}
use Rattle.ls_meaning.specs.Threads.{Next, Goes, Ended, Trapped, result_of, named, one_call, all_calls}
use Rattle.ls_source_pending.specs.Pending.{State, Control, Evaluates, Argues, Invokes, Opens, Executes}
use Rattle.ls_source_pending.specs.Pending.{Loops, Gives, Ends, Asks, Enters, Turns, Frame}
use Rattle.ls_source_pending.specs.ExpressionMoves.{at}
use Rattle.ls_source_pending.specs.Moves.{is_left}
use Rattle.ls_source_pending.specs.Meaning.{Rest, evaluated, meaning, done_now, rest_of}
use Rattle.ls_source_moves.proofs.Fusion.{taken_keeps, IsAsking}
use Rattle.ls_source.specs.declared.thread.Phase.{Phase as Kept}
use Rattle.ls_source.specs.declared.thread.Phase.TheVariants as phases
use Rattle.ls_source.specs.Calls.{Bottom, OfMaking, OfCalling, Phase, Starts, Announces, Makes, Fetches, Works, Names}
use Rattle.ls_source.specs.Calls.{ReturnsWith, TrapsWith, IsTrapped, Thread, then_calls, naming, after_work}
use Rattle.ls_source.specs.Calls.{phase_meaning, thread_meaning, begun, begun_in, begun_with, worked, finished_phase}
use Rattle.ls_source.specs.Calls.{object_made, object_fetched, announced, answered_phase, asked_by, asked_at_start}
use Rattle.ls_source.specs.Calls.{asked_in}
use Rattle.ls_source.specs.SeenThread.{phase_of, bottom_of}
use Rattle.ls_source.specs.Kept.{action_in}

module _ (file : File) (program : Program) (n : ℕ) (cs : List ProgramCall) where
  -- a body in its place
  making_work : (name : ℕ) (o : Value) (d : ℕ) (ls : List Value) (x : Evaluated Value) →
      evaluated (after_work file program n cs (OfMaking name o)) d ls x ≡ then_calls file program n cs
      (with_value x (λ _ rest. naming name o rest))
  making_work name o d ls (EAsks a s) = refl
  making_work name o d ls (Results v q) = refl
  making_work name o d ls (Throws kind q) = refl

  calling_work : (m d : ℕ) (ls : List Value) (x : Evaluated Value) →
      evaluated (after_work file program n cs (OfCalling m)) d ls x ≡ then_calls file program n cs
      (with_value x (λ v rest. Results (result_of file m v) rest))
  calling_work m d ls (EAsks a s) = refl
  calling_work m d ls (Results v q) = refl
  calling_work m d ls (Throws kind q) = refl

  -- answers
  announced_keeps : (c : ProgramCall) (a : Answer Value) (q : Answers) →
      phase_meaning file program n cs (announced c) q ≡ phase_meaning file program n cs (Announces c) (a ∷ q)
  announced_keeps (Making name c text values) a q = refl
  announced_keeps (Calling name m text result values) a q = refl

  made_keeps : (name c : ℕ) (values : List Value) (a : Answer Value) (q : Answers) →
      phase_meaning file program n cs (object_made file name c values a) q ≡ phase_meaning file program n cs
      (Makes name c values) (a ∷ q)
  made_keeps name c values answers.Done q = making_work name nothing depth_limit []
      (invoke file depth_limit (constructor_of file.classes c) (nothing ∷ values) q)
  made_keeps name c values (answers.Gives o) q = making_work name o depth_limit []
      (invoke file depth_limit (constructor_of file.classes c) (o ∷ values) q)
  made_keeps name c values (answers.Fails kind) q = refl

  entered_if : (b : Bool) (m : ℕ) (values : List Value) (o : Value) (q : Answers) →
      phase_meaning file program n cs (cond b (TrapsWith NullPointer)
      (Works (OfCalling m) (at (Invokes m (o ∷ values)) [] [] depth_limit))) q ≡ then_calls file program n cs
      (cond b (Throws NullPointer q) (with_value (invoke file depth_limit m (o ∷ values) q)
      (λ v rest. Results (result_of file m v) rest)))
  entered_if true m values o q = refl
  entered_if false m values o q = calling_work m depth_limit [] (invoke file depth_limit m (o ∷ values) q)

  fetched_keeps : (name m : ℕ) (values : List Value) (a : Answer Value) (q : Answers) →
      phase_meaning file program n cs (object_fetched file m values a) q ≡ phase_meaning file program n cs
      (Fetches name m values) (a ∷ q)
  fetched_keeps name m values answers.Done q = entered_if (nat_eq (reference_of nothing) 0) m values nothing q
  fetched_keeps name m values (answers.Gives o) q = entered_if (nat_eq (reference_of o) 0) m values o q
  fetched_keeps name m values (answers.Fails kind) q = refl

  -- a body that has ended
  worked_keeps : (b : Bottom) (c : Control) (fs : List Frame) (ls : List Value) (d : ℕ) (q : Answers) →
      is_left c fs ≡ false →
      phase_meaning file program n cs (worked file b (at c fs ls d) c) q ≡ phase_meaning file program n cs
      (Works b (at c fs ls d)) q
  worked_keeps (OfMaking name o) (Gives v) [] ls d q h = refl
  worked_keeps (OfCalling m) (Gives v) [] ls d q h = refl
  worked_keeps b (Gives v) (f ∷ fs) ls d q h = cc
  worked_keeps (OfMaking name o) (Ends Normal) [] ls d q h = refl
  worked_keeps (OfMaking name o) (Ends (Broke k)) [] ls d q h = refl
  worked_keeps (OfMaking name o) (Ends (Continued k)) [] ls d q h = refl
  worked_keeps (OfMaking name o) (Ends (Returned v)) [] ls d q h = refl
  worked_keeps (OfMaking name o) (Ends (Threw kind)) [] ls d q h = refl
  worked_keeps (OfCalling m) (Ends Normal) [] ls d q h = refl
  worked_keeps (OfCalling m) (Ends (Broke k)) [] ls d q h = refl
  worked_keeps (OfCalling m) (Ends (Continued k)) [] ls d q h = refl
  worked_keeps (OfCalling m) (Ends (Returned v)) [] ls d q h = refl
  worked_keeps (OfCalling m) (Ends (Threw kind)) [] ls d q h = refl
  worked_keeps b (Ends c) (f ∷ fs) ls d q h = cc
  worked_keeps (OfMaking name o) (Asks a s) fs ls d q h = refl
  worked_keeps (OfMaking name o) (Enters m vs) fs ls d q h = refl
  worked_keeps (OfMaking name o) (Turns e s) fs ls d q h = refl
  worked_keeps (OfCalling m) (Asks a s) fs ls d q h = refl
  worked_keeps (OfCalling m) (Enters m2 vs) fs ls d q h = refl
  worked_keeps (OfCalling m) (Turns e s) fs ls d q h = refl
  worked_keeps b (Evaluates e) fs ls d q h = cc
  worked_keeps b (Argues p vs es) fs ls d q h = cc
  worked_keeps b (Invokes m vs) fs ls d q h = cc
  worked_keeps b (Opens m vs) fs ls d q h = cc
  worked_keeps b (Executes s) fs ls d q h = cc
  worked_keeps b (Loops e s) fs ls d q h = cc

  finished_if : (l : Bool) (b : Bottom) (w : State) (q : Answers) →
      is_left w.control w.frames ≡ l →
      phase_meaning file program n cs (cond l (Works b w) (worked file b w w.control)) q ≡ phase_meaning file program n
      cs (Works b w) q
  finished_if true b w q h = refl
  finished_if false b w q h = worked_keeps b w.control w.frames w.locals w.depth q h

  -- a phase that is finished means the same
  pub finished_keeps : (p : Phase) (q : Answers) →
      phase_meaning file program n cs (finished_phase file p) q ≡ phase_meaning file program n cs p q
  finished_keeps Starts q = refl
  finished_keeps (Announces c) q = refl
  finished_keeps (Makes name c values) q = refl
  finished_keeps (Fetches name m values) q = refl
  finished_keeps (Works b w) q = finished_if (is_left w.control w.frames) b w q refl
  finished_keeps (Names name o) q = refl
  finished_keeps (ReturnsWith v) q = refl
  finished_keeps (TrapsWith kind) q = refl
  finished_keeps IsTrapped q = refl

  -- what is asked for is what the thread does next
  same_next : (x r : Next) → Some x ≡ Some r → x ≡ r
  same_next x r h = cc

  none_begun : (l : List ProgramCall) (r : Next) → asked_at_start l ≡ Some r → all_calls file program (n + 1) l [] ≡ r
  none_begun [] r h = same_next Ended r h
  none_begun (c ∷ l) r h = cc

  announced_is : (c : ProgramCall) → then_calls file program n cs (one_call file program n c []) ≡ Goes (Call n) NoValue
  announced_is (Making name c text values) = refl
  announced_is (Calling name m text result values) = refl

  working_is : (b : Bottom) (w : State) (c : Control) (r : Next) →
      asked_by c ≡ Some r →
      done_now file (rest_of file (after_work file program n cs b) w.frames) c w.depth w.locals [] ≡ r
  working_is b w (Asks a s) r h = same_next (Goes a s) r h
  working_is b w (Enters m vs) r h = same_next (Goes (Enter m) NoValue) r h
  working_is b w (Turns e s) r h = same_next (Goes Turn NoValue) r h
  working_is b w (Evaluates e) r h = cc
  working_is b w (Argues p vs es) r h = cc
  working_is b w (Invokes m vs) r h = cc
  working_is b w (Opens m vs) r h = cc
  working_is b w (Executes s) r h = cc
  working_is b w (Loops e s) r h = cc
  working_is b w (Gives v) r h = cc
  working_is b w (Ends c) r h = cc

  -- if a phase asks, it means what it asks
  pub asked_is : (p : Phase) (r : Next) → asked_in program n cs p ≡ Some r → phase_meaning file program n cs p [] ≡ r
  asked_is Starts r h = none_begun cs r h
  asked_is (Announces c) r h = announced_is c ∙ same_next (Goes (Call n) NoValue) r h
  asked_is (Makes name c values) r h = same_next (Goes (New c) (NewOf (types.Class c))) r h
  asked_is (Fetches name m values) r h = same_next (Goes (ReadName name) (named program name)) r h
  asked_is (Works b w) r h = working_is b w w.control r h
  asked_is (Names name o) r h = same_next (Goes (WriteName name o) NoValue) r h
  asked_is (ReturnsWith v) r h = same_next (Goes (Return n v) NoValue) r h
  asked_is (TrapsWith kind) r h = same_next (Goes (Trap n kind) NoValue) r h
  asked_is IsTrapped r h = same_next Trapped r h

  -- an answer to what is asked for
  waits : (base : Rest) (c : Control) (act : Action Value) → action_in (asked_by c) ≡ Some act → IsAsking file base c
  waits base (Asks a s) act h = tt
  waits base (Enters m vs) act h = tt
  waits base (Turns e s) act h = tt
  waits base (Evaluates e) act h = cc
  waits base (Argues p vs es) act h = cc
  waits base (Invokes m vs) act h = cc
  waits base (Opens m vs) act h = cc
  waits base (Executes s) act h = cc
  waits base (Loops e s) act h = cc
  waits base (Gives v) act h = cc
  waits base (Ends c) act h = cc

  starts_ask_nothing : (l : List ProgramCall) (act : Action Value) → action_in (asked_at_start l) ≡ Some act → ⊥
  starts_ask_nothing [] act h = cc
  starts_ask_nothing (c ∷ l) act h = cc

  -- an answer that is given to a phase is the first of its answers
  pub answered_keeps : (p : Phase) (act : Action Value) (a : Answer Value) (q : Answers) →
      action_in (asked_in program n cs p) ≡ Some act →
      phase_meaning file program n cs (answered_phase file a p) q ≡ phase_meaning file program n cs p (a ∷ q)
  answered_keeps Starts act a q h = absurd (starts_ask_nothing cs act h)
  answered_keeps (Announces c) act a q h = announced_keeps c a q
  answered_keeps (Makes name c values) act a q h = made_keeps name c values a q
  answered_keeps (Fetches name m values) act a q h = fetched_keeps name m values a q
  answered_keeps (Works b w) act a q h = taken_keeps file (after_work file program n cs b) a w q
      (waits (after_work file program n cs b) w.control act h)
  answered_keeps (Names name o) act a q h = refl
  answered_keeps (ReturnsWith v) act a q h = refl
  answered_keeps (TrapsWith kind) act a q h = refl
  answered_keeps IsTrapped act a q h = cc

-- the next call begins
begun_keeps_by : (file : File) (program : Program) (n : ℕ) (cs : List ProgramCall) (q : Answers) →
    thread_meaning file program (begun_with n cs) q ≡ all_calls file program (n + 1) cs q
begun_keeps_by file program n [] q = refl
begun_keeps_by file program n (c ∷ cs) q = refl

begun_in_keeps : (file : File) (program : Program) (p : Phase) (n : ℕ) (cs : List ProgramCall) (q : Answers) →
    thread_meaning file program (begun_in p n cs) q ≡ phase_meaning file program n cs p q
begun_in_keeps file program Starts n cs q = begun_keeps_by file program n cs q
begun_in_keeps file program (Announces c) n cs q = refl
begun_in_keeps file program (Makes name c values) n cs q = refl
begun_in_keeps file program (Fetches name m values) n cs q = refl
begun_in_keeps file program (Works b w) n cs q = refl
begun_in_keeps file program (Names name o) n cs q = refl
begun_in_keeps file program (ReturnsWith v) n cs q = refl
begun_in_keeps file program (TrapsWith kind) n cs q = refl
begun_in_keeps file program IsTrapped n cs q = refl

-- a thread that begins means the same
pub begun_keeps : (file : File) (program : Program) (t : Thread) (q : Answers) →
    thread_meaning file program (begun t) q ≡ thread_meaning file program t q
begun_keeps file program t q = begun_in_keeps file program t.phase t.number t.left q

-- the work of a body in another state that means the same
pub work_keeps : (file : File) (program : Program) (n : ℕ) (cs : List ProgramCall) (p : Kept) (w w' : State)
    (q : Answers) →
    ((base : Rest) (q : Answers) → meaning file base w' q ≡ meaning file base w q) →
    phase_meaning file program n cs (phase_of p w') q ≡ phase_meaning file program n cs (phase_of p w) q
work_keeps file program n cs phases.Starts w w' q h = refl
work_keeps file program n cs (phases.Announces c) w w' q h = refl
work_keeps file program n cs (phases.Makes name c values) w w' q h = refl
work_keeps file program n cs (phases.Fetches name m values) w w' q h = refl
work_keeps file program n cs (phases.Begins b m o values) w w' q h = refl
work_keeps file program n cs (phases.Works b) w w' q h = h (after_work file program n cs (bottom_of b)) q
work_keeps file program n cs (phases.Names name o) w w' q h = refl
work_keeps file program n cs (phases.ReturnsWith v) w w' q h = refl
work_keeps file program n cs (phases.TrapsWith kind) w w' q h = refl
work_keeps file program n cs phases.Trapped w w' q h = refl
