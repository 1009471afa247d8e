-- The work of a thread under a renaming of references.
use Rattle.std.specs.Prelude.{◌≡◌, ℕ, List, [], ◌∷◌, map}
use Rattle.ls_events.specs.declared.value.Value.{Value}
use Rattle.ls_checked.specs.CheckedTree.{File}
use Rattle.ls_checked.specs.CheckedProgram.{Program}
use Rattle.ls_meaning.specs.declared.completion.Completion.{Completion}
use Rattle.ls_meaning.specs.declared.completion.Completion.TheVariants.{Normal, Broke, Continued, Returned, Threw}
use Rattle.ls_meaning.specs.Course.{Answers}
use Rattle.ls_meaning.specs.Constants.{CallHasConstants, CallsHaveConstants, FileHasConstants, HasConstants}
use Rattle.ls_meaning.specs.Constants.{HaveConstants}
use Rattle.ls_meaning.specs.Constants.{UseConstants, UsesConstants}
use Rattle.ls_meaning.specs.Renamings.{IsRenaming, renamed, renamed_action, renamed_answers, renamed_next}
use Rattle.ls_meaning.specs.Renamings.{renamed_result}
use Rattle.ls_source_pending.specs.Pending.{Purpose, ToCall, ToMake, ToMark, Operand, InField, InItem, InIndex}
use Rattle.ls_source_pending.specs.Pending.{InNegate, InNot, InLength, InLeft, InRight, InAnd, InOr, InTarget}
use Rattle.ls_source_pending.specs.Pending.{InArgument, InMade, InConstructor, InReference, InMark, InBoth, InWritten}
use Rattle.ls_source_pending.specs.Pending.{Waiting, ToSlot, ToTarget, ToField, ToCounter, ToAddend, ToSum, ToArray}
use Rattle.ls_source_pending.specs.Pending.{ToIndex, ToItem, ToNothing, ToIf, ToTest, ToReturn, Ending, OfSequence}
use Rattle.ls_source_pending.specs.Pending.{OfBody, OfTry, OfFinally, Frame, In, On, Up, Leaves, Control, Evaluates}
use Rattle.ls_source_pending.specs.Pending.{Argues, Invokes, Opens, Executes, Loops, Gives, Ends, Asks}
use Rattle.ls_source_pending.specs.Pending.{Enters, Turns, State}
use Rattle.ls_source.specs.Calls.{Bottom, OfMaking, OfCalling, Phase, Starts, Announces, Makes, Fetches, Works, Names}
use Rattle.ls_source.specs.Calls.{ReturnsWith, TrapsWith, IsTrapped, Thread, thread_meaning}

abbrev pub renamed_values : (ℕ → ℕ) → List Value → List Value
renamed_values names vs = map (renamed names) vs

abbrev pub renamed_completion : (ℕ → ℕ) → Completion Value → Completion Value
renamed_completion names Normal = Normal
renamed_completion names (Broke n) = Broke n
renamed_completion names (Continued n) = Continued n
renamed_completion names (Returned v) = Returned (renamed_result names v)
renamed_completion names (Threw kind) = Threw kind

abbrev pub renamed_purpose : (ℕ → ℕ) → Purpose → Purpose
renamed_purpose names (ToCall m o) = ToCall m (renamed names o)
renamed_purpose names (ToMake c o) = ToMake c (renamed names o)
renamed_purpose names (ToMark c) = ToMark c

abbrev pub renamed_operand : (ℕ → ℕ) → Operand → Operand
renamed_operand names (InField c f) = InField c f
renamed_operand names (InItem i) = InItem i
renamed_operand names (InIndex a) = InIndex (renamed names a)
renamed_operand names InNegate = InNegate
renamed_operand names InNot = InNot
renamed_operand names InLength = InLength
renamed_operand names (InLeft op b) = InLeft op b
renamed_operand names (InRight op x) = InRight op (renamed names x)
renamed_operand names (InAnd b) = InAnd b
renamed_operand names (InOr b) = InOr b
renamed_operand names (InTarget m es) = InTarget m es
renamed_operand names (InArgument p before es) = InArgument (renamed_purpose names p) (renamed_values names before) es
renamed_operand names (InMade c es) = InMade c es
renamed_operand names (InConstructor o) = InConstructor (renamed names o)
renamed_operand names InReference = InReference
renamed_operand names InMark = InMark
renamed_operand names (InBoth a) = InBoth (names a)
renamed_operand names (InWritten p) = InWritten (renamed names p)

abbrev pub renamed_waiting : (ℕ → ℕ) → Waiting → Waiting
renamed_waiting names (ToSlot n) = ToSlot n
renamed_waiting names (ToTarget f e) = ToTarget f e
renamed_waiting names (ToField o f) = ToField (renamed names o) f
renamed_waiting names (ToCounter f e) = ToCounter f e
renamed_waiting names (ToAddend o f e) = ToAddend (renamed names o) f e
renamed_waiting names (ToSum o f x) = ToSum (renamed names o) f (renamed names x)
renamed_waiting names (ToArray i e) = ToArray i e
renamed_waiting names (ToIndex a e) = ToIndex (renamed names a) e
renamed_waiting names (ToItem a n) = ToItem (renamed names a) (renamed names n)
renamed_waiting names ToNothing = ToNothing
renamed_waiting names (ToIf a b) = ToIf a b
renamed_waiting names (ToTest e s) = ToTest e s
renamed_waiting names ToReturn = ToReturn

abbrev pub renamed_ending : (ℕ → ℕ) → Ending → Ending
renamed_ending names (OfSequence ss) = OfSequence ss
renamed_ending names (OfBody e s) = OfBody e s
renamed_ending names (OfTry f) = OfTry f
renamed_ending names (OfFinally reason) = OfFinally (renamed_completion names reason)

abbrev pub renamed_frame : (ℕ → ℕ) → Frame → Frame
renamed_frame names (In f) = In (renamed_operand names f)
renamed_frame names (On f) = On (renamed_waiting names f)
renamed_frame names (Up f) = Up (renamed_ending names f)
renamed_frame names (Leaves result saved outer) = Leaves result (renamed_values names saved) outer

abbrev pub renamed_control : (ℕ → ℕ) → Control → Control
renamed_control names (Evaluates e) = Evaluates e
renamed_control names (Argues p before es) = Argues (renamed_purpose names p) (renamed_values names before) es
renamed_control names (Invokes m vs) = Invokes m (renamed_values names vs)
renamed_control names (Opens m vs) = Opens m (renamed_values names vs)
renamed_control names (Executes s) = Executes s
renamed_control names (Loops e s) = Loops e s
renamed_control names (Gives v) = Gives (renamed names v)
renamed_control names (Ends c) = Ends (renamed_completion names c)
renamed_control names (Asks action sort) = Asks (renamed_action names action) sort
renamed_control names (Enters m vs) = Enters m (renamed_values names vs)
renamed_control names (Turns e s) = Turns e s

abbrev pub renamed_work : (ℕ → ℕ) → State → State
renamed_work names s = record {
  control = renamed_control names s.control;
  frames = map (renamed_frame names) s.frames;
  locals = renamed_values names s.locals;
  depth = s.depth;
}

abbrev pub renamed_bottom : (ℕ → ℕ) → Bottom → Bottom
renamed_bottom names (OfMaking name o) = OfMaking name (renamed names o)
renamed_bottom names (OfCalling m) = OfCalling m

abbrev pub renamed_phase : (ℕ → ℕ) → Phase → Phase
renamed_phase names Starts = Starts
renamed_phase names (Announces c) = Announces c
renamed_phase names (Makes name c values) = Makes name c (renamed_values names values)
renamed_phase names (Fetches name m values) = Fetches name m (renamed_values names values)
renamed_phase names (Works b work) = Works (renamed_bottom names b) (renamed_work names work)
renamed_phase names (Names name o) = Names name (renamed names o)
renamed_phase names (ReturnsWith v) = ReturnsWith (renamed_result names v)
renamed_phase names (TrapsWith kind) = TrapsWith kind
renamed_phase names IsTrapped = IsTrapped

abbrev pub renamed_thread : (ℕ → ℕ) → Thread → Thread
renamed_thread names t = record { number = t.number; left = t.left; phase = renamed_phase names t.phase }

-- the constants in what is left to do name no object
abbrev pub OperandHasConstants : Operand → Type 0
OperandHasConstants (InItem i) = HasConstants i
OperandHasConstants (InLeft op b) = HasConstants b
OperandHasConstants (InAnd b) = HasConstants b
OperandHasConstants (InOr b) = HasConstants b
OperandHasConstants (InTarget m es) = HaveConstants es
OperandHasConstants (InArgument p before es) = HaveConstants es
OperandHasConstants (InMade c es) = HaveConstants es
OperandHasConstants _ = Unit {0}

abbrev pub WaitingHasConstants : Waiting → Type 0
WaitingHasConstants (ToTarget f e) = HasConstants e
WaitingHasConstants (ToCounter f e) = HasConstants e
WaitingHasConstants (ToAddend o f e) = HasConstants e
WaitingHasConstants (ToArray i e) = HasConstants i × HasConstants e
WaitingHasConstants (ToIndex a e) = HasConstants e
WaitingHasConstants (ToIf a b) = UsesConstants a × UsesConstants b
WaitingHasConstants (ToTest e s) = HasConstants e × UsesConstants s
WaitingHasConstants _ = Unit {0}

abbrev pub EndingHasConstants : Ending → Type 0
EndingHasConstants (OfSequence ss) = UseConstants ss
EndingHasConstants (OfBody e s) = HasConstants e × UsesConstants s
EndingHasConstants (OfTry f) = UsesConstants f
EndingHasConstants (OfFinally reason) = Unit {0}

abbrev pub FrameHasConstants : Frame → Type 0
FrameHasConstants (In f) = OperandHasConstants f
FrameHasConstants (On f) = WaitingHasConstants f
FrameHasConstants (Up f) = EndingHasConstants f
FrameHasConstants (Leaves result saved outer) = Unit {0}

abbrev pub FramesHaveConstants : List Frame → Type 0
FramesHaveConstants [] = Unit {0}
FramesHaveConstants (f ∷ fs) = FrameHasConstants f × FramesHaveConstants fs

abbrev pub ControlHasConstants : Control → Type 0
ControlHasConstants (Evaluates e) = HasConstants e
ControlHasConstants (Argues p before es) = HaveConstants es
ControlHasConstants (Executes s) = UsesConstants s
ControlHasConstants (Loops e s) = HasConstants e × UsesConstants s
ControlHasConstants (Turns e s) = HasConstants e × UsesConstants s
ControlHasConstants _ = Unit {0}

abbrev pub PhaseHasConstants : Phase → Type 0
PhaseHasConstants (Announces c) = CallHasConstants c
PhaseHasConstants (Works b work) = ControlHasConstants work.control × FramesHaveConstants work.frames
PhaseHasConstants _ = Unit {0}

abbrev pub ThreadHasConstants : Thread → Type 0
ThreadHasConstants t = CallsHaveConstants t.left × PhaseHasConstants t.phase

-- what the work of a thread means commutes with renamings of the references in it
abbrev pub ThreadsRename : Type 0
ThreadsRename =
    (file : File) (program : Program) → FileHasConstants file → (names : ℕ → ℕ) → IsRenaming names → (t : Thread) →
    ThreadHasConstants t → (q : Answers) →
    thread_meaning file program (renamed_thread names t) (renamed_answers names q) ≡ renamed_next names
    (thread_meaning file program t q)
