-- One step of one thread: what the thread asks for, and what the cells answer.
use Rattle.std.specs.Prelude.{ℕ, ◌+◌, List, ◌∷◌, length, Option, Some, None, ◌&&◌, ◌==◌, not, nat_le, if◌then◌else◌}
use Rattle.std.specs.Prelude.{slice_get}
use Rattle.ls_code.specs.Frame.{Frame, top_one, top_two}
use Rattle.ls_code.specs.Exchanges.{Seen, Quietly, Reports, Plan, Says, Touches, Stores, see_at, take_at, drop_at}
use Rattle.ls_code.specs.Moves.{FrameMove, Next, Throws, Stuck, Asks as FrameAsks, Beyond, frame_move, resumed}
use Rattle.ls_code.specs.Throws.{thrown}
use Rattle.ls_code.specs.Kinds.{kind_of}
use Rattle.ls_code.specs.Thread.{Thread, with_top, with_frames}
use Rattle.ls_code.specs.Calls.{CallMove, Calls, CallThrows, CallStuck, enter_move, left_frame, left_with, halted}
use Rattle.ls_code.specs.Calls.{call_begun, call_ended, call_trapped}
use Rattle.ls_code.specs.Cells.{Cells, Effect, Answers, Waits, Stops, Unfit, effect}
use Rattle.ls_code.specs.Code.{Code}
use Rattle.ls_code.specs.declared.code.Method.{Method}
use Rattle.ls_code.specs.declared.code.CallResult.{CallResult}
use Rattle.ls_code.specs.declared.code.CallResult.TheVariants.{Nothing, Int, Boolean}
use Rattle.ls_code.specs.declared.instruction.Resume.{Resume}
use Rattle.ls_code.specs.declared.instruction.ThreadInstruction.{ThreadInstruction}
use Rattle.ls_code.specs.declared.instruction.ThreadInstruction.TheVariants as wide
use Rattle.ls_code.specs.declared.instruction.Instruction.{Instruction}
use Rattle.ls_code.specs.declared.step.Did.{Did}
use Rattle.ls_code.specs.declared.step.Did.TheVariants as did
use Rattle.ls_events.specs.declared.kind.Kind.{Kind}
use Rattle.ls_events.specs.declared.action.Action.{Action}
use Rattle.ls_events.specs.declared.action.Action.TheVariants as act
use Rattle.ls_events.specs.declared.action.Answer.{Answer}
use Rattle.ls_events.specs.declared.action.Answer.TheVariants.{Done, Gives, Fails}

-- A thread goes on in silence, is stuck, or asks for an action and goes on with its answer. Or it has a plan for a
-- lock's word, which depends on its own number.
pub data Move : Type 0 where
  Silent : (thread : Thread) → Move
  Still : Move
  Asks : (action : Action ℕ) → (go : Answer ℕ → Option Thread) → Move
  Plans : (go : ℕ → Plan) → Move

abbrev pub silent_or_still : Option Thread → Move
silent_or_still None = Still
silent_or_still (Some t) = Silent t

abbrev pub thrown_thread : Thread → Option (Frame × List Frame) → Option Thread
thrown_thread t None = None
thrown_thread t (Some r) = Some (with_frames t r.0 r.1)

-- a throw by the innermost frame
abbrev pub throw_move : Code → Thread → Kind → Move
throw_move p t kind = silent_or_still (thrown_thread t (thrown p.handlers kind (t.top ∷ t.below)))

-- the innermost frame goes on with an answer
abbrev pub answered : Code → Thread → Resume → Answer ℕ → Option Thread
answered p t resume Done = Some (with_top t (resumed resume t.top 0))
answered p t resume (Gives word) = Some (with_top t (resumed resume t.top word))
answered p t resume (Fails kind) = thrown_thread t (thrown p.handlers kind (t.top ∷ t.below))

abbrev pub call_move : Code → Thread → ℕ → CallMove → Move
call_move p t x (Calls callee) = Asks (act.Enter x) (λ answer. Some callee)
call_move p t x (CallThrows kind) = throw_move p t kind
call_move p t x CallStuck = Still

abbrev pub on_top : Option ℕ → (ℕ → Move) → Move
on_top None go = Still
on_top (Some word) go = go word

abbrev pub on_kind : Option Kind → (Kind → Move) → Move
on_kind None go = Still
on_kind (Some kind) go = go kind

-- The call that is due begins. Or the pending call gives its value, if it has one. Or it traps. A thread's calls are
-- numbered from 1.
abbrev pub begin_move : Thread → ℕ → Move
begin_move t x = if not t.pending && (x == t.ended + 1) && nat_le x (length t.calls) then
    Asks (act.Call x) (λ answer. Some (call_begun t)) else Still

abbrev pub gives_move : Thread → ℕ → Move
gives_move t x = on_top (top_one t.top.operands) (λ word. Asks (act.Return x (Some word))
    (λ answer. Some (call_ended 1 t)))

abbrev pub value_move : Thread → ℕ → Option CallResult → Move
value_move t x None = Still
value_move t x (Some Int) = gives_move t x
value_move t x (Some Boolean) = gives_move t x
value_move t x (Some Nothing) = Asks (act.Return x None) (λ answer. Some (call_ended 0 t))

abbrev pub result_move : Thread → ℕ → Move
result_move t x = if t.pending && (x == t.ended + 1) then value_move t x (slice_get t.calls t.ended) else Still

abbrev pub trap_move : Thread → Move
trap_move t = if t.pending then on_top (top_one t.top.operands)
    (λ word. on_kind (kind_of word) (λ kind. Asks (act.Trap (t.ended + 1) kind) (λ answer. Some (call_trapped t)))) else
    Still

abbrev pub found_move : Code → Thread → ℕ → Option Method → Move
found_move p t x None = Still
found_move p t x (Some m) = call_move p t x (enter_move m t)

abbrev pub enters_move : Code → Thread → ℕ → Move
enters_move p t x = found_move p t x (slice_get p.methods x)

abbrev pub leaves_with_move : Thread → Move
leaves_with_move t = on_top (top_one t.top.operands) (λ word. silent_or_still (left_with t t.below word))

abbrev pub throws_move : Code → Thread → Move
throws_move p t = on_top (top_one t.top.operands) (λ word. on_kind (kind_of word) (λ kind. throw_move p t kind))

abbrev pub wide_move : Code → Thread → ThreadInstruction → Move
wide_move p t wide.Halt = Silent (halted t)
wide_move p t (wide.Enter x) = enters_move p t x
wide_move p t wide.Leave = silent_or_still (left_frame t t.below)
wide_move p t wide.LeaveWith = leaves_with_move t
wide_move p t wide.Throw = throws_move p t
wide_move p t (wide.Call x) = begin_move t x
wide_move p t (wide.Result x) = result_move t x
wide_move p t wide.Trap = trap_move t
wide_move p t (wide.See x) = Plans (λ n. see_at p t n x (top_one t.top.operands))
wide_move p t (wide.Take x) = Plans (λ n. take_at p t n x (top_two t.top.operands))
wide_move p t (wide.DropLock x) = Plans (λ n. drop_at t n x (top_two t.top.operands))

abbrev pub of_frame : Code → Thread → FrameMove → Move
of_frame p t (Next f) = Silent (with_top t f)
of_frame p t (Throws kind) = throw_move p t kind
of_frame p t Stuck = Still
of_frame p t (FrameAsks action resume) = Asks action (answered p t resume)
of_frame p t (Beyond instruction) = wide_move p t instruction

abbrev pub fetched_move : Code → Thread → Option Instruction → Move
fetched_move p t None = Still
fetched_move p t (Some i) = of_frame p t (frame_move i t.top)

-- the thread's part of a step
abbrev pub thread_move : Code → Thread → Move
thread_move p t = fetched_move p t (slice_get p.instructions t.top.counter)

-- a whole step
pub record StepResult : Type 0 where
  pub thread : Thread
  pub cells : Cells
  pub did : Did

abbrev pub step_result : Thread → Cells → Did → StepResult
step_result t c d = record { thread = t; cells = c; did = d }

abbrev pub replied : Cells → Thread → Action ℕ → Answer ℕ → Option Thread → StepResult
replied c t action answer None = step_result t c did.Silent
replied c t action answer (Some s) = step_result s c (did.Acted action answer)

abbrev pub settled : Cells → Thread → Action ℕ → (Answer ℕ → Option Thread) → Effect → StepResult
settled c t action go (Answers d answer) = replied d t action answer (go answer)
settled c t action go Waits = step_result t c did.Waits
settled c t action go Stops = step_result t c did.Stopped
settled c t action go Unfit = step_result t c did.Silent

abbrev pub ended_so : Cells → Thread → Option Thread → Did → StepResult
ended_so c t None d = step_result t c did.Silent
ended_so c t (Some s) d = step_result s c d

abbrev pub seen_outcome : Cells → Thread → Seen → StepResult
seen_outcome c t (Quietly s) = ended_so c t s did.Silent
seen_outcome c t (Reports action answer s) = ended_so c t s (did.Acted action answer)

abbrev pub touched : Cells → Thread → (ℕ → Seen) → Effect → StepResult
touched c t go (Answers d Done) = seen_outcome d t (go 0)
touched c t go (Answers d (Gives word)) = seen_outcome d t (go word)
touched c t go (Answers d (Fails kind)) = step_result t d did.Silent
touched c t go Waits = step_result t c did.Silent
touched c t go Stops = step_result t c did.Silent
touched c t go Unfit = step_result t c did.Silent

abbrev pub planned : Cells → ℕ → Thread → Plan → StepResult
planned c n t (Says seen) = seen_outcome c t seen
planned c n t (Touches operation touch go) = touched c t go (effect c n touch)
planned c n t (Stores touch seen) = touched c t (λ word. seen) (effect c n touch)

abbrev pub performed : Cells → ℕ → Thread → Move → StepResult
performed c number t (Silent s) = step_result s c did.Silent
performed c number t Still = step_result t c did.Silent
performed c number t (Asks action go) = settled c t action go (effect c number action)
performed c number t (Plans go) = planned c number t (go number)
