-- Without the instructions that are a whole operation on a lock, no thread asks for one by one instruction.
use Rattle.std.proofs.Common.{◌≡◌, ℕ, false, Option, Some, None, slice_get, subst, refl, All}
use Rattle.ls_events.specs.declared.action.Action.{Action}
use Rattle.ls_events.specs.declared.action.Answer.{Answer}
use Rattle.ls_code.specs.Code.{Code}
use Rattle.ls_code.specs.Frame.{Frame}
use Rattle.ls_code.specs.Thread.{Thread}
use Rattle.ls_code.specs.Moves.{FrameMove, Next, Throws, Stuck, Asks as FrameAsks, Beyond, frame_move}
use Rattle.ls_code.specs.Steps.{Move, Silent, Still, Asks, Plans, of_frame, fetched_move, thread_move}
use Rattle.ls_code.specs.declared.instruction.ThreadInstruction.TheVariants as wide
use Rattle.ls_code.specs.declared.instruction.Instruction.{Instruction}
use Rattle.ls_code.specs.declared.instruction.Instruction.TheVariants as op
use Rattle.ls_preservation.specs.ByWords.{IsExchanged, is_on_lock}
use Rattle.ls_preservation.proofs.Codes.{all_get}
use Rattle.ls_preservation.proofs.UsualMoves.{Frames, Moves, frame_all, silent_all, wide_all}

-- a frame asks for no operation on a lock
abbrev IsPlain : FrameMove → Type 0
IsPlain (FrameAsks a r) = is_on_lock a ≡ false
IsPlain (Next f) = Unit {0}
IsPlain (Throws k) = Unit {0}
IsPlain Stuck = Unit {0}
IsPlain (Beyond i) = Unit {0}

frames : Frames IsPlain
frames = record { next = λ f. tt; throws = λ k. tt; stuck = tt; asks = λ a r e. e; beyond = λ i h. tt }

frame_plain : (i : Instruction) (f : Frame) → IsExchanged i → IsPlain (frame_move i f)
frame_plain op.Lock f h = absurd h
frame_plain op.Unlock f h = absurd h
frame_plain op.TryLock f h = absurd h
frame_plain (op.See x) f h = tt
frame_plain (op.Take x) f h = tt
frame_plain (op.DropLock x) f h = tt
frame_plain i f h = frame_all IsPlain frames i f tt

-- a thread asks for none
abbrev pub AsksPlainly : Move → Type 0
AsksPlainly (Asks a go) = is_on_lock a ≡ false
AsksPlainly (Silent t) = Unit {0}
AsksPlainly Still = Unit {0}
AsksPlainly (Plans go) = Unit {0}

moves : Moves AsksPlainly
moves = record { silent = λ t. tt; still = tt; asks = λ a go e. e }

of_none : (p : Code) (t : Thread) (d : FrameMove) → IsPlain d → AsksPlainly (of_frame p t d)
of_none p t (Next f) h = tt
of_none p t (Throws k) h = silent_all AsksPlainly moves _
of_none p t Stuck h = tt
of_none p t (FrameAsks a r) h = h
of_none p t (Beyond (wide.See x)) h = tt
of_none p t (Beyond (wide.Take x)) h = tt
of_none p t (Beyond (wide.DropLock x)) h = tt
of_none p t (Beyond i) h = wide_all AsksPlainly moves p t i tt

fetched_none : (p : Code) (t : Thread) (o : Option Instruction) →
    ((i : Instruction) → o ≡ Some i → IsExchanged i) →
    AsksPlainly (fetched_move p t o)
fetched_none p t None h = tt
fetched_none p t (Some i) h = of_none p t (frame_move i t.top) (frame_plain i t.top (h i refl))

-- an action that such code asks for plainly is on no lock
pub asks_plainly : (p : Code) (t : Thread) (a : Action ℕ) (go : Answer ℕ → Option Thread) →
    All IsExchanged p.instructions →
    thread_move p t ≡ Asks a go →
    is_on_lock a ≡ false
asks_plainly p t a go h e =
    subst AsksPlainly e (fetched_none p t (slice_get p.instructions t.top.counter)
    (λ i is. all_get IsExchanged p.instructions t.top.counter i h is))
