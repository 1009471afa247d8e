-- What one instruction does to its frame, or asks for, before the cells answer.
use Rattle.std.specs.Prelude.{ℕ, ◌/◌, ◌%◌, ◌^◌, ◌∷◌, drop, length, Option, Some, None, nat_lt, ◌==◌, if◌then◌else◌}
use Rattle.std.specs.Prelude.{slice_get, slice_set, pos}
use Rattle.std.specs.Int.RustNames.{int_lt}
use Rattle.ls_code.specs.Words.{sum_word, difference_word, product_word, quotient_word, remainder_word, negative_word}
use Rattle.ls_code.specs.Words.{less_word, at_most_word, same_word, not_word, other_word, pair_word, int_of, bool_of}
use Rattle.ls_code.specs.Frame.{Frame, onward, led_to, top_one, top_two, top_three}
use Rattle.ls_events.specs.declared.kind.Kind.{Kind}
use Rattle.ls_events.specs.declared.kind.Kind.TheVariants.{Arithmetic, NullPointer, NegativeArraySize}
use Rattle.ls_code.specs.declared.instruction.ThreadInstruction.{ThreadInstruction}
use Rattle.ls_code.specs.declared.instruction.ThreadInstruction.TheVariants as wide
use Rattle.ls_code.specs.declared.instruction.Resume.{Resume}
use Rattle.ls_code.specs.declared.instruction.Resume.TheVariants as then
use Rattle.ls_code.specs.declared.instruction.Instruction.{Instruction}
use Rattle.ls_code.specs.declared.instruction.Instruction.TheVariants as op
use Rattle.ls_events.specs.declared.action.Action.{Action}
use Rattle.ls_events.specs.declared.action.Action.TheVariants as act

-- A frame goes on in silence, throws, is stuck, or asks for an action and goes on with its answer. Or the instruction
-- concerns more than this frame.
pub data FrameMove : Type 0 where
  Next : (frame : Frame) → FrameMove
  Throws : (kind : Kind) → FrameMove
  Stuck : FrameMove
  Asks : (action : Action ℕ) → (resume : Resume) → FrameMove
  Beyond : (instruction : ThreadInstruction) → FrameMove

-- if one more operand may be pushed; else stuck
abbrev pub with_room : Frame → FrameMove → FrameMove
with_room f move = if nat_lt (length f.operands) f.need then move else Stuck

-- with the top operand, the two topmost or the three topmost; stuck if there are too few
abbrev pub on_one : Option ℕ → (ℕ → FrameMove) → FrameMove
on_one None go = Stuck
on_one (Some a) go = go a

abbrev pub on_two : Option (ℕ × ℕ) → (ℕ → ℕ → FrameMove) → FrameMove
on_two None go = Stuck
on_two (Some p) go = go p.0 p.1

abbrev pub on_three : Option (ℕ × ℕ × ℕ) → (ℕ → ℕ → ℕ → FrameMove) → FrameMove
on_three None go = Stuck
on_three (Some p) go = go p.0 p.1 p.2

-- at the next instruction, with n operands replaced by a word; or with n operands dropped
abbrev pub settled : Frame → ℕ → ℕ → Frame
settled f n word = onward f (word ∷ drop n f.operands)

abbrev pub discarded : Frame → ℕ → Frame
discarded f n = onward f (drop n f.operands)

abbrev pub pushed : Frame → ℕ → Frame
pushed f word = onward f (word ∷ f.operands)

-- the frame goes on with what the cells answered
abbrev pub resumed : Resume → Frame → ℕ → Frame
resumed then.Push f word = pushed f word
resumed (then.Settle n) f word = settled f n word
resumed (then.Discard n) f word = discarded f n
resumed (then.Lead x) f word = led_to f x f.operands

-- an operator on one word and on two
abbrev pub unary : (ℕ → ℕ) → Frame → FrameMove
unary g f = on_one (top_one f.operands) (λ a. Next (settled f 1 (g a)))

abbrev pub binary : (ℕ → ℕ → ℕ) → Frame → FrameMove
binary g f = on_two (top_two f.operands) (λ a b. Next (settled f 2 (g a b)))

-- an operator that divides
abbrev pub dividing : (ℕ → ℕ → ℕ) → Frame → FrameMove
dividing g f = on_two (top_two f.operands) (λ a b. if b % 2 ^ 32 == 0 then Throws Arithmetic else
    Next (settled f 2 (g a b)))

-- at address 0 it throws
abbrev pub at_object : ℕ → FrameMove → FrameMove
at_object address move = if address == 0 then Throws NullPointer else move

abbrev pub load_move : ℕ → Frame → FrameMove
load_move x f = with_room f (on_one (slice_get f.locals x) (λ word. Next (pushed f word)))

abbrev pub discarded_one : Frame → Frame
discarded_one f = onward f (drop 1 f.operands)

abbrev pub stored : Frame → ℕ → ℕ → Frame
stored f x word = record (discarded_one f) { locals = slice_set f.locals x word }

abbrev pub store_move : ℕ → Frame → FrameMove
store_move x f = on_one (top_one f.operands) (λ word. if nat_lt x (length f.locals) then Next (stored f x word) else
    Stuck)

-- a jump if the popped word is this word
abbrev pub jump_move : ℕ → ℕ → Frame → FrameMove
jump_move word x f = on_one (top_one f.operands) (λ a. if a == word then Next (led_to f x (drop 1 f.operands)) else
    Next (discarded f 1))

-- the table of instructions
abbrev pub frame_move : Instruction → Frame → FrameMove
frame_move (op.Push x) f = with_room f (Next (pushed f x))
frame_move (op.Load x) f = load_move x f
frame_move (op.Store x) f = store_move x f
frame_move op.Pop f = on_one (top_one f.operands) (λ a. Next (discarded f 1))
frame_move op.Dup f = with_room f (on_one (top_one f.operands) (λ a. Next (pushed f a)))
frame_move op.Add f = binary sum_word f
frame_move op.Sub f = binary difference_word f
frame_move op.Mul f = binary product_word f
frame_move op.Div f = dividing quotient_word f
frame_move op.Remainder f = dividing remainder_word f
frame_move op.Neg f = unary negative_word f
frame_move op.Lt f = binary less_word f
frame_move op.Le f = binary at_most_word f
frame_move op.Gt f = binary (λ a b. less_word b a) f
frame_move op.Ge f = binary (λ a b. at_most_word b a) f
frame_move op.Eq f = binary same_word f
frame_move op.Ne f = binary other_word f
frame_move op.Not f = unary not_word f
frame_move (op.Jump x) f = Next (led_to f x f.operands)
frame_move (op.JumpIfFalse x) f = jump_move 0 x f
frame_move (op.JumpIfTrue x) f = jump_move 1 x f
frame_move (op.Turn x) f = Asks act.Turn (then.Lead x)
frame_move (op.GetField x) f = on_one (top_one f.operands) (λ a. at_object a (Asks (act.ReadField a x) (then.Settle 1)))
frame_move (op.PutField x) f = on_two (top_two f.operands) (λ a v.
    at_object a (Asks (act.WriteField a x v) (then.Discard 2)))
frame_move op.GetItem f = on_two (top_two f.operands) (λ a i.
    at_object a (Asks (act.ReadItem a (int_of i)) (then.Settle 2)))
frame_move op.PutItem f = on_three (top_three f.operands) (λ a i v.
    at_object a (Asks (act.WriteItem a (int_of i) v) (then.Discard 3)))
frame_move (op.GetName x) f = with_room f (Asks (act.ReadName x) then.Push)
frame_move (op.PutName x) f = on_one (top_one f.operands) (λ v. Asks (act.WriteName x v) (then.Discard 1))
frame_move (op.NewObject x) f = with_room f (Asks (act.New x) then.Push)
frame_move op.NewLock f = with_room f (Asks act.NewLock then.Push)
frame_move op.NewMarkable f = on_one (top_one f.operands) (λ w. Asks (act.NewMarkable w) (then.Settle 1))
frame_move op.NewArray f = on_one (top_one f.operands) (λ n. if int_lt (int_of n) (pos 0) then
    Throws NegativeArraySize else Asks (act.NewArray (int_of n)) (then.Settle 1))
frame_move op.Lock f = on_one (top_one f.operands) (λ a. at_object a (Asks (act.Lock a) (then.Discard 1)))
frame_move op.Unlock f = on_one (top_one f.operands) (λ a. at_object a (Asks (act.Unlock a) (then.Discard 1)))
frame_move op.TryLock f = on_one (top_one f.operands) (λ a. at_object a (Asks (act.TryLock a) (then.Settle 1)))
frame_move op.IsHeld f = on_one (top_one f.operands) (λ a. at_object a (Asks (act.IsHeld a) (then.Settle 1)))
frame_move op.ReadPair f = on_one (top_one f.operands) (λ a. at_object a (Asks (act.ReadPair a) (then.Settle 1)))
frame_move op.ReferenceOf f = unary (λ w. w / 2) f
frame_move op.MarkOf f = unary (λ w. w % 2) f
frame_move op.Pack f = binary pair_word f
frame_move op.SetPair f = on_two (top_two f.operands) (λ a w. at_object a (Asks (act.SetPair a w) (then.Discard 2)))
frame_move op.SwapPair f = on_three (top_three f.operands) (λ a e n.
    at_object a (Asks (act.SwapPair a e n) (then.Settle 3)))
frame_move op.AttemptMark f = on_three (top_three f.operands)
    (λ a r m. at_object a (Asks (act.AttemptMark a r (bool_of m)) (then.Settle 3)))
frame_move op.Halt f = Beyond wide.Halt
frame_move (op.See p) f = Beyond (wide.See p)
frame_move (op.Take p) f = Beyond (wide.Take p)
frame_move (op.DropLock p) f = Beyond (wide.DropLock p)
frame_move (op.Enter x) f = Beyond (wide.Enter x)
frame_move op.Leave f = Beyond wide.Leave
frame_move op.LeaveWith f = Beyond wide.LeaveWith
frame_move op.Throw f = Beyond wide.Throw
frame_move (op.Call x) f = Beyond (wide.Call x)
frame_move (op.Result x) f = Beyond (wide.Result x)
frame_move op.Trap f = Beyond wide.Trap
