-- Words, locks, instructions, frames and cells in small cases.
use Rattle.std.proofs.Common.{◌≡◌, ℕ, ◌^◌, List, [], ◌∷◌, pos, negsuc, Some, None, true, false, refl}
use Rattle.ls_code.specs.Words.{int_of, word_of, bool_of, sum_word, difference_word, product_word, quotient_word}
use Rattle.ls_code.specs.Words.{remainder_word, negative_word, less_word, at_most_word, same_word, other_word, not_word}
use Rattle.ls_code.specs.Words.{pair_word}
use Rattle.ls_code.specs.Locks.{Held, lock_word_of, lock_by, unlock_by, taken_in_words, left_in_words, taken_of}
use Rattle.ls_code.specs.Locks.{left_of}
use Rattle.ls_code.specs.Instructions.{decoded, table}
use Rattle.ls_code.specs.Kinds.{kind_of}
use Rattle.ls_code.specs.Throws.{kind_word, thrown}
use Rattle.ls_code.specs.Frame.{Frame}
use Rattle.ls_code.specs.Moves.{Next, Throws, Stuck, Asks, frame_move}
use Rattle.ls_code.specs.Cells.{Cells, Answers, Waits, Stops, Unfit, effect}
use Rattle.ls_code.specs.declared.code.HandlerRow.{HandlerRow}
use Rattle.ls_code.specs.declared.lock_word.Taken.TheVariants as taken
use Rattle.ls_code.specs.declared.lock_word.Left.TheVariants as left
use Rattle.ls_code.specs.declared.instruction.Instruction.TheVariants as op
use Rattle.ls_code.specs.declared.instruction.Resume.TheVariants as then
use Rattle.ls_events.specs.declared.kind.Kind.TheVariants.{Arithmetic, NullPointer, ArrayIndexOutOfBounds}
use Rattle.ls_events.specs.declared.kind.Kind.TheVariants.{NegativeArraySize, IllegalMonitorState, Error}
use Rattle.ls_events.specs.declared.action.Action.TheVariants as act
use Rattle.ls_events.specs.declared.action.Answer.TheVariants.{Done, Gives, Fails}

-- ints
least : int_of (2 ^ 31) ≡ negsuc 2147483647
least = refl

minus_one : word_of (negsuc 0) ≡ 4294967295
minus_one = refl

greatest_and_one : sum_word 2147483647 1 ≡ 2147483648
greatest_and_one = refl

two_less_three : difference_word 2 3 ≡ 4294967295
two_less_three = refl

product_wraps : product_word 65536 65536 ≡ 0
product_wraps = refl

-- rounded toward zero, with the dividend's sign; the least int by -1 is itself
quotients : (quotient_word 4294967289 2 ≡ 4294967293) × (quotient_word 7 4294967294 ≡ 4294967293) ×
    (quotient_word 2147483648 4294967295 ≡ 2147483648)
quotients = (refl, refl, refl)

remainders : (remainder_word 4294967289 2 ≡ 4294967295) × (remainder_word 7 4294967294 ≡ 1) ×
    (remainder_word 2147483648 4294967295 ≡ 0)
remainders = (refl, refl, refl)

negatives : (negative_word 1 ≡ 4294967295) × (negative_word 2147483648 ≡ 2147483648)
negatives = (refl, refl)

comparisons : (less_word 4294967295 0 ≡ 1) × (less_word 1 1 ≡ 0) × (at_most_word 1 1 ≡ 1) × (same_word 5 5 ≡ 1) ×
    (other_word 5 5 ≡ 0) × (not_word 0 ≡ 1)
comparisons = (refl, refl, refl, refl, refl, refl)

pairs : (pair_word 5 1 ≡ 11) × (pair_word 0 0 ≡ 0) × (bool_of 1 ≡ true) × (bool_of 0 ≡ false)
pairs = (refl, refl, refl, refl)

-- locks
locks : (taken_of 0 1 ≡ taken.Taken 8589934593) × (taken_of 10737418239 1 ≡ taken.TooMany) ×
    (taken_of 8589934593 1 ≡ taken.Taken 8589934594) × (taken_of 8589934593 2 ≡ taken.Other)
locks = (refl, refl, refl, refl)

unlocks : (left_of 8589934593 2 ≡ left.NotOwner) × (left_of 0 1 ≡ left.NotOwner) ×
    (left_of 8589934593 1 ≡ left.Left 0) × (left_of 8589934594 1 ≡ left.Left 8589934593)
unlocks = (refl, refl, refl, refl)

states : (lock_word_of (Held 1 1) ≡ 8589934593) × (taken_in_words (lock_by 1 (Held 1 2147483647)) ≡ taken.TooMany) ×
    (left_in_words (unlock_by 1 (Held 1 2)) ≡ left.Left 8589934593) ×
    (left_in_words (unlock_by 2 (Held 1 2)) ≡ left.NotOwner)
states = (refl, refl, refl, refl)

-- instructions
instructions : (decoded 0 ≡ Some op.Halt) × (decoded 1793 ≡ Some (op.Push 7)) × (decoded 1071 ≡ Some (op.Enter 4)) ×
    (decoded 53 ≡ Some op.Trap) × (decoded 54 ≡ None) × (decoded (2 ^ 40) ≡ None)
unfolding table
instructions = (refl, refl, refl, refl, refl, refl)

kinds : (kind_of 2 ≡ Some NullPointer) × (kind_of 0 ≡ None) × (kind_of 8 ≡ None) × (kind_word Error ≡ 7)
kinds = (refl, refl, refl, refl)

-- frames
frame : List ℕ → Frame
frame operands = record { counter = 4; locals = 10 ∷ 20 ∷ []; operands = operands; need = 2 }

loads : frame_move (op.Load 1) (frame (7 ∷ [])) ≡ Next (record
    { counter = 5; locals = 10 ∷ 20 ∷ []; operands = 20 ∷ 7 ∷ []; need = 2 })
unfolding frame
loads = refl

-- a push past the stack need, a local that isn't there, no operand
stuck_ones : (frame_move (op.Load 1) (frame (7 ∷ 8 ∷ [])) ≡ Stuck) × (frame_move (op.Load 2) (frame []) ≡ Stuck) ×
    (frame_move op.Pop (frame []) ≡ Stuck)
unfolding frame
stuck_ones = (refl, refl, refl)

divides : (frame_move op.Div (frame (0 ∷ 8 ∷ [])) ≡ Throws Arithmetic) ×
    (frame_move op.Div (frame (2 ∷ 8 ∷ [])) ≡ Next (record {
      counter = 5;
      locals = 10 ∷ 20 ∷ [];
      operands = 4 ∷ [];
      need = 2;
    }))
unfolding frame
divides = (refl, refl)

asks : (frame_move (op.PutField 3) (frame (9 ∷ 1 ∷ [])) ≡ Asks (act.WriteField 1 3 9) (then.Discard 2)) ×
    (frame_move (op.GetField 3) (frame (0 ∷ [])) ≡ Throws NullPointer) ×
    (frame_move op.NewArray (frame (4294967295 ∷ [])) ≡ Throws NegativeArraySize)
unfolding frame
asks = (refl, refl, refl)

jumps : (frame_move (op.JumpIfFalse 9) (frame (0 ∷ [])) ≡ Next
    (record { counter = 9; locals = 10 ∷ 20 ∷ []; operands = []; need = 2 })) ×
    (frame_move (op.JumpIfTrue 9) (frame (0 ∷ [])) ≡ Next (record
    { counter = 5; locals = 10 ∷ 20 ∷ []; operands = []; need = 2 }))
unfolding frame
jumps = (refl, refl)

-- throws: the first row that holds the place, with the operands cut to its depth; a frame without a row for the place
-- is dropped
row : ℕ → ℕ → ℕ → ℕ → HandlerRow
row from to handler depth = record { from = from; to = to; handler = handler; depth = depth }

caught_here : thrown (row 0 3 8 0 ∷ row 4 5 9 1 ∷ row 0 9 10 0 ∷ []) NullPointer (frame (7 ∷ 8 ∷ []) ∷ []) ≡ Some
    (record { counter = 9; locals = 10 ∷ 20 ∷ []; operands = 2 ∷ 8 ∷ []; need = 2 }, [])
unfolding frame row
caught_here = refl

caught_below : thrown (row 5 9 9 0 ∷ []) NullPointer (frame [] ∷
    record { counter = 6; locals = []; operands = 1 ∷ []; need = 1 } ∷ []) ≡ Some
    (record { counter = 9; locals = []; operands = 2 ∷ []; need = 1 }, [])
unfolding frame row
caught_below = refl

caught_nowhere : thrown (row 5 9 9 0 ∷ []) NullPointer (frame [] ∷ []) ≡ None
unfolding frame row
caught_nowhere = refl

-- cells: one setup name, an object of two fields from address 2 on, and an array of one item from address 4 on
cells : List ℕ → Cells
cells words = record { words = words; limit = 6; names = 1; sizes = 2 ∷ [] }

reads : (effect (cells (2 ∷ 30 ∷ 31 ∷ 1 ∷ 41 ∷ [])) 1 (act.ReadField 2 1) ≡ Answers (cells (2 ∷ 30 ∷ 31 ∷ 1 ∷ 41 ∷ []))
    (Gives 31)) × (effect (cells (2 ∷ [])) 1 (act.ReadName 0) ≡ Answers (cells (2 ∷ [])) (Gives 2)) ×
    (effect (cells (2 ∷ 30 ∷ [])) 1 (act.ReadName 1) ≡ Unfit) × (effect (cells (2 ∷ [])) 1 (act.ReadField 0 0) ≡ Unfit)
unfolding cells
reads = (refl, refl, refl, refl)

items : (effect (cells (0 ∷ 0 ∷ 0 ∷ 1 ∷ 41 ∷ [])) 1 (act.ReadItem 4 (pos 0)) ≡ Answers (cells (0 ∷ 0 ∷ 0 ∷ 1 ∷ 41 ∷ []))
    (Gives 41)) × (effect (cells (0 ∷ 0 ∷ 0 ∷ 1 ∷ 41 ∷ [])) 1 (act.ReadItem 4 (pos 1)) ≡ Answers
    (cells (0 ∷ 0 ∷ 0 ∷ 1 ∷ 41 ∷ [])) (Fails ArrayIndexOutOfBounds)) ×
    (effect (cells (0 ∷ 0 ∷ 0 ∷ 1 ∷ 41 ∷ [])) 1 (act.ReadItem 4 (negsuc 0)) ≡ Answers (cells (0 ∷ 0 ∷ 0 ∷ 1 ∷ 41 ∷ []))
    (Fails ArrayIndexOutOfBounds))
unfolding cells
items = (refl, refl, refl)

-- the last cells are taken, and then the machine stops
makes : (effect (cells (0 ∷ 0 ∷ 0 ∷ 0 ∷ [])) 1 (act.New 0) ≡ Answers (cells (0 ∷ 0 ∷ 0 ∷ 0 ∷ 0 ∷ 0 ∷ [])) (Gives 5)) ×
    (effect (cells (0 ∷ 0 ∷ 0 ∷ 0 ∷ 0 ∷ [])) 1 (act.New 0) ≡ Stops) ×
    (effect (cells (0 ∷ [])) 1 (act.NewArray (pos 2)) ≡ Answers (cells (0 ∷ 2 ∷ 0 ∷ 0 ∷ [])) (Gives 2)) ×
    (effect (cells (0 ∷ [])) 1 (act.NewMarkable 7) ≡ Answers (cells (0 ∷ 7 ∷ [])) (Gives 2))
unfolding cells
makes = (refl, refl, refl, refl)

held : (effect (cells (0 ∷ [])) 1 (act.Lock 1) ≡ Answers (cells (8589934593 ∷ [])) Done) ×
    (effect (cells (8589934593 ∷ [])) 2 (act.Lock 1) ≡ Waits) ×
    (effect (cells (8589934593 ∷ [])) 2 (act.TryLock 1) ≡ Answers (cells (8589934593 ∷ [])) (Gives 0)) ×
    (effect (cells (8589934593 ∷ [])) 2 (act.Unlock 1) ≡ Answers (cells (8589934593 ∷ [])) (Fails IllegalMonitorState))
    × (effect (cells (8589934593 ∷ [])) 2 (act.IsHeld 1) ≡ Answers (cells (8589934593 ∷ [])) (Gives 0)) ×
    (effect (cells (10737418239 ∷ [])) 1 (act.Lock 1) ≡ Answers (cells (10737418239 ∷ [])) (Fails Error))
unfolding cells
held = (refl, refl, refl, refl, refl, refl)

-- an object's first cell is its monitor's word; its field 0 is in the next cell
monitored : (effect (cells (0 ∷ 7 ∷ [])) 1 (act.LockMonitor 1) ≡ Answers (cells (8589934593 ∷ 7 ∷ [])) Done) ×
    (effect (cells (8589934593 ∷ 7 ∷ [])) 2 (act.LockMonitor 1) ≡ Waits) ×
    (effect (cells (8589934593 ∷ 7 ∷ [])) 1 (act.UnlockMonitor 1) ≡ Answers (cells (0 ∷ 7 ∷ [])) Done) ×
    (effect (cells (8589934593 ∷ 7 ∷ [])) 2 (act.UnlockMonitor 1) ≡ Answers (cells (8589934593 ∷ 7 ∷ []))
    (Fails IllegalMonitorState)) × (effect (cells (8589934593 ∷ 7 ∷ [])) 2 (act.ReadField 1 1) ≡ Answers
    (cells (8589934593 ∷ 7 ∷ [])) (Gives 7))
unfolding cells
monitored = (refl, refl, refl, refl, refl)

-- an exchange compares reference and mark, an attempt the reference alone
exchanges : (effect (cells (11 ∷ [])) 1 (act.SwapPair 1 10 4) ≡ Answers (cells (11 ∷ [])) (Gives 0)) ×
    (effect (cells (11 ∷ [])) 1 (act.SwapPair 1 11 4) ≡ Answers (cells (4 ∷ [])) (Gives 1)) ×
    (effect (cells (10 ∷ [])) 1 (act.AttemptMark 1 5 true) ≡ Answers (cells (11 ∷ [])) (Gives 1)) ×
    (effect (cells (10 ∷ [])) 1 (act.AttemptMark 1 4 true) ≡ Answers (cells (10 ∷ [])) (Gives 0))
unfolding cells
exchanges = (refl, refl, refl, refl)
