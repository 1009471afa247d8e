-- The cells that all threads share, and what each action does to them.
use Rattle.std.specs.Prelude.{ℕ, zero, suc, ◌+◌, ◌/◌, ℤ, pos, negsuc, List, [], ◌∷◌, ◌++◌, length, replicate}
use Rattle.std.specs.Prelude.{unsigned_abs, Option, Some, None, Bool, false, nat_lt, nat_le, ◌==◌, if◌then◌else◌}
use Rattle.std.specs.Prelude.{slice_get, slice_set}
use Rattle.ls_code.specs.Words.{bool_word, pair_word}
use Rattle.ls_code.specs.Locks.{taken_of, left_of, is_own}
use Rattle.ls_events.specs.declared.kind.Kind.TheVariants.{ArrayIndexOutOfBounds, IllegalMonitorState, Error}
use Rattle.ls_events.specs.declared.action.Action.{Action}
use Rattle.ls_events.specs.declared.action.Action.TheVariants as act
use Rattle.ls_events.specs.declared.action.Answer.{Answer}
use Rattle.ls_events.specs.declared.action.Answer.TheVariants.{Done, Gives, Fails}
use Rattle.ls_code.specs.declared.lock_word.Taken.TheVariants as taken
use Rattle.ls_code.specs.declared.lock_word.Left.TheVariants as left

-- The words of the cells that are taken so far, at addresses 1, 2, 3 and so on. How many cells there are in all. How
-- many of the first are those of the setup names. How many cells an object of each class has.
pub record Cells : Type 0 where
  pub words : List ℕ
  pub limit : ℕ
  pub names : ℕ
  pub sizes : List ℕ

-- other cells and an answer, or the thread waits, or the machine stops, or there is no such cell
pub data Effect : Type 0 where
  Answers : (cells : Cells) → (answer : Answer ℕ) → Effect
  Waits : Effect
  Stops : Effect
  Unfit : Effect

-- the place in the list of a cell of the object at an address; none for address 0
abbrev pub place_at : ℕ → ℕ → Option ℕ
place_at zero offset = None
place_at (suc before) offset = Some (before + offset)

abbrev pub word_at : List ℕ → Option ℕ → Option ℕ
word_at words None = None
word_at words (Some place) = slice_get words place

abbrev pub cell_at : Cells → ℕ → ℕ → Option ℕ
cell_at c address offset = word_at c.words (place_at address offset)

abbrev pub with_words : Cells → List ℕ → Cells
with_words c words = record c { words = words }

-- what is done with a cell's word
abbrev pub on_cell : Option ℕ → (ℕ → Effect) → Effect
on_cell None go = Unfit
on_cell (Some word) go = go word

-- a cell is read; a cell is written
abbrev pub read_effect : Cells → ℕ → ℕ → Effect
read_effect c address offset = on_cell (cell_at c address offset) (λ word. Answers c (Gives word))

abbrev pub written_at : Cells → Option ℕ → ℕ → Answer ℕ → Effect
written_at c None word answer = Unfit
written_at c (Some place) word answer = if nat_lt place (length c.words) then
    Answers (with_words c (slice_set c.words place word)) answer else Unfit

abbrev pub written : Cells → ℕ → ℕ → ℕ → Answer ℕ → Effect
written c address offset word answer = written_at c (place_at address offset) word answer

-- the setup names have the first cells
abbrev pub on_name : Cells → ℕ → Effect → Effect
on_name c n effect = if nat_lt n c.names then effect else Unfit

-- the next cells are taken, and hold these words; if there are too few, the machine stops
abbrev pub making : Cells → List ℕ → Effect
making c words = if nat_le (length c.words + length words) c.limit then
    Answers (with_words c (c.words ++ words)) (Gives (length c.words + 1)) else Stops

abbrev pub new_effect : Cells → ℕ → Effect
new_effect c class = on_cell (slice_get c.sizes class) (λ size. making c (replicate size 0))

-- whether an item is in an array; the length of the array is in its first cell
abbrev pub in_range : ℤ → ℕ → Bool
in_range (pos index) count = nat_lt index count
in_range (negsuc n) count = false

abbrev pub on_item : Cells → ℕ → ℤ → Effect → Effect
on_item c array index effect = on_cell (cell_at c array 0) (λ count. if in_range index count then effect else
    Answers c (Fails ArrayIndexOutOfBounds))

abbrev pub array_effect : Cells → ℕ → Effect
array_effect c count = making c (count ∷ replicate count 0)

abbrev pub lock_effect : Cells → ℕ → ℕ → Answer ℕ → Effect → Effect
lock_effect c lock thread won other =
    on_cell (cell_at c lock 0) (λ word. elim (taken_of word thread) as (λ _. Effect) [
      | taken.Taken next ↦ written c lock 0 next won
      | taken.Other ↦ other
      | taken.TooMany ↦ Answers c
          (Fails Error)
    ])

abbrev pub unlock_effect : Cells → ℕ → ℕ → Effect
unlock_effect c lock thread =
    on_cell (cell_at c lock 0) (λ word. elim (left_of word thread) as (λ _. Effect)
    [ left.Left next ↦ written c lock 0 next Done | left.NotOwner ↦ Answers c (Fails IllegalMonitorState) ])

-- both halves of the pair are compared
abbrev pub swap_effect : Cells → ℕ → ℕ → ℕ → Effect
swap_effect c markable expected word =
    on_cell (cell_at c markable 0) (λ old. if old == expected then written c markable 0 word (Gives 1) else
    Answers c (Gives 0))

-- the reference alone is compared
abbrev pub mark_effect : Cells → ℕ → ℕ → Bool → Effect
mark_effect c markable reference mark =
    on_cell (cell_at c markable 0) (λ old. if old / 2 == reference then
    written c markable 0 (pair_word reference (bool_word mark)) (Gives 1) else Answers c (Gives 0))

-- what an action of a thread does
abbrev pub effect : Cells → ℕ → Action ℕ → Effect
effect c thread (act.ReadField object field) = read_effect c object field
effect c thread (act.WriteField object field value) = written c object field value Done
effect c thread (act.ReadItem array index) = on_item c array index (read_effect c array (unsigned_abs index + 1))
effect c thread (act.WriteItem array index value) = on_item c array index
    (written c array (unsigned_abs index + 1) value Done)
effect c thread (act.ReadName n) = on_name c n (read_effect c 1 n)
effect c thread (act.WriteName n value) = on_name c n (written c 1 n value Done)
effect c thread (act.New class) = new_effect c class
effect c thread act.NewLock = making c (0 ∷ [])
effect c thread (act.NewMarkable word) = making c (word ∷ [])
effect c thread (act.NewArray count) = array_effect c (unsigned_abs count)
effect c thread (act.Lock lock) = lock_effect c lock thread Done Waits
effect c thread (act.Unlock lock) = unlock_effect c lock thread
effect c thread (act.TryLock lock) = lock_effect c lock thread (Gives 1) (Answers c (Gives 0))
effect c thread (act.IsHeld lock) = on_cell (cell_at c lock 0)
    (λ word. Answers c (Gives (bool_word (is_own word thread))))
effect c thread (act.LockMonitor object) = lock_effect c object thread Done Waits
effect c thread (act.UnlockMonitor object) = unlock_effect c object thread
effect c thread (act.ReadPair markable) = read_effect c markable 0
effect c thread (act.SetPair markable word) = written c markable 0 word Done
effect c thread (act.SwapPair markable expected word) = swap_effect c markable expected word
effect c thread (act.AttemptMark markable reference mark) = mark_effect c markable reference mark
effect c thread act.Turn = Answers c Done
effect c thread (act.Enter method) = Answers c Done
effect c thread (act.Call n) = Answers c Done
effect c thread (act.Return n value) = Answers c Done
effect c thread (act.Trap n kind) = Answers c Done
