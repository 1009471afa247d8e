-- The definitions, evaluated on small cases.
use Rattle.std.specs.Prelude.{◌≡◌, ◌++◌, pos, negsuc, true, false, [], ◌∷◌, replicate, Some}
use Rattle.ls_events.specs.declared.value.Value.TheVariants.{Int, Boolean, Reference, Pair}
use Rattle.ls_events.specs.declared.kind.Kind.TheVariants.{Error}
use Rattle.ls_events.specs.declared.action.Answer.TheVariants.{Done, Gives, Fails}
use Rattle.ls_meaning.specs.Store.{Free, Object, LockOf, Array}
use Rattle.ls_code.specs.Machine.{loaded, machine_trace, started}
use Rattle.ls_code.specs.Reading.{quiet}
use Rattle.ls_code.specs.declared.code.CallResult.TheVariants.{Nothing}
use Rattle.ls_preservation.specs.InWords.{word_of, births, numbered}
use Rattle.ls_preservation.specs.Sorts.{InKind}
use Rattle.ls_preservation.specs.Translations.{to_source, to_machine}
use Rattle.ls_preservation.specs.Same.{total, Fits}
use Rattle.ls_preservation.specs.ByWords.{Waits, come_to}
use Rattle.ls_preservation.specs.Example.{file, program, code}

-- the words of -1, of true, of null, and of a pair of object 3 and a mark
abbrev pub WordsOfValues : Type 0
WordsOfValues = (word_of (Int (negsuc 0)) ≡ 4294967295) × (word_of (Boolean true) ≡ 1) × (word_of (Reference 0) ≡ 0) ×
    (word_of (Pair 3 true) ≡ 7)

-- an object without fields has a cell, and so has a lock, and an array of three items has four
abbrev pub CellsOfThings : Type 0
CellsOfThings = total (Object Free [] ∷ LockOf Free ∷ Array 3 (λ i. Boolean false) ∷ []) ≡ 6

-- each acting instruction is one source step; a step that isn't due, a silent step and a step after the end are none
abbrev pub ScheduleToSource : Type 0
ScheduleToSource = to_source code 9 (1 ∷ replicate 8 0 ++ replicate 15 1) ≡ replicate 5 0 ++ replicate 6 1

-- the instructions up to each acting one, and at the end of the setup its silent last step too
abbrev pub ScheduleToMachine : Type 0
ScheduleToMachine = to_machine file program code 9 (1 ∷ replicate 5 0 ++ replicate 7 1) ≡ replicate 8 0 ++
    replicate 12 1

-- the name has cell 1, the object 2, the lock 3
abbrev pub BirthsOfRun : Type 0
BirthsOfRun = births (machine_trace (loaded code 9) (replicate 8 0 ++ replicate 12 1)) ≡ 2 ∷ 3 ∷ []

-- object 1 is at address 2 and object 2 at address 3
abbrev pub NumbersOfBirths : Type 0
NumbersOfBirths = (numbered (2 ∷ 3 ∷ []) 0 ≡ 0) × (numbered (2 ∷ 3 ∷ []) 1 ≡ 2) × (numbered (2 ∷ 3 ∷ []) 2 ≡ 3)

-- a making isn't answered by null, by "done" or by an exception; what is read of a name may be null
abbrev pub AnswersInKind : Type 0
AnswersInKind =
    (InKind file program 0 (Done ∷ Gives (Reference 0) ∷ []) → ⊥)
    × (InKind file program 0 (Done ∷ Fails Error ∷ []) → ⊥)
    × (InKind file program 0 (Done ∷ Gives (Int (pos 1)) ∷ []) → ⊥)
    × InKind file program 0 (Done ∷ Gives (Reference 1) ∷ [])
    × InKind file program 1 (Done ∷ Gives (Reference 0) ∷ [])

-- one cell too few for the lock
abbrev pub RoomOfRun : Type 0
RoomOfRun = Fits file program 3 (replicate 5 0 ++ replicate 6 1) ×
    (Fits file program 2 (replicate 5 0 ++ replicate 6 1) → ⊥)

-- Thread 1 sees that thread 2 holds the lock, then that the lock is free, and loses its exchange. It sees again that
-- the lock is free, and wins.
abbrev pub WordsOfLock : Type 0
WordsOfLock =
    come_to code 1 9 (Done ∷ Gives 2 ∷ Done ∷ Gives 3 ∷ Gives 12884901889 ∷ Gives 0 ∷ Gives 0 ∷ Gives 0 ∷ Gives 1 ∷ [])
    (Waits (quiet code 1 9 (started (record { place = 7; need = 1; calls = Nothing ∷ [] }))))
    ≡ Some (Done ∷ Gives 2 ∷ Done ∷ Gives 3 ∷ Done ∷ [])
