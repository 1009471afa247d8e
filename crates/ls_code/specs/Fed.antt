-- A thread that is fed with answers: the thread alone, without cells.
use Rattle.std.specs.Prelude.{ℕ, zero, suc, List, [], ◌∷◌, Option, Some, None}
use Rattle.ls_code.specs.Code.{Code}
use Rattle.ls_code.specs.Thread.{Thread}
use Rattle.ls_code.specs.Exchanges.{Seen, Quietly, Reports, Plan, Says, Touches, Stores}
use Rattle.ls_code.specs.Steps.{Move, Silent, Still, Asks, Plans, thread_move}
use Rattle.ls_code.specs.declared.step.Mode.{Mode}
use Rattle.ls_code.specs.declared.step.Mode.TheVariants as mode
use Rattle.ls_events.specs.declared.action.Action.{Action}
use Rattle.ls_events.specs.declared.action.Answer.{Answer}
use Rattle.ls_events.specs.declared.action.Answer.TheVariants.{Done, Gives, Fails}

-- Why a thread is no longer silent. It waits for the next answer, for an operation. Or it has acted on a lock's word
-- that it had seen, and takes no answer for that. Or it is over. Or it is stuck, or has been silent for too long.
pub data Pause : Type 0 where
  Paused : (action : Action ℕ) → (go : Answer ℕ → Option Thread) → Pause
  Passes : (thread : Option Thread) → Pause
  IsOver : (trapped : Mode) → Pause
  IsStuck : Pause
  TooLong : Pause

-- the thread after it has seen a lock's word, or after it knows whether it won an exchange
abbrev pub seen_thread : Seen → Option Thread
seen_thread (Quietly t) = t
seen_thread (Reports action answer t) = t

-- the next answer is the lock's word that SEE sees, or 1 if TAKE wins its exchange
abbrev pub told_word : (ℕ → Seen) → Answer ℕ → Option Thread
told_word go (Gives word) = seen_thread (go word)
told_word go Done = None
told_word go (Fails kind) = None

abbrev pub carry_on : Option Thread → (Thread → Pause) → Pause
carry_on None next = IsStuck
carry_on (Some t) next = next t

abbrev pub carry_seen : Seen → (Thread → Pause) → Pause
carry_seen (Quietly t) next = carry_on t next
carry_seen (Reports action answer t) next = Passes t

abbrev pub carry_plan : Plan → (Thread → Pause) → Pause
carry_plan (Says seen) next = carry_seen seen next
carry_plan (Touches operation touch go) next = Paused operation (told_word go)
carry_plan (Stores touch seen) next = carry_seen seen next

abbrev pub carry : ℕ → Move → (Thread → Pause) → Pause
carry number (Silent t) next = next t
carry number Still next = IsStuck
carry number (Asks action go) next = Paused action go
carry number (Plans go) next = carry_plan (go number) next

-- one instruction of a thread that isn't over
abbrev pub advance : Code → ℕ → Mode → Thread → (Thread → Pause) → Pause
advance p number mode.Running t next = carry number (thread_move p t) next
advance p number mode.Ended t next = IsOver mode.Ended
advance p number mode.Trapped t next = IsOver mode.Trapped

-- at most n silent instructions
abbrev pub quiet : Code → ℕ → ℕ → Thread → Pause
quiet p number zero t = advance p number t.mode t (λ s. TooLong)
quiet p number (suc n) t = advance p number t.mode t (quiet p number n)

-- How a fed thread goes on: the action that it asks for when the answers are used up, or its end. If it is stuck, or
-- silent for too long, it is lost.
pub data Fed : Type 0 where
  Asked : (action : Action ℕ) → Fed
  Ended : Fed
  Trapped : Fed
  Lost : Fed

abbrev pub ending : Mode → Fed
ending mode.Running = Lost
ending mode.Ended = Ended
ending mode.Trapped = Trapped

-- goes on to the next pause, with at most `bound` silent instructions
abbrev pub quiet_from : Code → ℕ → ℕ → Option Thread → Pause
quiet_from p number bound None = IsStuck
quiet_from p number bound (Some t) = quiet p number bound t

-- goes on after an action on a lock's word that the thread had seen
abbrev pub passed : Code → ℕ → ℕ → Pause → Pause
passed p number bound (Passes t) = quiet_from p number bound t
passed p number bound (Paused action go) = Paused action go
passed p number bound (IsOver m) = IsOver m
passed p number bound IsStuck = IsStuck
passed p number bound TooLong = TooLong

-- The answers one after another. The bound on silent instructions begins anew after each action. After one answer
-- there is at most one action on a lock's word.
abbrev pub resume : Code → ℕ → ℕ → List (Answer ℕ) → Pause → Fed
resume p number bound [] (Paused action go) = Asked action
resume p number bound (x ∷ rest) (Paused action go) = resume p number bound rest
    (passed p number bound (quiet_from p number bound (go x)))
resume p number bound answers (Passes t) = Lost
resume p number bound answers (IsOver m) = ending m
resume p number bound answers IsStuck = Lost
resume p number bound answers TooLong = Lost

-- The thread of this number, fed with answers. It may have n silent instructions before its next action, and `bound`
-- after each action.
abbrev pub fed : Code → ℕ → ℕ → ℕ → Thread → List (Answer ℕ) → Fed
fed p number bound n t answers = resume p number bound answers (passed p number bound (quiet p number n t))
