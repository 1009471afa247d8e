-- What a program with two threads exchanged does.
use Rattle.std.specs.Prelude.{◌≡◌, ℕ, List, map}
use Rattle.ls_checked.specs.CheckedTree.{File}
use Rattle.ls_checked.specs.CheckedProgram.{Program}
use Rattle.ls_meaning.specs.Runs.{source_history, source_run, step}
use Rattle.ls_source_judge.specs.Judged.{AllLike}
use Rattle.ls_endless_calls.specs.Laws.{NoneWaitsForEver}
use Rattle.ls_endless_calls.specs.Turning.{NoneTurnsUnexcused}
use Rattle.ls_explore_reports.specs.Verdicts.{HasLegalOrder}
use Rattle.ls_race_laws.specs.Accesses.{Volatile}
use Rattle.ls_race_laws.specs.Meeting.{NeverMeets}
use Rattle.ls_exchanged.specs.Exchanged.{AreExchanged, HaveNamesByPlace, exchanged, exchanged_event}

-- the first program is the second with the same two threads exchanged
abbrev pub ExchangedBack : Type 0
ExchangedBack = (u v : ℕ) (p q : Program) → AreExchanged u v p q → AreExchanged u v q p

-- ---- runs

-- the schedule of the exchanged threads has the history of the exchanged threads
abbrev pub HistoriesAreExchanged : Type 0
HistoriesAreExchanged =
    (file : File) (u v : ℕ) (p q : Program) → AreExchanged u v p q → (schedule : List ℕ) →
    source_history file q (map (exchanged u v) schedule) ≡
    map (exchanged_event u v) (source_history file p schedule)

-- after these schedules each thread does what the exchanged thread does
abbrev pub StepsAreExchanged : Type 0
StepsAreExchanged =
    (file : File) (u v : ℕ) (p q : Program) → AreExchanged u v p q → (schedule : List ℕ) (t : ℕ) →
    (step file q (source_run file q (map (exchanged u v) schedule)) (exchanged u v t)).did ≡
    (step file p (source_run file p schedule) t).did

-- ---- verdicts

-- The specification of the second is that of the first with the same two threads exchanged. If each history of the
-- first is linearizable to its specification, so is each of the second.
abbrev pub ExchangedIsLinearizable : Type 0
ExchangedIsLinearizable =
    (sfile : File) (file : File) (u v : ℕ) (sp sq p q : Program) → AreExchanged u v sp sq → AreExchanged u v p q →
    AllLike sfile sp file p → AllLike sfile sq file q

-- if no call of the first waits for ever, none of the second does
abbrev pub ExchangedNeverWaits : Type 0
ExchangedNeverWaits =
    (sfile : File) (file : File) (u v : ℕ) (sp sq p q : Program) → AreExchanged u v sp sq → AreExchanged u v p q →
    NoneWaitsForEver sfile sp file p → NoneWaitsForEver sfile sq file q

-- if no threads of the first turn for ever in calls that end where calls run one at a time, none of the second do
abbrev pub ExchangedNeverTurns : Type 0
ExchangedNeverTurns =
    (sfile : File) (file : File) (u v : ℕ) (sp sq p q : Program) → AreExchanged u v sp sq → AreExchanged u v p q →
    NoneTurnsUnexcused sfile sp file p → NoneTurnsUnexcused sfile sq file q

-- If each history of the first has a legal order, so has each of the second. Legal orders tell threads apart by their
-- names.
abbrev pub ExchangedIsLegal : Type 0
ExchangedIsLegal =
    (file : File) (u v : ℕ) (p q : Program) → AreExchanged u v p q → HaveNamesByPlace p q →
    ((schedule : List ℕ) → HasLegalOrder p (source_history file p schedule)) →
    (schedule : List ℕ) → HasLegalOrder q (source_history file q schedule)

-- If accesses of two threads never meet in the first, they never do in the second.
abbrev pub ExchangedNeverMeets : Type 0
ExchangedNeverMeets =
    (volatile : Volatile) (file : File) (u v : ℕ) (p q : Program) → AreExchanged u v p q →
    NeverMeets volatile file p → NeverMeets volatile file q
