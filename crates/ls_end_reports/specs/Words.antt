-- The lines of a program's calls.
use Rattle.std.specs.Prelude.{ℕ, List, [], ◌∷◌, ◌++◌, codes, string_bytes}
use Rattle.std.specs.Fmt.{decimal}
use Rattle.ls_events.specs.declared.event.Happening.TheVariants.{Called}
use Rattle.ls_checked.specs.CheckedProgram.{Program}
use Rattle.ls_report.specs.Events.{Text}
use Rattle.ls_report.specs.Printing.{run_text}
use Rattle.ls_end_reports.specs.declared.writing.CallText.{CallText}
use Rattle.ls_end_reports.specs.declared.writing.FairText.{FairText}
use Rattle.ls_end_reports.specs.declared.writing.FreeText.{FreeText}
use Rattle.ls_end_reports.specs.declared.writing.FreeText.TheVariants as free
use Rattle.ls_end_reports.specs.declared.writing.GoingText.{GoingText}
use Rattle.ls_end_reports.specs.declared.writing.GoingText.TheVariants as going

abbrev pub bound_line : Text → ℕ → Text
bound_line words most =
    codes "  " ++ (words ++ (codes ": steps between its call and its end " ++ (decimal most ++ codes " at most\n")))

abbrev pub lasso_line : Text → Text → Text
lasso_line words lasso = codes "  " ++ (words ++ (codes ": " ++ (lasso ++ codes "\n")))

-- what is told of a call where no thread has to go on
abbrev pub free_text : FreeText → Text
free_text (free.WaitFree most) = bound_line (codes "wait-free") most
free_text (free.LockFree most lasso) =
    bound_line (codes "lock-free, unless another call ends") most ++
    lasso_line (codes "not wait-free") (string_bytes lasso)
free_text (free.ObstructionFree most lasso) =
    bound_line (codes "obstruction-free, where its thread is alone") most ++
    lasso_line (codes "not lock-free") (string_bytes lasso)
free_text (free.Blocking lasso) = lasso_line (codes "blocking") (string_bytes lasso)
free_text free.Unknown = codes "  not known\n"

-- what doesn't hold though all threads go on: these words, or those if no lock passes over a thread for ever
abbrev pub going_line : Text → Text → GoingText → Text
going_line words by_locks going.Nothing = []
going_line words by_locks (going.Fairly lasso) = lasso_line words (string_bytes lasso)
going_line words by_locks (going.ByLocks lasso) = lasso_line by_locks (string_bytes lasso)

-- the most that is left of deadlock-free and starvation-free, by whether no call may end, and whether this one may not
abbrev pub left_line : GoingText → GoingText → Text
left_line (going.ByLocks lasso) starving = []
left_line (going.Fairly lasso) (going.ByLocks other) =
    codes "  deadlock-free if its locks are fair, as far as was searched\n"
left_line (going.Fairly lasso) (going.Fairly other) =
    codes "  starvation-free if its locks are, as far as was searched\n"
left_line (going.Fairly lasso) going.Nothing = codes "  starvation-free if its locks are, as far as was searched\n"
left_line going.Nothing (going.ByLocks other) = codes "  deadlock-free as far as was searched\n"
left_line going.Nothing (going.Fairly other) =
    codes "  deadlock-free, and starvation-free if its locks are, as far as was searched\n"
left_line going.Nothing going.Nothing = codes "  starvation-free as far as was searched\n"

-- what is told of a call where all threads go on
abbrev pub fair_text : FairText → Text
fair_text f =
    going_line (codes "not deadlock-free") (codes "not deadlock-free by fair locks") f.stopping ++
    (going_line (codes "not starvation-free") (codes "not starvation-free by fair locks") f.starving ++
    left_line f.stopping f.starving)

-- it is told of calls that may not end where threads stop
abbrev pub going_text : FreeText → FairText → Text
going_text (free.WaitFree most) told = []
going_text free.Unknown told = []
going_text (free.LockFree most lasso) told = fair_text told
going_text (free.ObstructionFree most lasso) told = fair_text told
going_text (free.Blocking lasso) told = fair_text told

-- the call, as its event is printed
abbrev pub head_line : Program → CallText → Text
head_line program w = run_text program (record { thread = w.thread; call = w.call; happening = Called } ∷ [])

abbrev pub call_text : Program → CallText → Text
call_text program w = head_line program w ++ (free_text w.free ++ going_text w.free w.fair)

abbrev pub calls_text : Program → List CallText → Text
calls_text program [] = []
calls_text program (w ∷ texts) = call_text program w ++ calls_text program texts
