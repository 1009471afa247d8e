-- A trace in which neighbouring steps of one thread that change nothing are one line.
use Rattle.std.specs.Prelude.{ℕ, ◌+◌, ◌-◌, ◌&&◌, Bool, nat_eq, nat_le, List, [], ◌∷◌, ◌++◌, codes, flat_map, map}
use Rattle.std.specs.Prelude.{slice_index_or, slice_set, take, if◌then◌else◌}
use Rattle.std.specs.Fmt.{decimal}
use Rattle.ls_report.specs.Events.{Text}
use Rattle.ls_labels.specs.Names.{Names}
use Rattle.ls_trace.specs.Told.{Told, begun, step_in, after_step}
use Rattle.ls_trace.specs.Lines.{step_text}
use Rattle.ls_trace.specs.Manners.{manner_of, same_manner}
use Rattle.ls_trace.specs.declared.manner.Manner.{Manner}
use Rattle.ls_trace.specs.declared.manner.Manner.TheVariants as manners

-- steps that are told in one line: the numbers of the first and the last, in the schedule and among the steps of their
-- thread; their thread and their manner; and what `trace` tells of the last
pub record Fold : Type 0 where
  pub number : ℕ
  pub last : ℕ
  pub own : ℕ
  pub own_last : ℕ
  pub thread : ℕ
  pub manner : Manner
  pub words : Text

-- ---- the steps, each by itself

-- how many steps each thread has had, after one more; a number of no thread has none
abbrev pub counted : List ℕ → ℕ → List ℕ
counted counts thread = slice_set counts thread (slice_index_or counts thread 0 + 1)

-- a step by itself; the counts and the run are those after it
abbrev pub step_told : Names → ℕ → List ℕ → Told → Told → ℕ → Fold
step_told names number counts old new thread = record {
  number = number;
  last = number;
  own = slice_index_or counts thread 0;
  own_last = slice_index_or counts thread 0;
  thread = thread;
  manner = manner_of (step_in names old thread).did;
  words = step_text names new thread (step_in names old thread).did;
}

-- these steps after a run, each by itself, from a number on; the first step's number is given
abbrev pub steps_told : Names → ℕ → ℕ → List ℕ → Told → List ℕ → List Fold
steps_told names from number counts r [] = []
steps_told names from number counts r (thread ∷ threads) =
    (if nat_le from number then step_told names number (counted counts thread) r (after_step names r thread) thread ∷
    [] else [])
    ++ steps_told names from (number + 1) (counted counts thread) (after_step names r thread) threads

-- ---- the folds

-- whether the next step is told in the line of those before it
abbrev pub takes_in : Fold → Fold → Bool
takes_in f next = nat_eq f.thread next.thread && same_manner f.manner next.manner

-- with the next step, of which the line tells then
abbrev pub with_next : Fold → Fold → Fold
with_next f next = record {
  number = f.number;
  last = next.last;
  own = f.own;
  own_last = next.own_last;
  thread = f.thread;
  manner = f.manner;
  words = next.words;
}

-- a fold takes in steps as long as it can; the first that it doesn't take in begins the next
abbrev pub folded_on : Fold → List Fold → List Fold
folded_on f [] = f ∷ []
folded_on f (step ∷ steps) =
    if takes_in f step then folded_on (with_next f step) steps else f ∷ folded_on step steps

abbrev pub folded : List Fold → List Fold
folded [] = []
folded (step ∷ steps) = folded_on step steps

-- ---- their lines

-- as `4`, and `4-9`
abbrev pub range_text : ℕ → ℕ → Text
range_text first last = if nat_eq first last then decimal first else decimal first ++ (45 ∷ decimal last)

-- what is told of so many steps, after what is told of the last
abbrev pub many_text : Manner → ℕ → Text
many_text manners.Alone count = []
many_text manners.Look count = codes ", last of " ++ (decimal count ++ codes " steps that change nothing")
many_text manners.Attempt count = codes ", last of " ++ (decimal count ++ codes " attempts that fail")
many_text manners.Wait count = codes ", for " ++ (decimal count ++ codes " steps")
many_text manners.Rest count = codes ", for " ++ (decimal count ++ codes " steps")

abbrev pub count_text : Fold → Text
count_text f = if nat_eq f.number f.last then [] else many_text f.manner (f.last - f.number + 1)

-- the numbers in the schedule, and in parentheses those among the steps of the thread
abbrev pub numbers_text : Fold → Text
numbers_text f = range_text f.number f.last ++ (codes " (" ++ (range_text f.own f.own_last ++ codes ") "))

-- as `7-9 (2-4) A.1 reads Node#3.next: null, last of 3 steps that change nothing`
abbrev pub fold_line : Fold → Text
fold_line f = numbers_text f ++ (f.words ++ (count_text f ++ 10 ∷ []))

-- the steps of a schedule whose numbers, counted from 1, lie in a range, both ends among them
abbrev pub told_between : Names → List ℕ → ℕ → ℕ → List Fold
told_between names schedule from to =
    steps_told names from 1 (map (λ t. 0) names.program.threads) (begun names.program) (take to schedule)

abbrev pub folded_text : Names → List ℕ → ℕ → ℕ → Text
folded_text names schedule from to = flat_map fold_line (folded (told_between names schedule from to))
