-- Calls and their faults, in words.
use Rattle.std.specs.Prelude.{ℕ, List, [], ◌++◌, Option, Some, None, codes, string_bytes}
use Rattle.ls_checked.specs.CheckedProgram.{Program}
use Rattle.ls_events.specs.declared.kind.Kind.{Kind}
use Rattle.ls_explore_reports.specs.Waiting.{awaited_owner, waits_text as waits_for_text}
use Rattle.ls_labels.specs.Names.{Names}
use Rattle.ls_labels.specs.Threads.{end_text, thread_name, trapped_in}
use Rattle.ls_meaning.specs.Runs.{asked}
use Rattle.ls_meaning.specs.declared.step.Asked.{Asked}
use Rattle.ls_meaning.specs.declared.step.Asked.TheVariants.{Asks, Ended, NotStarted}
use Rattle.ls_report.specs.Cut.{cut}
use Rattle.ls_report.specs.Lines.{kind_text}
use Rattle.ls_report.specs.Printing.{run_words}
use Rattle.ls_serial_search.specs.Following.{called}
use Rattle.ls_state.specs.Scene.{Scene, scene_of}
use Rattle.ls_alone.specs.declared.telling.Fault.{Fault}
use Rattle.ls_alone.specs.declared.telling.Fault.TheVariants as faults
use Rattle.ls_alone.specs.declared.telling.Told.{Told}
use Rattle.ls_alone.specs.declared.telling.Told.TheVariants as told
use Rattle.ls_alone.specs.declared.telling.Wanted.{Wanted}
use Rattle.ls_alone.specs.declared.telling.Wanted.TheVariants as wanted

abbrev pub Text : Type 0
Text = List ℕ

-- what stands behind a cut
abbrev pub behind : Option (Text × Text) → Text
behind None = []
behind (Some p) = p.1

-- a call as the program's text has it, as `s.size()`: its words in a history, as `call s.size()`, without the first
abbrev pub pending_text : Program → ℕ → ℕ → Text
pending_text program thread call = behind (cut 32 (run_words program (called thread call)))

-- as `s = new T(1), NullPointerException`
abbrev pub thrown_text : Program → ℕ → ℕ → Kind → Text
thrown_text program thread call kind = pending_text program thread call ++ (codes ", " ++ kind_text kind)

-- how a thread has ended, if it has, as `; A has ended`
abbrev pub ended_text : Names → Scene → ℕ → Asked → Text
ended_text names scene t (Asks action) = []
ended_text names scene t Ended =
    codes "; " ++ (thread_name names.program t ++ end_text (trapped_in names scene.state t))
ended_text names scene t NotStarted = []

abbrev pub owner_text : Names → Scene → Option ℕ → Text
owner_text names scene None = []
owner_text names scene (Some owner) = ended_text names scene owner (asked names.file names.program scene.state owner)

-- as `B waits for ReentrantLock#1, which A owns; A has ended`
abbrev pub waiting_text : Names → Scene → ℕ → Text
waiting_text names scene t = waits_for_text names scene t (thread_name names.program t) ++
    owner_text names scene (awaited_owner scene (asked names.file names.program scene.state t))

-- as `s.inc(), B waits for ReentrantLock#1, which A owns; A has ended`: after this schedule
abbrev pub waits_text : Names → List ℕ → ℕ → ℕ → Text
waits_text names schedule thread call =
    pending_text names.program thread call ++ (codes ", " ++ waiting_text names (scene_of names schedule) thread)

-- what a call does that has a fault
abbrev pub fault_words : Fault → Text
fault_words faults.Throws = codes "a call throws when calls run one at a time"
fault_words faults.Waits = codes "a call waits for ever when calls run one at a time"
fault_words faults.Turns = codes "a call never ends when calls run one at a time"

-- The same, where such calls are looked for. If only calls that wait are, it is for a lock that no call gives back.
abbrev pub wanted_words : Wanted → Fault → Text
wanted_words wanted.Nothing fault = fault_words fault
wanted_words wanted.Waits fault = codes "a lock is never given back"
wanted_words wanted.All fault = fault_words fault

-- As `// a call never ends when calls run one at a time: s.size()`. If it isn't known, it is said. If no call has the
-- fault, nothing is.
abbrev pub fault_line : Fault → Told → Text
fault_line fault (told.So f) =
    codes "// " ++ (fault_words fault ++ (codes ": " ++ (string_bytes f.words ++ codes "\n")))
fault_line fault told.Never = []
fault_line fault told.Unknown = codes "// it isn't known whether " ++ (fault_words fault ++ codes "\n")
