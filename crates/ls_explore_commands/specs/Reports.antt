-- The text of a verdict.
use Rattle.std.specs.Prelude.{ℕ, Bool, true, false, List, [], ◌∷◌, ◌++◌, codes}
use Rattle.std.specs.Fmt.{decimal}
use Rattle.ls_meaning.specs.Runs.{source_history}
use Rattle.ls_fewest_switches.specs.Wording.{switches_text}
use Rattle.ls_report.specs.Events.{Text}
use Rattle.ls_report.specs.Printing.{run_text}
use Rattle.ls_labels.specs.Names.{Names}
use Rattle.ls_state.specs.Scene.{scene_of}
use Rattle.ls_schedule.specs.Printing.{schedule_text}
use Rattle.ls_explore_reports.specs.Printing.{cut_text}
use Rattle.ls_explore_reports.specs.Waiting.{waiting}
use Rattle.ls_serial_search.specs.declared.telling.Doubt.{Doubt}
use Rattle.ls_serial_search.specs.declared.telling.Doubt.TheVariants as doubts

abbrev pub end_text : ℕ → ℕ → Bool → Text
end_text limit states true = codes " complete\n"
end_text limit states false = cut_text limit states

-- how many states were kept, and whether these are all, as `states 402 complete`
abbrev pub last_text : ℕ → ℕ → Bool → Text
last_text limit states complete = codes "states " ++ (decimal states ++ end_text limit states complete)

-- what is wrong with a run, its context switches, its schedule, its history's lines, an empty line
abbrev pub run_report : Bool → Names → List Text → Text → List ℕ → Text
run_report fewest names threads head schedule =
    head ++ (switches_text fewest schedule ++ (10 ∷ (schedule_text threads schedule ++
    (run_text names.program (source_history names.file names.program schedule) ++ 10 ∷ []))))

-- a run whose history isn't linearizable, and the line on the event that no order of whole calls explains
abbrev pub bad_text : Text → Bool → Names → List Text → List ℕ → ℕ → ℕ → Bool → Text
bad_text note fewest names threads schedule limit states complete =
    run_report fewest names threads (codes "not linearizable") schedule ++ (note ++ last_text limit states complete)

-- a run after which threads wait for ever
abbrev pub stuck_text : Bool → Names → List Text → List ℕ → ℕ → ℕ → Bool → Text
stuck_text fewest names threads schedule limit states complete =
    run_report fewest names threads (waiting names (scene_of names schedule) 0 threads) schedule
    ++ last_text limit states complete

-- a run after which threads turn for ever
abbrev pub turning_text : Bool → Names → List Text → List ℕ → ℕ → ℕ → Bool → Text
turning_text fewest names threads schedule limit states complete =
    run_report fewest names threads (codes "threads turn for ever") schedule ++ last_text limit states complete

-- why it isn't known whether a history is linearizable
abbrev pub doubt_text : Doubt → Text
doubt_text doubts.LongCall = codes "not judged: a call goes on"

-- a run whose history no serial run explains that was found, where these may not be all
abbrev pub doubtful_text : Doubt → Bool → Names → List Text → List ℕ → ℕ → ℕ → Bool → Text
doubtful_text doubt fewest names threads schedule limit states complete =
    run_report fewest names threads (doubt_text doubt) schedule ++ last_text limit states complete

-- a run after which threads wait for ever, and then such a run
abbrev pub stuck_and_doubtful_text : List ℕ → Bool → Doubt → Bool → Names → List Text → List ℕ → ℕ → ℕ → Bool → Text
stuck_and_doubtful_text stuck stuck_fewest doubt fewest names threads schedule limit states complete =
    run_report stuck_fewest names threads (waiting names (scene_of names stuck) 0 threads) stuck ++
    doubtful_text doubt fewest names threads schedule limit states complete

-- no run is bad
abbrev pub free_text : Text → ℕ → ℕ → Bool → Text
free_text beside limit states complete = codes "none\n" ++ (beside ++ last_text limit states complete)

-- no run is bad, and it isn't known whether threads can turn for ever
abbrev pub unsure_text : ℕ → ℕ → Bool → Text
unsure_text limit states complete = codes "none, but threads may turn for ever\n" ++ last_text limit states complete
