-- What is found of the data races of a class's programs, and what is said of them beside `none`.
use Rattle.std.specs.Prelude.{◌≡◌, ◌↔◌, ℕ, ◌+◌, Bool, true, false, List, [], ◌++◌, Option, Some, None}
use Rattle.std.specs.Prelude.{Result, Ok, Err, codes, count_by, length, nat_eq, string_bytes}
use Rattle.std.specs.Fmt.{decimal}
use Rattle.std.specs.Str.Iter.{HasSubslice}
use Rattle.ls_families.specs.Families.{plans}
use Rattle.ls_family_search.specs.Judged.{Programs}
use Rattle.ls_family_search.specs.declared.judging.Halted.{Halted}
use Rattle.ls_family_search.specs.declared.judging.Passed.{Passed}
use Rattle.ls_family_search.specs.declared.searching.Finding.{Finding}
use Rattle.ls_faults.specs.Faults.{lifted_compile}
use Rattle.ls_faults.specs.declared.fault.ToolFault.{ToolFault}
use Rattle.ls_find_races.specs.Family.{IsRaceFinding, PassedAreFree}
use Rattle.ls_find_races.specs.declared.explorer.RaceFound.{RaceFound}
use Rattle.ls_find_races.specs.declared.explorer.RaceWhy.{RaceWhy}
use Rattle.ls_find_races.specs.declared.explorer.RaceWhy.TheVariants as whys
use Rattle.ls_find_reports.specs.Printing.{figures_of, found_text, is_cut, none_text}
use Rattle.ls_find_reports.specs.declared.figures.Figures.{Figures}
use Rattle.ls_race_reports.specs.Beside.{free_line, raced_line}
use Rattle.ls_report.specs.Events.{Text}

-- ---- races looked for

-- as `data race on Node.next; context switches 2`
abbrev pub race_reason : RaceFound → Text
race_reason f = codes "data race on " ++ (string_bytes f.on ++ string_bytes f.switches)

-- the text of the program of a number with a race; or its fault
abbrev pub race_answer : Figures → ℕ → Text → RaceWhy → Result Text ToolFault
race_answer f number program (whys.Raced r) =
    Ok (found_text f number (race_reason r) program (string_bytes r.schedule))
race_answer f number program (whys.NotCompiled fault) = Err (lifted_compile fault)

-- of the numbers after so many, up to one, of so many in all
abbrev pub race_halted_answer : ℕ → ℕ → ℕ → List Passed → Option (Halted RaceWhy) → Result Text ToolFault
race_halted_answer before to count ps None = Ok (none_text (figures_of before to count ps))
race_halted_answer before to count ps (Some h) =
    race_answer (figures_of before to count ps) (before + length ps + 1) (string_bytes h.program) h.halt

-- ---- races told beside `none`

-- no race is found: so it is of all programs, or of what was explored where so many are cut
abbrev pub free_text : Bool → ℕ → Text
free_text tries cut = free_line (nat_eq cut 0) tries

-- the program of a number has this race
abbrev pub raced_text : ℕ → RaceFound → Text
raced_text number f = raced_line (string_bytes f.on) (codes " in number " ++ decimal number)

abbrev pub race_text : ℕ → RaceWhy → Text
race_text number (whys.Raced f) = raced_text number f
race_text number (whys.NotCompiled fault) = []

abbrev pub beside_text : Bool → List Passed → Option (Halted RaceWhy) → Text
beside_text tries ps None = free_text tries (count_by is_cut ps)
beside_text tries ps (Some h) = race_text (length ps + 1) h.halt

-- What a search of all programs for races says, if it is asked, where so many states of each may be kept; else nothing.
pub data IsBeside (asked : Bool) (states : ℕ) (classes : Text) (p : Programs) : Text → Type 0 where
  Silent : asked ≡ false → IsBeside asked states classes p []
  Says : (tries : Bool) (f : Finding RaceWhy) →
      asked ≡ true →
      (tries ≡ true) ↔ HasSubslice classes (codes "tryLock") →
      IsRaceFinding states classes p 0 (length (plans p.family)) f →
      PassedAreFree classes p 0 f →
      IsBeside asked states classes p (beside_text tries f.passed.items f.halted)
