-- The text of a program's data races.
use Rattle.std.specs.Prelude.{ℕ, ◌-◌, Bool, true, false, List, [], ◌∷◌, ◌++◌, Option, Some, None, codes, length}
use Rattle.std.specs.Fmt.{decimal}
use Rattle.ls_report.specs.Events.{Text}
use Rattle.ls_labels.specs.Names.{Names}
use Rattle.ls_trace.specs.Lines.{trace_text}
use Rattle.ls_race_laws.specs.declared.access.Kind.{Kind}
use Rattle.ls_race_laws.specs.declared.access.Kind.TheVariants.{Field, Element}
use Rattle.ls_races.specs.declared.finding.Race.{Race}
use Rattle.ls_races.specs.Volatile.{is_unsure}
use Rattle.ls_lexer.specs.declared.token.Token.{Token}
use Rattle.ls_race_places.specs.Places.{last_lines}
use Rattle.ls_race_reports.specs.Sure.{first_sure}
use Rattle.ls_race_reports.specs.Words.{fields_text}
use Rattle.ls_explore_commands.specs.Reports.{run_report}

-- what stands before the fields, where it isn't known of each that it isn't volatile, or is
abbrev pub before_fields : Bool → Text
before_fields true = codes "not known of "
before_fields false = codes "race on "

-- and after them
abbrev pub after_fields : Bool → Text
after_fields true = codes ": these classes have as many fields, and not all of these are volatile\n"
after_fields false = codes ": write volatile before it, or hold one lock at both accesses\n"

abbrev pub field_line : Bool → Text → Text
field_line unsure fields = before_fields unsure ++ (fields ++ after_fields unsure)

-- what is told of a kind of variable on which accesses race
abbrev pub kind_line : Names → List (List Bool) → Kind → Text
kind_line names classes Element =
    codes "race on an element of boolean[]: hold one lock at both accesses, since no element is volatile\n"
kind_line names classes (Field fields field) =
    field_line (is_unsure classes (Field fields field)) (fields_text names fields field 0 false classes)

abbrev pub lines_unless : Bool → Text → Text
lines_unless true lines = []
lines_unless false lines = lines

-- of each race that, and then where the class text has the accesses, unless it isn't known to be one
abbrev pub kinds_text : Names → Text → List Token → List (List Bool) → List Race → Text
kinds_text names text tokens classes [] = []
kinds_text names text tokens classes (r ∷ races) =
    kind_line names classes r.on
    ++ (lines_unless (is_unsure classes r.on) (last_lines names text tokens r.schedule)
    ++ kinds_text names text tokens classes races)

-- the lines of the trace of the last two steps
abbrev pub accesses_text : Names → List ℕ → Text
accesses_text names schedule = trace_text names schedule (length schedule - 1) (length schedule)

abbrev pub none_found : Bool → Bool → Text
none_found false tries = codes "no data race in what was explored\n"
none_found true true =
    codes "no data race, if a tryLock() that fails sees what the owner of its lock did before it took the lock\n"
none_found true false = codes "no data race\n"

-- what is told where no run with a race is
abbrev pub none_text : List Race → Bool → Bool → Text
none_text [] complete tries = none_found complete tries
none_text (r ∷ races) complete tries = codes "not known whether there is a data race\n"

abbrev pub head_text : Names → List Text → Option Race → Text → Text
head_text names threads None otherwise = otherwise
head_text names threads (Some r) otherwise =
    run_report r.fewest names threads (codes "data race") r.schedule ++ accesses_text names r.schedule

abbrev pub whole_text : Bool → Text
whole_text true = codes " complete\n"
whole_text false = codes " cut\n"

-- how many states were kept, and whether all variables are told on which accesses race, as `states 402 complete`
abbrev pub extent_text : ℕ → Bool → Text
extent_text states complete = codes "states " ++ (decimal states ++ whole_text complete)

-- A run with a data race, if there is one. A line for each kind of variable on which accesses race, with the places of
-- the accesses in the class text, whose tokens are given. And how many states were kept. It is told whether all kinds
-- were found, and whether the class text has a call of `tryLock`.
abbrev pub races_text : Names → Text → List Token → List Text → List (List Bool) → List Race → ℕ → Bool → Bool →
    Text
races_text names text tokens threads classes races states complete tries =
    head_text names threads (first_sure classes races) (none_text races complete tries)
    ++ (kinds_text names text tokens classes races ++ extent_text states complete)
