-- What the command line may be, and what it asks for.
use Rattle.std.specs.Prelude.{◌≡◌, ◌||◌, ℕ, Bool, true, false, not, is_some, List, [], ◌∷◌, map, codes, Option, Some}
use Rattle.std.specs.Prelude.{None}
use Rattle.std.specs.Prelude.{Result, Ok, Err, bytes_eq, if◌then◌else◌}
use Rattle.std.specs.Option.{option_map_or}
use Rattle.std.specs.Str.Parse.{digits_value, without_leading_plus}
use Rattle.clap.specs.Words.{App, Row, Rule, Text, fault_of, first_of, new_app, new_rule, one_of, subcommand_of}
use Rattle.clap.specs.Words.{with_rule, with_subcommand}
use Rattle.clap.specs.Simple.{on_top}
use Rattle.clap.specs.ValueTests.{accepts}
use Rattle.clap.specs.declared.builder.action.ArgAction.TheVariants.{SetTrue}
use Rattle.clap.specs.declared.builder.value_parser.ValueParser.{ValueParser}
use Rattle.clap.specs.declared.builder.value_parser.ValueParser.TheVariants.{Names, Unsigned}
use Rattle.ls_command_line.specs.declared.words.CommandLine.{CommandLine}
use Rattle.ls_command_line.specs.declared.words.Paging.{Paging}
use Rattle.ls_command_line.specs.declared.words.Request.{Request}
use Rattle.ls_command_line.specs.declared.words.Request.TheVariants as requests
use Rattle.ls_command_line.specs.declared.words.Seeking.{Seeking}
use Rattle.ls_command_line.specs.declared.words.Side.{Side}
use Rattle.ls_command_line.specs.declared.words.Side.TheVariants as sides
use Rattle.ls_command_line.specs.declared.words.WordsFault.{WordsFault}
use Rattle.ls_command_line.specs.declared.words.WordsFault.TheVariants as faults

-- a number of 64 bits
abbrev pub u64_parser : ValueParser
u64_parser = Unsigned 0 18446744073709551615

-- an option with a number
abbrev pub number_rule : Bool → Text → Rule
number_rule required name = record (new_rule name) {
  long = Some name;
  parser = Some u64_parser;
  required = required;
  value_names = 1;
}

-- an option without a value
abbrev pub flag_rule : Text → Rule
flag_rule name = record (new_rule name) { long = Some name; action = Some SetTrue }

-- the option that a reference is given, which is the last part
abbrev pub spec_rule : Rule
spec_rule = flag_rule (codes "spec")

-- the option whose value is one of the parser's
abbrev pub side_rule : ValueParser → Rule
side_rule p = record (new_rule (codes "to")) {
  long = Some (codes "to");
  parser = Some p;
  required = true;
  value_names = 1;
}

-- the parser takes the words `source` and `machine`
abbrev pub NamesSides : ValueParser → Type 0
NamesSides (Names names) = map (λ n. n.now) names.now ≡ codes "source" ∷ codes "machine" ∷ []
NamesSides other = ⊥

abbrev pub cells_rule : Rule
cells_rule = number_rule false (codes "cells")

-- a command of this name, with the option that all have
abbrev pub with_explain : Text → App
with_explain name = with_rule (new_app name) (flag_rule (codes "explain"))

-- a command that reads a class text first, with the option that this is a Java file
abbrev pub with_java : Text → App
with_java name = with_rule (with_explain name) (flag_rule (codes "java"))

abbrev pub replay_line : App
replay_line = with_rule (with_rule (with_java (codes "replay")) cells_rule) (flag_rule (codes "live"))

abbrev pub trace_line : App
trace_line =
    with_rule
    (with_rule
    (with_rule (with_java (codes "trace")) (number_rule false (codes "from")))
    (number_rule false (codes "to")))
    (flag_rule (codes "fold"))

abbrev pub order_line : App
order_line = with_rule (with_java (codes "order")) spec_rule

abbrev pub page_line : App
page_line =
    with_rule
    (with_rule
    (with_rule
    (with_rule
    (with_rule (with_java (codes "page")) (number_rule false (codes "from")))
    (number_rule false (codes "to")))
    (flag_rule (codes "choose")))
    (number_rule false (codes "states")))
    spec_rule

abbrev pub state_line : App
state_line =
    with_rule
    (with_rule
    (with_rule
    (with_rule (with_java (codes "state")) (flag_rule (codes "dot")))
    (flag_rule (codes "each")))
    (number_rule false (codes "from")))
    (number_rule false (codes "to"))

abbrev pub translate_line : ValueParser → App
translate_line p = with_rule (with_rule (with_java (codes "translate")) (side_rule p)) cells_rule

abbrev pub live_line : App
live_line = with_rule (with_rule (with_java (codes "live")) cells_rule) (number_rule false (codes "limit"))

-- the option of a thread that is drawn by chance 1 in a number
abbrev pub switch_rule : Rule
switch_rule = number_rule false (codes "switch")

abbrev pub batch_line : App
batch_line =
    with_rule
    (with_rule
    (with_rule
    (with_rule
    (with_rule
    (with_rule
    (with_rule (with_java (codes "batch")) (number_rule true (codes "seed")))
    (number_rule true (codes "count")))
    (number_rule true (codes "steps")))
    switch_rule)
    cells_rule)
    (flag_rule (codes "judge")))
    spec_rule

abbrev pub sample_line : App
sample_line =
    with_rule
    (with_rule
    (with_rule
    (with_rule (with_java (codes "sample")) (number_rule true (codes "seed")))
    (number_rule true (codes "steps")))
    switch_rule)
    cells_rule

abbrev pub explore_line : App
explore_line =
    with_rule
    (with_rule
    (with_rule
    (with_rule
    (with_rule
    (with_rule
    (with_rule
    (with_rule
    (with_rule
    (with_rule
    (with_rule (with_java (codes "explore")) cells_rule)
    (number_rule false (codes "states")))
    (flag_rule (codes "illegal")))
    (flag_rule (codes "first")))
    (flag_rule (codes "order")))
    (flag_rule (codes "progress")))
    (flag_rule (codes "verdict")))
    (flag_rule (codes "races")))
    (flag_rule (codes "ends")))
    (flag_rule (codes "again")))
    spec_rule

abbrev pub bounds_line : App
bounds_line =
    with_rule
    (with_rule
    (with_rule
    (with_rule
    (with_rule
    (with_rule (with_java (codes "find")) (number_rule false (codes "threads")))
    (number_rule false (codes "calls")))
    (number_rule false (codes "setup")))
    (number_rule false (codes "values")))
    (number_rule false (codes "new")))
    (number_rule false (codes "new-to"))

abbrev pub numbers_line : App
numbers_line =
    with_rule
    (with_rule
    (with_rule
    (with_rule
    (with_rule bounds_line (number_rule false (codes "class")))
    (number_rule false (codes "states")))
    (number_rule false (codes "from")))
    (number_rule false (codes "to")))
    (number_rule false (codes "print"))

abbrev pub find_line : App
find_line =
    with_rule
    (with_rule
    (with_rule
    (with_rule
    (with_rule
    (with_rule
    (with_rule
    (with_rule numbers_line (flag_rule (codes "no-waiting")))
    (flag_rule (codes "no-turning")))
    (flag_rule (codes "set")))
    (flag_rule (codes "strict")))
    (flag_rule (codes "races")))
    (flag_rule (codes "check")))
    (flag_rule (codes "progress")))
    spec_rule

abbrev pub merge_line : App
merge_line = with_rule (with_explain (codes "merge")) (number_rule false (codes "count"))

-- the program without its commands, one of which is wanted
abbrev pub top_line : App
top_line = on_top (λ s. record s { has_version = true; subcommand_required = true }) (new_app (codes "listset"))

-- the program with its commands
abbrev pub line : ValueParser → App
line p =
    with_subcommand
    (with_subcommand
    (with_subcommand
    (with_subcommand
    (with_subcommand
    (with_subcommand
    (with_subcommand
    (with_subcommand
    (with_subcommand
    (with_subcommand
    (with_subcommand
    (with_subcommand
    (with_subcommand
    (with_subcommand
    (with_subcommand
    (with_subcommand
    (with_subcommand top_line (with_explain (codes "check")).top)
    order_line.top)
    (with_java (codes "compile")).top)
    replay_line.top)
    (with_java (codes "source")).top)
    trace_line.top)
    state_line.top)
    page_line.top)
    (with_java (codes "aim")).top)
    (translate_line p).top)
    live_line.top)
    batch_line.top)
    sample_line.top)
    explore_line.top)
    find_line.top)
    merge_line.top)
    (with_explain (codes "java")).top

-- the number that a text writes, and else the default
abbrev pub number_or : ℕ → Option Text → ℕ
number_or default None = default
number_or default (Some text) = if accepts false u64_parser text then digits_value 10 (without_leading_plus text)
    else default

-- the number of the option of this name
abbrev pub number_of : Text → ℕ → List Row → ℕ
number_of name default rows = number_or default (one_of name rows)

-- the number that a text writes, if there is a text
abbrev pub number_in : Option Text → Option ℕ
number_in None = None
number_in (Some text) = if accepts false u64_parser text then Some (digits_value 10 (without_leading_plus text))
    else None

abbrev pub number_asked : Text → List Row → Option ℕ
number_asked name rows = number_in (one_of name rows)

abbrev pub cells_of : List Row → ℕ
cells_of rows = number_of (codes "cells") 65536 rows

abbrev pub switch_of : List Row → ℕ
switch_of rows = number_of (codes "switch") 1 rows

-- whether the option of this name is given
abbrev pub flag_of : Text → List Row → Bool
flag_of name rows = option_map_or (λ text. bytes_eq text (codes "true")) (first_of name rows) false

abbrev pub named_side : Text → Side
named_side name = if bytes_eq name (codes "source") then sides.Source else sides.Machine

abbrev pub side_of : List Row → Side
side_of rows = option_map_or named_side (first_of (codes "to") rows) sides.Machine

abbrev pub is_given : Text → List Row → Bool
is_given name rows = is_some (first_of name rows)

-- the state after the last step, or the states after many: if `--each` or the first of them is given
abbrev pub asked_state : List Row → Request
asked_state rows =
    if flag_of (codes "each") rows || is_given (codes "from") rows
    then requests.States (flag_of (codes "dot") rows) (number_of (codes "from") 1 rows)
    (number_of (codes "to") 1000000 rows)
    else requests.State (flag_of (codes "dot") rows) (number_of (codes "to") 1000000 rows)

-- an option of `explore` is given that goes with the histories alone
abbrev pub is_mixed : List Row → Bool
is_mixed rows = is_some (number_asked (codes "cells") rows) || (flag_of (codes "illegal") rows ||
    (flag_of (codes "first") rows || (flag_of (codes "order") rows || flag_of (codes "progress") rows)))

-- an option is given that doesn't go with `--ends`, or `--ends` isn't
abbrev pub is_mixed_with_ends : List Row → Bool
is_mixed_with_ends rows =
    not (flag_of (codes "ends") rows)
    || (is_mixed rows || (flag_of (codes "verdict") rows || flag_of (codes "races") rows))

-- The histories of all schedules, or a wrong run alone, or a run with a data race, or whether calls end. `--again` goes
-- with the last alone.
abbrev pub asked_explore : List Row → Request
asked_explore rows =
    if flag_of (codes "ends") rows || flag_of (codes "again") rows
    then requests.Ends (number_of (codes "states") 1000000 rows) (is_mixed_with_ends rows)
    (flag_of (codes "again") rows)
    else if flag_of (codes "races") rows
    then requests.Races (number_of (codes "states") 1000000 rows) (is_mixed rows || flag_of (codes "verdict") rows)
    else if flag_of (codes "verdict") rows
    then requests.Verdict (number_of (codes "states") 1000000 rows) (is_mixed rows)
    else requests.Explore (number_asked (codes "cells") rows) (number_of (codes "states") 1000000 rows)
    (flag_of (codes "illegal") rows) (flag_of (codes "first") rows) (flag_of (codes "order") rows)
    (flag_of (codes "progress") rows)

-- which programs of a class are looked through
abbrev pub asked_find : List Row → Seeking
asked_find rows = record {
  threads = number_of (codes "threads") 2 rows;
  calls = number_of (codes "calls") 2 rows;
  setup = number_of (codes "setup") 1 rows;
  values = number_of (codes "values") 2 rows;
  first_given = number_of (codes "new") 1 rows;
  last_given = number_of (codes "new-to") (number_of (codes "new") 2 rows) rows;
  class = number_asked (codes "class") rows;
  states = number_of (codes "states") 200000 rows;
  from = number_of (codes "from") 1 rows;
  to = number_of (codes "to") 1000000 rows;
  print = number_asked (codes "print") rows;
  waiting = not (flag_of (codes "no-waiting") rows);
  turning = not (flag_of (codes "no-turning") rows);
  set = flag_of (codes "set") rows;
  strict = flag_of (codes "strict") rows;
  races = flag_of (codes "races") rows;
  check = flag_of (codes "check") rows;
  progress = flag_of (codes "progress") rows;
}

-- which page is asked for
abbrev pub asked_page : List Row → Paging
asked_page rows = record {
  from = number_asked (codes "from") rows;
  to = number_asked (codes "to") rows;
  choose = flag_of (codes "choose") rows;
  states = number_asked (codes "states") rows;
}

-- what a command of this name with these options asks for
abbrev pub asked : Text → List Row → Request
asked name rows =
    if bytes_eq name (codes "order") then requests.Order
    else (if bytes_eq name (codes "compile") then requests.Compile
    else (if bytes_eq name (codes "replay") then requests.Replay (cells_of rows) (flag_of (codes "live") rows)
    else (if bytes_eq name (codes "source") then requests.Source
    else (if bytes_eq name (codes "trace")
    then requests.Trace (number_of (codes "from") 1 rows) (number_of (codes "to") 1000000 rows)
    (flag_of (codes "fold") rows)
    else (if bytes_eq name (codes "page")
    then requests.Page (asked_page rows)
    else (if bytes_eq name (codes "state") then asked_state rows
    else (if bytes_eq name (codes "aim") then requests.Aim
    else (if bytes_eq name (codes "translate") then requests.Translate (side_of rows) (cells_of rows)
    else (if bytes_eq name (codes "live") then requests.Live (cells_of rows) (number_of (codes "limit") 5000 rows)
    else (if bytes_eq name (codes "batch")
    then requests.Batch (number_of (codes "seed") 0 rows) (number_of (codes "count") 0 rows)
    (number_of (codes "steps") 0 rows) (switch_of rows) (cells_of rows)
    (flag_of (codes "judge") rows)
    else (if bytes_eq name (codes "sample")
    then requests.Sample (number_of (codes "seed") 0 rows) (number_of (codes "steps") 0 rows) (switch_of rows)
    (cells_of rows)
    else (if bytes_eq name (codes "explore")
    then asked_explore rows
    else (if bytes_eq name (codes "find") then requests.Find (asked_find rows)
    else (if bytes_eq name (codes "merge") then requests.Merge (number_asked (codes "count") rows)
    else (if bytes_eq name (codes "java") then requests.Java
    else requests.Check)))))))))))))))

-- with what all commands are asked
abbrev pub asked_by : Option (Text × List Row) → CommandLine
asked_by None = record { request = requests.Check; explain = false; spec = false; java = false }
asked_by (Some p) = record {
  request = asked p.0 p.1;
  explain = flag_of (codes "explain") p.1;
  spec = flag_of (codes "spec") p.1;
  java = flag_of (codes "java") p.1;
}

-- the second where the first is empty
abbrev pub if_empty : {X Y : Type 0} → List X → Y → Option Y
if_empty [] y = Some y
if_empty (x ∷ xs) y = None

-- The request of words that clap takes, and none of words that it doesn't.
abbrev pub request_of : ValueParser → List Text → Option CommandLine
request_of p words = if_empty (fault_of (line p) words) (asked_by (subcommand_of (line p) words))

-- the words ask for this, or for nothing, where the option of `translate` takes the words of the two sides
abbrev pub AsksFor : List Text → Option CommandLine → Type 0
AsksFor words line = (p : ValueParser) × NamesSides p × (request_of p words ≡ line)

-- Memory ran out, or the answer is that of the words.
abbrev pub IsWordsAnswer : List Text → Result CommandLine WordsFault → Type 0
IsWordsAnswer words (Ok line) = AsksFor words (Some line)
IsWordsAnswer words (Err faults.Memory) = Unit {0}
IsWordsAnswer words (Err (faults.BadLine e)) = AsksFor words None
