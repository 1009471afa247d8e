-- Which words of a command line ask for something, and which name what is read: files, lines of a menu, a reference.
use Rattle.std.specs.Prelude.{◌≡◌, ◌==◌, ◌&&◌, ℕ, Bool, true, false, List, [], ◌∷◌, ◌++◌, length, map, take, find}
use Rattle.std.specs.Prelude.{Option, Some, None, bytes_eq, codes, if◌then◌else◌, option_map, string_bytes}
use Rattle.std.specs.List.{after_first, before_first, position_or_len}
use Rattle.std.specs.Option.{option_map_or}
use Rattle.clap.specs.Words.{App, Rule, Text}
use Rattle.clap.specs.Simple.{label_of}
use Rattle.clap.specs.Walk.{action_of, answers_to}
use Rattle.clap.specs.declared.builder.action.ArgAction.{ArgAction}
use Rattle.clap.specs.declared.builder.action.ArgAction.TheVariants.{SetTrue}
use Rattle.clap.specs.declared.builder.value_parser.ValueParser.{ValueParser}
use Rattle.ls_command_line.specs.Words.{NamesSides, line}
use Rattle.ls_command_line.specs.declared.sorting.Awaits.{Awaits}
use Rattle.ls_command_line.specs.declared.sorting.Awaits.TheVariants as awaits
use Rattle.ls_command_line.specs.declared.sorting.Given.{Given}
use Rattle.ls_command_line.specs.declared.options.Opens.{Opens}
use Rattle.ls_command_line.specs.declared.options.Opens.TheVariants as opens

-- ---- the options of a command

abbrev pub takes_by : ArgAction → Bool
takes_by SetTrue = false
takes_by other = true

abbrev pub is_called : Text → Rule → Bool
is_called name r = option_map_or (λ long. bytes_eq long name) r.long false

-- whether the option of this name takes a value, if there is one
abbrev pub takes_value : Text → List Rule → Option Bool
takes_value name [] = None
takes_value name (r ∷ rs) = if is_called name r then Some (takes_by (action_of r)) else takes_value name rs

-- a name without its two dashes
abbrev pub bare : Text → Option Text
bare [] = None
bare (a ∷ []) = None
bare (a ∷ b ∷ name) = if a == 45 && b == 45 then Some name else None

-- what the next word is after an option that the command has
abbrev pub opens_known : Text → Option Bool → Opens
opens_known name None = opens.Nothing
opens_known name (Some takes) =
    if bytes_eq name (codes "--spec") then opens.Reference
    else (if takes then opens.Value else opens.Nothing)

abbrev pub known_in : List Rule → Option Text → Option Bool
known_in rules None = None
known_in rules (Some name) = takes_value name rules

-- The same of each option: `find` takes lines of a menu, and `page` may be wanted without what is put round its data.
abbrev pub opens_for : Text → List Rule → Text → Opens
opens_for command rules name =
    if bytes_eq command (codes "find") && bytes_eq name (codes "--menu") then opens.Menu
    else (if bytes_eq command (codes "find") && bytes_eq name (codes "--setup-menu") then opens.Setup
    else (if bytes_eq command (codes "page") && bytes_eq name (codes "--data") then opens.Data
    else opens_known name (known_in rules (bare name))))

-- the options of the command of this name
abbrev pub rules_for : App → Text → Option (List Rule)
rules_for a name = option_map (λ s. s.rules) (find (λ s. answers_to name (label_of s)) a.subs)

-- ---- the words

-- The words so far: those that ask for something, those that name files, the lines of the menu, the file of the
-- reference, and whether the data of a page are wanted alone; and what the next word is.
pub record Sorted : Type 0 where
  pub asking : List Text
  pub files : List Text
  pub menu : Text
  pub reference : Option Text
  pub data_alone : Bool
  pub awaits : Awaits

abbrev pub awaiting : Awaits → Sorted → Sorted
awaiting a s = record s { awaits = a }

abbrev pub with_asking : Text → Sorted → Sorted
with_asking word s = record s { asking = s.asking ++ word ∷ [] }

abbrev pub with_file : Text → Sorted → Sorted
with_file word s = record s { files = s.files ++ word ∷ [] }

-- one more line of the menu, with these words before it
abbrev pub with_line : Text → Text → Sorted → Sorted
with_line front word s = record s { menu = ((s.menu ++ front) ++ word) ++ 10 ∷ [] }

abbrev pub with_reference : Text → Sorted → Sorted
with_reference word s = record s { reference = Some word }

abbrev pub of_setup : Text
of_setup = codes "setup: "

-- an option that stands alone in its word
abbrev pub with_option : Opens → Text → Sorted → Sorted
with_option opens.Nothing word s = with_asking word s
with_option opens.Value word s = awaiting awaits.Value (with_asking word s)
with_option opens.Menu word s = awaiting awaits.Menu s
with_option opens.Setup word s = awaiting awaits.Setup s
with_option opens.Reference word s = awaiting awaits.Reference s
with_option opens.Data word s = record s { data_alone = true }

-- and one whose value stands in the word too
abbrev pub with_valued : Opens → Text → Text → Sorted → Sorted
with_valued opens.Menu word value s = with_line [] value s
with_valued opens.Setup word value s = with_line of_setup value s
with_valued opens.Reference word value s = with_reference value s
with_valued other word value s = with_asking word s

abbrev pub is_equals : ℕ → Bool
is_equals b = b == 61

abbrev pub is_option : Text → Bool
is_option [] = false
is_option (b ∷ []) = false
is_option (b ∷ c ∷ word) = b == 45

abbrev pub option_placed : Text → List Rule → Text → Sorted → Sorted
option_placed command rules word s =
    if position_or_len is_equals word == length word
    then with_option (opens_for command rules word) word s
    else with_valued (opens_for command rules (before_first is_equals word)) word (after_first is_equals word) s

-- a word that isn't the value of one before it
abbrev pub word_placed : Text → List Rule → Text → Sorted → Sorted
word_placed command rules word s =
    if bytes_eq word (codes "--") then awaiting awaits.File s
    else (if is_option word then option_placed command rules word s else with_file word s)

abbrev pub placed_by : Awaits → Text → List Rule → Text → Sorted → Sorted
placed_by awaits.Word command rules word s = word_placed command rules word s
placed_by awaits.Value command rules word s = awaiting awaits.Word (with_asking word s)
placed_by awaits.Menu command rules word s = awaiting awaits.Word (with_line [] word s)
placed_by awaits.Setup command rules word s = awaiting awaits.Word (with_line of_setup word s)
placed_by awaits.Reference command rules word s = awaiting awaits.Word (with_reference word s)
placed_by awaits.File command rules word s = with_file word s

abbrev pub placed : Text → List Rule → Text → Sorted → Sorted
placed command rules word s = placed_by s.awaits command rules word s

abbrev pub all_placed : Text → List Rule → List Text → Sorted → Sorted
all_placed command rules [] s = s
all_placed command rules (word ∷ words) s = all_placed command rules words (placed command rules word s)

-- all of the words ask for something
abbrev pub asking_all : List Text → Sorted
asking_all words = record {
  asking = words;
  files = [];
  menu = [];
  reference = None;
  data_alone = false;
  awaits = awaits.Word;
}

-- the words by the options of their command, the second of them, if it is one; these come behind it
abbrev pub sorted_by : List Text → Text → List Text → Option (List Rule) → Sorted
sorted_by words command more None = asking_all words
sorted_by words command more (Some rules) = all_placed command rules more (asking_all (take 2 words))

-- the words, which begin with the program's own name, for a program with commands
abbrev pub sorted_for : App → List Text → Sorted
sorted_for a (name ∷ command ∷ more) = sorted_by (name ∷ command ∷ more) command more (rules_for a command)
sorted_for a words = asking_all words

abbrev pub plain_given : Given → Sorted
plain_given g = record {
  asking = map string_bytes g.asking.items;
  files = map string_bytes g.files.items;
  menu = string_bytes g.menu;
  reference = option_map string_bytes g.reference;
  data_alone = g.data_alone;
  awaits = g.awaits;
}

-- they are sorted so, where the option of `translate` takes the words of the two sides
abbrev pub SortsTo : List Text → Sorted → Type 0
SortsTo words s = (p : ValueParser) × NamesSides p × (s ≡ sorted_for (line p) words)
