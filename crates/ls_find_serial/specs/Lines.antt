-- What is said of the calls of all programs of a family that run one at a time.
use Rattle.std.specs.Prelude.{◌+◌, ◌||◌, ℕ, zero, suc, Bool, true, false, List, [], ◌++◌, Option, Some, None, codes}
use Rattle.std.specs.Prelude.{count_by, position, slice_get, string_bytes}
use Rattle.std.specs.Fmt.{decimal}
use Rattle.ls_alone.specs.Alone.{told_by}
use Rattle.ls_alone.specs.Words.{fault_words}
use Rattle.ls_alone.specs.declared.telling.Fault.{Fault}
use Rattle.ls_alone.specs.declared.telling.Fault.TheVariants as faults
use Rattle.ls_alone.specs.declared.telling.Tellings.{Tellings}
use Rattle.ls_alone.specs.declared.telling.Told.{Told}
use Rattle.ls_alone.specs.declared.telling.Told.TheVariants as told
use Rattle.ls_alone.specs.declared.telling.Wanted.{Wanted}
use Rattle.ls_alone.specs.declared.telling.Wanted.TheVariants as wanted
use Rattle.ls_family_search.specs.Judged.{Text}

abbrev pub is_so : Told → Bool
is_so told.Never = false
is_so (told.So f) = true
is_so told.Unknown = false

abbrev pub is_unknown : Told → Bool
is_unknown told.Never = false
is_unknown (told.So f) = false
is_unknown told.Unknown = true

abbrev pub words_of : Told → Text
words_of told.Never = []
words_of (told.So f) = string_bytes f.words
words_of told.Unknown = []

-- whether a call has the fault
abbrev pub has : Fault → Tellings → Bool
has fault t = is_so (told_by fault t)

-- whether it isn't known
abbrev pub lacks : Fault → Tellings → Bool
lacks fault t = is_unknown (told_by fault t)

abbrev pub words_in : Fault → Option Tellings → Text
words_in fault None = []
words_in fault (Some t) = words_of (told_by fault t)

-- of so many it isn't known
abbrev pub at_least : ℕ → Text
at_least zero = []
at_least (suc unknown) = codes "at least "

-- As `// in 84 a call throws when calls run one at a time: number 1, s = new T(1), NullPointerException`: in how many
-- programs a call has the fault, the first number of these, and such a call.
abbrev pub found_line : Fault → List Tellings → ℕ → Text
found_line fault ts first =
    codes "// in " ++ (at_least (count_by (lacks fault) ts) ++ (decimal (count_by (has fault) ts) ++ (codes " " ++
    (fault_words fault ++ (codes ": number " ++ (decimal (first + 1) ++ (codes ", " ++
    (words_in fault (slice_get ts first) ++ codes "\n"))))))))

-- as `// in 3 it isn't known whether a call throws when calls run one at a time`
abbrev pub unknown_text : Fault → ℕ → Text
unknown_text fault unknown =
    codes "// in " ++ (decimal unknown ++ (codes " it isn't known whether " ++ (fault_words fault ++ codes "\n")))

-- nothing, if it is known of each
abbrev pub unknown_line : Fault → ℕ → Text
unknown_line fault zero = []
unknown_line fault (suc unknown) = unknown_text fault (suc unknown)

-- nothing, if no call has the fault in any of them
abbrev pub line_at : Fault → List Tellings → Option ℕ → Text
line_at fault ts None = unknown_line fault (count_by (lacks fault) ts)
line_at fault ts (Some first) = found_line fault ts first

abbrev pub fault_line : Fault → List Tellings → Text
fault_line fault ts = line_at fault ts (position (has fault) ts)

-- what is said of each fault
abbrev pub serial_text : List Tellings → Text
serial_text ts = fault_line faults.Throws ts ++ (fault_line faults.Waits ts ++ fault_line faults.Turns ts)

-- ---- the first program with a fault

abbrev pub has_some : Tellings → Bool
has_some t = has faults.Throws t || (has faults.Waits t || has faults.Turns t)

-- of those that are looked for
abbrev pub has_wanted : Wanted → Tellings → Bool
has_wanted wanted.Nothing t = false
has_wanted wanted.Waits t = has faults.Waits t
has_wanted wanted.All t = has_some t
