-- Lists as JSON.
use Rattle.std.specs.Prelude.{ℕ, ◌==◌, Bool, true, false, List, [], ◌∷◌, ◌++◌, Option, Some, None, codes}
use Rattle.std.specs.Prelude.{if◌then◌else◌}
use Rattle.std.specs.Fmt.{decimal}
use Rattle.ls_report.specs.Events.{Text}
use Rattle.ls_state.specs.Parts.{numbered}

-- what stands before an element of a list
abbrev pub comma : ℕ → Text
comma place = if place == 0 then [] else 44 ∷ []

abbrev pub element : {A : Type 0} → (A → Text) → ℕ → A → Text
element part place x = comma place ++ part x

-- as `[3,1,2]`, with a part for each element
abbrev pub listed : {A : Type 0} → (A → Text) → List A → Text
listed part xs = codes "[" ++ (numbered (element part) 0 xs ++ codes "]")

-- as `[[3,1],[2]]`
abbrev pub lists_text : List (List ℕ) → Text
lists_text all = listed (listed decimal) all

-- the number of a state, and -1 for one that isn't kept
abbrev pub number_text : Option ℕ → Text
number_text None = codes "-1"
number_text (Some number) = decimal number

abbrev pub truth_text : Bool → Text
truth_text true = codes "true"
truth_text false = codes "false"
