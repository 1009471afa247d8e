-- What holds after each of many steps.
use Rattle.std.specs.Prelude.{ℕ, nat_le, List, [], ◌∷◌, ◌++◌, codes, filter, flat_map, length, take}
use Rattle.std.specs.Fmt.{decimal}
use Rattle.std.specs.List.{range_with_len}
use Rattle.ls_report.specs.Events.{Text}
use Rattle.ls_labels.specs.Names.{Names}
use Rattle.ls_state.specs.declared.ranges.Form.{Form}
use Rattle.ls_state.specs.declared.ranges.Form.TheVariants as forms
use Rattle.ls_state.specs.Drawing.{graph_of}
use Rattle.ls_state.specs.Scene.{Scene, scene_of}
use Rattle.ls_state.specs.State.{lines_of}

-- a text under the number of the step that led to it, with an empty line after it
abbrev pub headed : ℕ → Text → Text
headed number text = codes "after step " ++ (decimal number ++ (10 ∷ (text ++ 10 ∷ [])))

-- what holds so; above a graph the number is a comment
abbrev pub headed_as : Form → Names → Scene → ℕ → Text
headed_as forms.Lines names scene number = headed number (lines_of names scene)
headed_as forms.Graph names scene number = codes "// " ++ headed number (graph_of names scene)

-- a text for each of so many steps, which are numbered from 1, from a number on
abbrev pub each_from : (ℕ → Text) → ℕ → ℕ → Text
each_from text from count = flat_map text (filter (nat_le from) (range_with_len 1 count))

-- what holds after so many of these steps, under their number
abbrev pub after_step : Form → Names → List ℕ → ℕ → Text
after_step form names steps n = headed_as form names (scene_of names (take n steps)) n

-- the same after each of these steps, from a number on
abbrev pub each_of : Form → Names → ℕ → List ℕ → Text
each_of form names from steps = each_from (after_step form names steps) from (length steps)

-- and after each step of a schedule whose number lies in a range, both ends among them
abbrev pub each_text : Form → Names → List ℕ → ℕ → ℕ → Text
each_text form names schedule from to = each_of form names from (take to schedule)

abbrev pub states_text : Names → List ℕ → ℕ → ℕ → Text
states_text = each_text forms.Lines

abbrev pub drawings_text : Names → List ℕ → ℕ → ℕ → Text
drawings_text = each_text forms.Graph
