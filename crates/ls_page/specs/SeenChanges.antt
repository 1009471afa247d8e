-- What the code adds at a step.
use Rattle.std.specs.Prelude.{Bool, [], bytes_eq, if◌then◌else◌}
use Rattle.ls_report.specs.Events.{Text}
use Rattle.ls_page.specs.Changes.{Line, line_text}

-- after a line that says these words
abbrev pub text_added : Text → Line → Text
text_added words l = if bytes_eq words l.words then [] else line_text l

-- the same if the step is told
abbrev pub text_told : Bool → Text → Line → Text
text_told is_told words l = if is_told then text_added words l else []

-- what the last line says then
abbrev pub words_told : Bool → Text → Line → Text
words_told is_told words l = if is_told then l.words else words
