-- The lines of a program that is found.
use Rattle.std.specs.Prelude.{◌||◌, Bool, false, true, [], ◌∷◌, Option, None, Some, codes, if◌then◌else◌, option_map}
use Rattle.ls_report.specs.Cut.{cut}
use Rattle.ls_report.specs.Events.{Text}
use Rattle.ls_find_reports.specs.Statuses.{begins}

-- what stands behind the first line of a text, if that begins so
abbrev pub behind_line : Text → Option Text → Option Text
behind_line front None = None
behind_line front (Some text) = if begins text front then option_map (λ p. p.1) (cut 10 text) else None

abbrev pub is_end : Option Text → Bool
is_end None = false
is_end (Some []) = true
is_end (Some (b ∷ text)) = false

-- what stands behind a line of a comment, if the text begins with one
abbrev pub behind_note : Text → Option Text
behind_note text = if begins text (codes "// ") then behind_line (codes "// ") (Some text) else Some text

-- what stands behind the lines of the setup and A
abbrev pub behind_one : Text → Option Text
behind_one text = behind_line (codes "thread A { ") (behind_line (codes "setup { ") (behind_note text))

-- and of B
abbrev pub behind_two : Text → Option Text
behind_two text = behind_line (codes "thread B { ") (behind_one text)

-- Whether the lines of a text are those of a setup and of one thread to four, in order, below a line of a comment if
-- there is one. Of each line it is said how it begins.
abbrev pub are_lines : Text → Bool
are_lines text =
    is_end (behind_one text) || (is_end (behind_two text) ||
    (is_end (behind_line (codes "thread C { ") (behind_two text)) ||
    is_end (behind_line (codes "thread D { ") (behind_line (codes "thread C { ") (behind_two text)))))
