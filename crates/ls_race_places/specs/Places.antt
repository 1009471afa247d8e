-- The places of the accesses of a race, as lines.
use Rattle.std.specs.Prelude.{◌-◌, ◌≡◌, ℕ, Bool, true, false, List, [], ◌++◌, Some, codes, length, take}
use Rattle.std.specs.Prelude.{slice_index_or}
use Rattle.std.specs.Option.{option_map_or}
use Rattle.ls_events.specs.declared.action.Action.TheVariants.{ReadField, WriteField}
use Rattle.ls_labels.specs.Labels.{label_at}
use Rattle.ls_labels.specs.Names.{Names}
use Rattle.ls_labels.specs.Threads.{thread_name}
use Rattle.ls_labels.specs.Words.{field_of}
use Rattle.ls_lexer.specs.Lexemes.{lexemes}
use Rattle.ls_lexer.specs.Places.{InOrder}
use Rattle.ls_lexer.specs.Tokens.{tokens_of}
use Rattle.ls_lexer.specs.declared.token.Token.{Token}
use Rattle.ls_meaning.specs.declared.step.Did.{Did}
use Rattle.ls_meaning.specs.declared.step.Did.TheVariants.{Acted, Waits, Idle}
use Rattle.ls_race_places.specs.Courses.{Course, course_along, did_in, first_course}
use Rattle.ls_race_places.specs.Scopes.{Text, first_scope}
use Rattle.ls_race_places.specs.Sought.{Nowhere, seen_in, seen_text}

-- the tokens of a text, in their places
pub record AreTokens (text : Text) (tokens : List Token) : Type 0 where
  pub read : tokens_of text ≡ Some (lexemes tokens)
  pub there : InOrder text 0 tokens (length text)

abbrev pub does_text : Bool → Text
does_text true = codes " writes it"
does_text false = codes " reads it"

-- the name of a field of an object that was made
abbrev pub name_of : Names → Course → ℕ → ℕ → Text
name_of names c o field = option_map_or (field_of names field) (label_at c.labels o) []

-- as `  A writes it in S.get, line 8`
abbrev pub access_line : Names → Text → List Token → Course → ℕ → ℕ → ℕ → Bool → Text
access_line names text tokens c thread o field writes =
    codes "  " ++ (thread_name names.program thread ++ (does_text writes ++
    (seen_text (seen_in text (name_of names c o field) c.methods writes first_scope Nowhere tokens) ++ codes "\n")))

abbrev pub did_line : Names → Text → List Token → Course → ℕ → Did → Text
did_line names text tokens c thread (Acted (ReadField o field) answer) =
    access_line names text tokens c thread o field false
did_line names text tokens c thread (Acted (WriteField o field v) answer) =
    access_line names text tokens c thread o field true
did_line names text tokens c thread (Acted _ answer) = []
did_line names text tokens c thread Waits = []
did_line names text tokens c thread Idle = []

-- what a thread does after some steps, if it accesses a field
abbrev pub next_line : Names → Text → List Token → List ℕ → ℕ → Text
next_line names text tokens steps thread =
    let c = course_along names thread (first_course names) steps in
    did_line names text tokens c thread (did_in names c thread)

-- that of the step of a schedule that so many come before
abbrev pub step_line : Names → Text → List Token → List ℕ → ℕ → Text
step_line names text tokens schedule before =
    next_line names text tokens (take before schedule) (slice_index_or schedule before 0)

-- those of its last two steps
abbrev pub last_lines : Names → Text → List Token → List ℕ → Text
last_lines names text tokens schedule =
    step_line names text tokens schedule (length schedule - 2)
    ++ step_line names text tokens schedule (length schedule - 1)
