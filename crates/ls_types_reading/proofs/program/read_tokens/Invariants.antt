-- What the loop `token` of `read_tokens` in src/program.rt keeps.

use Rattle.std.proofs.Common.{◌≡◌, ℕ, drop, Some}
use Rattle.ls_lexer.specs.Lexemes.{lexemes}
use Rattle.ls_types_checked.specs.CheckedFile.{elaborated_file}
use Rattle.ls_types_programs.specs.ThreadPrograms.{after, beginning}
use Rattle.ls_types_programs.specs.Stops.{stops, unmarked}
use Rattle.ls_types_reading.specs.ReadingViews.{reading_of, marks_of}
use Rattle.ls_types_reading.proofs.program.read_tokens.Given as goal

abbrev pub invariant-loop-token : goal.invariant-loop-token
invariant-loop-token l =
    (after (elaborated_file l.methods.checked.now) (Some (reading_of l.parts l.stage))
    (lexemes (drop l.token-index l.tokens))
    ≡ after (elaborated_file l.methods.checked.now) (Some beginning) (lexemes l.tokens))
    × ((end : ℕ) → stops (elaborated_file l.methods.checked.now) end (marks_of l.stage) (reading_of l.parts l.stage)
    (drop l.token-index l.tokens)
    ≡ stops (elaborated_file l.methods.checked.now) end unmarked beginning l.tokens)
