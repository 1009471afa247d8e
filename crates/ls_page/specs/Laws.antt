-- What holds of every quoted text.
use Rattle.std.specs.Prelude.{◌≡◌, ◌==◌, ◌&&◌, ℕ, Bool, true, not, nat_le, ◌++◌, IsUtf8}
use Rattle.std.specs.List.{list_all}
use Rattle.ls_page.specs.Quoted.{Text, quoted}
use Rattle.ls_page.specs.Strings.{Reads}

-- no control character, and no `<`
abbrev pub is_safe : ℕ → Bool
is_safe byte = nat_le 32 byte && not (byte == 60)

abbrev pub QuotedIsSafe : Type 0
QuotedIsSafe = (text : Text) → list_all is_safe (quoted text) ≡ true

-- of a text in UTF-8, as each part of an input is
abbrev pub QuotedReadsBack : Type 0
QuotedReadsBack = (text rest : Text) → IsUtf8 text → Reads (quoted text ++ rest) text rest
