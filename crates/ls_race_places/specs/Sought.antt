-- Where an access may be that one of some methods makes.
use Rattle.std.specs.Prelude.{◌==◌, ◌&&◌, ℕ, Bool, List, [], ◌∷◌, ◌++◌, Option, None, Some, codes}
use Rattle.std.specs.Prelude.{if◌then◌else◌}
use Rattle.std.specs.Fmt.{decimal}
use Rattle.std.specs.List.{list_any}
use Rattle.std.specs.Str.{bytes_eq}
use Rattle.ls_lexer.specs.Lexemes.{Lexeme, lexeme_of}
use Rattle.ls_lexer.specs.declared.token.Token.{Token}
use Rattle.ls_race_places.specs.Scopes.{Scope, Text, after}
use Rattle.ls_race_places.specs.Uses.{Use, use_at}

-- on no line, on this one of a method, on several of it, or in several methods
pub data Seen : Type 0 where
  Nowhere : Seen
  OnLine : (member : Text) → (line : ℕ) → Seen
  Within : (member : Text) → Seen
  Several : Seen

-- a use by one of these methods, which reads or writes as it is wanted
abbrev pub fits : List Text → Bool → Use → Bool
fits methods writes u = (if writes then u.writes else u.reads) && list_any (λ m. bytes_eq m u.member) methods

abbrev pub with_use : Seen → Use → Seen
with_use Nowhere u = OnLine u.member u.line
with_use (OnLine member line) u =
    if bytes_eq member u.member then (if line == u.line then OnLine member line else Within member) else Several
with_use (Within member) u = if bytes_eq member u.member then Within member else Several
with_use Several u = Several

abbrev pub noted : List Text → Bool → Seen → Option Use → Seen
noted methods writes seen None = seen
noted methods writes seen (Some u) = if fits methods writes u then with_use seen u else seen

abbrev pub first_of : List Token → Option Lexeme
first_of [] = None
first_of (t ∷ ts) = Some (lexeme_of t.kind)

-- where these tokens of a text have one
abbrev pub seen_in : (text name : Text) → List Text → Bool → Scope → Seen → List Token → Seen
seen_in text name methods writes s seen [] = seen
seen_in text name methods writes s seen (t ∷ ts) =
    seen_in text name methods writes (after s (lexeme_of t.kind))
    (noted methods writes seen (use_at text name s t (first_of ts))) ts

-- as ` in S.get, line 8`; where it can't be told, nothing
abbrev pub seen_text : Seen → Text
seen_text Nowhere = []
seen_text (OnLine member line) = codes " in " ++ (member ++ (codes ", line " ++ decimal line))
seen_text (Within member) = codes " in " ++ member
seen_text Several = []
