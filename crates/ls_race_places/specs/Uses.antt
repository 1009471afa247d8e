-- Where a class text may access a field of a name.
use Rattle.std.specs.Prelude.{◌+◌, ◌==◌, ◌&&◌, ◌||◌, ℕ, Bool, true, false, ◌∷◌, ◌++◌, Option, None, Some}
use Rattle.std.specs.Prelude.{codes, if◌then◌else◌, nat_le, take}
use Rattle.std.specs.List.{count_by}
use Rattle.std.specs.Str.{bytes_eq}
use Rattle.ls_lexer.specs.Lexemes.{Lexeme, Named, Numeral, Reserved, Marked, lexeme_of}
use Rattle.ls_lexer.specs.declared.token.Token.{Token}
use Rattle.ls_race_places.specs.Marks.{mark_in}
use Rattle.ls_race_places.specs.Scopes.{Scope, Text}
use Rattle.ls_race_places.specs.declared.marks.Mark.{Mark}
use Rattle.ls_race_places.specs.declared.marks.Mark.TheVariants as marks

abbrev pub is_feed : ℕ → Bool
is_feed byte = byte == 10

-- lines are numbered from 1
abbrev pub line_of : Text → ℕ → ℕ
line_of text at = 1 + count_by is_feed (take at text)

-- the name, in the method or constructor, as `S.get` or `new S`, on a line; whether it may be read there, and written
pub record Use : Type 0 where
  pub member : Text
  pub line : ℕ
  pub reads : Bool
  pub writes : Bool

abbrev pub new_text : Text → Text
new_text class = codes "new " ++ class

abbrev pub member_text : Text → Text → Text
member_text class member = if bytes_eq class member then new_text class else class ++ (46 ∷ member)

-- what follows it reads it first
abbrev pub is_read : Mark → Bool
is_read marks.Assigns = false
is_read _ = true

abbrev pub is_set : Mark → Bool
is_set marks.Assigns = true
is_set marks.Adds = true
is_set marks.Counts = true
is_set _ = false

-- in a body
abbrev pub use_in : Text → Scope → ℕ → Mark → Use
use_in text s at next = record {
  member = member_text s.class s.member;
  line = line_of text at;
  reads = is_read next;
  writes = is_set next || s.counting;
}

-- where a declared field gets its value, which its constructors do
abbrev pub use_of_value : Text → Scope → ℕ → Use
use_of_value text s at = record { member = new_text s.class; line = line_of text at; reads = true; writes = true }

-- the name as it stands before a sign; before a parenthesis it is that of a method
abbrev pub used : Text → Scope → ℕ → Mark → Option Use
used text s at marks.Calls = None
used text s at next =
    if nat_le 2 s.depth then Some (use_in text s at next)
    else (if (s.depth == 1) && (s.assigned || is_set next) then Some (use_of_value text s at) else None)

abbrev pub is_named : Text → Lexeme → Bool
is_named name (Named text) = bytes_eq text name
is_named name (Numeral text) = false
is_named name (Reserved word) = false
is_named name (Marked sign) = false

abbrev pub use_at : Text → Text → Scope → Token → Option Lexeme → Option Use
use_at text name s t next =
    if is_named name (lexeme_of t.kind) then used text s t.span.start (mark_in next) else None
