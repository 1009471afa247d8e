-- In which method a token of a class text stands.
use Rattle.std.specs.Prelude.{◌+◌, ◌-◌, ◌==◌, ◌&&◌, ℕ, Bool, true, false, List, [], ◌∷◌, Option, None, Some}
use Rattle.std.specs.Prelude.{if◌then◌else◌, nat_le, not}
use Rattle.ls_lexer.specs.Lexemes.{Lexeme, Named, Numeral, Reserved, Marked}
use Rattle.ls_lexer.specs.declared.word.Word.TheVariants as words
use Rattle.ls_race_places.specs.Marks.{mark_of}
use Rattle.ls_race_places.specs.declared.marks.Mark.{Mark}
use Rattle.ls_race_places.specs.declared.marks.Mark.TheVariants as marks

abbrev pub Text : Type 0
Text = List ℕ

-- How many braces are open, the class, and the method or constructor; the latter from its first parenthesis on. Whether
-- an `=` came since the last declaration or statement. Whether a count such as `++n` began in the statement. And the
-- token before.
pub record Scope : Type 0 where
  pub depth : ℕ
  pub class : Text
  pub member : Text
  pub assigned : Bool
  pub counting : Bool
  pub before : Option Lexeme

abbrev pub first_scope : Scope
first_scope = record { depth = 0; class = []; member = []; assigned = false; counting = false; before = None }

abbrev pub is_none : Text → Bool
is_none [] = true
is_none (b ∷ bs) = false

abbrev pub name_in : Option Lexeme → Text
name_in (Some (Named text)) = text
name_in (Some (Numeral text)) = []
name_in (Some (Reserved word)) = []
name_in (Some (Marked sign)) = []
name_in None = []

abbrev pub is_name : Option Lexeme → Bool
is_name (Some (Named text)) = true
is_name (Some (Numeral text)) = false
is_name (Some (Reserved word)) = false
is_name (Some (Marked sign)) = false
is_name None = false

abbrev pub is_class : Option Lexeme → Bool
is_class (Some (Reserved words.Class)) = true
is_class _ = false

abbrev pub opened : Scope → Scope
opened s = record s { depth = s.depth + 1; assigned = false; counting = false }

-- after the brace that ends a body no method is entered
abbrev pub closed : Scope → Scope
closed s = record s {
  depth = s.depth - 1;
  member = if nat_le s.depth 2 then [] else s.member;
  assigned = false;
  counting = false;
}

abbrev pub ended : Scope → Scope
ended s = record s { member = if nat_le s.depth 1 then [] else s.member; assigned = false; counting = false }

-- of a class, the name before the first parenthesis of a member is its name
abbrev pub called : Scope → Scope
called s = record s { member = if s.depth == 1 && is_none s.member then name_in s.before else s.member }

abbrev pub by_mark : Scope → Mark → Scope
by_mark s marks.Opens = opened s
by_mark s marks.Closes = closed s
by_mark s marks.Ends = ended s
by_mark s marks.Calls = called s
by_mark s marks.Called = record s { counting = false }
by_mark s marks.Assigns = record s { assigned = true }
by_mark s marks.Adds = s
by_mark s marks.Counts = record s { counting = not (is_name s.before) }
by_mark s marks.Other = s

abbrev pub moved : Scope → Lexeme → Scope
moved s (Named text) = record s { class = if is_class s.before then text else s.class }
moved s (Numeral text) = s
moved s (Reserved word) = s
moved s (Marked sign) = by_mark s (mark_of sign)

-- after a token
abbrev pub after : Scope → Lexeme → Scope
after s k = record (moved s k) { before = Some k }
