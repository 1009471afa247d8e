-- What a sign says of the names beside it.
use Rattle.std.specs.Prelude.{Option, None, Some}
use Rattle.ls_lexer.specs.Lexemes.{Lexeme, Named, Numeral, Reserved, Marked}
use Rattle.ls_lexer.specs.declared.sign.Sign.{Sign}
use Rattle.ls_lexer.specs.declared.sign.Sign.TheVariants as signs
use Rattle.ls_race_places.specs.declared.marks.Mark.{Mark}
use Rattle.ls_race_places.specs.declared.marks.Mark.TheVariants as marks

abbrev pub mark_of : Sign → Mark
mark_of signs.OpenBrace = marks.Opens
mark_of signs.CloseBrace = marks.Closes
mark_of signs.Semicolon = marks.Ends
mark_of signs.OpenParen = marks.Calls
mark_of signs.CloseParen = marks.Called
mark_of signs.Assign = marks.Assigns
mark_of signs.PlusAssign = marks.Adds
mark_of signs.Increment = marks.Counts
mark_of signs.Decrement = marks.Counts
mark_of _ = marks.Other

-- that of what is no sign, or where nothing stands, says nothing
abbrev pub mark_in : Option Lexeme → Mark
mark_in None = marks.Other
mark_in (Some (Named text)) = marks.Other
mark_in (Some (Numeral text)) = marks.Other
mark_in (Some (Reserved word)) = marks.Other
mark_in (Some (Marked sign)) = mark_of sign
