-- When a fault comes of a class text.
use Rattle.std.specs.Prelude.{◌≡◌, ◌<◌, ℕ, List, length}
use Rattle.ls_lexer.specs.declared.fault.TextFault.{TextFault}
use Rattle.ls_lexer.specs.declared.fault.TextFault.TheVariants as faults
use Rattle.ls_lexer.specs.Places.{text_limit}
use Rattle.ls_parser_tokens.specs.Answers.{MayCome}

-- Each fault comes only of a text of which it may come. If a text is too long, no other fault comes.
pub record Comes (text : List ℕ) (f : TextFault) : Type 0 where
  pub may : MayCome text f
  pub long : text_limit < length text → f ≡ faults.TooLong
