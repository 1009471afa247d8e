-- Which texts are class texts that keep every rule of typing, and which of these restate a Java file.
use Rattle.std.specs.Prelude.{◌≡◌, List, Ok, length}
use Rattle.ls_parser_spelling.specs.Files.{IsFileOf}
use Rattle.ls_types_elaboration.specs.Trees.{Text, File}
use Rattle.ls_types_elaboration.specs.Elaboration.{ElaboratedFile, elaborated}
use Rattle.ls_java_lexer.specs.Order.{AreInOrder}
use Rattle.ls_java_lexer.specs.declared.token.Token.{Token}
use Rattle.ls_java_output.specs.Lines.{AreOnLines}
use Rattle.ls_java_output.specs.Words.{AreWords, ComeFrom}
use Rattle.ls_java_output.specs.declared.place.Place.{Place}

-- The text is a class file with its places, and typing makes a checked file of it.
pub record IsAccepted (text : Text) : Type 0 where
  pub file : File
  pub spelled : IsFileOf text file
  pub checked : ElaboratedFile
  pub elaborates : elaborated file ≡ Ok checked

-- where words of a class text stand, and from which tokens of the Java file they come
abbrev pub Places : Type 0
Places = List Place

-- The text is accepted. Its words are those at these places, and behind them such as stand behind the last line of the
-- Java file. Each at a place comes from a token of the Java file, and stands on the line on which it should.
pub record IsRestatement (java text : Text) (places : Places) : Type 0 where
  pub accepted : IsAccepted text
  pub words : AreWords java text places
  pub tokens : List Token
  pub read : AreInOrder 0 tokens (length java)
  pub come : ComeFrom java tokens text places
  pub lines : AreOnLines java text 0 places
