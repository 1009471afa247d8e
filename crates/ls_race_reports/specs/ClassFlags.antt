-- Which fields a class text declares volatile (JLS 8.3.1.4).
use Rattle.std.specs.Prelude.{◌≡◌, Bool, List}
use Rattle.ls_tree.specs.Trees.{File}
use Rattle.ls_parser_spelling.specs.Spells.{TextSpells}
use Rattle.ls_report.specs.Events.{Text}
use Rattle.ls_races.specs.Flags.{flags_of}

-- for each class of the text whether its fields are declared volatile
pub record AreFlags (classes : Text) (flags : List (List Bool)) : Type 0 where
  pub tree : File
  pub spelled : TextSpells tree classes
  pub is : flags ≡ flags_of tree.classes
