-- What elaboration answers doesn't depend on places.
use Rattle.std.specs.Prelude.{◌≡◌, ℕ, List, Ok, Err}
use Rattle.ls_types_elaboration.specs.Trees.{File}
use Rattle.ls_types_elaboration.specs.Elaborated.{Elaborated}
use Rattle.ls_types_elaboration.specs.Elaboration.{elaborated}
use Rattle.ls_parser_spelling.specs.Unplaced.{unplaced_file}
use Rattle.ls_parser_spelling.specs.Files.{IsFileOf}

-- the same outcome, or the same broken rule, at any place
abbrev pub SameAnswer : {A : Type 0} → Elaborated A → Elaborated A → Type 0
SameAnswer (Ok a) (Ok b) = a ≡ b
SameAnswer (Err b) (Err c) = b.rule ≡ c.rule
SameAnswer _ _ = ⊥

-- two trees that differ in their places alone
abbrev pub NoPlaces : Type 0
NoPlaces = (f g : File) → unplaced_file f ≡ unplaced_file g → SameAnswer (elaborated f) (elaborated g)

-- two files of one text: if one is refused, the other is
abbrev pub OneAnswer : Type 0
OneAnswer = (text : List ℕ) (f g : File) → IsFileOf text f → IsFileOf text g → SameAnswer (elaborated f) (elaborated g)
