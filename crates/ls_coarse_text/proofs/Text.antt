-- The class text is spelled by its tree alone, and elaborated to the checked list.
use Rattle.std.proofs.Common.{◌≡◌, ◌∙◌, refl, ap, arith, Ok, Err}
use Rattle.ls_parser.specs.Laws.{OneFile}
use Rattle.ls_parser_spelling.specs.Unplaced.{unplaced_file}
use Rattle.ls_parser_spelling.specs.Outlines.{file_tree}
use Rattle.ls_parser_spelling.specs.Spells.{TextSpells}
use Rattle.ls_parser_spelling.specs.Files.{IsFileOf}
use Rattle.ls_types_elaboration.specs.Trees.{Text, File}
use Rattle.ls_types_elaboration.specs.Elaborated.{Elaborated}
use Rattle.ls_types_elaboration.specs.Elaboration.{ElaboratedFile, elaborated}
use Rattle.ls_types_places.specs.Laws.{NoPlaces, SameAnswer}
use Rattle.ls_coarse_text.specs.Laws.{IsListText, TextIsSpelled, TextIsTheList}
use Rattle.ls_coarse_text.proofs.Tree.{tree}
use Rattle.ls_coarse_text.proofs.Spelled.{tokens, formed}
use Rattle.ls_coarse_text.proofs.Elaborated.{outcome, is_elaborated}

-- the law of its tree
pub text_is_spelled : TextIsSpelled
text_is_spelled = (tree, record { short = grind arith; tokens = tokens; formed = formed })

same_outcome : (a b : Elaborated ElaboratedFile) → b ≡ Ok outcome → SameAnswer a b → a ≡ Ok outcome
same_outcome (Ok x) (Ok y) e same = ap Ok same ∙ e
same_outcome (Ok x) (Err y) e same = absurd same
same_outcome (Err x) (Ok y) e same = absurd same
same_outcome (Err x) (Err y) e same = absurd cc

-- a file that such a text spells has this outcome, whatever the places of its tokens are
pub is_the_list : OneFile → NoPlaces → (classes : Text) (f : File) → IsListText classes → IsFileOf classes f →
    elaborated f ≡ Ok outcome
is_the_list one places classes f same of =
    let spelled : TextSpells tree classes = record {
      short = of.spelled.short;
      tokens = same ∙ tokens;
      formed = formed;
    } in
    let is : file_tree of.tree ≡ file_tree tree = ap file_tree (one of.tree tree classes of.spelled spelled) in
    let outline : unplaced_file f ≡ unplaced_file (file_tree tree) = of.forgotten ∙ is in
    same_outcome (elaborated f) (elaborated (file_tree tree)) is_elaborated (places f (file_tree tree) outline)

-- the law of its files
pub text_is_the_list : OneFile → NoPlaces → TextIsTheList
text_is_the_list one places classes f same of = (outcome, is_the_list one places classes f same of, refl)
