-- The places of a file, of its tokens and of its text.
use Rattle.std.proofs.Common.{◌≡◌, ℕ, ◌+◌, ◌<◌, ◌≤◌, length, List, [], ◌∷◌, ◌++◌, drop, Option, Some, refl, sym, ap}
use Rattle.std.proofs.Common.{subst, ◌∙◌, arith}
use Rattle.std.specs.List.{flat_map}
use Rattle.ls_lexer.specs.declared.token.Token.{Token}
use Rattle.ls_lexer.specs.Lexemes.{Lexeme, lexemes}
use Rattle.ls_lexer.specs.Tokens.{tokens_of}
use Rattle.ls_lexer.specs.Places.{InOrder}
use Rattle.ls_tree.specs.Trees.{Dotted, Import}
use Rattle.ls_tree.specs.PlacedTrees.{ClassTree, File}
use Rattle.ls_parser_spelling.specs.Spelling.{spell_import, spell_package}
use Rattle.ls_parser_spelling.specs.Places.{Spot, spots, forgotten}
use Rattle.ls_parser_spelling.specs.StatementPlaces.{ManyAt}
use Rattle.ls_parser_spelling.specs.FilePlaces.{ClassAt, FileAt, file_at, StandIn, PlacedIn}
use Rattle.ls_parser_spelling.specs.Spells.{TextSpells}
use Rattle.ls_tree.specs.FileView.{bare_file}
use Rattle.ls_tree.specs.PlacedStatements.{placed_file}
use Rattle.ls_tree.specs.declared.tree.ClassFile.{ClassFile}
use Rattle.ls_parser_spelling.specs.Files.{IsFileOf}
use Rattle.ls_parser_spelling.proofs.Views.{is_file_of}
use Rattle.ls_parser_tokens.specs.Reading.{many_at}
use Rattle.ls_parser_expressions.proofs.Lists.{many_sound, onto_all_spells}
use Rattle.ls_parser_declarations.proofs.DeclarationsRead.{Anything}
use Rattle.ls_parser.specs.ReadingClasses.{header_at, import_at, starts_import}
use Rattle.ls_parser.specs.Leaves.{Leaves}
use Rattle.ls_parser.proofs.OntoClasses.{onto_import}
use Rattle.ls_parser.proofs.ClassesRead.{header_sound, import_sound}
use Rattle.ls_parser.proofs.Spelled.{header_spells, import_spells}
use Rattle.ls_parser.proofs.Leaving.{taken, spots_forgotten}

-- a file at its places
pub file_placed : (tokens behind inner : List Token) {name : Option Dotted} {imports : List Import}
    {classes : List ClassTree} →
    header_at (lexemes tokens) ≡ Some (name, lexemes behind) → Leaves (spots tokens) (spots behind) →
    many_at starts_import import_at (lexemes behind) ≡ Some (imports, lexemes inner) →
    Leaves (spots behind) (spots inner) →
    ManyAt ClassAt classes (spots inner) [] → FileAt (record { classes = classes }) (spots tokens)
file_placed tokens behind inner {name} {imports} header l many k cs =
    file_at name imports
    (taken (spell_package name) l
    (spots_forgotten tokens ∙ header_sound (lexemes tokens) (name, lexemes behind) header ∙
    header_spells name (lexemes behind) ∙
    ap (λ (ks : List Lexeme). spell_package name ++ ks) (sym (spots_forgotten behind))))
    (taken (flat_map spell_import imports) k
    (spots_forgotten behind ∙
    (many_sound onto_import Anything starts_import import_at import_sound (lexemes behind) (imports, lexemes inner)
    many).0.spelled
    ∙ onto_all_spells onto_import spell_import import_spells imports (lexemes inner) ∙
    ap (λ (ks : List Lexeme). flat_map spell_import imports ++ ks) (sym (spots_forgotten inner))))
    cs

stand : (text : List ℕ) (from : ℕ) (ts : List Token) → InOrder text from ts (length text) → StandIn text from (spots ts)
stand text from [] h = h
stand text from (t ∷ ts) h = (h.0, h.1, h.2.within, (h.2.size, h.2.reaches, h.2.read), stand text t.span.end ts h.3)

text_placed : {f : File} {text : List ℕ} (ts : List Token) →
    tokens_of text ≡ Some (lexemes ts) →
    InOrder text 0 ts (length text) →
    FileAt f (spots ts) →
    PlacedIn f text
text_placed {text = text} ts all order places = record {
  tokens = spots ts;
  all = all ∙ ap Some (sym (spots_forgotten ts));
  stand = stand text 0 ts order;
  places = places;
}

-- if a text spells a file, and these are its places, it is the file of the text
pub text_file : (f : ClassFile) {text : List ℕ} (ts : List Token) →
    TextSpells (bare_file f) text →
    tokens_of text ≡ Some (lexemes ts) →
    InOrder text 0 ts (length text) →
    FileAt (placed_file f) (spots ts) →
    IsFileOf text (placed_file f)
text_file f ts spelled all order places = is_file_of f spelled (text_placed ts all order places)
