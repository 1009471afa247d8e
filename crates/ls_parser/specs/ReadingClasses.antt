-- Reading of members, classes and files.
use Rattle.std.specs.Prelude.{Bool, true, false, not, ◌||◌, List, [], ◌∷◌, Option, Some, None, is_some, if◌then◌else◌}
use Rattle.ls_lexer.specs.declared.word.Word.TheVariants as words
use Rattle.ls_lexer.specs.declared.sign.Sign.TheVariants as signs
use Rattle.ls_lexer.specs.Lexemes.{Lexeme}
use Rattle.ls_tree.specs.Trees.{Text, Modifier, TypeName, Items, Parameter, Member, Fields, Method, Constructor}
use Rattle.ls_tree.specs.Trees.{ClassTree, Dotted, Import, File}
use Rattle.ls_tree.specs.PlacedTrees.{some_in}
use Rattle.ls_tree.specs.WellFormed.{most_nodes}
use Rattle.ls_parser_tokens.specs.Reading.{◌>>=◌, Reader, given, after_sign, after_word, name_at, starts, many_at}
use Rattle.ls_parser_tokens.specs.Reading.{not_yet, group_at}
use Rattle.ls_parser_expressions.specs.ReadingExpressions.{expression_at}
use Rattle.ls_parser_declarations.specs.ReadingDeclarations.{modifiers_at, type_at, declarators_at}
use Rattle.ls_parser_statements.specs.ReadingStatements.{block_at}

abbrev pub parameter_of : List Modifier → TypeName → Text → Parameter
parameter_of modifiers type_name name = record { modifiers = modifiers; type_name = type_name; name = name }

abbrev pub parameter_at : Reader Parameter
parameter_at ks =
    modifiers_at ks >>= λ modifiers. type_at modifiers.1 >>= λ type_name.
    name_at type_name.1 >>= λ name. Some (parameter_of modifiers.0 type_name.0 name.0, name.1)

abbrev pub parameters_at : Reader (List Parameter)
parameters_at ks = after_sign signs.OpenParen ks >>= λ rest. group_at parameter_at rest

-- a name and an opening parenthesis
abbrev pub starts_call : List Lexeme → Bool
starts_call ks = given (name_at ks) (λ name. starts signs.OpenParen name.1) false

-- a name, parameters and a body
abbrev pub callable_at : Reader (Text × List Parameter × Items)
callable_at ks =
    name_at ks >>= λ name. parameters_at name.1 >>= λ parameters.
    block_at most_nodes parameters.1 >>= λ body. Some ((name.0, parameters.0, body.0), body.1)

abbrev pub constructor_at : List Modifier → Reader Member
constructor_at modifiers ks =
    name_at ks >>= λ name. parameters_at name.1 >>= λ parameters.
    block_at most_nodes parameters.1 >>= λ body. Some (Constructor modifiers name.0 parameters.0 body.0, body.1)

-- whether `synchronized` comes first
abbrev pub starts_locked : List Lexeme → Bool
starts_locked ks = is_some (after_word words.Synchronized ks)

abbrev pub locked_at : Reader (List Modifier)
locked_at ks = after_word words.Synchronized ks >>= λ rest. modifiers_at rest

abbrev pub all_locked_at : Reader (List (List Modifier))
all_locked_at ks = many_at starts_locked locked_at ks

-- what comes after modifiers and a result
abbrev pub method_at : List Modifier → List (List Modifier) → Option TypeName → Reader Member
method_at modifiers locked result ks =
    name_at ks >>= λ name. parameters_at name.1 >>= λ parameters.
    block_at most_nodes parameters.1 >>= λ body. Some (
      Method modifiers locked result name.0 parameters.0 body.0,
      body.1,
    )

-- what comes after modifiers and a type
abbrev pub typed_at : List Modifier → TypeName → Reader Member
typed_at modifiers type_name ks =
    if starts_call ks
    then method_at modifiers [] (Some type_name) ks
    else (declarators_at (expression_at most_nodes) modifiers type_name ks >>= λ d. Some (Fields d.0, d.1))

-- what comes after modifiers
abbrev pub unmodified_at : List Modifier → Reader Member
unmodified_at modifiers ks =
    if starts_call ks then constructor_at modifiers ks else
    given (after_word words.Void ks) (λ rest. method_at modifiers [] None rest)
    (type_at ks >>= λ type_name. typed_at modifiers type_name.0 type_name.1)

-- what comes after the modifiers of a synchronized member, which is a method
abbrev pub locked_member_at : List Modifier → List (List Modifier) → Reader Member
locked_member_at modifiers locked ks =
    if starts_call ks then None else
    given (after_word words.Void ks) (λ rest. method_at modifiers locked None rest)
    (type_at ks >>= λ type_name. if starts_call type_name.1 then method_at modifiers locked (Some type_name.0)
    type_name.1 else None)

abbrev pub member_at : Reader Member
member_at ks =
    modifiers_at ks >>= λ modifiers. all_locked_at modifiers.1 >>= λ locked.
    if some_in locked.0 then locked_member_at modifiers.0 locked.0 locked.1 else unmodified_at modifiers.0 locked.1

abbrev pub class_of : List Modifier → Text → List Member → ClassTree
class_of modifiers name members = record { modifiers = modifiers; name = name; members = members }

-- members in braces
abbrev pub class_body_at : Reader (List Member)
class_body_at ks =
    after_sign signs.OpenBrace ks >>= λ inside. many_at (not_yet signs.CloseBrace) member_at inside >>= λ members.
    after_sign signs.CloseBrace members.1 >>= λ end. Some (members.0, end)

abbrev pub class_at : Reader ClassTree
class_at ks =
    modifiers_at ks >>= λ modifiers. after_word words.Class modifiers.1 >>= λ rest. name_at rest >>= λ name.
    after_sign signs.OpenBrace name.1 >>= λ inside. many_at (not_yet signs.CloseBrace) member_at inside >>= λ members.
    after_sign signs.CloseBrace members.1 >>= λ end. Some (class_of modifiers.0 name.0 members.0, end)

-- a name after a dot
abbrev pub part_at : Reader Text
part_at ks = after_sign signs.Dot ks >>= λ rest. name_at rest

abbrev pub dotted_of : Text → List Text → Dotted
dotted_of first more = record { first = first; more = more }

abbrev pub dotted_at : (List Lexeme → Bool) → Reader Dotted
dotted_at goes ks =
    name_at ks >>= λ first. many_at goes part_at first.1 >>= λ more. Some (dotted_of first.0 more.0, more.1)

-- the tokens after `.*`
abbrev pub after_star : List Lexeme → Option (List Lexeme)
after_star ks = after_sign signs.Dot ks >>= λ rest. after_sign signs.Star rest

abbrev pub more_path : List Lexeme → Bool
more_path ks = not (starts signs.Semicolon ks || is_some (after_star ks))

abbrev pub import_of : Dotted → Bool → Import
import_of path all = record { path = path; all = all }

abbrev pub import_at : Reader Import
import_at ks =
    after_word words.Import ks >>= λ rest. dotted_at more_path rest >>= λ path. given (after_star path.1)
    (λ behind. after_sign signs.Semicolon behind >>= λ end. Some (import_of path.0 true, end))
    (after_sign signs.Semicolon path.1 >>= λ end. Some (import_of path.0 false, end))

-- what comes after `package`
abbrev pub package_at : Reader Dotted
package_at ks = dotted_at (not_yet signs.Semicolon) ks >>= λ name. after_sign signs.Semicolon name.1 >>= λ end. Some
    (name.0, end)

abbrev pub header_at : Reader (Option Dotted)
header_at ks =
    given (after_word words.Package ks)
    (λ rest. package_at rest >>= λ name. Some (Some name.0, name.1))
    (Some (None, ks))

abbrev pub starts_import : List Lexeme → Bool
starts_import ks = is_some (after_word words.Import ks)

abbrev pub is_left : List Lexeme → Bool
is_left [] = false
is_left (k ∷ ks) = true

abbrev pub file_from : Option Dotted → List Import → List ClassTree → File
file_from name imports classes = record { package_name = name; imports = imports; classes = classes }

-- a file and nothing else
unfoldable pub file_at : List Lexeme → Option File
file_at ks =
    header_at ks >>= λ header. many_at starts_import import_at header.1 >>= λ imports.
    many_at is_left class_at imports.1 >>= λ classes. Some (file_from header.0 imports.0 classes.0)
