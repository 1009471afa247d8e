-- Which tokens, at which places, are those of a class and of a file. The package and the imports have no places in a
-- tree.
use Rattle.std.specs.Prelude.{◌≡◌, ℕ, ◌+◌, ◌<◌, ◌≤◌, List, [], ◌∷◌, ◌++◌, length, take, drop, Option, Some, None}
use Rattle.std.specs.List.{flat_map}
use Rattle.ls_lexer.specs.declared.token.Span.{Span}
use Rattle.ls_lexer.specs.declared.word.Word.TheVariants as words
use Rattle.ls_lexer.specs.declared.sign.Sign.TheVariants as signs
use Rattle.ls_lexer.specs.Lexemes.{Lexeme}
use Rattle.ls_lexer.specs.Tokens.{piece_at, tokens_of}
use Rattle.ls_tree.specs.Trees.{Modifier, Dotted, Import}
use Rattle.ls_tree.specs.PlacedTrees.{Name, TypeName, Declaration, Items, Parameter, some_in, Member, Fields, Method}
use Rattle.ls_tree.specs.PlacedTrees.{Constructor, ClassTree, File}
use Rattle.ls_parser_spelling.specs.Spelling.{spell_import, spell_package}
use Rattle.ls_parser_spelling.specs.Places.{Spot, sign, named, forgotten}
use Rattle.ls_parser_spelling.specs.StatementPlaces.{word, Anywhere, ManyAt, BehindComma, ModifierAt, TypeAt}
use Rattle.ls_parser_spelling.specs.StatementPlaces.{DeclarationAt, BlockAt}

pub data ParameterAt : Parameter → List Spot → List Spot → Type 0 where
  parameter_at : {modifiers : List Modifier} {type_name : TypeName} {name : Name} {ss middle rest : List Spot} →
      ManyAt ModifierAt modifiers ss middle → TypeAt type_name middle (named name ∷ rest) →
      ParameterAt (record { type_name = type_name; name = name }) ss rest

-- one parameter or more, with commas between them
pub data SomeParametersAt : List Parameter → List Spot → List Spot → Type 0 where
  some_parameters_at : {first : Parameter} {others : List Parameter} {ss middle rest : List Spot} →
      ParameterAt first ss middle → ManyAt (BehindComma ParameterAt) others middle rest →
      SomeParametersAt (first ∷ others) ss rest

-- parameters in parentheses
pub data ParametersAt : List Parameter → List Spot → List Spot → Type 0 where
  no_parameter_at : {opening last : Span} {rest : List Spot} →
      ParametersAt [] (sign signs.OpenParen opening ∷ sign signs.CloseParen last ∷ rest) rest
  parameters_at : {parameters : List Parameter} {opening last : Span} {ss rest : List Spot} →
      SomeParametersAt parameters ss (sign signs.CloseParen last ∷ rest) →
      ParametersAt parameters (sign signs.OpenParen opening ∷ ss) rest

-- a name, parameters and a body
pub data CallableAt : Name → List Parameter → Items → List Spot → List Spot → Type 0 where
  callable_at : {name : Name} {parameters : List Parameter} {body : Items} {ss middle rest : List Spot} →
      ParametersAt parameters ss middle → BlockAt body middle rest →
      CallableAt name parameters body (named name ∷ ss) rest

-- a type, or `void`
pub data ResultAt : Option TypeName → List Spot → List Spot → Type 0 where
  void_at : {s : Span} {rest : List Spot} → ResultAt None (word words.Void s ∷ rest) rest
  result_at : {type_name : TypeName} {ss rest : List Spot} →
      TypeAt type_name ss rest →
      ResultAt (Some type_name) ss rest

-- `synchronized`, and the modifiers after it
pub data LockedAt : List Modifier → List Spot → List Spot → Type 0 where
  locked_at : {modifiers : List Modifier} {s : Span} {ss rest : List Spot} →
      ManyAt ModifierAt modifiers ss rest → LockedAt modifiers (word words.Synchronized s ∷ ss) rest

pub data MemberAt : Member → List Spot → List Spot → Type 0 where
  fields_at : {declaration : Declaration} {ss rest : List Spot} →
      DeclarationAt declaration ss rest →
      MemberAt (Fields declaration) ss rest
  method_at : {modifiers : List Modifier} {locked : List (List Modifier)} {result : Option TypeName} {name : Name}
      {parameters : List Parameter} {body : Items} {ss inner middle behind rest : List Spot} →
      ManyAt ModifierAt modifiers ss inner → ManyAt LockedAt locked inner middle → ResultAt result middle behind →
      CallableAt name parameters body behind rest →
      MemberAt (Method (some_in locked) result name parameters body) ss rest
  constructor_at : {modifiers : List Modifier} {name : Name} {parameters : List Parameter} {body : Items}
      {ss behind rest : List Spot} →
      ManyAt ModifierAt modifiers ss behind → CallableAt name parameters body behind rest →
      MemberAt (Constructor name parameters body) ss rest

-- members in braces
pub data BodyAt : List Member → List Spot → List Spot → Type 0 where
  body_at : {members : List Member} {opening last : Span} {ss rest : List Spot} →
      ManyAt MemberAt members ss (sign signs.CloseBrace last ∷ rest) →
      BodyAt members (sign signs.OpenBrace opening ∷ ss) rest

pub data ClassAt : ClassTree → List Spot → List Spot → Type 0 where
  class_at : {modifiers : List Modifier} {name : Name} {members : List Member} {s : Span} {ss middle rest : List Spot} →
      ManyAt ModifierAt modifiers ss (word words.Class s ∷ named name ∷ middle) → BodyAt members middle rest →
      ClassAt (record { name = name; members = members }) ss rest

-- The tokens are those of the file, from the first to the last.
pub data FileAt : File → List Spot → Type 0 where
  file_at : (package_name : Option Dotted) (imports : List Import) {classes : List ClassTree}
      {ss middle behind : List Spot} →
      Anywhere (spell_package package_name) ss middle → Anywhere (flat_map spell_import imports) middle behind →
      ManyAt ClassAt classes behind [] →
      FileAt (record { classes = classes }) ss

-- the tokens are at their spans in the text, in order, from one place on
abbrev pub StandIn : List ℕ → ℕ → List Spot → Type 0
StandIn text from [] = from ≤ length text
StandIn text from (s ∷ ss) =
    (from ≤ s.span.start) × (s.span.start < s.span.end) × (s.span.end ≤ length text)
    × ((size : ℕ) × (s.span.start + size ≡ s.span.end) ×
    (piece_at (drop s.span.start text) ≡ Some (Some s.lexeme, size)))
    × StandIn text s.span.end ss

-- The tokens of the text are those of the file, each at the place that the file has for it.
pub record PlacedIn (f : File) (text : List ℕ) : Type 0 where
  pub tokens : List Spot
  pub all : tokens_of text ≡ Some (forgotten tokens)
  pub stand : StandIn text 0 tokens
  pub places : FileAt f tokens
