-- Declarations: what is well-formed is read again.
use Rattle.std.proofs.Common.{◌≡◌, ℕ, ◌≤◌, Bool, true, false, List, [], ◌∷◌, Option, Some, None, refl, arith}
use Rattle.std.specs.List.{AllByRecursion}
use Rattle.std.specs.Prelude.{◌&&◌, ◌||◌}
use Rattle.ls_lexer.specs.declared.sign.Sign.TheVariants as signs
use Rattle.ls_lexer.specs.Lexemes.{Lexeme, Named, Marked}
use Rattle.ls_tree.specs.Trees.{Text, Expression, Modifier, Public, Protected, Private, Final, Volatile, Annotation}
use Rattle.ls_tree.specs.Trees.{TypeName, Int, Boolean, BooleanArray, Class, Markable, Declarator, Declaration}
use Rattle.ls_tree.specs.WellFormed.{value_height, declarators_height, WellFormedValue, WellFormedDeclaration}
use Rattle.ls_parser_tokens.specs.Reading.{after_sign, not_yet, behind_comma}
use Rattle.ls_parser_expressions.specs.ReadingExpressions.{is_markable, expression_at}
use Rattle.ls_parser_declarations.specs.ReadingDeclarations.{starts_modifier, modifier_at, modifiers_at, type_at}
use Rattle.ls_parser_declarations.specs.ReadingDeclarations.{declarator_at, declarators_at, declaration_at, starts_type}
use Rattle.ls_parser_declarations.specs.ReadingDeclarations.{named_declaration, starts_declaration}
use Rattle.ls_parser_expressions.proofs.Lists.{onto_all, many_from_complete}
use Rattle.ls_parser_declarations.proofs.OntoDeclarations.{onto_modifier, modifier_longer, onto_type, onto_initial}
use Rattle.ls_parser_declarations.proofs.OntoDeclarations.{onto_declarator, onto_next_declarator}
use Rattle.ls_parser_declarations.proofs.OntoDeclarations.{next_declarator_longer, onto_declaration}
use Rattle.ls_parser_declarations.proofs.DeclarationsRead.{Anything, FormedDeclarator}
use Rattle.ls_parser_expressions.proofs.ExpressionEdges.{Follow, follow_comma, follow_semicolon}
use Rattle.ls_parser_expressions.proofs.ExpressionsAgain.{expression_complete}

-- ---- modifiers and types

modifier_again : (m : Modifier) (rest : List Lexeme) → modifier_at (onto_modifier m rest) ≡ Some (m, rest)
modifier_again Public rest = refl
modifier_again Protected rest = refl
modifier_again Private rest = refl
modifier_again Final rest = refl
modifier_again Volatile rest = refl
modifier_again (Annotation name) rest = refl

pub modifier_first : (m : Modifier) (rest : List Lexeme) → starts_modifier (onto_modifier m rest) ≡ true
modifier_first Public rest = refl
modifier_first Protected rest = refl
modifier_first Private rest = refl
modifier_first Final rest = refl
modifier_first Volatile rest = refl
modifier_first (Annotation name) rest = refl

-- each thing is anything
pub anything : {A : Type 0} (xs : List A) → AllByRecursion Anything xs
anything [] = tt
anything (x ∷ xs) = (tt, anything xs)

pub modifiers_complete : (ms : List Modifier) (rest : List Lexeme) →
    starts_modifier rest ≡ false →
    modifiers_at (onto_all onto_modifier ms rest) ≡ Some (ms, rest)
modifiers_complete ms rest stop =
    many_from_complete onto_modifier Anything starts_modifier modifier_at (λ ks. Unit {0})
    (λ m rest' p follow. modifier_again m rest') (λ m rest' p. (modifier_first m rest', tt)) modifier_longer
    [] ms rest (anything ms) stop tt

and_false : (b : Bool) → (b && false) ≡ false
and_false true = refl
and_false false = refl

-- a type before a name
pub type_complete : (t : TypeName) (name : Text) (rest : List Lexeme) →
    type_at (onto_type t (Named name ∷ rest)) ≡ Some (t, Named name ∷ rest)
type_complete Int name rest = refl
type_complete Boolean name rest = refl
type_complete BooleanArray name rest = refl
type_complete (Class text) name rest = rw (and_false (is_markable text)) refl
type_complete (Markable text) name rest = refl

-- a type doesn't begin with a modifier
pub type_no_modifier : (t : TypeName) (rest : List Lexeme) → starts_modifier (onto_type t rest) ≡ false
type_no_modifier Int rest = refl
type_no_modifier Boolean rest = refl
type_no_modifier BooleanArray rest = refl
type_no_modifier (Class text) rest = refl
type_no_modifier (Markable text) rest = refl

-- ---- declarations

-- nothing that goes on with a declarator
record FollowDeclarator (ks : List Lexeme) : Type 0 where
  follow : Follow 6 ks
  assign : after_sign signs.Assign ks ≡ None

of_value : (limit : ℕ) (name : Text) (value : Option Expression) (rest : List Lexeme) →
    WellFormedValue value →
    value_height value ≤ limit →
    FollowDeclarator rest
    → declarator_at (expression_at limit) (Named name ∷ onto_initial value rest) ≡
    Some (record { name = name; value = value }, rest)
of_value limit name None rest formed fits f = rw f.assign refl
of_value limit name (Some value) rest formed fits f =
    rw (expression_complete limit value rest formed fits f.follow) refl

declarator_complete : (limit : ℕ) (d : Declarator) (rest : List Lexeme) →
    FormedDeclarator limit d →
    FollowDeclarator rest →
    declarator_at (expression_at limit) (onto_declarator d rest) ≡ Some (d, rest)
declarator_complete limit d rest formed f = of_value limit d.name d.value rest formed.0 formed.1 f

more_formed : (limit : ℕ) (ds : List Declarator) →
    AllByRecursion (λ (m : Declarator). WellFormedValue m.value) ds →
    declarators_height ds ≤ limit →
    AllByRecursion (FormedDeclarator limit) ds
more_formed limit [] formed fits = tt
more_formed limit (d ∷ ds) formed fits = ((formed.0, omega arith), more_formed limit ds formed.1 (omega arith))

declarators_follow : (ds : List Declarator) (rest : List Lexeme) →
    FollowDeclarator (onto_all onto_next_declarator ds (Marked signs.Semicolon ∷ rest))
declarators_follow [] rest = record { follow = follow_semicolon 6 rest; assign = refl }
declarators_follow (d ∷ ds) rest =
    record {
      follow =
          follow_comma 6 (onto_declarator d (onto_all onto_next_declarator ds (Marked signs.Semicolon ∷ rest)));
      assign =
          refl;
    }

-- declarators that are spelled are read again
pub declarators_complete : (limit : ℕ) (d : Declaration) (rest : List Lexeme) →
    WellFormedDeclaration d →
    declarators_height (d.first ∷ d.more) ≤ limit
    → declarators_at (expression_at limit) d.modifiers d.type_name
    (onto_declarator d.first (onto_all onto_next_declarator d.more (Marked signs.Semicolon ∷ rest))) ≡
    Some (d, rest)
declarators_complete limit d rest formed fits =
    let all : AllByRecursion (FormedDeclarator limit) (d.first ∷ d.more) =
    more_formed limit (d.first ∷ d.more) formed fits in
    rw (
      declarator_complete limit d.first (onto_all onto_next_declarator d.more (Marked signs.Semicolon ∷ rest)) all.0
          (declarators_follow d.more rest),
      many_from_complete onto_next_declarator (FormedDeclarator limit) (not_yet signs.Semicolon)
          (behind_comma (declarator_at (expression_at limit))) FollowDeclarator
          (λ m rest' p follow. declarator_complete limit m rest' p follow)
          (λ m rest' p. (refl, record { follow = follow_comma 6 (onto_declarator m rest'); assign = refl }))
          next_declarator_longer
          [] d.more (Marked signs.Semicolon ∷ rest) all.1 refl
          (record { follow = follow_semicolon 6 rest; assign = refl }),
    ) refl

pub declaration_complete : (limit : ℕ) (d : Declaration) (rest : List Lexeme) →
    WellFormedDeclaration d →
    declarators_height (d.first ∷ d.more) ≤ limit →
    declaration_at (expression_at limit) (onto_declaration d rest) ≡ Some (d, rest)
declaration_complete limit d rest formed fits =
    let ks : List Lexeme =
    onto_declarator d.first (onto_all onto_next_declarator d.more (Marked signs.Semicolon ∷ rest)) in
    rw (
      modifiers_complete d.modifiers (onto_type d.type_name ks) (type_no_modifier d.type_name ks),
      type_complete d.type_name d.first.name
          (onto_initial d.first.value (onto_all onto_next_declarator d.more (Marked signs.Semicolon ∷ rest))),
      declarators_complete limit d rest formed fits,
    ) refl

or_false : (a b : Bool) → a ≡ false → b ≡ false → (a || b) ≡ false
or_false true b h h' = absurd cc
or_false false b h h' = h'

or_true : (a : Bool) → (a || true) ≡ true
or_true true = refl
or_true false = refl

type_first : (t : TypeName) (name : Text) (rest : List Lexeme) →
    (starts_type (onto_type t (Named name ∷ rest)) || named_declaration (onto_type t (Named name ∷ rest))) ≡ true
type_first Int name rest = refl
type_first Boolean name rest = refl
type_first BooleanArray name rest = refl
type_first (Class text) name rest = refl
type_first (Markable text) name rest = refl

modifiers_first : (ms : List Modifier) (t : TypeName) (name : Text) (rest : List Lexeme) →
    starts_declaration (onto_all onto_modifier ms (onto_type t (Named name ∷ rest))) ≡ true
modifiers_first [] t name rest = rw (type_no_modifier t (Named name ∷ rest)) (type_first t name rest)
modifiers_first (m ∷ ms) t name rest =
    rw (modifier_first m (onto_all onto_modifier ms (onto_type t (Named name ∷ rest)))) refl

pub declaration_first : (d : Declaration) (rest : List Lexeme) → starts_declaration (onto_declaration d rest) ≡ true
declaration_first d rest =
    modifiers_first d.modifiers d.type_name d.first.name
    (onto_initial d.first.value (onto_all onto_next_declarator d.more (Marked signs.Semicolon ∷ rest)))
