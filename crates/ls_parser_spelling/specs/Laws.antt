-- What the places of an expression say.
use Rattle.std.specs.Prelude.{◌≡◌, List, ◌∷◌, ◌++◌}
use Rattle.ls_lexer.specs.declared.token.Span.{Span}
use Rattle.ls_tree.specs.Trees as bare
use Rattle.ls_tree.specs.Trees as bare
use Rattle.ls_tree.specs.PlacedTrees as trees
use Rattle.ls_tree.specs.PlacedTrees.{Expression, Expressions, End, More, span_of}
use Rattle.ls_parser_spelling.specs.Spelling.{spell_expression}
use Rattle.ls_parser_spelling.specs.Places.{Spot, forgotten, At}

-- from the beginning of the first token to the end of the last one before the rest
pub record Whole (span : Span) (ss rest : List Spot) : Type 0 where
  pub first : Spot
  pub others : List Spot
  pub begins : ss ≡ first ∷ others
  pub start : span.start ≡ first.span.start
  pub front : List Spot
  pub last : Spot
  pub finishes : ss ≡ front ++ last ∷ rest
  pub end : span.end ≡ last.span.end

-- a span goes over the tokens of its expression
abbrev pub SpansAreWhole : Type 0
SpansAreWhole = (e : Expression) (ss rest : List Spot) → At e ss rest → Whole (span_of e) ss rest

abbrev mutual
  -- the expression without its places
  pub plain : Expression → bare.Expression
  plain (trees.Number text span) = bare.Number text
  plain (trees.True span) = bare.True
  plain (trees.False span) = bare.False
  plain (trees.Null span) = bare.Null
  plain (trees.This span) = bare.This
  plain (trees.Named name) = bare.Name name.text
  plain (trees.Paren inner span) = bare.Paren (plain inner)
  plain (trees.Unary op operand span) = bare.Unary op (plain operand)
  plain (trees.Binary op left right span) = bare.Binary op (plain left) (plain right)
  plain (trees.Field target name span) = bare.Field (plain target) name.text
  plain (trees.Call name arguments span) = bare.Call name.text (all_plain arguments)
  plain (trees.CallOn target name arguments span) = bare.CallOn (plain target) name.text (all_plain arguments)
  plain (trees.Item array index span) = bare.Item (plain array) (plain index)
  plain (trees.New class arguments span) = bare.New class.text (all_plain arguments)
  plain (trees.NewMarkable class arguments span) = bare.NewMarkable class.text (all_plain arguments)
  plain (trees.NewArray length span) = bare.NewArray (plain length)

  pub all_plain : Expressions → bare.Expressions
  all_plain End = bare.NoExpression
  all_plain (More e es) = bare.MoreExpressions (plain e) (all_plain es)

-- if the places are left out, the tokens are those that spell the expression
abbrev pub PlacesForgotten : Type 0
PlacesForgotten = (e : Expression) (ss rest : List Spot) → At e ss rest → forgotten ss ≡ spell_expression (plain e) ++
    forgotten rest

-- tokens give an expression without places at most one way to have places
abbrev pub OnePlacing : Type 0
OnePlacing = (e f : Expression) (ss rest rest' : List Spot) → At e ss rest → At f ss rest' → plain e ≡ plain f → e ≡ f
