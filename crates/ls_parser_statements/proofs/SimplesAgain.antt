-- Simple forms: what is well-formed is read again.
use Rattle.std.proofs.Common.{◌≡◌, ℕ, zero, suc, ◌+◌, ◌≤◌, Bool, true, false, List, [], ◌∷◌, Option, Some, None, refl}
use Rattle.std.proofs.Common.{ap, ◌∙◌, arith}
use Rattle.std.specs.List.{AllByRecursion}
use Rattle.ls_lexer.specs.declared.sign.Sign.{Sign}
use Rattle.ls_lexer.specs.declared.sign.Sign.TheVariants as signs
use Rattle.ls_lexer.specs.declared.word.Word.TheVariants as words
use Rattle.ls_lexer.specs.Lexemes.{Lexeme, Named, Marked}
use Rattle.ls_tree.specs.Trees.{Text, Expression, Number, True, False, Null, This, Name, Paren, Unary, Binary, Field}
use Rattle.ls_tree.specs.Trees.{Call, CallOn, Item, New, NewMarkable, NewArray, Simple, Assign, Add, Count, Evaluate}
use Rattle.ls_tree.specs.WellFormed.{WellFormed, is_post, is_call, simple_height, simples_height, WellFormedSimple}
use Rattle.ls_tree.specs.WellFormed.{WellFormedSimples}
use Rattle.ls_parser_tokens.specs.Reading.{after_sign, after_word, name_at, starts, behind_comma}
use Rattle.ls_parser_expressions.specs.ReadingExpressions.{expression_at, post_at}
use Rattle.ls_parser_declarations.specs.ReadingDeclarations.{starts_declaration}
use Rattle.ls_parser_statements.specs.ReadingStatements.{label_at, counted_at, simple_from, simple_at, simples_to}
use Rattle.ls_parser_expressions.proofs.Onto.{onto, onto_expressions}
use Rattle.ls_parser_expressions.proofs.Lists.{onto_all, many_from_complete}
use Rattle.ls_parser_expressions.proofs.ExpressionEdges.{Follow, follow_close, follow_comma, follow_semicolon}
use Rattle.ls_parser_expressions.proofs.ExpressionEdges.{follow_assign, post_head, no_semicolon}
use Rattle.ls_parser_expressions.proofs.ExpressionsAgain.{expression_complete, post_complete}
use Rattle.ls_parser_statements.proofs.OntoStatements.{onto_simple, onto_next_simple, onto_simples, next_simple_longer}
use Rattle.ls_parser_statements.proofs.SimplesRead.{FormedSimple}

-- ---- how a statement begins that begins by an expression

-- what no statement begins by, and what each says of a declaration
pub record Opens (ks : List Lexeme) : Type 0 where
  pub declares : starts_declaration ks ≡ false
  pub brace : after_sign signs.CloseBrace ks ≡ None

-- an expression that a statement begins by doesn't begin a declaration
pub post_opens : (t : Expression) (rest : List Lexeme) →
    is_post t ≡ true →
    WellFormed false t →
    name_at rest ≡ None →
    after_sign signs.Less rest ≡ None →
    Opens (onto t rest)
post_opens (Number text) rest post formed name less = record { declares = refl; brace = refl }
post_opens True rest post formed name less = record { declares = refl; brace = refl }
post_opens False rest post formed name less = record { declares = refl; brace = refl }
post_opens Null rest post formed name less = record { declares = refl; brace = refl }
post_opens This rest post formed name less = record { declares = refl; brace = refl }
post_opens (Name text) rest post formed name less = record { declares = rw (name, less) refl; brace = refl }
post_opens (Paren inner) rest post formed name less = record { declares = refl; brace = refl }
post_opens (Unary op operand) rest post formed name less = absurd cc
post_opens (Binary op left right) rest post formed name less = absurd cc
post_opens (Field target name') rest post formed name less =
    post_opens target (Marked signs.Dot ∷ Named name' ∷ rest) formed.0 formed.1 refl refl
post_opens (Call name' arguments) rest post formed name less = record { declares = refl; brace = refl }
post_opens (CallOn target name' arguments) rest post formed name less =
    post_opens target (Marked signs.Dot ∷ Named name' ∷ Marked signs.OpenParen ∷ onto_expressions arguments rest)
    formed.0 formed.1 refl refl
post_opens (Item array index) rest post formed name less =
    post_opens array (Marked signs.OpenBracket ∷ onto index (Marked signs.CloseBracket ∷ rest)) formed.0 formed.2 refl
    refl
post_opens (New class arguments) rest post formed name less = record { declares = refl; brace = refl }
post_opens (NewMarkable class arguments) rest post formed name less = record { declares = refl; brace = refl }
post_opens (NewArray length') rest post formed name less = record { declares = refl; brace = refl }

-- nor is it a label
pub no_label : (t : Expression) (rest : List Lexeme) →
    is_post t ≡ true →
    WellFormed false t →
    after_sign signs.Colon rest ≡ None →
    label_at (onto t rest) ≡ None
no_label (Number text) rest post formed colon = refl
no_label True rest post formed colon = refl
no_label False rest post formed colon = refl
no_label Null rest post formed colon = refl
no_label This rest post formed colon = refl
no_label (Name text) rest post formed colon = rw colon refl
no_label (Paren inner) rest post formed colon = refl
no_label (Unary op operand) rest post formed colon = absurd cc
no_label (Binary op left right) rest post formed colon = absurd cc
no_label (Field target name') rest post formed colon =
    no_label target (Marked signs.Dot ∷ Named name' ∷ rest) formed.0 formed.1 refl
no_label (Call name' arguments) rest post formed colon = refl
no_label (CallOn target name' arguments) rest post formed colon =
    no_label target (Marked signs.Dot ∷ Named name' ∷ Marked signs.OpenParen ∷ onto_expressions arguments rest) formed.0
    formed.1 refl
no_label (Item array index) rest post formed colon =
    no_label array (Marked signs.OpenBracket ∷ onto index (Marked signs.CloseBracket ∷ rest)) formed.0 formed.2 refl
no_label (New class arguments) rest post formed colon = refl
no_label (NewMarkable class arguments) rest post formed colon = refl
no_label (NewArray length') rest post formed colon = refl

-- a call is a postfix expression
pub called : (t : Expression) → is_call t ≡ true → is_post t ≡ true
called (Unary op operand) h = absurd cc
called (Binary op left right) h = absurd cc
called _ h = refl

-- nor an `else`
pub post_else : (t : Expression) (rest : List Lexeme) →
    is_post t ≡ true →
    WellFormed false t →
    after_word words.Else (onto t rest) ≡ None
post_else t rest post formed =
    let h = post_head (λ k. (ks : List Lexeme) → after_word words.Else (k ∷ ks) ≡ None)
    (record {
      number = λ text ks. refl;
      name = λ text ks. refl;
      yes' = λ ks. refl;
      no' = λ ks. refl;
      null =
          λ ks. refl;
      this = λ ks. refl;
      new = λ ks. refl;
      paren = λ ks. refl;
    }) false t rest post formed in
    ap (after_word words.Else) h.2 ∙ h.3 h.1

-- nor a closing parenthesis
post_close : (t : Expression) (rest : List Lexeme) →
    is_post t ≡ true →
    WellFormed false t →
    after_sign signs.CloseParen (onto t rest) ≡ None
post_close t rest post formed =
    let h = post_head (λ k. (ks : List Lexeme) → after_sign signs.CloseParen (k ∷ ks) ≡ None)
    (record {
      number = λ text ks. refl;
      name = λ text ks. refl;
      yes' = λ ks. refl;
      no' = λ ks. refl;
      null =
          λ ks. refl;
      this = λ ks. refl;
      new = λ ks. refl;
      paren = λ ks. refl;
    }) false t rest post formed in
    ap (after_sign signs.CloseParen) h.2 ∙ h.3 h.1

-- nor a count
post_count : (t : Expression) (rest : List Lexeme) →
    is_post t ≡ true →
    WellFormed false t →
    counted_at (onto t rest) ≡ None
post_count t rest post formed =
    let h = post_head (λ k. (ks : List Lexeme) → counted_at (k ∷ ks) ≡ None)
    (record {
      number = λ text ks. refl;
      name = λ text ks. refl;
      yes' = λ ks. refl;
      no' = λ ks. refl;
      null =
          λ ks. refl;
      this = λ ks. refl;
      new = λ ks. refl;
      paren = λ ks. refl;
    }) false t rest post formed in
    ap counted_at h.2 ∙ h.3 h.1

-- ---- what follows a simple form

pub record FollowSimple (ks : List Lexeme) : Type 0 where
  pub follow : Follow 6 ks
  pub post : Follow 0 ks
  pub assign : after_sign signs.Assign ks ≡ None
  pub add : after_sign signs.PlusAssign ks ≡ None
  pub count : counted_at ks ≡ None
  pub name : name_at ks ≡ None
  pub less : after_sign signs.Less ks ≡ None
  pub colon : after_sign signs.Colon ks ≡ None

-- a semicolon may follow a simple form
pub simple_semicolon : (ks : List Lexeme) → FollowSimple (Marked signs.Semicolon ∷ ks)
simple_semicolon ks = record {
  follow = follow_semicolon 6 ks;
  post = follow_semicolon 0 ks;
  assign = refl;
  add =
      refl;
  count = refl;
  name = refl;
  less = refl;
  colon = refl;
}

simple_comma : (ks : List Lexeme) → FollowSimple (Marked signs.Comma ∷ ks)
simple_comma ks = record {
  follow = follow_comma 6 ks;
  post = follow_comma 0 ks;
  assign = refl;
  add = refl;
  count =
      refl;
  name = refl;
  less = refl;
  colon = refl;
}

simple_close : (ks : List Lexeme) → FollowSimple (Marked signs.CloseParen ∷ ks)
simple_close ks = record {
  follow = follow_close 6 ks;
  post = follow_close 0 ks;
  assign = refl;
  add = refl;
  count =
      refl;
  name = refl;
  less = refl;
  colon = refl;
}

follow_add : (ks : List Lexeme) → Follow 0 (Marked signs.PlusAssign ∷ ks)
follow_add ks = record { operators = λ wanted le. refl; dot = refl; bracket = refl; paren = refl }

follow_up : (ks : List Lexeme) → Follow 0 (Marked signs.Increment ∷ ks)
follow_up ks = record { operators = λ wanted le. refl; dot = refl; bracket = refl; paren = refl }

follow_down : (ks : List Lexeme) → Follow 0 (Marked signs.Decrement ∷ ks)
follow_down ks = record { operators = λ wanted le. refl; dot = refl; bracket = refl; paren = refl }

-- ---- how a simple form begins

-- a simple form begins neither a declaration nor a block
pub simple_opens : (s : Simple) (rest : List Lexeme) →
    WellFormedSimple s →
    FollowSimple rest →
    Opens (onto_simple s rest)
simple_opens (Assign target value) rest formed f =
    post_opens target (Marked signs.Assign ∷ onto value rest) formed.0 formed.1 refl refl
simple_opens (Add target value) rest formed f =
    post_opens target (Marked signs.PlusAssign ∷ onto value rest) formed.0 formed.1 refl refl
simple_opens (Count true true target) rest formed f = record { declares = refl; brace = refl }
simple_opens (Count false true target) rest formed f = record { declares = refl; brace = refl }
simple_opens (Count true false target) rest formed f =
    post_opens target (Marked signs.Increment ∷ rest) formed.0 formed.1 refl refl
simple_opens (Count false false target) rest formed f =
    post_opens target (Marked signs.Decrement ∷ rest) formed.0 formed.1 refl refl
simple_opens (Evaluate value) rest formed f = post_opens value rest (called value formed.0) formed.1 f.name f.less

-- a simple form doesn't begin with a label
pub simple_label : (s : Simple) (rest : List Lexeme) →
    WellFormedSimple s →
    FollowSimple rest →
    label_at (onto_simple s rest) ≡ None
simple_label (Assign target value) rest formed f =
    no_label target (Marked signs.Assign ∷ onto value rest) formed.0 formed.1 refl
simple_label (Add target value) rest formed f =
    no_label target (Marked signs.PlusAssign ∷ onto value rest) formed.0 formed.1 refl
simple_label (Count true true target) rest formed f = refl
simple_label (Count false true target) rest formed f = refl
simple_label (Count true false target) rest formed f =
    no_label target (Marked signs.Increment ∷ rest) formed.0 formed.1 refl
simple_label (Count false false target) rest formed f =
    no_label target (Marked signs.Decrement ∷ rest) formed.0 formed.1 refl
simple_label (Evaluate value) rest formed f = no_label value rest (called value formed.0) formed.1 f.colon

-- a simple form doesn't begin with `else`
pub simple_else : (s : Simple) (rest : List Lexeme) →
    WellFormedSimple s →
    after_word words.Else (onto_simple s rest) ≡ None
simple_else (Assign target value) rest formed =
    post_else target (Marked signs.Assign ∷ onto value rest) formed.0 formed.1
simple_else (Add target value) rest formed =
    post_else target (Marked signs.PlusAssign ∷ onto value rest) formed.0 formed.1
simple_else (Count true true target) rest formed = refl
simple_else (Count false true target) rest formed = refl
simple_else (Count true false target) rest formed = post_else target (Marked signs.Increment ∷ rest) formed.0 formed.1
simple_else (Count false false target) rest formed = post_else target (Marked signs.Decrement ∷ rest) formed.0 formed.1
simple_else (Evaluate value) rest formed = post_else value rest (called value formed.0) formed.1

-- ---- simple forms

-- a simple form that is spelled is read again
pub from_again : (limit : ℕ) (s : Simple) (rest : List Lexeme) →
    WellFormedSimple s →
    simple_height s ≤ suc limit →
    FollowSimple rest →
    simple_from (post_at limit false) (expression_at limit) (onto_simple s rest) ≡ Some (s, rest)
from_again limit (Assign target value) rest formed fits f =
    let ks : List Lexeme = Marked signs.Assign ∷ onto value rest in
    rw (
      post_count target ks formed.0 formed.1,
      post_complete limit target ks formed.0 formed.1 (omega arith) (follow_assign 0 (onto value rest)),
      expression_complete limit value rest formed.2 (omega arith) f.follow,
    ) refl
from_again limit (Add target value) rest formed fits f =
    let ks : List Lexeme = Marked signs.PlusAssign ∷ onto value rest in
    rw (
      post_count target ks formed.0 formed.1,
      post_complete limit target ks formed.0 formed.1 (omega arith) (follow_add (onto value rest)),
      expression_complete limit value rest formed.2 (omega arith) f.follow,
    ) refl
from_again limit (Count true true target) rest formed fits f =
    rw (post_complete limit target rest formed.0 formed.1 (omega arith) f.post) refl
from_again limit (Count false true target) rest formed fits f =
    rw (post_complete limit target rest formed.0 formed.1 (omega arith) f.post) refl
from_again limit (Count true false target) rest formed fits f =
    let ks : List Lexeme = Marked signs.Increment ∷ rest in
    rw (
      post_count target ks formed.0 formed.1,
      post_complete limit target ks formed.0 formed.1 (omega arith) (follow_up rest),
    ) refl
from_again limit (Count false false target) rest formed fits f =
    let ks : List Lexeme = Marked signs.Decrement ∷ rest in
    rw (
      post_count target ks formed.0 formed.1,
      post_complete limit target ks formed.0 formed.1 (omega arith) (follow_down rest),
    ) refl
from_again limit (Evaluate value) rest formed fits f =
    rw (
      post_count value rest (called value formed.0) formed.1,
      post_complete limit value rest (called value formed.0) formed.1 (omega arith) f.post,
      f.assign,
      f.add,
      f.count,
      formed.0,
    ) refl

-- a simple form has a height
pub simple_pos : (s : Simple) → 1 ≤ simple_height s
simple_pos (Assign target value) = omega arith
simple_pos (Add target value) = omega arith
simple_pos (Count up before target) = omega arith
simple_pos (Evaluate value) = omega arith

simple_complete : (limit : ℕ) (s : Simple) (rest : List Lexeme) →
    FormedSimple limit s →
    FollowSimple rest →
    simple_at limit (onto_simple s rest) ≡ Some (s, rest)
simple_complete zero s rest formed f = absurd (let h = formed.1 in omega (arith, simple_pos s, h))
simple_complete (suc limit) s rest formed f = from_again limit s rest formed.0 formed.1 f

-- ---- lists of them

simples_each : (limit : ℕ) (ss : List Simple) →
    WellFormedSimples ss →
    simples_height ss ≤ limit →
    AllByRecursion (FormedSimple limit) ss
simples_each limit [] formed fits = tt
simples_each limit (s ∷ ss) formed fits = ((formed.0, omega arith), simples_each limit ss formed.1 (omega arith))

-- a sign that simple forms end by
pub record Ends (stop : Sign) : Type 0 where
  closes : (ks : List Lexeme) → after_sign stop (Marked stop ∷ ks) ≡ Some ks
  none : (s : Simple) (ks : List Lexeme) → WellFormedSimple s → after_sign stop (onto_simple s ks) ≡ None
  follow : (ks : List Lexeme) → FollowSimple (Marked stop ∷ ks)
  comma : (ks : List Lexeme) → starts signs.Comma (Marked stop ∷ ks) ≡ false

semicolon_none : (s : Simple) (ks : List Lexeme) → after_sign signs.Semicolon (onto_simple s ks) ≡ None
semicolon_none (Assign target value) ks = no_semicolon target (Marked signs.Assign ∷ onto value ks)
semicolon_none (Add target value) ks = no_semicolon target (Marked signs.PlusAssign ∷ onto value ks)
semicolon_none (Count true true target) ks = refl
semicolon_none (Count false true target) ks = refl
semicolon_none (Count true false target) ks = no_semicolon target (Marked signs.Increment ∷ ks)
semicolon_none (Count false false target) ks = no_semicolon target (Marked signs.Decrement ∷ ks)
semicolon_none (Evaluate value) ks = no_semicolon value ks

close_none : (s : Simple) (ks : List Lexeme) →
    WellFormedSimple s →
    after_sign signs.CloseParen (onto_simple s ks) ≡ None
close_none (Assign target value) ks formed = post_close target (Marked signs.Assign ∷ onto value ks) formed.0 formed.1
close_none (Add target value) ks formed = post_close target (Marked signs.PlusAssign ∷ onto value ks) formed.0 formed.1
close_none (Count true true target) ks formed = refl
close_none (Count false true target) ks formed = refl
close_none (Count true false target) ks formed = post_close target (Marked signs.Increment ∷ ks) formed.0 formed.1
close_none (Count false false target) ks formed = post_close target (Marked signs.Decrement ∷ ks) formed.0 formed.1
close_none (Evaluate value) ks formed = post_close value ks (called value formed.0) formed.1

-- a semicolon ends simple forms
pub semicolon_ends : Ends signs.Semicolon
semicolon_ends =
    record {
      closes = λ ks. refl;
      none = λ s ks formed. semicolon_none s ks;
      follow = simple_semicolon;
      comma =
          λ ks. refl;
    }

-- so does a closing parenthesis
pub close_ends : Ends signs.CloseParen
close_ends = record { closes = λ ks. refl; none = close_none; follow = simple_close; comma = λ ks. refl }

-- what comes after a simple form in a list may follow it
pub others_follow : (stop : Sign) →
    Ends stop →
    (ss : List Simple) (rest : List Lexeme) →
    FollowSimple (onto_all onto_next_simple ss (Marked stop ∷ rest))
others_follow stop ends [] rest = ends.follow rest
others_follow stop ends (s ∷ ss) rest = simple_comma (onto_simple s (onto_all onto_next_simple ss (Marked stop ∷ rest)))

-- simple forms that are spelled are read again
pub simples_complete : (limit : ℕ) (stop : Sign) →
    Ends stop →
    (ss : List Simple) (rest : List Lexeme) →
    WellFormedSimples ss →
    simples_height ss ≤ limit →
    simples_to stop (simple_at limit) (onto_simples ss (Marked stop ∷ rest)) ≡ Some (ss, rest)
simples_complete limit stop ends [] rest formed fits = rw (ends.closes rest) refl
simples_complete limit stop ends (s ∷ ss) rest formed fits =
    let ks : List Lexeme = onto_all onto_next_simple ss (Marked stop ∷ rest) in
    rw (
      ends.none s ks formed.0,
      simple_complete limit s ks (formed.0, omega arith) (others_follow stop ends ss rest),
      many_from_complete onto_next_simple (FormedSimple limit) (starts signs.Comma) (behind_comma (simple_at limit))
          FollowSimple
          (λ t rest' p follow. simple_complete limit t rest' p follow)
          (λ t rest' p. (refl, simple_comma (onto_simple t rest'))) next_simple_longer
          (s ∷ []) ss (Marked stop ∷ rest) (simples_each limit ss formed.1 (omega arith)) (ends.comma rest)
          (ends.follow rest),
      ends.closes rest,
    ) refl
