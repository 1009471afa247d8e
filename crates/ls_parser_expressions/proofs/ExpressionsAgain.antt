-- Expressions: what is well-formed is read again.
use Rattle.std.proofs.Common.{◌≡◌, ℕ, zero, suc, ◌≤◌, Bool, true, false, List, ◌∷◌, Some, None, refl, sym, ap, ◌∙◌}
use Rattle.std.proofs.Common.{arith}
use Rattle.ls_lexer.specs.Lexemes.{Lexeme, Marked}
use Rattle.ls_tree.specs.declared.tree.UnaryOp.{UnaryOp}
use Rattle.ls_tree.specs.declared.tree.UnaryOp.TheVariants as unary
use Rattle.ls_tree.specs.Trees.{Expression, Unary, Binary}
use Rattle.ls_parser_spelling.specs.Spelling.{sign_of_unary}
use Rattle.ls_tree.specs.WellFormed.{is_post, is_minus, WellFormed, expression_height}
use Rattle.ls_parser_expressions.specs.ReadingExpressions.{post_of, unary_of, unary_at, expression_at, post_at}
use Rattle.ls_parser_expressions.proofs.Onto.{onto}
use Rattle.ls_parser_expressions.proofs.ExpressionEdges.{Begins, Follow, post_head, rank_pos, ranked_six}
use Rattle.ls_parser_expressions.proofs.ChainsAgain.{Complete, binary_complete, height_pos}
use Rattle.ls_parser_expressions.proofs.SuffixesAgain.{post_of_complete}

-- ---- operands

start_unary : (op : UnaryOp) → unary_of (Marked (sign_of_unary op)) ≡ Some op
start_unary unary.Minus = refl
start_unary unary.Not = refl

not_unary : Begins (λ k. unary_of k ≡ None)
not_unary = record {
  number = λ text. refl;
  name = λ text. refl;
  yes' = refl;
  no' = refl;
  null = refl;
  this =
      refl;
  new = refl;
  paren = refl;
}

unary_is_post : (limit : ℕ) (after_minus : Bool) (k : Lexeme) (ks : List Lexeme) →
    unary_of k ≡ None →
    unary_at (suc limit) after_minus (k ∷ ks) ≡ post_of (suc limit) after_minus (expression_at limit) (k ∷ ks)
unfolding unary_at
unary_is_post limit after_minus k ks h = rw h refl

unary_signed : (limit : ℕ) (after_minus : Bool) (op : UnaryOp) (operand : Expression) (rest : List Lexeme) →
    unary_at limit (is_minus op) (onto operand rest) ≡ Some (operand, rest) →
    unary_at (suc limit) after_minus (Marked (sign_of_unary op) ∷ onto operand rest) ≡ Some (Unary op operand, rest)
unfolding unary_at
unary_signed limit after_minus op operand rest e = rw (start_unary op, e) refl

post_again : (limit : ℕ) →
    Complete (unary_at limit false) false 0 limit →
    (after_minus : Bool) (t : Expression) (rest : List Lexeme) →
    is_post t ≡ true →
    WellFormed after_minus t →
    expression_height t ≤ suc limit →
    Follow 0 rest →
    unary_at (suc limit) after_minus (onto t rest) ≡ Some (t, rest)
post_again limit complete after_minus t rest post formed fits follow =
    let h = post_head (λ k. unary_of k ≡ None) not_unary after_minus t rest post formed in
    ap (unary_at (suc limit) after_minus) h.2 ∙ unary_is_post limit after_minus h.0 h.1 h.3 ∙
    ap (post_of (suc limit) after_minus (expression_at limit)) (sym h.2)
    ∙ post_of_complete limit (expression_at limit) (binary_complete 6 limit (unary_at limit false) complete) after_minus
    t rest post formed fits follow

pub unary_complete : (limit : ℕ) (after_minus : Bool) → Complete (unary_at limit after_minus) after_minus 0 limit
unary_complete zero after_minus t rest formed ranked fits follow = absurd (omega (arith, height_pos t))
unary_complete (suc limit) after_minus (Unary op operand) rest formed ranked fits follow =
    unary_signed limit after_minus op operand rest
    (unary_complete limit (is_minus op) operand rest formed.1 (omega (arith, formed.0)) (omega arith) follow)
unary_complete (suc limit) after_minus (Binary op left right) rest formed ranked fits follow =
    absurd (omega (arith, rank_pos op))
unary_complete (suc limit) after_minus t rest formed ranked fits follow =
    post_again limit (unary_complete limit false) after_minus t rest refl formed fits follow

-- an expression that is spelled is read again
pub expression_complete : (limit : ℕ) (t : Expression) (rest : List Lexeme) →
    WellFormed false t →
    expression_height t ≤ limit →
    Follow 6 rest →
    expression_at limit (onto t rest) ≡ Some (t, rest)
expression_complete limit t rest formed fits follow =
    binary_complete 6 limit (unary_at limit false) (unary_complete limit false) t rest formed (ranked_six t) fits follow

-- so is a postfix expression
pub post_complete : (limit : ℕ) (t : Expression) (rest : List Lexeme) →
    is_post t ≡ true →
    WellFormed false t →
    expression_height t ≤ limit →
    Follow 0 rest →
    post_at limit false (onto t rest) ≡ Some (t, rest)
unfolding post_at
post_complete zero t rest post formed fits follow = absurd (omega (arith, height_pos t))
post_complete (suc limit) t rest post formed fits follow =
    post_of_complete limit (expression_at limit)
    (binary_complete 6 limit (unary_at limit false) (unary_complete limit false)) false t rest post formed fits
    follow
