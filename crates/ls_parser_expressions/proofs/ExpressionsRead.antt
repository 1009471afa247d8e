-- Expressions: what is read is spelled so and well-formed.
use Rattle.std.proofs.Common.{◌≡◌, ℕ, zero, suc, ◌≤◌, Bool, true, false, List, [], ◌∷◌, length, Some, sym, ap, subst}
use Rattle.std.proofs.Common.{inl, inr, arith}
use Rattle.ls_lexer.specs.declared.sign.Sign.TheVariants as signs
use Rattle.ls_lexer.specs.Lexemes.{Lexeme, Named, Numeral, Reserved, Marked}
use Rattle.ls_tree.specs.declared.tree.UnaryOp.{UnaryOp}
use Rattle.ls_tree.specs.declared.tree.UnaryOp.TheVariants as unary
use Rattle.ls_tree.specs.Trees.{Expression, Unary, Binary}
use Rattle.ls_parser_spelling.specs.Spelling.{sign_of_unary}
use Rattle.ls_tree.specs.WellFormed.{rank, is_post, is_minus, WellFormed, expression_height}
use Rattle.ls_parser_tokens.specs.Reading.{Reader}
use Rattle.ls_parser_expressions.specs.ReadingExpressions.{binary_at, post_of, unary_of, signed_at, unary_at}
use Rattle.ls_parser_expressions.specs.ReadingExpressions.{expression_at, post_at}
use Rattle.ls_parser_expressions.proofs.Repeats.{bind_some, some_is}
use Rattle.ls_parser_expressions.proofs.Signs.{given_cases}
use Rattle.ls_parser_expressions.proofs.Shrinks.{Shrinks}
use Rattle.ls_parser_expressions.proofs.Onto.{onto, onto_longer}
use Rattle.ls_parser_expressions.proofs.ChainsRead.{Reads, Sound, binary_sound}
use Rattle.ls_parser_expressions.proofs.PrimariesRead.{post_of_sound}

post_rank : (t : Expression) → is_post t ≡ true → rank t ≤ 0
post_rank (Binary op left right) h = absurd cc
post_rank _ h = omega arith

-- ---- operands

signed_sound : (limit : ℕ) (op : UnaryOp) (operand : Reader Expression) (after_minus : Bool) →
    Sound operand (is_minus op) 0 limit →
    (ks : List Lexeme) (x : Expression × List Lexeme) →
    signed_at op operand ks ≡ Some x →
    Reads after_minus 0 (suc limit) (Marked (sign_of_unary op) ∷ ks) x
signed_sound limit op operand after_minus sound ks x e =
    let b = bind_some (operand ks) _ x e in
    let inside = sound ks b.0 b.1 in
    subst (Reads after_minus 0 (suc limit) (Marked (sign_of_unary op) ∷ ks)) (some_is (Unary op b.0.0, b.0.1) x b.2)
    (record {
      spelled = ap (λ (r : List Lexeme). Marked (sign_of_unary op) ∷ r) inside.spelled;
      formed = (omega (arith, inside.ranked), inside.formed);
      ranked = omega arith;
      fits = omega (arith, inside.fits);
    })

unary_spells : (k : Lexeme) (op : UnaryOp) → unary_of k ≡ Some op → k ≡ Marked (sign_of_unary op)
unary_spells (Named text) op e = absurd cc
unary_spells (Numeral text) op e = absurd cc
unary_spells (Reserved word) op e = absurd cc
unary_spells (Marked signs.Minus) op e = ap (λ (o : UnaryOp). Marked (sign_of_unary o)) (some_is unary.Minus op e)
unary_spells (Marked signs.Not) op e = ap (λ (o : UnaryOp). Marked (sign_of_unary o)) (some_is unary.Not op e)
unary_spells (Marked _) op e = absurd cc

pub unary_sound : (limit : ℕ) (after_minus : Bool) → Sound (unary_at limit after_minus) after_minus 0 limit
unfolding unary_at
unary_sound zero after_minus ks x e = absurd cc
unary_sound (suc limit) after_minus [] x e = absurd cc
unary_sound (suc limit) after_minus (k ∷ ks) x e =
    elim (given_cases (unary_of k) (λ op. signed_at op (unary_at limit (is_minus op)) ks)
    (post_of (suc limit) after_minus (binary_at 6 limit (unary_at limit false)) (k ∷ ks)) (Some x) e) [
      | inl other ↦
          let p = post_of_sound limit (binary_at 6 limit (unary_at limit false))
          (binary_sound 6 limit (unary_at limit false) (unary_sound limit false)) after_minus (k ∷ ks) x other.1 in
          record { spelled = p.spelled; formed = p.formed; ranked = post_rank x.0 p.post; fits = p.fits }
      | inr op ↦
          subst (λ (l : Lexeme). Reads after_minus 0 (suc limit) (l ∷ ks) x) (sym (unary_spells k op.0 op.1))
          (signed_sound limit op.0 (unary_at limit (is_minus op.0)) after_minus (unary_sound limit (is_minus op.0))
          ks x op.2)
    ]

-- an expression that is read is spelled by its tokens
pub expression_sound : (limit : ℕ) → Sound (expression_at limit) false 6 limit
expression_sound limit = binary_sound 6 limit (unary_at limit false) (unary_sound limit false)

-- what `post_at` took
pub record ReadsTarget (after_minus : Bool) (limit : ℕ) (ks : List Lexeme) (x : Expression × List Lexeme) : Type 0 where
  pub spelled : ks ≡ onto x.0 x.1
  pub formed : WellFormed after_minus x.0
  pub post : is_post x.0 ≡ true
  pub fits : expression_height x.0 ≤ limit

-- so is a postfix expression
pub post_sound : (limit : ℕ) (after_minus : Bool) (ks : List Lexeme) (x : Expression × List Lexeme) →
    post_at limit after_minus ks ≡ Some x →
    ReadsTarget after_minus limit ks x
unfolding post_at
post_sound zero after_minus ks x e = absurd cc
post_sound (suc limit) after_minus ks x e =
    let p = post_of_sound limit (expression_at limit) (expression_sound limit) after_minus ks x e in
    record { spelled = p.spelled; formed = p.formed; post = p.post; fits = p.fits }

-- an expression takes a token
pub expression_shrinks : (limit : ℕ) → Shrinks (expression_at limit)
expression_shrinks limit ks x e =
    let r = expression_sound limit ks x e in
    omega (arith, ap length r.spelled, onto_longer x.0 x.1)
