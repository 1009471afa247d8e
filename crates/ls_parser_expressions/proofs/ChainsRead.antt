-- Chains of operators: what is read is spelled so and well-formed.
use Rattle.std.proofs.Common.{◌≡◌, ℕ, zero, suc, ◌+◌, ◌<◌, ◌≤◌, Bool, true, false, List, [], ◌∷◌, Option, Some, None}
use Rattle.std.proofs.Common.{sym, ap, subst, ◌∙◌, arith}
use Rattle.std.proofs.lemmas.Bool.{eqb-true, leb-true}
use Rattle.std.specs.Prelude.{◌==◌}
use Rattle.ls_lexer.specs.declared.sign.Sign.{Sign}
use Rattle.ls_lexer.specs.declared.sign.Sign.TheVariants as signs
use Rattle.ls_lexer.specs.Lexemes.{Lexeme, Named, Numeral, Reserved, Marked}
use Rattle.ls_tree.specs.declared.tree.BinaryOp.{BinaryOp}
use Rattle.ls_tree.specs.declared.tree.BinaryOp.TheVariants as binary
use Rattle.ls_tree.specs.Trees.{Text, Expression}
use Rattle.ls_parser_spelling.specs.Spelling.{sign_of}
use Rattle.ls_tree.specs.WellFormed.{rank_of, rank, WellFormed, expression_height}
use Rattle.ls_parser_tokens.specs.Reading.{Reader, after_sign, name_at}
use Rattle.ls_parser_expressions.specs.ReadingExpressions.{operator_of_sign, of_rank, operator_at, has_operator, below}
use Rattle.ls_parser_expressions.specs.ReadingExpressions.{joined_at, binary_at, class_at}
use Rattle.ls_parser_expressions.proofs.Repeats.{bind_some, some_is, repeat_sound}
use Rattle.ls_parser_expressions.proofs.Signs.{guard_some, guarded, sign_reads, name_reads}
use Rattle.ls_parser_expressions.proofs.Onto.{onto, onto_class}

-- ---- operators

operator_spells : (s : Sign) (op : BinaryOp) → operator_of_sign s ≡ Some op → s ≡ sign_of op
operator_spells signs.Or op e = ap sign_of (some_is binary.Or op e)
operator_spells signs.And op e = ap sign_of (some_is binary.And op e)
operator_spells signs.Equal op e = ap sign_of (some_is binary.Equal op e)
operator_spells signs.NotEqual op e = ap sign_of (some_is binary.NotEqual op e)
operator_spells signs.Less op e = ap sign_of (some_is binary.Less op e)
operator_spells signs.Greater op e = ap sign_of (some_is binary.Greater op e)
operator_spells signs.LessEqual op e = ap sign_of (some_is binary.LessEqual op e)
operator_spells signs.GreaterEqual op e = ap sign_of (some_is binary.GreaterEqual op e)
operator_spells signs.Plus op e = ap sign_of (some_is binary.Add op e)
operator_spells signs.Minus op e = ap sign_of (some_is binary.Subtract op e)
operator_spells signs.Star op e = ap sign_of (some_is binary.Multiply op e)
operator_spells signs.Slash op e = ap sign_of (some_is binary.Divide op e)
operator_spells signs.Percent op e = ap sign_of (some_is binary.Remainder op e)
operator_spells _ op e = absurd cc

of_rank_some : (wanted : ℕ) (o : Option BinaryOp) (op : BinaryOp) →
    of_rank wanted o ≡ Some op →
    (o ≡ Some op) × (rank_of op ≡ wanted)
of_rank_some wanted None op e = absurd cc
of_rank_some wanted (Some p) op e =
    let g = guard_some (rank_of p == wanted) p op e in
    (ap Some g.1, ap rank_of (sym g.1) ∙ eqb-true (rank_of p) wanted g.0)

-- an operator that is read is spelled so
operator_reads : (wanted : ℕ) (ks : List Lexeme) (x : BinaryOp × List Lexeme) →
    operator_at wanted ks ≡ Some x →
    (ks ≡ Marked (sign_of x.0) ∷ x.1) × (rank_of x.0 ≡ wanted)
operator_reads wanted [] x e = absurd cc
operator_reads wanted (Named text ∷ ks) x e = absurd cc
operator_reads wanted (Numeral text ∷ ks) x e = absurd cc
operator_reads wanted (Reserved word ∷ ks) x e = absurd cc
operator_reads wanted (Marked sign ∷ ks) x e =
    let b = bind_some (of_rank wanted (operator_of_sign sign)) (λ op. Some (op, ks)) x e in
    let r = of_rank_some wanted (operator_of_sign sign) b.0 b.1 in
    let is : (b.0, ks) ≡ x = some_is (b.0, ks) x b.2 in
    subst (λ (y : BinaryOp × List Lexeme). (Marked sign ∷ ks ≡ Marked (sign_of y.0) ∷ y.1) × (rank_of y.0 ≡ wanted)) is
    (ap (λ (s : Sign). Marked s ∷ ks) (operator_spells sign b.0 r.0), r.1)

pub below_is : (limit : ℕ) (t : Expression) → below limit t ≡ true → expression_height t < limit
below_is limit t h = let le = leb-true (expression_height t + 1) limit h in omega (arith, le)

-- ---- chains of operators

-- what a reader took from the front
pub record Reads (after_minus : Bool) (most limit : ℕ) (ks : List Lexeme) (x : Expression × List Lexeme) : Type 0 where
  pub spelled : ks ≡ onto x.0 x.1
  pub formed : WellFormed after_minus x.0
  pub ranked : rank x.0 ≤ most
  pub fits : expression_height x.0 ≤ limit

abbrev pub Sound : Reader Expression → Bool → ℕ → ℕ → Type 0
Sound reader after_minus most limit = (ks : List Lexeme) (x : Expression × List Lexeme) → reader ks ≡ Some x →
    Reads after_minus most limit ks x

joined_sound : (low limit : ℕ) (operand : Reader Expression) →
    Sound operand false low limit →
    (whole : List Lexeme) (left : Expression) (ks : List Lexeme) (x : Expression × List Lexeme)
    → Reads false (suc low) limit whole (left, ks) → joined_at (suc low) limit operand left ks ≡ Some x →
    Reads false (suc low) limit whole x
joined_sound low limit operand sound whole left ks x before e =
    let o = bind_some (operator_at (suc low) ks) _ x e in
    let g = guarded (below limit left) _ x o.2 in
    let r = bind_some (operand o.0.1) _ x g.1 in
    let w = guard_some (below limit r.0.0) _ x r.2 in
    let op = operator_reads (suc low) ks o.0 o.1 in
    let right = sound o.0.1 r.0 r.1 in
    subst (Reads false (suc low) limit whole) w.1 (record {
      spelled = before.spelled ∙
          ap (onto left) (op.0 ∙ ap (λ (ts : List Lexeme). Marked (sign_of o.0.0) ∷ ts) right.spelled);
      formed = (omega (arith, before.ranked, op.1), omega (arith, right.ranked, op.1), before.formed, right.formed);
      ranked = omega (arith, op.1);
      fits = omega (arith, below_is limit left g.0, below_is limit r.0.0 w.0);
    })

pub binary_sound : (wanted limit : ℕ) (operand : Reader Expression) →
    Sound operand false 0 limit →
    Sound (binary_at wanted limit operand) false wanted limit
unfolding binary_at
binary_sound zero limit operand sound ks x e = sound ks x e
binary_sound (suc low) limit operand sound ks x e =
    let b = bind_some (binary_at low limit operand ks) _ x e in
    let first = binary_sound low limit operand sound ks b.0 b.1 in
    (repeat_sound (has_operator (suc low)) (joined_at (suc low) limit (binary_at low limit operand))
    (λ left rest. Reads false (suc low) limit ks (left, rest))
    (λ left rest y before goes step. joined_sound low limit (binary_at low limit operand)
    (binary_sound low limit operand sound) ks left rest y before step)
    limit b.0.0 b.0.1 x
    (record {
      spelled = first.spelled;
      formed = first.formed;
      ranked = omega (arith, first.ranked);
      fits =
          first.fits;
    }) b.2).0

-- a name between `<` and `>` that is read is spelled so
pub class_reads : (ks : List Lexeme) (x : Text × List Lexeme) → class_at ks ≡ Some x → ks ≡ onto_class x.0 x.1
class_reads ks x e =
    let a = bind_some (after_sign signs.Less ks) _ x e in
    let n = bind_some (name_at a.0) _ x a.2 in
    let c = bind_some (after_sign signs.Greater n.0.1) _ x n.2 in
    sign_reads signs.Less ks a.0 a.1 ∙
    ap (λ (r : List Lexeme). Marked signs.Less ∷ r) (name_reads a.0 n.0 n.1 ∙
    ap (λ (r : List Lexeme). Named n.0.0 ∷ r) (sign_reads signs.Greater n.0.1 c.0 c.1))
    ∙ ap (λ (y : Text × List Lexeme). onto_class y.0 y.1) (some_is (n.0.0, c.0) x c.2)
