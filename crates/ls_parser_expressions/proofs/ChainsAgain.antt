-- Chains of operators: what is well-formed is read again.
use Rattle.std.proofs.Common.{◌≡◌, ℕ, zero, suc, ◌+◌, ◌≤◌, Bool, true, false, leb, List, ◌∷◌, Some, refl, ◌∙◌, inl, inr}
use Rattle.std.proofs.Common.{arith, le-leb}
use Rattle.std.proofs.lemmas.Bool.{cases_lt}
use Rattle.ls_lexer.specs.Lexemes.{Lexeme, Marked}
use Rattle.ls_tree.specs.declared.tree.BinaryOp.{BinaryOp}
use Rattle.ls_tree.specs.Trees.{Expression, Number, True, False, Null, This, Name, Paren, Unary, Binary, Field, Call}
use Rattle.ls_tree.specs.Trees.{CallOn, Item, New, NewMarkable, NewArray}
use Rattle.ls_parser_spelling.specs.Spelling.{sign_of}
use Rattle.ls_tree.specs.WellFormed.{rank_of, rank, WellFormed, expression_height}
use Rattle.ls_parser_tokens.specs.Reading.{Reader, repeat}
use Rattle.ls_parser_expressions.specs.ReadingExpressions.{has_operator, joined_at, binary_at}
use Rattle.ls_parser_expressions.proofs.Repeats.{repeat_stops, turn}
use Rattle.ls_parser_expressions.proofs.Onto.{onto}
use Rattle.ls_parser_expressions.proofs.ExpressionEdges.{Follow, operator_again, follow_operator}

-- ---- chains of operators

abbrev pub Complete : Reader Expression → Bool → ℕ → ℕ → Type 0
Complete reader after_minus most limit = (t : Expression) (rest : List Lexeme) → WellFormed after_minus t →
    rank t ≤ most → expression_height t ≤ limit → Follow most rest → reader (onto t rest) ≡ Some (t, rest)

pub height_pos : (t : Expression) → 1 ≤ expression_height t
height_pos (Number text) = omega arith
height_pos True = omega arith
height_pos False = omega arith
height_pos Null = omega arith
height_pos This = omega arith
height_pos (Name text) = omega arith
height_pos (Paren inner) = omega arith
height_pos (Unary op operand) = omega arith
height_pos (Binary op left right) = omega arith
height_pos (Field target name) = omega arith
height_pos (Call name arguments) = omega arith
height_pos (CallOn target name arguments) = omega arith
height_pos (Item array index) = omega arith
height_pos (New class arguments) = omega arith
height_pos (NewMarkable class arguments) = omega arith
height_pos (NewArray length') = omega arith

joined_again :
    (wanted limit : ℕ) (operand : Reader Expression) (op : BinaryOp) (left right : Expression) (rest : List Lexeme) →
    rank_of op ≡ wanted →
    operand (onto right rest) ≡ Some (right, rest) →
    expression_height (Binary op left right) ≤ limit
    → joined_at wanted limit operand left (Marked (sign_of op) ∷ onto right rest) ≡ Some (Binary op left right, rest)
joined_again wanted limit operand op left right rest is reads fits =
    let fit : leb (expression_height left + 1) limit ≡ true = le-leb _ _ (omega arith) in
    let fit' : leb (expression_height right + 1) limit ≡ true = le-leb _ _ (omega arith) in
    rw (operator_again op wanted (onto right rest) is, fit, reads, fit') refl

chain_goes_on :
    (turns limit wanted : ℕ) (operand : Reader Expression) (op : BinaryOp) (left right : Expression)
    (rest : List Lexeme) →
    rank_of op ≡ wanted →
    operand (onto right rest) ≡ Some (right, rest) →
    expression_height (Binary op left right) ≤ limit
    → repeat (suc turns) (has_operator wanted) (joined_at wanted limit operand) left
    (Marked (sign_of op) ∷ onto right rest) ≡ repeat turns (has_operator wanted) (joined_at wanted limit operand)
    (Binary op left right) rest
chain_goes_on turns limit wanted operand op left right rest is reads fits =
    let goes : has_operator wanted (Marked (sign_of op) ∷ onto right rest) ≡ true =
    rw (operator_again op wanted (onto right rest) is) refl in
    turn (has_operator wanted) (joined_at wanted limit operand) turns left (Marked (sign_of op) ∷ onto right rest) goes
    ∙ rw (joined_again wanted limit operand op left right rest is reads fits) refl

module _ (low limit : ℕ) (operand : Reader Expression)
    (complete : Complete (binary_at low limit operand) false low limit) where
  -- reading a tree of the rank reaches a point in a chain, with the tree on its left
  abbrev Comes : Expression → List Lexeme → Type 0
  Comes t rest = (turns : ℕ) × (limit ≤ turns + expression_height t) ×
      (binary_at (suc low) limit operand (onto t rest) ≡
      repeat turns (has_operator (suc low)) (joined_at (suc low) limit (binary_at low limit operand)) t rest)

  comes_first : (t : Expression) (rest : List Lexeme) →
      WellFormed false t →
      rank t ≤ low →
      expression_height t ≤ limit →
      Follow low rest →
      Comes t rest
  unfolding binary_at
  comes_first t rest formed ranked fits stops = (limit, omega arith, rw (complete t rest formed ranked fits stops) refl)

  comes_next : (op : BinaryOp) (left right : Expression) (rest : List Lexeme) →
      WellFormed false (Binary op left right) →
      rank_of op ≡ suc low →
      expression_height (Binary op left right) ≤ limit →
      Follow low rest
      → (turns : ℕ) → limit ≤ turns + expression_height left →
      binary_at (suc low) limit operand (onto left (Marked (sign_of op) ∷ onto right rest)) ≡
      repeat turns (has_operator (suc low)) (joined_at (suc low) limit (binary_at low limit operand)) left
      (Marked (sign_of op) ∷ onto right rest)
      → Comes (Binary op left right) rest
  comes_next op left right rest formed is fits stops zero bound e = absurd (omega arith)
  comes_next op left right rest formed is fits stops (suc turns) bound e =
      let reads = complete right rest formed.3 (omega (arith, formed.1)) (omega arith) stops in (
        turns,
        omega arith,
        e ∙ chain_goes_on turns limit (suc low) (binary_at low limit operand) op left right rest is
            reads fits,
      )

  comes : (t : Expression) (rest : List Lexeme) →
      WellFormed false t →
      rank t ≤ suc low →
      expression_height t ≤ limit →
      Follow low rest →
      Comes t rest
  comes (Binary op left right) rest formed ranked fits stops =
      elim (cases_lt low (rank_of op)) [
        | inl above ↦
            let is : rank_of op ≡ suc low = omega arith in
            let before = comes left (Marked (sign_of op) ∷ onto right rest) formed.2 (omega (arith, formed.0))
            (omega arith) (follow_operator op low (onto right rest) (omega arith)) in
            comes_next op left right rest formed is fits stops before.0 before.1 before.2
        | inr le ↦ comes_first (Binary op left right) rest formed le fits stops
      ]
  comes t rest formed ranked fits stops = comes_first t rest formed (omega arith) fits stops

lower : (most less : ℕ) (ks : List Lexeme) → less ≤ most → Follow most ks → Follow less ks
lower most less ks le f = record {
  operators = λ wanted le'. f.operators wanted (omega arith);
  dot = f.dot;
  bracket =
      f.bracket;
  paren = f.paren;
}

pub binary_complete : (wanted limit : ℕ) (operand : Reader Expression) →
    Complete operand false 0 limit →
    Complete (binary_at wanted limit operand) false wanted limit
unfolding binary_at
binary_complete zero limit operand complete t rest formed ranked fits stops = complete t rest formed ranked fits stops
binary_complete (suc low) limit operand complete t rest formed ranked fits stops =
    let c = comes low limit operand (binary_complete low limit operand complete) t rest formed ranked fits
    (lower (suc low) low rest (omega arith) stops) in
    let none : has_operator (suc low) rest ≡ false = rw (stops.operators (suc low) (omega arith)) refl in
    c.2 ∙ repeat_stops (has_operator (suc low)) (joined_at (suc low) limit (binary_at low limit operand)) c.0 t rest
    none
