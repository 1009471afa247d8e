-- The loop over what comes after a primary.
use Rattle.std.proofs.Common.{◌≡◌, ℕ, zero, suc, ◌+◌, ◌-◌, ◌<◌, ◌≤◌, Bool, true, false, leb, List, Some, None, refl}
use Rattle.std.proofs.Common.{sym, ap, subst, ◌∙◌, arith, le-leb}
use Rattle.std.proofs.lemmas.Bool.{lt-leb}
use Rattle.ls_lexer.specs.declared.fault.TextFault.{TextFault}
use Rattle.ls_lexer.specs.declared.sign.Sign.TheVariants as signs
use Rattle.ls_lexer.specs.Lexemes.{Lexeme}
use Rattle.ls_tree.specs.Trees.{Expression}
use Rattle.ls_tree.specs.WellFormed.{expression_height}
use Rattle.ls_parser_tokens.specs.Answers.{Fails}
use Rattle.ls_parser_tokens.specs.Reading.{Reader, given, after_sign, repeat}
use Rattle.ls_parser_expressions.specs.ReadingExpressions.{has_suffix, suffix_at, member_at, item_at, primary_at}
use Rattle.ls_parser_expressions.specs.ReadingExpressions.{expression_at, post_at}
use Rattle.ls_parser_expressions.proofs.Repeats.{InRepeat, fails_first}

-- the loop begins after a primary
pub post_begins : (limit : ℕ) (after_minus : Bool) (ks : List Lexeme) (left : Expression) (rest : List Lexeme) →
    0 < limit →
    primary_at after_minus (expression_at (limit - 1)) ks ≡ Some (left, rest)
    → InRepeat has_suffix (suffix_at limit (expression_at (limit - 1))) (limit - expression_height left) left rest
    (post_at limit after_minus ks)
unfolding post_at
post_begins zero after_minus ks left rest lt e = absurd (omega arith)
post_begins (suc low) after_minus ks left rest lt e =
    let is : suc low - 1 ≡ low = omega arith in
    let e' : primary_at after_minus (expression_at low) ks ≡ Some (left, rest) =
    ap (λ (n : ℕ). primary_at after_minus (expression_at n) ks) (sym is) ∙ e in
    subst (λ (n : ℕ). InRepeat has_suffix (suffix_at (suc low) (expression_at n)) (suc low - expression_height left)
    left rest (post_at (suc low) after_minus ks)) (sym is)
    (record { turns = suc low; bound = omega arith; same = rw e' refl })

-- if the primary fails, so does all
pub post_nothing : (e : TextFault) (limit : ℕ) (after_minus : Bool) (ks : List Lexeme) →
    0 < limit →
    Fails e (primary_at after_minus (expression_at (limit - 1)) ks) →
    Fails e (post_at limit after_minus ks)
unfolding post_at
post_nothing e zero after_minus ks lt h = absurd (omega arith)
post_nothing e (suc low) after_minus ks lt h =
    let is : suc low - 1 ≡ low = omega arith in
    let h' : Fails e (primary_at after_minus (expression_at low) ks) =
    subst (λ (n : ℕ). Fails e (primary_at after_minus (expression_at n) ks)) is h in
    fails_first e (primary_at after_minus (expression_at low) ks)
    (λ left. repeat (suc low) has_suffix (suffix_at (suc low) (expression_at low)) left.0 left.1) h'

-- in no height there is no postfix expression
pub post_zero : (limit : ℕ) (after_minus : Bool) (ks : List Lexeme) → limit ≡ 0 → post_at limit after_minus ks ≡ None
unfolding post_at
post_zero zero after_minus ks e = refl
post_zero (suc limit) after_minus ks e = absurd (omega arith)

-- if the expression is too high, nothing may come after it
pub suffix_too_high : {limit : ℕ} (whole : Reader Expression) (left : Expression) (ks : List Lexeme) →
    limit ≤ expression_height left →
    suffix_at limit whole left ks ≡ None
suffix_too_high {limit} whole left ks high =
    let no : leb (expression_height left + 1) limit ≡ false = lt-leb _ _ (omega arith) in
    rw no refl

-- else a suffix is read after it
pub suffix_fits : {limit : ℕ} (whole : Reader Expression) (left : Expression) (ks : List Lexeme) →
    expression_height left < limit →
    suffix_at limit whole left ks ≡ given (after_sign signs.Dot ks) (λ rest. member_at whole left rest)
    (item_at whole left ks)
suffix_fits {limit} whole left ks low =
    let yes : leb (expression_height left + 1) limit ≡ true = le-leb _ _ (omega arith) in
    rw yes refl
