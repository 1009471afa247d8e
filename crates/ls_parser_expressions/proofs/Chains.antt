-- The loop over a chain of operators, and the first token of an operand.
use Rattle.std.proofs.Common.{◌≡◌, ℕ, zero, suc, ◌+◌, ◌-◌, ◌<◌, ◌≤◌, Bool, true, false, leb, length, List, [], ◌∷◌}
use Rattle.std.proofs.Common.{Option, Some, None, refl, sym, ap, subst, ◌∙◌, arith, le-leb}
use Rattle.std.proofs.lemmas.Bool.{lt-leb}
use Rattle.ls_lexer.specs.declared.fault.TextFault.{TextFault}
use Rattle.ls_lexer.specs.declared.token.Token.{Token}
use Rattle.ls_lexer.specs.Lexemes.{Lexeme, lexemes}
use Rattle.ls_tree.specs.declared.tree.BinaryOp.{BinaryOp}
use Rattle.ls_tree.specs.Trees.{Expression, Binary}
use Rattle.ls_tree.specs.WellFormed.{expression_height, is_minus}
use Rattle.ls_parser_tokens.specs.Answers.{Fails}
use Rattle.ls_parser_tokens.specs.Reading.{Reader, given, repeat}
use Rattle.ls_parser_expressions.specs.ReadingExpressions.{operator_at, has_operator, joined_at, binary_at, unary_of}
use Rattle.ls_parser_expressions.specs.ReadingExpressions.{signed_at, unary_at, post_at}
use Rattle.ls_parser_expressions.proofs.Repeats.{InRepeat, repeat_ends, repeat_goes_on, fails_first}

pub chain_begins :
    (wanted limit : ℕ) (operand : Reader Expression) (ks : List Lexeme) (left : Expression) (rest : List Lexeme) →
    0 < wanted →
    binary_at (wanted - 1) limit operand ks ≡ Some (left, rest)
    → InRepeat (has_operator wanted) (joined_at wanted limit (binary_at (wanted - 1) limit operand))
    (limit - expression_height left) left rest (binary_at wanted limit operand ks)
unfolding binary_at
chain_begins zero limit operand ks left rest lt e = absurd (omega arith)
chain_begins (suc low) limit operand ks left rest lt e =
    let is : suc low - 1 ≡ low = omega arith in
    let e' : binary_at low limit operand ks ≡ Some (left, rest) = ap (λ (n : ℕ). binary_at n limit operand ks) (sym is)
    ∙ e in
    subst (λ (n : ℕ). InRepeat (has_operator (suc low)) (joined_at (suc low) limit (binary_at n limit operand))
    (limit - expression_height left) left rest (binary_at (suc low) limit operand ks)) (sym is)
    (record { turns = limit; bound = omega arith; same = rw e' refl })

pub fails_begins : (e : TextFault) (wanted limit : ℕ) (operand : Reader Expression) (ks : List Lexeme) →
    0 < wanted →
    Fails e (binary_at (wanted - 1) limit operand ks) →
    Fails e (binary_at wanted limit operand ks)
unfolding binary_at
fails_begins e zero limit operand ks lt h = absurd (omega arith)
fails_begins e (suc low) limit operand ks lt h =
    let is : suc low - 1 ≡ low = omega arith in
    let h' : Fails e (binary_at low limit operand ks) = subst (λ (n : ℕ). Fails e (binary_at n limit operand ks)) is h
    in
    fails_first e (binary_at low limit operand ks)
    (λ left. repeat limit (has_operator (suc low)) (joined_at (suc low) limit (binary_at low limit operand)) left.0
    left.1) h'

pub binary_zero : (wanted limit : ℕ) (operand : Reader Expression) (ks : List Lexeme) →
    wanted ≡ 0 →
    binary_at wanted limit operand ks ≡ operand ks
unfolding binary_at
binary_zero zero limit operand ks e = refl
binary_zero (suc low) limit operand ks e = absurd (omega arith)

-- one operator more, with a higher expression
pub chain_goes_on : {goes : List Lexeme → Bool} {step : Expression → Reader Expression} {limit : ℕ} {left : Expression}
    {ks : List Lexeme} {whole : Option (Expression × List Lexeme)} {t : Expression} {rest : List Lexeme}
    → InRepeat goes step (limit - expression_height left) left ks whole → goes ks ≡ true →
    step left ks ≡ Some (t, rest) → expression_height left < expression_height t → expression_height t ≤ limit
    → InRepeat goes step (limit - expression_height t) t rest whole
chain_goes_on {goes} {step} {limit} {left} {ks} {whole} {t} {rest} r h e grows fits =
    repeat_goes_on (limit - expression_height t) r h e (omega arith)

-- the chain of a rank, after what is read of all ranks that bind more tightly
abbrev pub InChain : ℕ → ℕ → Reader Expression → List Lexeme → Expression → List Lexeme → Type 0
InChain rank limit operand ks left rest =
    InRepeat (has_operator rank) (joined_at rank limit (binary_at (rank - 1) limit operand))
    (limit - expression_height left) left rest (binary_at rank limit operand ks)

-- the first operand begins the chain of rank 1
pub chain_starts :
    (limit : ℕ) (operand : Reader Expression) (ks : List Lexeme) (left : Expression) (rest : List Lexeme) →
    operand ks ≡ Some (left, rest) →
    InChain 1 limit operand ks left rest
chain_starts limit operand ks left rest e =
    let first : binary_at (1 - 1) limit operand ks ≡ Some (left, rest) =
    binary_zero (1 - 1) limit operand ks (omega arith) ∙ e in
    chain_begins 1 limit operand ks left rest (omega arith) first

-- at rank 0 there is the operand alone
pub operand_alone :
    (wanted limit : ℕ) (operand : Reader Expression) (ks : List Lexeme) (left : Expression) (rest : List Lexeme) →
    wanted < 1 →
    operand ks ≡ Some (left, rest) →
    binary_at wanted limit operand ks ≡ Some (left, rest)
operand_alone wanted limit operand ks left rest lt e = binary_zero wanted limit operand ks (omega arith) ∙ e

-- if no operator of a rank follows, the chain of the next rank begins
pub chain_climbs :
    (rank limit : ℕ) (operand : Reader Expression) (ks : List Lexeme) (left : Expression) (rest : List Lexeme) →
    InChain rank limit operand ks left rest →
    has_operator rank rest ≡ false
    → InChain (rank + 1) limit operand ks left rest
chain_climbs rank limit operand ks left rest r h =
    let read : binary_at rank limit operand ks ≡ Some (left, rest) = repeat_ends r h in
    let is : rank + 1 - 1 ≡ rank = omega arith in
    let first : binary_at (rank + 1 - 1) limit operand ks ≡ Some (left, rest) =
    ap (λ (n : ℕ). binary_at n limit operand ks) is ∙ read in
    chain_begins (rank + 1) limit operand ks left rest (omega arith) first

-- if no operator of the wanted rank follows, the chain is read
pub chain_ends :
    (rank wanted limit : ℕ) (operand : Reader Expression) (ks : List Lexeme) (left : Expression) (rest : List Lexeme) →
    rank ≤ wanted →
    wanted < rank + 1 →
    InChain rank limit operand ks left rest →
    has_operator rank rest ≡ false
    → binary_at wanted limit operand ks ≡ Some (left, rest)
chain_ends rank wanted limit operand ks left rest up most r h =
    let is : rank ≡ wanted = omega arith in
    subst (λ (n : ℕ). binary_at n limit operand ks ≡ Some (left, rest)) is (repeat_ends r h)

fails_rises : (e : TextFault) (more rank wanted limit : ℕ) (operand : Reader Expression) (ks : List Lexeme) →
    more + rank ≡ wanted →
    Fails e (binary_at rank limit operand ks) →
    Fails e (binary_at wanted limit operand ks)
fails_rises e zero rank wanted limit operand ks is h =
    let same : rank ≡ wanted = omega arith in
    subst (λ (n : ℕ). Fails e (binary_at n limit operand ks)) same h
fails_rises e (suc more) rank wanted limit operand ks is h =
    let low : more + rank ≡ wanted - 1 = omega arith in
    fails_begins e wanted limit operand ks (omega arith) (fails_rises e more rank (wanted - 1) limit operand ks low h)

-- what fails at one rank fails at each that is looser
pub fails_climbs : (e : TextFault) (rank wanted limit : ℕ) (operand : Reader Expression) (ks : List Lexeme) →
    rank ≤ wanted →
    Fails e (binary_at rank limit operand ks) →
    Fails e (binary_at wanted limit operand ks)
fails_climbs e rank wanted limit operand ks up h =
    let is : wanted - rank + rank ≡ wanted = omega arith in
    fails_rises e (wanted - rank) rank wanted limit operand ks is h

-- if the first operand fails, so does the chain
pub fails_starts : (e : TextFault) (wanted limit : ℕ) (operand : Reader Expression) (ks : List Lexeme) →
    Fails e (operand ks) →
    Fails e (binary_at wanted limit operand ks)
fails_starts e wanted limit operand ks h =
    fails_climbs e 0 wanted limit operand ks (omega arith)
    (subst (Fails e) (sym (binary_zero 0 limit operand ks refl)) h)

-- ---- one operator more

-- an operator and its right operand are joined to the left one
pub joined_is :
    (wanted limit : ℕ) (operand : Reader Expression) (left : Expression) (op : BinaryOp) (right : Expression)
    (ks more rest : List Lexeme) →
    operator_at wanted ks ≡ Some (op, more) →
    operand more ≡ Some (right, rest)
    → expression_height left < limit → expression_height right < limit → joined_at wanted limit operand left ks ≡
    Some (Binary op left right, rest)
joined_is wanted limit operand left op right ks more rest o e low low' =
    let yes : leb (expression_height left + 1) limit ≡ true = le-leb _ _ (omega arith) in
    let yes' : leb (expression_height right + 1) limit ≡ true = le-leb _ _ (omega arith) in
    rw (o, yes, e, yes') refl

-- if the left operand is too high, nothing is joined
pub left_too_high :
    (wanted limit : ℕ) (operand : Reader Expression) (left : Expression) (op : BinaryOp) (ks more : List Lexeme) →
    operator_at wanted ks ≡ Some (op, more)
    → limit ≤ expression_height left → joined_at wanted limit operand left ks ≡ None
left_too_high wanted limit operand left op ks more o high =
    let no : leb (expression_height left + 1) limit ≡ false = lt-leb _ _ (omega arith) in
    rw (o, no) refl

-- if the right operand is too high, nothing is joined
pub right_too_high :
    (wanted limit : ℕ) (operand : Reader Expression) (left : Expression) (op : BinaryOp) (right : Expression)
    (ks more rest : List Lexeme) →
    operator_at wanted ks ≡ Some (op, more) →
    operand more ≡ Some (right, rest)
    → expression_height left < limit → limit ≤ expression_height right → joined_at wanted limit operand left ks ≡ None
right_too_high wanted limit operand left op right ks more rest o e low high =
    let yes : leb (expression_height left + 1) limit ≡ true = le-leb _ _ (omega arith) in
    let no : leb (expression_height right + 1) limit ≡ false = lt-leb _ _ (omega arith) in
    rw (o, yes, e, no) refl

-- ---- the first token of an operand

-- an operand by its first token
pub unary_step : (limit : ℕ) (after_minus : Bool) (k : Lexeme) (ks : List Lexeme) →
    0 < limit →
    unary_at limit after_minus (k ∷ ks) ≡
    given (unary_of k) (λ op. signed_at op (unary_at (limit - 1) (is_minus op)) ks)
    (post_at limit after_minus (k ∷ ks))
unfolding unary_at post_at
unary_step zero after_minus k ks lt = absurd (omega arith)
unary_step (suc limit) after_minus k ks lt =
    let is : suc limit - 1 ≡ limit = omega arith in
    rw is refl

-- no token is no operand
pub unary_nothing : (limit : ℕ) (after_minus : Bool) (tokens : List Token) →
    length tokens ≡ 0 →
    unary_at limit after_minus (lexemes tokens) ≡ None
unfolding unary_at
unary_nothing zero after_minus tokens h = refl
unary_nothing (suc limit) after_minus [] h = refl
unary_nothing (suc limit) after_minus (t ∷ ts) h = absurd (omega arith)

-- in no height there is no operand
pub unary_zero : (limit : ℕ) (after_minus : Bool) (ks : List Lexeme) → limit ≡ 0 → unary_at limit after_minus ks ≡ None
unfolding unary_at
unary_zero zero after_minus ks e = refl
unary_zero (suc limit) after_minus ks e = absurd (omega arith)
