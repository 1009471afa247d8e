-- What reading leaves of the tokens, and which tokens it took.
use Rattle.std.proofs.Common.{◌≡◌, ℕ, ◌+◌, ◌<◌, ◌≤◌, length, List, [], ◌∷◌, ◌++◌, refl, sym, ap, subst, ◌∙◌, arith}
use Rattle.ls_lexer.specs.declared.token.Span.{Span}
use Rattle.ls_lexer.specs.declared.token.Token.{Token}
use Rattle.ls_lexer.specs.declared.sign.Sign.{Sign}
use Rattle.ls_lexer.specs.Lexemes.{Lexeme, lexeme_of, lexemes}
use Rattle.ls_parser_spelling.specs.Places.{Spot, spot, spots, forgotten, sign}
use Rattle.ls_parser_spelling.specs.StatementPlaces.{Anywhere, nothing_more, one_token}
use Rattle.ls_parser.specs.Leaves.{Leaves, all_left, one_less}

-- nothing is taken
pub all_kept : {ss : List Spot} → Leaves ss ss
all_kept = all_left

-- tokens are taken twice
pub leaves_then : {ss middle rest : List Spot} → Leaves ss middle → Leaves middle rest → Leaves ss rest
leaves_then all_left l = l
leaves_then (one_less k) l = one_less (leaves_then k l)

-- one token is taken
pub one_taken : {s : Spot} {ss rest : List Spot} → ss ≡ s ∷ rest → Leaves ss rest
one_taken {rest = rest} is = subst (λ (xs : List Spot). Leaves xs rest) (sym is) (one_less all_left)

-- two tokens are taken
pub two_taken : {s t : Spot} {ss middle rest : List Spot} → ss ≡ s ∷ middle → middle ≡ t ∷ rest → Leaves ss rest
two_taken a b = leaves_then (one_taken a) (one_taken b)

-- one token is taken, and then others
pub taken_then : {s : Spot} {ss middle rest : List Spot} → ss ≡ s ∷ middle → Leaves middle rest → Leaves ss rest
taken_then a l = leaves_then (one_taken a) l

-- one token is taken, then others, and then a sign
pub then_closed : {mark : Sign} {t : Spot} {ss middle end rest : List Spot} →
    ss ≡ t ∷ middle →
    Leaves middle end →
    (s : Span) × (end ≡ sign mark s ∷ rest) →
    Leaves ss rest
then_closed a l closed = leaves_then (taken_then a l) (one_taken closed.1)

-- one token is taken, and then others twice
pub taken_and_both : {s : Spot} {ss middle end rest : List Spot} →
    ss ≡ s ∷ middle →
    Leaves middle end →
    Leaves end rest →
    Leaves ss rest
taken_and_both a l m = leaves_then (taken_then a l) m

-- ---- which tokens were taken

longer : {ss rest : List Spot} → Leaves ss rest → length (forgotten rest) ≤ length (forgotten ss)
longer all_left = omega arith
longer (one_less l) = omega (arith, longer l)

longer_append : (ks ls : List Lexeme) → length (ks ++ ls) ≡ length ks + length ls
longer_append [] ls = omega arith
longer_append (k ∷ ks) ls = omega (arith, longer_append ks ls)

-- which tokens were taken
pub taken : {ss rest : List Spot} (ks : List Lexeme) →
    Leaves ss rest →
    forgotten ss ≡ ks ++ forgotten rest →
    Anywhere ks ss rest
taken [] all_left e = nothing_more
taken (k ∷ ks) (all_left {rest}) e = absurd (omega (arith, ap length e, longer_append ks (forgotten rest)))
taken [] (one_less {s} {ss} {rest} l) e = absurd (omega (arith, ap length e, longer l))
taken (k ∷ ks) (one_less {s} {ss} {rest} l) e =
    let same : s.lexeme ≡ k = cc e in
    let more : forgotten ss ≡ ks ++ forgotten rest = cc e in
    subst (λ (x : Lexeme). Anywhere (x ∷ ks) (s ∷ ss) rest) same (one_token (taken ks l more))

-- the tokens of places are those of the text
pub spots_forgotten : (ts : List Token) → forgotten (spots ts) ≡ lexemes ts
spots_forgotten [] = refl
spots_forgotten (t ∷ ts) = ap (λ (ks : List Lexeme). lexeme_of t.kind ∷ ks) (spots_forgotten ts)
