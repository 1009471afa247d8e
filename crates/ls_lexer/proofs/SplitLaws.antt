-- The tokens of a text are what it splits into.
use Rattle.std.proofs.Common.{◌≡◌, ◌∙◌, ℕ, zero, suc, ◌+◌, ◌<◌, Bool, true, false, List, [], ◌∷◌, length, drop, take}
use Rattle.std.proofs.Common.{Option, Some, None, refl, ap, subst, arith, length-drop}
use Rattle.std.specs.Prelude.{◌==◌, ◌&&◌, ◌||◌, if◌then◌else◌}
use Rattle.ls_lexer.specs.declared.sign.Sign.{Sign}
use Rattle.ls_lexer.specs.Characters.{is_digit, is_letter, is_part, is_white, run}
use Rattle.ls_lexer.specs.Lexemes.{Lexeme, Numeral}
use Rattle.ls_lexer.specs.Numbers.{is_number}
use Rattle.ls_lexer.specs.Signs.{single_of, pair_of, three_of, four_of, sized, or_next, up_to_two, up_to_three, sign_at}
use Rattle.ls_lexer.specs.Tokens.{Piece, ◌>>=◌, begins, comment, comment_at, gap_of, lexed, line_at, marked}
use Rattle.ls_lexer.specs.Tokens.{numeral_at, piece_at, with_piece, word_at}
use Rattle.ls_lexer.specs.Places.{Splits, here, gap, token, TokensAreSplit}

some_is : {A : Type 0} (x y : A) → ◌≡◌ {A = Option A} (Some x) (Some y) → x ≡ y
some_is x y e = cc

-- ---- a gap or token isn't empty

abbrev Positive : Option Piece → Type 0
Positive None = Unit {0}
Positive (Some p) = 0 < p.1

choose : (t : Bool) (x y : Option Piece) → (t ≡ true → Positive x) → Positive y → Positive (if t then x else y)
choose true x y f g = f refl
choose false x y f g = g

run_yes : (test : ℕ → Bool) (b : ℕ) (bs : List ℕ) → test b ≡ true → run test (b ∷ bs) ≡ run test bs + 1
run_yes test b bs h = rw h refl

or_left : (x y : Bool) → x ≡ true → (x || y) ≡ true
or_left true y h = refl
or_left false y h = absurd cc

or_right : (x y : Bool) → y ≡ true → (x || y) ≡ true
or_right true y h = refl
or_right false y h = h

part_run : (b : ℕ) (bs : List ℕ) → is_part b ≡ true → 0 < run is_part (b ∷ bs)
part_run b bs h = omega (arith, run_yes is_part b bs h)

gap_positive : (o : Option ℕ) → Positive (gap_of 2 o)
gap_positive None = tt
gap_positive (Some n) = omega arith

line_positive : (bs : List ℕ) → Positive (line_at bs)
line_positive bs = omega arith

one_positive : 0 < 1
one_positive = omega arith

numeral_positive : (n : ℕ) (text : List ℕ) → 0 < n → Positive (numeral_at n text)
numeral_positive n text pos =
    choose (is_number (take n text)) (Some (Some (Numeral (take n text)), n)) None (λ _. pos) tt

abbrev Sized : Option (Sign × ℕ) → Type 0
Sized None = Unit {0}
Sized (Some p) = 0 < p.1

size_positive : (n : ℕ) (o : Option Sign) → 0 < n → Sized (sized n o)
size_positive n None pos = tt
size_positive n (Some s) pos = pos

next_positive : (x y : Option (Sign × ℕ)) → Sized x → Sized y → Sized (or_next x y)
next_positive None y f g = g
next_positive (Some p) y f g = f

two_positive : (b : ℕ) (bs : List ℕ) → Sized (up_to_two b bs)
two_positive b [] = size_positive 1 (single_of b) (omega arith)
two_positive b (c ∷ bs) =
    next_positive _ _ (size_positive 2 (pair_of b c) (omega arith)) (size_positive 1 (single_of b) (omega arith))

three_positive : (b : ℕ) (bs : List ℕ) → Sized (up_to_three b bs)
three_positive b [] = two_positive b []
three_positive b (c ∷ []) = two_positive b (c ∷ [])
three_positive b (c ∷ d ∷ bs) =
    next_positive _ _ (size_positive 3 (three_of b c d) (omega arith)) (two_positive b (c ∷ d ∷ bs))

sign_positive : (b : ℕ) (bs : List ℕ) → Sized (sign_at b bs)
sign_positive b [] = three_positive b []
sign_positive b (c ∷ []) = three_positive b (c ∷ [])
sign_positive b (c ∷ d ∷ []) = three_positive b (c ∷ d ∷ [])
sign_positive b (c ∷ d ∷ e ∷ bs) =
    next_positive _ _ (size_positive 4 (four_of b c d e) (omega arith)) (three_positive b (c ∷ d ∷ e ∷ bs))

marked_positive : (o : Option (Sign × ℕ)) → Sized o → Positive (marked o)
marked_positive None h = tt
marked_positive (Some p) h = h

positive : (text : List ℕ) → Positive (piece_at text)
positive [] = tt
positive (b ∷ bs) =
    let n : ℕ = run is_part (b ∷ bs) in
    let signed : Positive (marked (sign_at b bs)) = marked_positive (sign_at b bs) (sign_positive b bs) in
    let word = choose (is_letter b) (word_at n (b ∷ bs)) (marked (sign_at b bs))
    (λ h. part_run b bs (or_right (is_digit b) (is_letter b) h)) signed in
    let number = choose (is_digit b) (numeral_at n (b ∷ bs)) _
    (λ h. numeral_positive n (b ∷ bs) (part_run b bs (or_left (is_digit b) (is_letter b) h))) word in
    let open_ = choose (b == 47 && begins 42 bs) (comment_at bs) _ (λ _. gap_positive (comment (drop 1 bs))) number in
    let line = choose (b == 47 && begins 47 bs) (line_at bs) _ (λ _. line_positive bs) open_ in
    choose (is_white b) (Some (None, 1)) _ (λ _. one_positive) line

piece_positive : (text : List ℕ) (k : Option Lexeme) (n : ℕ) → piece_at text ≡ Some (k, n) → 0 < n
piece_positive text k n e = subst Positive e (positive text)

-- ---- tokens are a splitting

next_split : (text : List ℕ) (k : Option Lexeme) (n : ℕ) (more : Option (List Lexeme)) (ks : List Lexeme) →
    piece_at text ≡ Some (k, n)
    → ((js : List Lexeme) → more ≡ Some js → Splits (drop n text) js []) → with_piece k more ≡ Some ks →
    Splits text ks []
next_split text None n None ks p s e = absurd cc
next_split text (Some k) n None ks p s e = absurd cc
next_split text None n (Some js) ks p s e =
    subst (λ (l : List Lexeme). Splits text l []) (some_is js ks e) (gap n p (s js refl))
next_split text (Some k) n (Some js) ks p s e =
    subst (λ (l : List Lexeme). Splits text l []) (some_is (k ∷ js) ks e) (token k n p (s js refl))

piece_split : (text : List ℕ) (turns : ℕ) (ks : List Lexeme) (o : Option Piece) → piece_at text ≡ o
    → ((n : ℕ) (js : List Lexeme) → lexed turns (drop n text) ≡ Some js → Splits (drop n text) js []) →
    (o >>= λ p. with_piece p.0 (lexed turns (drop p.1 text))) ≡ Some ks → Splits text ks []
piece_split text turns ks None h s e = absurd cc
piece_split text turns ks (Some (k, n)) h s e = next_split text k n (lexed turns (drop n text)) ks h (s n) e

split_of : (turns : ℕ) (text : List ℕ) (ks : List Lexeme) → lexed turns text ≡ Some ks → Splits text ks []
unfolding lexed
split_of zero text ks e = absurd cc
split_of (suc turns) [] ks e = subst (λ (l : List Lexeme). Splits [] l []) (some_is [] ks e) here
split_of (suc turns) (b ∷ bs) ks e =
    piece_split (b ∷ bs) turns ks (piece_at (b ∷ bs)) refl (λ n js f. split_of turns (drop n (b ∷ bs)) js f) e

-- ---- and a splitting is the tokens

no_piece : (k : Option Lexeme) (n : ℕ) → piece_at [] ≡ Some (k, n) → ⊥
no_piece k n e = cc

lexed_next : (turns b : ℕ) (bs : List ℕ) (k : Option Lexeme) (n : ℕ) (js : List Lexeme) →
    piece_at (b ∷ bs) ≡ Some (k, n) →
    lexed turns (drop n (b ∷ bs)) ≡ Some js →
    lexed (suc turns) (b ∷ bs) ≡ with_piece k (Some js)
unfolding lexed
lexed_next turns b bs k n js p e =
    ap (λ (o : Option Piece). o >>= λ q. with_piece q.0 (lexed turns (drop q.1 (b ∷ bs)))) p ∙ ap (with_piece k) e

lexed_end : (turns : ℕ) (text : List ℕ) → text ≡ [] → length text < turns → lexed turns text ≡ Some []
unfolding lexed
lexed_end zero text e lt = absurd (omega arith)
lexed_end (suc turns) [] e lt = refl
lexed_end (suc turns) (b ∷ bs) e lt = absurd cc

one_more : (text : List ℕ) (turns : ℕ) (k : Option Lexeme) (n : ℕ) (js : List Lexeme) →
    length text < turns →
    piece_at text ≡ Some (k, n)
    → ((less : ℕ) → length (drop n text) < less → lexed less (drop n text) ≡ Some js) →
    lexed turns text ≡ with_piece k (Some js)
one_more [] turns k n js lt p more = absurd (no_piece k n p)
one_more (b ∷ bs) zero k n js lt p more = absurd (omega arith)
one_more (b ∷ bs) (suc turns) k n js lt p more =
    lexed_next turns b bs k n js p (more turns (omega (arith, length-drop n (b ∷ bs), piece_positive (b ∷ bs) k n p)))

lexed_of : {text rest : List ℕ} {ks : List Lexeme} (turns : ℕ) →
    Splits text ks rest →
    rest ≡ [] →
    length text < turns →
    lexed turns text ≡ Some ks
lexed_of {text} turns here e lt = lexed_end turns text e lt
lexed_of {text} {rest} {ks} turns (gap n p s) e lt =
    one_more text turns None n ks lt p (λ less small. lexed_of less s e small)
lexed_of {text} {rest} turns (token {ks = js} k n p s) e lt =
    one_more text turns (Some k) n js lt p (λ less small. lexed_of less s e small)

-- the law: a text has tokens exactly if it splits into them
pub tokens_are_split : TokensAreSplit
tokens_are_split text ks = (split_of (length text + 1) text ks, λ s. lexed_of (length text + 1) s refl (omega arith))
