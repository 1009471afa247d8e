-- Each token of a text has the form of its kind.
use Rattle.std.proofs.Common.{◌≡◌, ◌∙◌, inl, inr, ℕ, zero, suc, ◌+◌, Bool, true, false, cond, List, [], ◌∷◌, length}
use Rattle.std.proofs.Common.{take, drop, Option, Some, None, refl, sym, ap, subst, arith, eq-eqb}
use Rattle.std.specs.Prelude.{◌==◌, ◌&&◌, ◌||◌, if◌then◌else◌, is_none, slice_get}
use Rattle.std.proofs.lemmas.Bool.{cases_Bool}
use Rattle.ls_lexer.specs.declared.word.Word.{Word}
use Rattle.ls_lexer.specs.declared.sign.Sign.{Sign}
use Rattle.ls_lexer.specs.Characters.{is_digit, is_letter, is_part, is_white, run}
use Rattle.ls_lexer.specs.Lexemes.{Lexeme, Numeral}
use Rattle.ls_lexer.specs.Names.{is_identifier, is_name}
use Rattle.ls_lexer.specs.Numbers.{is_number}
use Rattle.ls_lexer.specs.Signs.{sign_at}
use Rattle.ls_lexer.specs.Tokens.{Piece, begins, comment, comment_at, gap_of, line_at, marked, named_unless}
use Rattle.ls_lexer.specs.Tokens.{numeral_at, piece_at, word_at}
use Rattle.ls_lexer.specs.Words.{reserved_word}
use Rattle.ls_lexer.specs.Places.{Splits, here, gap, token}
use Rattle.ls_lexer.specs.Formed.{IsFormed, TokensAreFormed}
use Rattle.ls_lexer.proofs.SplitLaws.{tokens_are_split}

-- the token of a piece is formed
abbrev Formed : Option Piece → Type 0
Formed None = Unit {0}
Formed (Some (None, n)) = Unit {0}
Formed (Some (Some k, n)) = IsFormed k

choose : (t : Bool) (x y : Option Piece) → (t ≡ true → Formed x) → Formed y → Formed (if t then x else y)
choose true x y f g = f refl
choose false x y f g = g

run_yes : (test : ℕ → Bool) (b : ℕ) (bs : List ℕ) → test b ≡ true → run test (b ∷ bs) ≡ suc (run test bs)
run_yes test b bs h = let one : run test bs + 1 ≡ suc (run test bs) = omega arith in
    ap (λ t. cond t (run test bs + 1) 0) h ∙ one

run_no : (test : ℕ → Bool) (b : ℕ) (bs : List ℕ) → test b ≡ false → run test (b ∷ bs) ≡ 0
run_no test b bs h = ap (λ t. cond t (run test bs + 1) 0) h

-- all of a run passes the test
run_whole : (test : ℕ → Bool) (bs : List ℕ) → run test (take (run test bs) bs) ≡ length (take (run test bs) bs)
run_whole test [] = refl
run_whole test (b ∷ bs) =
    elim (cases_Bool (test b)) [
      | inl h ↦
          let more : run test (b ∷ take (run test bs) bs) ≡ suc (run test (take (run test bs) bs)) =
          run_yes test b (take (run test bs) bs) h in
          subst (λ n. run test (take n (b ∷ bs)) ≡ length (take n (b ∷ bs))) (sym (run_yes test b bs h))
          (more ∙ ap suc (run_whole test bs))
      | inr h ↦ subst (λ n. run test (take n (b ∷ bs)) ≡ length (take n (b ∷ bs))) (sym (run_no test b bs h)) refl
    ]

or_right : (x y : Bool) → y ≡ true → (x || y) ≡ true
or_right true y h = refl
or_right false y h = h

and_true : (x y : Bool) → x ≡ true → y ≡ true → (x && y) ≡ true
and_true true y h k = k
and_true false y h k = absurd cc

identifier : (b : ℕ) (bs : List ℕ) → is_letter b ≡ true → is_identifier (take (run is_part (b ∷ bs)) (b ∷ bs)) ≡ true
identifier b bs h =
    let part : is_part b ≡ true = or_right (is_digit b) (is_letter b) h in
    let rest : List ℕ = take (run is_part bs) bs in
    subst (λ n. is_identifier (take n (b ∷ bs)) ≡ true) (sym (run_yes is_part b bs part))
    (and_true (is_letter b) (run is_part rest == length rest) h
    (eq-eqb (run is_part rest) (length rest) (run_whole is_part bs)))

is_named : (text : List ℕ) → is_identifier text ≡ true → reserved_word text ≡ None → is_name text ≡ true
unfolding is_name
is_named text h e = and_true (is_identifier text) (is_none (reserved_word text)) h (ap is_none e)

word_formed : (o : Option Word) (text : List ℕ) (n : ℕ) →
    (o ≡ None → is_name text ≡ true) →
    Formed (Some (Some (named_unless o text), n))
word_formed None text n f = f refl
word_formed (Some w) text n f = tt

gap_formed : (n : ℕ) (o : Option ℕ) → Formed (gap_of n o)
gap_formed n None = tt
gap_formed n (Some m) = tt

marked_formed : (o : Option (Sign × ℕ)) → Formed (marked o)
marked_formed None = tt
marked_formed (Some p) = tt

numeral_formed : (n : ℕ) (text : List ℕ) → Formed (numeral_at n text)
numeral_formed n text = choose (is_number (take n text)) (Some (Some (Numeral (take n text)), n)) None (λ h. h) tt

formed : (text : List ℕ) → Formed (piece_at text)
formed [] = tt
formed (b ∷ bs) =
    let n : ℕ = run is_part (b ∷ bs) in
    let signed : Formed (marked (sign_at b bs)) = marked_formed (sign_at b bs) in
    let word = choose (is_letter b) (word_at n (b ∷ bs)) (marked (sign_at b bs))
    (λ h. word_formed (reserved_word (take n (b ∷ bs))) (take n (b ∷ bs)) n
    (λ e. is_named (take n (b ∷ bs)) (identifier b bs h) e)) signed in
    let number = choose (is_digit b) (numeral_at n (b ∷ bs)) _ (λ _. numeral_formed n (b ∷ bs)) word in
    let open_ = choose (b == 47 && begins 42 bs) (comment_at bs) _ (λ _. gap_formed 2 (comment (drop 1 bs))) number in
    let line = choose (b == 47 && begins 47 bs) (line_at bs) _ (λ _. tt) open_ in
    choose (is_white b) (Some (None, 1)) _ (λ _. tt) line

some_is : {A : Type 0} (x y : A) → ◌≡◌ {A = Option A} (Some x) (Some y) → x ≡ y
some_is x y e = cc

each_formed : {text rest : List ℕ} {ks : List Lexeme} →
    Splits text ks rest →
    (i : ℕ) (k : Lexeme) →
    slice_get ks i ≡ Some k →
    IsFormed k
each_formed here i k e = absurd cc
each_formed (gap n p s) i k e = each_formed s i k e
each_formed {text} (token j n p s) zero k e = subst IsFormed (some_is j k e) (subst Formed p (formed text))
each_formed (token j n p s) (suc i) k e = each_formed s i k e

-- the law: each token has the form of its kind
pub tokens_are_formed : TokensAreFormed
tokens_are_formed text ks e i k at = each_formed ((tokens_are_split text ks).0 e) i k at
