-- The tokens of a text: gaps and tokens, each as long as it can be (JLS 3.2).
use Rattle.std.specs.Prelude.{ℕ, zero, suc, ◌+◌, ◌==◌, ◌&&◌, not, List, [], ◌∷◌, length, take, drop, Option, Some}
use Rattle.std.specs.Prelude.{None, if◌then◌else◌}
use Rattle.std.specs.Prelude.{Bool, false}
use Rattle.ls_lexer.specs.declared.word.Word.{Word}
use Rattle.ls_lexer.specs.declared.sign.Sign.{Sign}
use Rattle.ls_lexer.specs.Characters.{is_digit, is_letter, is_part, is_white, is_line_end, run}
use Rattle.ls_lexer.specs.Numbers.{is_number}
use Rattle.ls_lexer.specs.Words.{reserved_word}
use Rattle.ls_lexer.specs.Signs.{sign_at}
use Rattle.ls_lexer.specs.Lexemes.{Lexeme, Named, Numeral, Reserved, Marked}

-- the token at the front of a text, or None for a gap, and its number of bytes
abbrev pub Piece : Type 0
Piece = Option Lexeme × ℕ

abbrev pub longer : Option ℕ → Option ℕ
longer None = None
longer (Some n) = Some (n + 1)

-- how many bytes there are up to the first `*/`, with it
abbrev pub comment : List ℕ → Option ℕ
comment [] = None
comment (b ∷ []) = None
comment (b ∷ c ∷ bs) = if b == 42 && c == 47 then Some 2 else longer (comment (c ∷ bs))

abbrev pub gap_of : ℕ → Option ℕ → Option Piece
gap_of n None = None
gap_of n (Some m) = Some (None, n + m)

abbrev pub begins : ℕ → List ℕ → Bool
begins c [] = false
begins c (x ∷ xs) = x == c

-- a comment up to the end of its line (JLS 3.7); these are the bytes after its first byte
abbrev pub line_at : List ℕ → Option Piece
line_at bs = Some (None, run (λ x. not (is_line_end x)) bs + 1)

-- a comment that has an end (JLS 3.7); these are the bytes after its first byte
abbrev pub comment_at : List ℕ → Option Piece
comment_at bs = gap_of 2 (comment (drop 1 bs))

-- the first n bytes as a number
abbrev pub numeral_at : ℕ → List ℕ → Option Piece
numeral_at n text = if is_number (take n text) then Some (Some (Numeral (take n text)), n) else None

-- a reserved word, or a name (JLS 3.8)
abbrev pub named_unless : Option Word → List ℕ → Lexeme
named_unless None text = Named text
named_unless (Some word) text = Reserved word

abbrev pub word_of : List ℕ → Lexeme
word_of text = named_unless (reserved_word text) text

abbrev pub word_at : ℕ → List ℕ → Option Piece
word_at n text = Some (Some (word_of (take n text)), n)

abbrev pub marked : Option (Sign × ℕ) → Option Piece
marked None = None
marked (Some p) = Some (Some (Marked p.0), p.1)

-- The gap or token at the front. There is none in three cases: an opened comment doesn't end; letters and digits that
-- begin with a digit are no number; no gap and no token begins with the first byte.
abbrev pub piece_at : List ℕ → Option Piece
piece_at [] = None
piece_at (b ∷ bs) =
    if is_white b then Some (None, 1)
    else (if b == 47 && begins 47 bs then line_at bs
    else (if b == 47 && begins 42 bs then comment_at bs
    else (if is_digit b then numeral_at (run is_part (b ∷ bs)) (b ∷ bs)
    else (if is_letter b then word_at (run is_part (b ∷ bs)) (b ∷ bs)
    else marked (sign_at b bs)))))

abbrev pub with_piece : Option Lexeme → Option (List Lexeme) → Option (List Lexeme)
with_piece k None = None
with_piece None (Some ks) = Some ks
with_piece (Some k) (Some ks) = Some (k ∷ ks)

infixl 10 ◌>>=◌
abbrev pub ◌>>=◌ : {A B : Type 0} → Option A → (A → Option B) → Option B
None >>= f = None
(Some x) >>= f = f x

-- the tokens of a text, if there are turns enough
unfoldable pub lexed : ℕ → List ℕ → Option (List Lexeme)
lexed zero text = None
lexed (suc turns) [] = Some []
lexed (suc turns) (b ∷ bs) = piece_at (b ∷ bs) >>= λ p. with_piece p.0 (lexed turns (drop p.1 (b ∷ bs)))

-- The tokens of a text, if it is gaps and tokens from its beginning to its end; else none.
abbrev pub tokens_of : List ℕ → Option (List Lexeme)
tokens_of text = lexed (length text + 1) text
