-- The place of the first token of a slice.
use Rattle.std.proofs.Common.{◌≡◌, ℕ, ◌-◌, ◌≤◌, true, List, [], ◌∷◌, length, take, drop, slice_index_or, sym, ap, ◌∙◌}
use Rattle.std.proofs.Common.{arith}
use Rattle.std.proofs.Math.Seq.{take-length}
use denote.Enum.Bare.{sameb, same_true}
use Rattle.ls_lexer.specs.contracts.sign.Sign.{the_type as sign_type}
use Rattle.ls_lexer.specs.contracts.word.Word.{the_type as word_type}
use Rattle.ls_lexer.specs.declared.sign.Sign.{Sign}
use Rattle.ls_lexer.specs.declared.token.Token.{Token}
use Rattle.ls_lexer.specs.declared.word.Word.{Word}
use Rattle.ls_lexer.specs.Lexemes.{Lexeme, lexeme_of}
use Rattle.ls_parser_spelling.specs.Places.{spot, spots}

-- signs that are tested to be the same are the same
pub same_sign : (s t : Sign) → sameb sign_type s t ≡ true → s ≡ t
same_sign s t e = same_true sign_type tt s t e

-- words that are tested to be the same are the same
pub same_word : (s t : Word) → sameb word_type s t ≡ true → s ≡ t
same_word s t e = same_true word_type tt s t e

-- the first token of a slice
pub first_spot : (ts : List Token) (d : Token) (k : Lexeme) →
    1 ≤ length ts →
    lexeme_of (slice_index_or ts 0 d).kind ≡ k →
    spots ts ≡ spot k (slice_index_or ts 0 d).span ∷ spots (take (length ts - 1) (drop 1 ts))
first_spot [] d k le e = absurd (omega arith)
first_spot (t ∷ ts) d k le e =
    let less : length (t ∷ ts) - 1 ≡ length ts = omega arith in
    let whole : take (length (t ∷ ts) - 1) ts ≡ ts = ap (λ (n : ℕ). take n ts) less ∙ take-length ts in
    λ i. spot (e i) t.span ∷ spots (sym whole i)
