-- Where faults and tokens are in a text.
use Rattle.std.specs.Prelude.{◌≡◌, ◌↔◌, ℕ, ◌+◌, ◌<◌, ◌≤◌, ◌==◌, ◌&&◌, List, [], ◌∷◌, length, take, drop, Some, None}
use Rattle.std.specs.Prelude.{if◌then◌else◌}
use Rattle.ls_lexer.specs.declared.fault.TextFault.{TextFault}
use Rattle.ls_lexer.specs.declared.fault.TextFault.TheVariants as faults
use Rattle.ls_lexer.specs.declared.token.TokenKind.{TokenKind}
use Rattle.ls_lexer.specs.declared.token.TokenKind.TheVariants as kinds
use Rattle.ls_lexer.specs.declared.token.Token.{Token}
use Rattle.ls_lexer.specs.Characters.{is_digit}
use Rattle.ls_lexer.specs.Lexemes.{Lexeme, lexeme_of}
use Rattle.ls_lexer.specs.Tokens.{piece_at, tokens_of, begins}

-- the most bytes that a text may have
abbrev pub text_limit : ℕ
text_limit = 262144

-- the text is gaps and tokens, and then the rest
pub data Splits : List ℕ → List Lexeme → List ℕ → Type 0 where
  here : {text : List ℕ} → Splits text [] text
  gap : {text rest : List ℕ} {ks : List Lexeme} (n : ℕ) →
      piece_at text ≡ Some (None, n) →
      Splits (drop n text) ks rest →
      Splits text ks rest
  token : {text rest : List ℕ} {ks : List Lexeme} (k : Lexeme) (n : ℕ) →
      piece_at text ≡ Some (Some k, n) →
      Splits (drop n text) ks rest →
      Splits text (k ∷ ks) rest

-- A text has tokens exactly if it splits into gaps and those tokens, up to its end. So it splits in at most one way.
abbrev pub TokensAreSplit : Type 0
TokensAreSplit = (text : List ℕ) (ks : List Lexeme) → (tokens_of text ≡ Some ks) ↔ Splits text ks []

-- the fault at a place where no gap and no token begins
abbrev pub fault_at : ℕ → List ℕ → TextFault
fault_at at [] = faults.BadByte at
fault_at at (b ∷ bs) =
    if b == 47 && begins 42 bs then faults.OpenComment at
    else (if is_digit b then faults.BadNumber at else faults.BadByte at)

-- the text up to the place is gaps and tokens, and this fault is at the place
abbrev pub StandsAt : List ℕ → ℕ → TextFault → Type 0
StandsAt text at fault =
    (ks : List Lexeme) × Splits text ks (drop at text) × (piece_at (drop at text) ≡ None)
    × (fault ≡ fault_at at (drop at text))

-- When each fault may come. "Out of memory" may come at any time. "Too long" comes only of a text that is too long. A
-- fault with a place is at that place, and then the text has no tokens. Faults of the grammar never come.
abbrev pub Refused : List ℕ → TextFault → Type 0
Refused text faults.Memory = Unit {0}
Refused text faults.TooLong = text_limit < length text
Refused text (faults.BadByte at) = StandsAt text at (faults.BadByte at) × (tokens_of text ≡ None)
Refused text (faults.OpenComment at) = StandsAt text at (faults.OpenComment at) × (tokens_of text ≡ None)
Refused text (faults.BadNumber at) = StandsAt text at (faults.BadNumber at) × (tokens_of text ≡ None)
Refused text (faults.Syntax at) = ⊥
Refused text (faults.TooDeep at) = ⊥

-- the text of a name or number is this slice of the source
abbrev pub IsSlice : List ℕ → TokenKind → Type 0
IsSlice slice (kinds.Name text) = text.now ≡ slice
IsSlice slice (kinds.Number text) = text.now ≡ slice
IsSlice slice (kinds.Word word) = Unit {0}
IsSlice slice (kinds.Sign sign) = Unit {0}

-- the token is at its span
pub record StandsThere (text : List ℕ) (t : Token) : Type 0 where
  pub size : ℕ
  pub reaches : t.span.start + size ≡ t.span.end
  pub within : t.span.end ≤ length text
  pub read : piece_at (drop t.span.start text) ≡ Some (Some (lexeme_of t.kind), size)
  pub slice : IsSlice (take size (drop t.span.start text)) t.kind

-- the tokens are at their spans in the text, in order, from one place up to another
abbrev pub InOrder : List ℕ → ℕ → List Token → ℕ → Type 0
InOrder text from [] upto = from ≤ upto
InOrder text from (t ∷ ts) upto =
    (from ≤ t.span.start) × (t.span.start < t.span.end) × StandsThere text t × InOrder text t.span.end ts upto
