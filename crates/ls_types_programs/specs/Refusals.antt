-- The place of a fault in a text.
use Rattle.std.specs.Prelude.{◌≡◌, ℕ, ◌<◌, List, [], ◌∷◌, ◌++◌, length, Some, None}
use Rattle.ls_lexer.specs.declared.fault.TextFault.{TextFault}
use Rattle.ls_lexer.specs.declared.token.Token.{Token}
use Rattle.ls_lexer.specs.Lexemes.{Lexeme, lexemes}
use Rattle.ls_lexer.specs.Places.{InOrder, StandsAt}
use Rattle.ls_lexer.specs.Tokens.{tokens_of}
use Rattle.ls_checked.specs.CheckedProgram.{Program}
use Rattle.ls_types_elaboration.specs.Trees.{Text}
use Rattle.ls_types_elaboration.specs.Elaboration.{ElaboratedFile}
use Rattle.ls_types_programs.specs.Spelled.{Spells}
use Rattle.ls_types_programs.specs.Faults.{GoesOn, IsBad, IsPast}

-- where the first of the tokens begins, or else the end
abbrev pub start_of : ℕ → List Token → ℕ
start_of end [] = end
start_of end (t ∷ ts) = t.span.start

-- `before` are the text's tokens before the place, and `behind` are the tokens from there on.
pub record SplitsAt (text : Text) (at : ℕ) (before behind : List Lexeme) : Type 0 where
  pub front : List Token
  pub back : List Token
  pub lexed : tokens_of text ≡ Some (before ++ behind)
  pub fronts : lexemes front ≡ before
  pub backs : lexemes back ≡ behind
  pub spans : InOrder text 0 (front ++ back) (length text)
  pub place : at ≡ start_of (length text) back

-- The fault is of the tokens before the place, and of some tokens from there on.
pub record ShowsAt (Fault : List Lexeme → List Lexeme → Type 0) (text : Text) (at : ℕ) : Type 0 where
  pub before : List Lexeme
  pub shown : List Lexeme
  pub rest : List Lexeme
  pub fault : Fault before shown
  pub stands : SplitsAt text at before (shown ++ rest)

-- No gap and no token begins at the place. Or the text ends there, and its tokens aren't a program yet. Or a token or
-- name there is one that can't come.
pub data IsBadAt (o : ElaboratedFile) (text : Text) (at : ℕ) : Type 0 where
  NoToken : (fault : TextFault) → StandsAt text at fault → tokens_of text ≡ None → IsBadAt o text at
  Ends : (ks : List Lexeme) →
      tokens_of text ≡ Some ks →
      at ≡ length text →
      GoesOn ks →
      ((p : Program) → Spells p ks → ⊥) →
      IsBadAt o text at
  Within : ShowsAt (IsBad o) text at → IsBadAt o text at

-- more than 262,144 bytes, or too many threads or calls
pub data PassesLimit (o : ElaboratedFile) (text : Text) : Type 0 where
  Bytes : 262144 < length text → PassesLimit o text
  Tokens : (ks rest : List Lexeme) → tokens_of text ≡ Some (ks ++ rest) → IsPast o ks → PassesLimit o text
