-- The words of a class text, and the tokens of the Java file from which they come.
use Rattle.std.specs.Prelude.{◌≡◌, ◌↔◌, ◌+◌, ◌<◌, ◌||◌, ℕ, true, List, [], ◌∷◌, All, Some, if◌then◌else◌}
use Rattle.std.specs.Prelude.{drop, length, map, nat_le, slice_get, take}
use Rattle.ls_java_lexer.specs.Order.{piece}
use Rattle.ls_java_lexer.specs.declared.token.Token.{Token}
use Rattle.ls_lexer.specs.declared.token.Span.{Span}
use Rattle.ls_lexer.specs.declared.token.Token as class
use Rattle.ls_lexer.specs.Lexemes.{lexemes}
use Rattle.ls_lexer.specs.Places.{InOrder}
use Rattle.ls_lexer.specs.Tokens.{tokens_of}
use Rattle.ls_java_output.specs.Lines.{ends_before, ends_in}
use Rattle.ls_java_output.specs.declared.place.Place.{Place}

abbrev pub span_of : Place → Span
span_of p = record { start = p.start; end = p.end }

abbrev pub spans_of : List class.Token → List Span
spans_of words = map (λ w. w.span) words

-- The words of a text, which are its tokens, are those at these places, each once and in their order. Behind these are
-- such as stand on lines behind the last one of the file.
pub record AreWords (java text : List ℕ) (places : List Place) : Type 0 where
  pub words : List class.Token
  pub read : tokens_of text ≡ Some (lexemes words)
  pub spans : InOrder text 0 words (length text)
  pub placed : map span_of places ≡ spans_of (take (length places) words)
  pub added : All (λ w. ends_in java < ends_before w.span.start text) (drop (length places) words)

-- a word comes from a token of the file, at its bytes; it is said to be spelled as that token exactly if it is
pub record ComesFrom (java : List ℕ) (tokens : List Token) (text : List ℕ) (p : Place) : Type 0 where
  pub token : Token
  pub is : slice_get tokens p.token ≡ Some token
  pub at : p.at ≡ token.start
  pub until : p.until ≡ token.end
  pub own : (p.own ≡ true) ↔ (piece text p.start p.end ≡ piece java p.at p.until)

-- the line in the file of the token of a word, from 1
abbrev pub line_at : List ℕ → Place → ℕ
line_at java p = 1 + ends_before p.at java

-- the line in the file of the next word that is spelled as its token, from 1, or 0
abbrev pub next_own : List ℕ → List Place → ℕ
next_own java [] = 0
next_own java (p ∷ ps) = if p.own then line_at java p else next_own java ps

-- A word goes to the line of its token exactly if it is spelled as that token, or if the next word that is spelled as
-- its token comes from that line or from a later one.
abbrev pub ComeFrom : List ℕ → List Token → List ℕ → List Place → Type 0
ComeFrom java tokens text [] = Unit {0}
ComeFrom java tokens text (p ∷ ps) =
    ComesFrom java tokens text p × (p.goes ≡ (p.own || nat_le (line_at java p) (next_own java ps)))
    × ComeFrom java tokens text ps
