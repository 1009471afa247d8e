-- Tokens and the gaps before them, in the order of a text.
use Rattle.std.specs.Prelude.{◌≡◌, ℕ, ◌-◌, ◌≤◌, List, [], ◌∷◌, ◌++◌, length, take, drop}
use Rattle.ls_java_lexer.specs.declared.token.Token.{Token}

-- The gaps and the tokens follow one another from one byte up to another, and leave out nothing. So each byte between
-- them is in exactly one gap or token.
abbrev pub AreInOrder : ℕ → List Token → ℕ → Type 0
AreInOrder from [] upto = from ≡ upto
AreInOrder from (t ∷ ts) upto = (t.gap ≡ from) × (from ≤ t.start) × (t.start ≤ t.end) × AreInOrder t.end ts upto

-- the bytes from one place of a text up to another
abbrev pub piece : List ℕ → ℕ → ℕ → List ℕ
piece text from upto = take (upto - from) (drop from text)

-- each gap of a text, and the token after it
abbrev pub pieces : List ℕ → List Token → List ℕ
pieces text [] = []
pieces text (t ∷ ts) = piece text t.gap t.start ++ (piece text t.start t.end ++ pieces text ts)

-- The gaps and the tokens of a text, one after another, are the text.
abbrev pub PiecesAreTexts : Type 0
PiecesAreTexts = (text : List ℕ) (ts : List Token) → AreInOrder 0 ts (length text) → pieces text ts ≡ text
