-- The gaps and the tokens of a text are the text.
use Rattle.std.proofs.Common.{◌≡◌, ℕ, ◌+◌, ◌-◌, ◌≤◌, List, [], ◌∷◌, ◌++◌, length, take, drop, refl, ap, sym, ◌∙◌, arith}
use Rattle.std.proofs.Math.Seq.{drop-length}
use Rattle.std.proofs.lemmas.List.{take-append-drop, drop-drop}
use Rattle.ls_java_lexer.specs.declared.token.Token.{Token}
use Rattle.ls_java_lexer.specs.Order.{AreInOrder, piece, pieces}

-- a piece and what comes after it
cut : (text : List ℕ) (from upto : ℕ) → from ≤ upto → piece text from upto ++ drop upto text ≡ drop from text
cut text from upto le =
    let there : from + (upto - from) ≡ upto = omega arith in
    let after : drop (upto - from) (drop from text) ≡ drop upto text =
    drop-drop (upto - from) from text ∙ ap (λ (n : ℕ). drop n text) there in
    ap (λ (bs : List ℕ). piece text from upto ++ bs) (sym after) ∙ take-append-drop (upto - from) (drop from text)

-- the pieces of tokens that begin at a place are the rest of the text
pieces_from : (text : List ℕ) (from : ℕ) (ts : List Token) →
    AreInOrder from ts (length text) →
    pieces text ts ≡ drop from text
pieces_from text from [] order = sym (ap (λ (n : ℕ). drop n text) order ∙ drop-length text)
pieces_from text from (t ∷ ts) (gap, low, high, order) =
    let less : t.gap ≤ t.start = omega (arith, gap, low) in
    let rest : pieces text ts ≡ drop t.end text = pieces_from text t.end ts order in
    let token : piece text t.start t.end ++ pieces text ts ≡ drop t.start text =
    ap (λ (bs : List ℕ). piece text t.start t.end ++ bs) rest ∙ cut text t.start t.end high in
    ap (λ (bs : List ℕ). piece text t.gap t.start ++ bs) token ∙ cut text t.gap t.start less
    ∙ ap (λ (n : ℕ). drop n text) gap

-- the pieces of a text are the text
pub pieces_are_texts : (text : List ℕ) (ts : List Token) → AreInOrder 0 ts (length text) → pieces text ts ≡ text
pieces_are_texts text ts order = pieces_from text 0 ts order
