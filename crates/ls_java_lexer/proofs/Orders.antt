-- One more token at the end of tokens in order.
use Rattle.std.proofs.Common.{◌≡◌, ℕ, ◌≤◌, List, [], ◌∷◌, ◌++◌, refl, subst, sym}
use Rattle.ls_java_lexer.specs.declared.token.Token.{Token}
use Rattle.ls_java_lexer.specs.Order.{AreInOrder}

-- tokens in order and one that follows them are in order
pub order_more : (from : ℕ) (ts : List Token) (mid : ℕ) (t : Token) →
    AreInOrder from ts mid →
    t.gap ≡ mid →
    mid ≤ t.start →
    t.start ≤ t.end →
    AreInOrder from (ts ++ t ∷ []) t.end
order_more from [] mid t order gap start size =
    let F : ℕ → Type 0 = λ n. (t.gap ≡ n) × (n ≤ t.start) × (t.start ≤ t.end) × (t.end ≡ t.end) in
    subst F (sym order) (gap, start, size, refl)
order_more from (u ∷ ts) mid t (first, low, high, order) gap start size =
    (first, low, high, order_more u.end ts mid t order gap start size)

-- tokens in order with one more at the end, up to the end of that one
pub order_last : (from : ℕ) (ts all : List Token) (mid end : ℕ) (t : Token) →
    all ≡ ts ++ t ∷ [] →
    AreInOrder from ts mid →
    t.gap ≡ mid →
    mid ≤ t.start →
    t.start ≤ t.end →
    t.end ≡ end →
    AreInOrder from all end
order_last from ts all mid end t whole order gap start size last =
    let P : List Token → Type 0 = λ us. AreInOrder from us end in
    let Q : ℕ → Type 0 = λ n. AreInOrder from (ts ++ t ∷ []) n in
    subst P (sym whole) (subst Q last (order_more from ts mid t order gap start size))
