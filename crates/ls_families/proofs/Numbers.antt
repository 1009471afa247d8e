-- Choices and their numbers.
use Rattle.std.proofs.Common.{◌≡◌, ◌∙◌, ◌+◌, ◌-◌, ◌*◌, ◌/◌, ◌%◌, ◌^◌, ◌<◌, ◌≤◌, ℕ, zero, suc, List, [], ◌∷◌, ◌++◌}
use Rattle.std.proofs.Common.{reverse}
use Rattle.std.proofs.Common.{length, refl, sym, ap, subst, arith, inl, inr}
use Rattle.std.specs.Prelude.{All}
use Rattle.std.proofs.Math.Nat.{mod-eq_of_lt, mul-add-mod_self_right, mul-le-mul_right, pow-suc, pow-zero}
use Rattle.std.proofs.lemmas.List.{length_push, length-reverse, reverse-reverse, reverse-append, same_from_push}
use Rattle.std.proofs.lemmas.List.Elements.{All-nil, All-push}
use Rattle.std.proofs.lemmas.Nat.{div-mul-add, div_below, mod_below, div-add-mod'}
use Rattle.ls_families.specs.Belonging.{IsPlace}
use Rattle.ls_families.specs.Choices.{choices}
use Rattle.ls_families.proofs.Members.{In, in_cases}

pub choices_long : (m n r : ℕ) → length (choices m n r) ≡ n
choices_long m zero r = refl
choices_long m (suc n) r =
    let before = choices_long m n (r / m) in
    length_push (choices m n (r / m)) (r % m + 1) ∙ omega (arith, before)

pub choices_within : (m n r : ℕ) → 0 < m → All (IsPlace m) (choices m n r)
choices_within m zero r some = All-nil (IsPlace m)
choices_within m (suc n) r some =
    let below = mod_below r m some in
    All-push (IsPlace m) (choices m n (r / m)) (r % m + 1) (choices_within m n (r / m) some)
    (omega arith, omega (arith, below))

-- different numbers below the power make different choices
pub choices_differ : (m n r t : ℕ) →
    0 < m →
    r < m ^ n →
    t < m ^ n →
    choices m n r ≡ choices m n t →
    r ≡ t
choices_differ m zero r t some low high same = omega (arith, pow-zero m)
choices_differ m (suc n) r t some low high same =
    let parts = same_from_push (choices m n (r / m)) (choices m n (t / m)) (r % m + 1) (t % m + 1) same in
    let power = pow-suc m n in
    let rs : r / m < m ^ n = div_below r m (m ^ n) some (omega (arith, power, low)) in
    let ts : t / m < m ^ n = div_below t m (m ^ n) some (omega (arith, power, high)) in
    let first : r / m ≡ t / m = choices_differ m n (r / m) (t / m) some rs ts parts.0 in
    let last : r % m ≡ t % m = omega (arith, parts.1) in
    sym (div-add-mod' r m) ∙ ap (λ k. k * m + r % m) first ∙ ap (λ k. t / m * m + k) last ∙ div-add-mod' t m

-- ---- the number of choices

-- of choices that stand in the opposite order
abbrev number_of : ℕ → List ℕ → ℕ
number_of m [] = 0
number_of m (c ∷ cs) = number_of m cs * m + (c - 1)

number_below : (m : ℕ) (cs : List ℕ) → ((c : ℕ) → In cs c → IsPlace m c) → number_of m cs < m ^ length cs
number_below m [] each = omega (arith, pow-zero m)
number_below m (c ∷ cs) each =
    let choice = each c (inl refl) in
    let less = number_below m cs (λ d h. each d (inr h)) in
    let before : number_of m cs + 1 ≤ m ^ length cs = omega (arith, less) in
    let scaled = mul-le-mul_right m before in
    let power = pow-suc m (length cs) in
    omega (arith, choice.0, choice.1, scaled, power)

numbered : (m : ℕ) (cs : List ℕ) →
    ((c : ℕ) → In cs c → IsPlace m c) →
    choices m (length cs) (number_of m cs) ≡ reverse cs
numbered m [] each = refl
numbered m (c ∷ cs) each =
    let choice = each c (inl refl) in
    let small : c - 1 < m = omega (arith, choice.0, choice.1) in
    let first = div-mul-add (number_of m cs) m (c - 1) small in
    let last : (number_of m cs * m + (c - 1)) % m + 1 ≡ c =
    ap (λ k. k + 1) (mul-add-mod_self_right (number_of m cs) m (c - 1) ∙ mod-eq_of_lt small)
    ∙ omega (arith, choice.0) in
    ap (λ k. choices m (length cs) k ++ ((number_of m cs * m + (c - 1)) % m + 1) ∷ []) first ∙
    ap (λ k. choices m (length cs) (number_of m cs) ++ k ∷ []) last ∙
    ap (λ (l : List ℕ). l ++ c ∷ []) (numbered m cs (λ d h. each d (inr h))) ∙ sym (reverse-append (c ∷ []) cs)

in_reverse : (cs : List ℕ) (c : ℕ) → In (reverse cs) c → In cs c
in_reverse [] c h = absurd h
in_reverse (d ∷ cs) c h =
    elim (in_cases (reverse cs) (d ∷ []) c (subst (λ (l : List ℕ). In l c) (reverse-append (d ∷ []) cs) h)) [
      | inl g ↦ inr (in_reverse cs c g)
      | inr g ↦ elim g [ inl e ↦ inl e | inr e ↦ absurd e ]
    ]

-- each choices have a number
pub have_number : (m : ℕ) (cs : List ℕ) →
    ((c : ℕ) → In cs c → IsPlace m c) →
    (r : ℕ) × (r < m ^ length cs) × (choices m (length cs) r ≡ cs)
have_number m cs each =
    let back : (c : ℕ) → In (reverse cs) c → IsPlace m c = λ c h. each c (in_reverse cs c h) in
    let long = length-reverse cs in (
      number_of m (reverse cs),
      subst (λ k. number_of m (reverse cs) < m ^ k) long (number_below m (reverse cs) back),
      subst (λ k. choices m k (number_of m (reverse cs)) ≡ cs) long
          (numbered m (reverse cs) back ∙ reverse-reverse cs),
    )
