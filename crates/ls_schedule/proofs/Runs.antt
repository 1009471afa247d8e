-- The runs of a list of steps, one after the other.
use Rattle.std.proofs.Common.{◌≡◌, ◌∙◌, ◌+◌, ◌==◌, ◌<◌, ℕ, suc, Bool, true, false, cond, List, [], ◌∷◌, ◌++◌, length}
use Rattle.std.proofs.Common.{drop, get_or, refl, sym, ap, subst, eq-eqb, append_assoc, arith, eqb-true}
use Rattle.std.specs.List.{prefix_len}
use Rattle.std.proofs.lemmas.Bool.Decides.{nat_tests}
use Rattle.ls_schedule.specs.Printing.{item_text, more_text, runs_of, with_step}

-- how often t stands first
abbrev pub first_len : ℕ → List ℕ → ℕ
first_len t ts = prefix_len (λ x. x == t) ts

abbrev Splits : ℕ → List ℕ → Type 0
Splits t ts = runs_of (t ∷ ts) ≡ (t, suc (first_len t ts)) ∷ runs_of (drop (first_len t ts) ts)

same_run : (t u : ℕ) (us : List ℕ) → t ≡ u → (t == u) ≡ true → (u == t) ≡ true → Splits u us → Splits t (u ∷ us)
same_run t u us e a b h =
    let k : ℕ = first_len t us in
    let at_t : runs_of (u ∷ us) ≡ (u, suc k) ∷ runs_of (drop k us) = subst
    (λ x. runs_of (u ∷ us) ≡ (u, suc (first_len x us)) ∷ runs_of (drop (first_len x us) us)) (sym e) h in
    let len : first_len t (u ∷ us) ≡ suc k = ap (λ b. cond b (1 + k) 0) b ∙ omega arith in
    let more : suc k + 1 ≡ suc (suc k) = omega arith in
    ap (with_step t) at_t
    ∙ ap (λ b. cond b ((t, suc k + 1) ∷ runs_of (drop k us)) ((t, 1) ∷ (u, suc k) ∷ runs_of (drop k us))) a
    ∙ ap (λ n. (t, n) ∷ runs_of (drop k us)) more
    ∙ ap (λ n. (t, suc n) ∷ runs_of (drop n (u ∷ us))) (sym len)

other_run : (t u : ℕ) (us : List ℕ) → (t == u) ≡ false → (u == t) ≡ false → Splits u us → Splits t (u ∷ us)
other_run t u us a b h =
    let k : ℕ = first_len u us in
    let len : first_len t (u ∷ us) ≡ 0 = ap (λ b. cond b (1 + first_len t us) 0) b in
    ap (with_step t) h
    ∙ ap (λ b. cond b ((t, suc k + 1) ∷ runs_of (drop k us)) ((t, 1) ∷ (u, suc k) ∷ runs_of (drop k us))) a
    ∙ ap (λ rs. (t, 1) ∷ rs) (sym h)
    ∙ ap (λ n. (t, suc n) ∷ runs_of (drop n (u ∷ us))) (sym len)

false_back : (a b : ℕ) → (a == b) ≡ false → (b == a) ≡ false
false_back a b e = grind (arith, nat_tests)

pub first_run : (t : ℕ) (ts : List ℕ) → Splits t ts
first_run t [] = refl
first_run t (u ∷ us) = go (t == u) refl (first_run u us)
  where
    go : (b : Bool) → (t == u) ≡ b → Splits u us → Splits t (u ∷ us)
    go true e h = let is : t ≡ u = eqb-true _ _ e in same_run t u us is e (rw is (eq-eqb u u refl)) h
    go false e h = other_run t u us e (false_back t u e) h

-- the text after one more item
pub goes_on : (names : List (List ℕ)) (out new rest back : List ℕ) (t len : ℕ) (all : List ℕ)
    → 0 < length rest → t ≡ get_or rest 0 0 → len ≡ first_len t rest → back ≡ drop len rest
    → new ≡ (out ++ 32 ∷ []) ++ item_text names (t, len)
    → out ++ more_text names (runs_of rest) ≡ all
    → new ++ more_text names (runs_of back) ≡ all
goes_on names out new [] back t len all some head l b e h = absurd (omega arith)
goes_on names out new (u ∷ us) back t len all some head l b e h =
    let k : ℕ = first_len t us in
    let same : (u == t) ≡ true = rw head (eq-eqb u u refl) in
    let one : 1 + k ≡ suc k = omega arith in
    let n : len ≡ suc k = l ∙ ap (λ c. cond c (1 + k) 0) same ∙ one in
    let split : runs_of (u ∷ us) ≡ (t, len) ∷ runs_of back =
    rw (sym head, n, b ∙ ap (λ m. drop m (u ∷ us)) n) (first_run t us) in
    let item : List ℕ = item_text names (t, len) in
    let more : List ℕ = more_text names (runs_of back) in
    ap (λ x. x ++ more) e ∙ append_assoc (out ++ 32 ∷ []) item more ∙ append_assoc out (32 ∷ []) (item ++ more)
    ∙ (ap (λ rs. out ++ more_text names rs) (sym split) ∙ h)
