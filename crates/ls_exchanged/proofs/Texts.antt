-- Texts with two texts exchanged, and the names of calls.
use Rattle.std.proofs.Common.{◌≡◌, ◌==◌, ◌+◌, ◌/◌, ◌%◌, ℕ, zero, suc, Bool, true, false, cond, not}
use Rattle.std.proofs.Common.{[], ◌∷◌, ◌++◌, length, length-append, get_or, refl, sym, ap, ap₂, ◌∙◌, arith}
use Rattle.std.specs.Prelude.{nat_lt}
use Rattle.std.specs.Cmp.{both_ways}
use Rattle.std.specs.Fmt.{decimal, digit_glyph, digits, digits_onto}
use Rattle.std.specs.Str.{bytes_eq}
use Rattle.std.proofs.lemmas.Bool.{and_from, ne_eqb}
use Rattle.std.proofs.lemmas.Slice.Eq.{bytes_eq-Decides}
use Rattle.ls_report.specs.Events.{Text}
use Rattle.ls_report.specs.Lines.{call_text}
use Rattle.ls_report.proofs.CutLemmas.{Without, lacks, without}

-- ---- tests of texts

-- texts that pass the test are the same
pub is_same : (x y : Text) → bytes_eq x y ≡ true → x ≡ y
is_same x y e = (bytes_eq-Decides x y).0 e

-- the same texts pass the test
pub same_is : (x y : Text) → x ≡ y → bytes_eq x y ≡ true
same_is x y e = (bytes_eq-Decides x y).1 e

-- ---- two texts exchanged

module _ (a b : Text) where
  -- a text, with these two exchanged
  abbrev pub swapped : Text → Text
  swapped x = cond (bytes_eq x a) b (cond (bytes_eq x b) a x)

  -- the first becomes the second
  pub swapped_first : (x : Text) → x ≡ a → swapped x ≡ b
  swapped_first x e = ap (λ z. cond z b (cond (bytes_eq x b) a x)) (same_is x a e)

  -- the second becomes the first
  pub swapped_second : (x : Text) → x ≡ b → swapped x ≡ a
  swapped_second x e = by_first (bytes_eq x a) refl
    where
      by_first : (z : Bool) → bytes_eq x a ≡ z → cond z b (cond (bytes_eq x b) a x) ≡ a
      by_first true first = sym e ∙ is_same x a first
      by_first false first = ap (λ z. cond z a x) (same_is x b e)

  -- each other text stays
  pub swapped_none : (x : Text) → (x ≡ a → ⊥) → (x ≡ b → ⊥) → swapped x ≡ x
  swapped_none x m n = by_both (bytes_eq x a) (bytes_eq x b) refl refl
    where
      by_both : (y z : Bool) → bytes_eq x a ≡ y → bytes_eq x b ≡ z → cond y b (cond z a x) ≡ x
      by_both true z first second = absurd (m (is_same x a first))
      by_both false true first second = absurd (n (is_same x b second))
      by_both false false first second = refl

  -- exchanged twice, a text is itself
  pub swapped_twice : (x : Text) → swapped (swapped x) ≡ x
  swapped_twice x = by_both (bytes_eq x a) (bytes_eq x b) refl refl
    where
      by_both : (y z : Bool) → bytes_eq x a ≡ y → bytes_eq x b ≡ z → swapped (cond y b (cond z a x)) ≡ x
      by_both true z first second = swapped_second b refl ∙ sym (is_same x a first)
      by_both false true first second = swapped_first a refl ∙ sym (is_same x b second)
      by_both false false first second =
          ap (λ y. cond y b (cond (bytes_eq x b) a x)) first ∙ ap (λ z. cond z a x) second

  swapped_apart : (x y : Text) → swapped x ≡ swapped y → x ≡ y
  swapped_apart x y e = sym (swapped_twice x) ∙ ap swapped e ∙ swapped_twice y

  -- a test of two texts stays
  pub swapped_test : (x y : Text) → bytes_eq (swapped x) (swapped y) ≡ bytes_eq x y
  swapped_test x y = both_ways (bytes_eq (swapped x) (swapped y)) (bytes_eq x y)
      (λ e. same_is x y (swapped_apart x y (is_same (swapped x) (swapped y) e)))
      (λ e. same_is (swapped x) (swapped y) (ap swapped (is_same x y e)))

-- ---- numbers have no point

glyph_apart : (d : ℕ) → (digit_glyph false d == 46) ≡ false
glyph_apart d = by_digit (nat_lt d 10)
  where
    by_digit : (b : Bool) → (cond b (48 + d) (87 + d) == 46) ≡ false
    by_digit true = ne_eqb (48 + d) 46 (λ e. omega arith)
    by_digit false = ne_eqb (87 + d) 46 (λ e. omega arith)

lacks_more : (n : ℕ) (ds : Text) → lacks 46 ds ≡ true → lacks 46 (digit_glyph false (n % 10) ∷ ds) ≡ true
lacks_more n ds h = and_from (not (digit_glyph false (n % 10) == 46)) (lacks 46 ds)
    (ap not (glyph_apart (n % 10))) h

lacks_either : (b : Bool) (xs ys : Text) → lacks 46 xs ≡ true → lacks 46 ys ≡ true → lacks 46 (cond b xs ys) ≡ true
lacks_either true xs ys h k = h
lacks_either false xs ys h k = k

lacks_onto : (k n : ℕ) (ds : Text) → lacks 46 ds ≡ true → lacks 46 (digits_onto k 10 false n ds) ≡ true
lacks_onto zero n ds h = h
lacks_onto (suc k) n ds h =
    lacks_either (n / 10 == 0) (digit_glyph false (n % 10) ∷ ds)
    (digits_onto k 10 false (n / 10) (digit_glyph false (n % 10) ∷ ds)) (lacks_more n ds h)
    (lacks_onto k (n / 10) (digit_glyph false (n % 10) ∷ ds) (lacks_more n ds h))

no_point : (n : ℕ) → Without 46 (decimal n)
unfolding digits
no_point n = without 46 (decimal n) (lacks_onto 64 n [] refl)

-- ---- a text is parted at its last point in one way

at_seam : (b : ℕ) (xs ys : Text) → get_or (xs ++ b ∷ ys) (length xs) 0 ≡ b
at_seam b [] ys = refl
at_seam b (x ∷ xs) ys = at_seam b xs ys

has_seam : (b : ℕ) (xs ys zs : Text) → Without b zs → zs ≡ xs ++ b ∷ ys → ⊥
has_seam b xs ys zs w e =
    w (length xs) (omega (arith, ap length e, length-append xs (b ∷ ys)))
    (ap (λ l. get_or l (length xs) 0) e ∙ at_seam b xs ys)

last_point : (b : ℕ) (xs ys ps qs : Text) →
    Without b ps →
    Without b qs →
    xs ++ b ∷ ps ≡ ys ++ b ∷ qs →
    (xs ≡ ys) × (ps ≡ qs)
last_point b [] [] ps qs u v e = (refl, cc)
last_point b [] (y ∷ ys) ps qs u v e = absurd (has_seam b ys qs ps u cc)
last_point b (x ∷ xs) [] ps qs u v e = absurd (has_seam b xs ps qs v cc)
last_point b (x ∷ xs) (y ∷ ys) ps qs u v e =
    let first : x ≡ y = cc in
    let p = last_point b xs ys ps qs u v cc in
    (ap₂ (λ c l. c ∷ l) first p.0, p.1)

-- ---- names of calls

-- The names of two calls whose threads have the exchanged names are one only if the calls have one name.
pub call_apart : (a b s t : Text) (m n : ℕ) →
    call_text (swapped a b s) m ≡ call_text (swapped a b t) n →
    call_text s m ≡ call_text t n
call_apart a b s t m n e =
    let p = last_point 46 (swapped a b s) (swapped a b t) (decimal m) (decimal n) (no_point m) (no_point n) e in
    ap₂ (λ x ds. x ++ 46 ∷ ds) (swapped_apart a b s t p.0) p.1

-- the name of a call isn't empty
pub call_some : (t : Text) (n : ℕ) → [] ≡ call_text t n → ⊥
call_some [] n e = cc
call_some (c ∷ cs) n e = cc
