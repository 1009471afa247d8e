-- A text that is cut at each `#`.
use Rattle.std.proofs.Common.{◌≡◌, ◌∙◌, ◌==◌, ◌<◌, ℕ, Bool, true, false, cond, List, [], ◌∷◌, ◌++◌, Option, Some, None}
use Rattle.std.proofs.Common.{ap, arith, length, refl, sym}
use Rattle.std.specs.Prelude.{option_map}
use Rattle.ls_report.specs.Cut.{cut}
use Rattle.ls_families.specs.Texts.{number_of, numbered}

some_is : {X : Type 0} {x y : X} → Some x ≡ Some y → x ≡ y
some_is k = cc

none_is : {X : Type 0} {x : X} → None ≡ Some x → ⊥
none_is k = cc

abbrev Two : Type 0
Two = List ℕ × List ℕ

-- the text b ∷ bs is cut so, by whether b is the mark
abbrev step : ℕ → List ℕ → Bool → Option Two → Option Two
step b bs t o = cond t (Some ([], bs)) (option_map (λ (p : Two). (b ∷ p.0, p.1)) o)

-- a text that lacks the mark
pub uncut : (i : ℕ) (text : List ℕ) → cut 35 text ≡ None → numbered i text ≡ text
uncut i [] e = refl
uncut i (b ∷ bs) e = go (b == 35) refl (cut 35 bs) refl (uncut i bs)
  where
    go : (t : Bool) → (b == 35) ≡ t → (o : Option Two) → cut 35 bs ≡ o → (cut 35 bs ≡ None → numbered i bs ≡ bs) →
        numbered i (b ∷ bs) ≡ b ∷ bs
    go true g o is more = absurd (none_is (sym e ∙ ap (λ t. step b bs t (cut 35 bs)) g))
    go false g (Some p) is more =
        absurd (none_is (sym e ∙ ap (λ t. step b bs t (cut 35 bs)) g ∙ ap (step b bs false) is))
    go false g None is more =
        ap (λ t. cond t (number_of i) (b ∷ []) ++ numbered i bs) g ∙ ap (λ l. b ∷ l) (more is)

-- what stands before the first mark, its number, and what stands after it
abbrev pub IsCutSo : ℕ → List ℕ → List ℕ → List ℕ → Type 0
IsCutSo i text front rest =
    (numbered i text ≡ front ++ (number_of i ++ numbered i rest)) × (length rest < length text)

pub first_cut : (i : ℕ) (text front rest : List ℕ) → cut 35 text ≡ Some (front, rest) → IsCutSo i text front rest
first_cut i [] front rest e = absurd (none_is e)
first_cut i (b ∷ bs) front rest e = go (b == 35) refl (cut 35 bs) refl (first_cut i bs)
  where
    go : (t : Bool) → (b == 35) ≡ t → (o : Option Two) → cut 35 bs ≡ o →
        ((f r : List ℕ) → cut 35 bs ≡ Some (f, r) → IsCutSo i bs f r) → IsCutSo i (b ∷ bs) front rest
    go true g o is more =
        let two = some_is (sym (ap (λ t. step b bs t (cut 35 bs)) g) ∙ e) in
        let fronts : [] ≡ front = ap (λ (p : Two). p.0) two in
        let rests : bs ≡ rest = ap (λ (p : Two). p.1) two in (
          ap (λ t. cond t (number_of i) (b ∷ []) ++ numbered i bs) g ∙ ap (λ l. number_of i ++ numbered i l) rests ∙
              ap (λ l. l ++ (number_of i ++ numbered i rest)) fronts,
          omega (arith, ap length rests),
        )
    go false g None is more =
        absurd (none_is (sym (ap (λ t. step b bs t (cut 35 bs)) g ∙ ap (step b bs false) is) ∙ e))
    go false g (Some p) is more =
        let two = some_is (sym (ap (λ t. step b bs t (cut 35 bs)) g ∙ ap (step b bs false) is) ∙ e) in
        let fronts : b ∷ p.0 ≡ front = ap (λ (q : Two). q.0) two in
        let rests : p.1 ≡ rest = ap (λ (q : Two). q.1) two in
        let then = more p.0 p.1 is in (
          ap (λ t. cond t (number_of i) (b ∷ []) ++ numbered i bs) g ∙ ap (λ l. b ∷ l) then.0 ∙
              ap (λ l. b ∷ (p.0 ++ (number_of i ++ numbered i l))) rests ∙
              ap (λ l. l ++ (number_of i ++ numbered i rest)) fronts,
          omega (arith, then.1, ap length rests),
        )
