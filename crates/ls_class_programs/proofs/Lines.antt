-- How long the pieces of a text are.
use Rattle.std.proofs.Common.{◌≡◌, ◌+◌, ℕ, Bool, true, false, cond, List, [], ◌∷◌, ap, arith, length, refl}
use Rattle.std.specs.List.{onto_first, slice_split}

-- all pieces, each with the mark after it
abbrev pub all_fed : List (List ℕ) → ℕ
all_fed [] = 0
all_fed (l ∷ ls) = length l + 1 + all_fed ls

onto_one : (b n : ℕ) (ls : List (List ℕ)) → all_fed ls ≡ n + 1 → all_fed (onto_first b ls) ≡ n + 2
onto_one b n [] h = absurd (omega (arith, h))
onto_one b n (l ∷ ls) h = omega (arith, h)

-- all pieces have the bytes of the text, and one more
pub split_fed : (p : ℕ → Bool) (bs : List ℕ) → all_fed (slice_split p bs) ≡ length bs + 1
split_fed p [] = refl
split_fed p (b ∷ bs) = go (p b) refl (split_fed p bs)
  where
    go : (t : Bool) → p b ≡ t → all_fed (slice_split p bs) ≡ length bs + 1 →
        all_fed (slice_split p (b ∷ bs)) ≡ length (b ∷ bs) + 1
    go true g more =
        let is : all_fed (slice_split p (b ∷ bs)) ≡ all_fed ([] ∷ slice_split p bs) =
        ap (λ t. all_fed (cond t ([] ∷ slice_split p bs) (onto_first b (slice_split p bs)))) g in
        omega (arith, is, more)
    go false g more =
        let is : all_fed (slice_split p (b ∷ bs)) ≡ all_fed (onto_first b (slice_split p bs)) =
        ap (λ t. all_fed (cond t ([] ∷ slice_split p bs) (onto_first b (slice_split p bs)))) g in
        let one = onto_one b (length bs) (slice_split p bs) more in
        omega (arith, is, one)
