-- Words by their bytes, and where the names of files begin.
use Rattle.std.proofs.Common.{◌≡◌, ◌∙◌, ◌+◌, ℕ, zero, suc, Bool, true, false, List, [], ◌∷◌, length, map, take, drop}
use Rattle.std.proofs.Common.{◌<◌, arith, cond, refl, sym, ap, Some, None}
use Rattle.std.specs.List.{position_or_len}
use Rattle.ls_files.specs.Names.{Word, begins_names, file_names_in}

-- the first place is the same, by what the items are mapped to
pub place_of_mapped : {X Y : Type 0} (f : X → Y) (p : Y → Bool) (xs : List X) →
    position_or_len p (map f xs) ≡ position_or_len (λ x. p (f x)) xs
place_of_mapped f p [] = refl
place_of_mapped f p (x ∷ xs) = go (p (f x)) refl (place_of_mapped f p xs)
  where
    go : (b : Bool) →
        p (f x) ≡ b →
        position_or_len p (map f xs) ≡ position_or_len (λ y. p (f y)) xs →
        position_or_len p (map f (x ∷ xs)) ≡ position_or_len (λ y. p (f y)) (x ∷ xs)
    go true e next = rw e refl
    go false e next = rw e (ap (λ n. 1 + n) next)

pub take_mapped : {X Y : Type 0} (f : X → Y) (n : ℕ) (xs : List X) → map f (take n xs) ≡ take n (map f xs)
take_mapped f zero xs = refl
take_mapped f (suc n) [] = refl
take_mapped f (suc n) (x ∷ xs) = ap (λ l. f x ∷ l) (take_mapped f n xs)

pub drop_mapped : {X Y : Type 0} (f : X → Y) (n : ℕ) (xs : List X) → map f (drop n xs) ≡ drop n (map f xs)
drop_mapped f zero xs = refl
drop_mapped f (suc n) [] = refl
drop_mapped f (suc n) (x ∷ xs) = drop_mapped f n xs

-- the names after the word that begins them, and none where it isn't there
pub names_after : (ws : List Word) →
    position_or_len begins_names ws < length ws →
    file_names_in ws ≡ Some (drop (position_or_len begins_names ws + 1) ws)
names_after [] e = absurd (omega arith)
names_after (w ∷ ws) e = go (begins_names w) refl (names_after ws)
  where
    go : (t : Bool) →
        begins_names w ≡ t →
        (position_or_len begins_names ws < length ws →
        file_names_in ws ≡ Some (drop (position_or_len begins_names ws + 1) ws))
        → file_names_in (w ∷ ws) ≡ Some (drop (position_or_len begins_names (w ∷ ws) + 1) (w ∷ ws))
    go true g next =
        let none : position_or_len begins_names (w ∷ ws) ≡ 0 = rw g refl in
        ap (λ t. cond t (Some ws) (file_names_in ws)) g ∙ ap (λ n. Some (drop (n + 1) (w ∷ ws))) (sym none)
    go false g next =
        let k : ℕ = position_or_len begins_names ws in
        let more : position_or_len begins_names (w ∷ ws) ≡ 1 + k = rw g refl in
        let n : suc (k + 1) ≡ position_or_len begins_names (w ∷ ws) + 1 = omega arith in
        ap (λ t. cond t (Some ws) (file_names_in ws)) g ∙ next (omega arith) ∙ ap (λ m. Some (drop m (w ∷ ws))) n

pub no_names : (ws : List Word) → position_or_len begins_names ws ≡ length ws → file_names_in ws ≡ None
no_names [] e = refl
no_names (w ∷ ws) e = go (begins_names w) refl (no_names ws)
  where
    go : (t : Bool) →
        begins_names w ≡ t →
        (position_or_len begins_names ws ≡ length ws → file_names_in ws ≡ None) →
        file_names_in (w ∷ ws) ≡ None
    go true g next = let none : position_or_len begins_names (w ∷ ws) ≡ 0 = rw g refl in absurd (omega arith)
    go false g next =
        let more : position_or_len begins_names (w ∷ ws) ≡ 1 + position_or_len begins_names ws = rw g refl in
        ap (λ t. cond t (Some ws) (file_names_in ws)) g ∙ next (omega arith)
