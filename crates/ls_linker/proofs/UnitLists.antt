-- Lists by place, and the rows that count at a place.
use Rattle.std.proofs.Common.{◌≡◌, ℕ, zero, suc, ◌+◌, ◌<◌, ◌≤◌, List, [], ◌∷◌, ◌++◌, length, map, reverse, Option, Some}
use Rattle.std.proofs.Common.{None, slice_get, nat_lt, nat_le, ◌&&◌, Bool, true, false, refl, ap, ◌∙◌, arith}
use Rattle.std.proofs.Common.{if◌then◌else◌}
use mathlib.Core.List.{reverse_aux, reverse_aux-eq}
use Rattle.std.proofs.lemmas.Bool.{le-leb, lt-leb, lt-ltb, le-ltb}
use Rattle.ls_code.specs.Throws.{find_row}
use Rattle.ls_code.specs.declared.code.HandlerRow.{HandlerRow}

-- an item of the second of two lists
pub behind : {A : Type 0} → (a b : List A) (c : ℕ) → slice_get (a ++ b) (length a + c) ≡ slice_get b c
behind [] b c = let e : 0 + c ≡ c = omega arith in ap (slice_get b) e
behind (x ∷ a) b c = let e : length (x ∷ a) + c ≡ suc (length a + c) = omega arith in ap (slice_get (x ∷ (a ++ b))) e ∙
    behind a b c

-- an item of the first of two lists
pub in_front : {A : Type 0} → (a b : List A) (c : ℕ) (i : A) → slice_get a c ≡ Some i → slice_get (a ++ b) c ≡ Some i
in_front [] b c i e = cc
in_front (x ∷ a) b zero i e = e
in_front (x ∷ a) b (suc c) i e = in_front a b c i e

-- an item of a mapped list
pub get_map : {A B : Type 0} →
    (f : A → B) (xs : List A) (n : ℕ) (x : A) →
    slice_get xs n ≡ Some x →
    slice_get (map f xs) n ≡ Some (f x)
get_map f [] n x h = cc
get_map f (y ∷ xs) zero x h = let e : y ≡ x = cc in ap (λ z. Some (f z)) e
get_map f (y ∷ xs) (suc n) x h = get_map f xs n x h

-- words on operands, one after another
abbrev pub laid : List ℕ → List ℕ → List ℕ
laid [] operands = operands
laid (w ∷ ws) operands = laid ws (w ∷ operands)

laid_aux : (ws operands : List ℕ) → laid ws operands ≡ reverse_aux ws operands
laid_aux [] operands = refl
laid_aux (w ∷ ws) operands = laid_aux ws (w ∷ operands)

-- words that were pushed one after another
pub laid_is : (ws operands : List ℕ) → laid ws operands ≡ reverse ws ++ operands
laid_is ws operands = laid_aux ws operands ∙ reverse_aux-eq ws operands

-- the operands below words that were pushed
pub laid_get : (ws operands : List ℕ) (n : ℕ) → slice_get (laid ws operands) (length ws + n) ≡ slice_get operands n
laid_get [] operands n = let e : 0 + n ≡ n = omega arith in ap (slice_get operands) e
laid_get (w ∷ ws) operands n =
    let e : length (w ∷ ws) + n ≡ length ws + suc n = omega arith in ap (slice_get (laid ws (w ∷ operands))) e ∙
    laid_get ws (w ∷ operands) (suc n)

pub laid_length : (ws operands : List ℕ) → length (laid ws operands) ≡ length ws + length operands
laid_length [] operands = omega arith
laid_length (w ∷ ws) operands = let e = laid_length ws (w ∷ operands) in omega arith

-- rows that end by a place, and rows that begin at a place or after it
abbrev pub RowsEnd : ℕ → List HandlerRow → Type 0
RowsEnd p [] = Unit {0}
RowsEnd p (r ∷ rs) = (r.to ≤ p) × RowsEnd p rs

-- rows that begin at a place or after it
abbrev pub RowsFrom : ℕ → List HandlerRow → Type 0
RowsFrom p [] = Unit {0}
RowsFrom p (r ∷ rs) = (p ≤ r.from) × RowsFrom p rs

-- the rows of two lists end by a place
pub end_append : (n : ℕ) (a b : List HandlerRow) → RowsEnd n a → RowsEnd n b → RowsEnd n (a ++ b)
end_append n [] b x y = y
end_append n (r ∷ a) b x y = (x.0, end_append n a b x.1 y)

-- rows that end by a place end by any later place
pub end_more : (n n' : ℕ) (a : List HandlerRow) → n ≤ n' → RowsEnd n a → RowsEnd n' a
end_more n n' [] le h = tt
end_more n n' (r ∷ a) le h = (omega (arith, h.0), end_more n n' a le h.1)

-- the rows of two lists begin at a place or after it
pub from_append : (n : ℕ) (a b : List HandlerRow) → RowsFrom n a → RowsFrom n b → RowsFrom n (a ++ b)
from_append n [] b x y = y
from_append n (r ∷ a) b x y = (x.0, from_append n a b x.1 y)

-- rows that begin at a place or after it begin after any earlier place
pub from_less : (n n' : ℕ) (a : List HandlerRow) → n ≤ n' → RowsFrom n' a → RowsFrom n a
from_less n n' [] le h = tt
from_less n n' (r ∷ a) le h = (omega (arith, h.0), from_less n n' a le h.1)

abbrev picked : Bool → Bool → HandlerRow → Option HandlerRow → Option HandlerRow
picked a b r o = if a && b then Some r else o

not_first : (a : Bool) (r : HandlerRow) (o : Option HandlerRow) → picked a false r o ≡ o
not_first true r o = refl
not_first false r o = refl

-- a row that ends by a place doesn't hold it; nor does a row that begins after it
past_row : (r : HandlerRow) (rs : List HandlerRow) (d : ℕ) → r.to ≤ d → find_row (r ∷ rs) d ≡ find_row rs d
past_row r rs d le = ap (λ b. picked (nat_le r.from d) b r (find_row rs d)) (le-ltb d r.to le) ∙
    not_first (nat_le r.from d) r (find_row rs d)

before_row : (r : HandlerRow) (rs : List HandlerRow) (d : ℕ) → d < r.from → find_row (r ∷ rs) d ≡ find_row rs d
before_row r rs d lt = ap (λ b. picked b (nat_lt d r.to) r (find_row rs d)) (lt-leb r.from d lt)

-- if the rows of the first list end by a place, the second list decides
pub rows_behind : (d : ℕ) (a b : List HandlerRow) → RowsEnd d a → find_row (a ++ b) d ≡ find_row b d
rows_behind d [] b h = refl
rows_behind d (r ∷ a) b h = past_row r (a ++ b) d h.0 ∙ rows_behind d a b h.1

no_row : (t d : ℕ) (rs : List HandlerRow) → d < t → RowsFrom t rs → find_row rs d ≡ None
no_row t d [] lt h = refl
no_row t d (r ∷ rs) lt h = before_row r rs d (omega (arith, h.0)) ∙ no_row t d rs lt h.1

-- if the rows of the second list begin after a place, the first list decides
pub rows_front : (t d : ℕ) (a b : List HandlerRow) → d < t → RowsFrom t b → find_row (a ++ b) d ≡ find_row a d
rows_front t d [] b lt h = no_row t d b lt h
rows_front t d (r ∷ a) b lt h = ap (λ o. picked (nat_le r.from d) (nat_lt d r.to) r o) (rows_front t d a b lt h)

-- the row that holds a place
pub this_row : (r : HandlerRow) (rs : List HandlerRow) (d : ℕ) → r.from ≤ d → d < r.to → find_row (r ∷ rs) d ≡ Some r
this_row r rs d le lt =
    ap (λ b. picked b (nat_lt d r.to) r (find_row rs d)) (le-leb r.from d le) ∙
    ap (λ b. picked true b r (find_row rs d)) (lt-ltb d r.to lt)
