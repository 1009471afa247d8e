-- The parts of lines, one line after the other.
use Rattle.std.proofs.Common.{◌≡◌, ◌∙◌, ◌-◌, ℕ, true, false, cond, List, [], ◌∷◌, ◌++◌, length, map, take}
use Rattle.std.proofs.Common.{refl, sym, ap, append_assoc, append-nil, arith, length-append, Option, Some, None}
use Rattle.std.specs.Prelude.{unwrap_or}
use Rattle.ls_items.specs.Cutting.{IsOpen, open_with}
use Rattle.ls_items.specs.Parts.{fed, groups_of, grown, into_group, is_mark, part_of}

one_more : (had : Option (List ℕ)) (l : List ℕ) (gs : List (List (List ℕ))) →
    open_with had (into_group l gs) ≡ open_with (Some (grown had l)) gs
one_more None l [] = ap (λ x. x ∷ []) (append-nil l)
one_more None l (g ∷ gs) = refl
one_more (Some text) l [] = ap (λ x. (text ++ x) ∷ []) (append-nil (10 ∷ l))
one_more (Some text) l (g ∷ gs) = ap (λ x. x ∷ map part_of gs) (sym (append_assoc text (10 ∷ l) (fed g)))

one_less : (had : Option (List ℕ)) (gs : List (List (List ℕ))) →
    open_with had ([] ∷ gs) ≡ unwrap_or had [] ∷ map part_of gs
one_less None gs = refl
one_less (Some text) gs = ap (λ x. x ∷ map part_of gs) (append-nil text)

pub at_mark : (done : List (List ℕ)) (had : Option (List ℕ)) (l : List ℕ) (ls : List (List ℕ)) (all : List (List ℕ)) →
    is_mark l ≡ true
    → done ++ open_with had (groups_of (l ∷ ls)) ≡ all → (done ++ unwrap_or had [] ∷ []) ++
    open_with None (groups_of ls) ≡ all
at_mark done had l ls all e h =
    append_assoc done (unwrap_or had [] ∷ []) (map part_of (groups_of ls)) ∙
    ap (λ x. done ++ x) (sym (one_less had (groups_of ls)))
    ∙ ap (λ b. done ++ open_with had (cond b ([] ∷ groups_of ls) (into_group l (groups_of ls)))) (sym e) ∙ h

pub at_line : (done : List (List ℕ)) (had : Option (List ℕ)) (l : List ℕ) (ls : List (List ℕ)) (all : List (List ℕ)) →
    is_mark l ≡ false
    → done ++ open_with had (groups_of (l ∷ ls)) ≡ all → done ++ open_with (Some (grown had l)) (groups_of ls) ≡ all
at_line done had l ls all e h =
    ap (λ x. done ++ x) (sym (one_more had l (groups_of ls)))
    ∙ ap (λ b. done ++ open_with had (cond b ([] ∷ groups_of ls) (into_group l (groups_of ls)))) (sym e) ∙ h

-- at the end the open part is the last
pub at_end : (done : List (List ℕ)) (had : Option (List ℕ)) (all : List (List ℕ)) →
    done ++ open_with had (groups_of []) ≡ all →
    done ++ unwrap_or had [] ∷ [] ≡ all
at_end done had all h = ap (λ x. done ++ x) (sym (one_less had [])) ∙ h

-- ---- where the open part stands

take_front : (xs ys : List ℕ) → take (length xs) (xs ++ ys) ≡ xs
take_front [] ys = refl
take_front (x ∷ xs) ys = ap (λ l. x ∷ l) (take_front xs ys)

-- the lines so far, as text
pub so_far : (from : List ℕ) (len : ℕ) (rest : List ℕ) (had : Option (List ℕ)) →
    IsOpen from len rest had →
    take len from ≡ unwrap_or had []
so_far from len rest None h = ap (λ n. take n from) h.1
so_far from len rest (Some t) h = ap (λ n. take n from) h.1 ∙ ap (take (length t)) h.0 ∙ take_front t (10 ∷ rest)

-- one line more
pub line_after : (from : List ℕ) (len : ℕ) (rest : List ℕ) (had : Option (List ℕ)) (line after : List ℕ) →
    IsOpen from len rest had →
    rest ≡ line ++ 10 ∷ after →
    IsOpen from (length from - length after - 1) after (Some (grown had line))
line_after from len rest None line after h e =
    let is : from ≡ line ++ 10 ∷ after = h.0 ∙ e in
    (is, omega (arith, ap length is, length-append line (10 ∷ after)))
line_after from len rest (Some t) line after h e =
    let text = t ++ 10 ∷ line in
    let is : from ≡ text ++ 10 ∷ after = h.0 ∙ ap (λ r. t ++ 10 ∷ r) e ∙
    sym (append_assoc t (10 ∷ line) (10 ∷ after)) in
    (is, omega (arith, ap length is, length-append text (10 ∷ after)))

-- the part with the last line
pub whole : (from : List ℕ) (len : ℕ) (rest : List ℕ) (had : Option (List ℕ)) →
    IsOpen from len rest had →
    from ≡ grown had rest
whole from len rest None h = h.0
whole from len rest (Some t) h = h.0
