-- The folds of the steps that are left.
use Rattle.std.proofs.Common.{◌≡◌, ℕ, ◌+◌, ◌<◌, ◌≤◌, Bool, true, false, List, [], ◌∷◌, ◌++◌, length, drop, get_or, set}
use Rattle.std.proofs.Common.{refl, sym, ap, ◌∙◌, arith, zero, suc, Option, Some, None}
use Rattle.std.specs.Prelude.{flat_map, map, nat_le, if◌then◌else◌}
use Rattle.std.proofs.lemmas.List.{append_assoc, append-nil, drop_all, drop_more}
use Rattle.ls_checked.specs.CheckedProgram.{ThreadProgram}
use Rattle.ls_report.specs.Events.{Text}
use Rattle.ls_labels.specs.Names.{Names}
use Rattle.ls_trace.specs.Told.{Told, after_step}
use Rattle.ls_trace.specs.Folds.{Fold, counted, fold_line, folded, folded_on, step_told, steps_told, takes_in}
use Rattle.ls_trace.specs.Folds.{with_next}
use Rattle.ls_trace.specs.SeenFolder.{open_line, open_with, written_with}

-- ---- how many steps a thread has had

at_most_set : (xs : List ℕ) (i v most : ℕ) →
    v ≤ most →
    ((t : ℕ) → get_or xs t 0 ≤ most) →
    (t : ℕ) →
    get_or (set xs i v) t 0 ≤ most
at_most_set [] i v most le h t = h t
at_most_set (x ∷ xs) zero v most le h zero = le
at_most_set (x ∷ xs) zero v most le h (suc t) = h (suc t)
at_most_set (x ∷ xs) (suc i) v most le h zero = h zero
at_most_set (x ∷ xs) (suc i) v most le h (suc t) = at_most_set xs i v most le (λ u. h (suc u)) t

-- none has had more than have been made
pub counted_at_most : (counts counts' : List ℕ) (thread made : ℕ) →
    counts' ≡ counted counts thread →
    ((t : ℕ) → get_or counts t 0 ≤ made)
    → (t : ℕ) → get_or counts' t 0 ≤ made + 1
counted_at_most counts counts' thread made is h t =
    let own = h thread in
    rw is (at_most_set counts thread (get_or counts thread 0 + 1) (made + 1) (omega (arith, own))
    (λ u. let hu = h u in omega (arith, hu)) t)

-- ---- the lines of the steps that are left

abbrev pub rest_lines : Option Fold → List Fold → Text
rest_lines None steps = flat_map fold_line (folded steps)
rest_lines (Some f) steps = flat_map fold_line (folded_on f steps)

-- with the next step
next_line : (pending : Option Fold) (step : Fold) (steps : List Fold) →
    rest_lines pending (step ∷ steps) ≡ written_with pending step ++ rest_lines (Some (open_with pending step)) steps
next_line None step steps = refl
next_line (Some f) step steps = by_test (takes_in f step)
  where
    by_test : (b : Bool) →
        flat_map fold_line (if b then folded_on (with_next f step) steps else f ∷ folded_on step steps)
        ≡ (if b then [] else fold_line f) ++ flat_map fold_line (folded_on (if b then with_next f step else step) steps)
    by_test true = refl
    by_test false = refl

-- the lines so far and those of the steps that are left
abbrev pub rest_of : Names → ℕ → ℕ → List ℕ → Told → Text → Option Fold → List ℕ → Text
rest_of names from number counts r text pending ts = text ++
    rest_lines pending (steps_told names from number counts r ts)

abbrev pub written_if : Bool → Option Fold → Fold → Text
written_if told pending step = if told then written_with pending step else []

abbrev pub open_if : Bool → Option Fold → Fold → Option Fold
open_if told pending step = if told then Some (open_with pending step) else pending

one_more : (told : Bool) (pending : Option Fold) (step : Fold) (text : Text) (steps : List Fold)
    → (text ++ written_if told pending step) ++ rest_lines (open_if told pending step) steps ≡ text ++
    rest_lines pending ((if told then step ∷ [] else []) ++ steps)
one_more true pending step text steps =
    append_assoc text (written_with pending step) (rest_lines (Some (open_with pending step)) steps) ∙
    ap (λ l. text ++ l) (sym (next_line pending step steps))
one_more false pending step text steps = ap (λ l. l ++ rest_lines pending steps) (append-nil text)

-- after one more step
pub rest_after : (names : Names) (from number i d : ℕ) (counts counts' : List ℕ) (r r' : Told) (told : Bool)
    (pending pending' : Option Fold) (ts : List ℕ) (text text' whole : Text) →
    i < length ts →
    told ≡ nat_le from number →
    counts' ≡ counted counts (get_or ts i d) →
    r' ≡ after_step names r (get_or ts i d) →
    text' ≡ text ++ written_if told pending (step_told names number (counted counts (get_or ts i d)) r
    (after_step names r (get_or ts i d)) (get_or ts i d)) →
    pending' ≡ open_if told pending (step_told names number (counted counts (get_or ts i d)) r
    (after_step names r (get_or ts i d)) (get_or ts i d)) →
    rest_of names from number counts r text pending (drop i ts) ≡ whole →
    rest_of names from (number + 1) counts' r' text' pending' (drop (i + 1) ts) ≡ whole
rest_after names from number i d counts counts' r r' told pending pending' ts text text' whole within b ec er et eo h =
    let t = get_or ts i d in
    let step = step_told names number (counted counts t) r (after_step names r t) t in
    let left = drop (i + 1) ts in
    ap (λ x. x ++ rest_lines pending' (steps_told names from (number + 1) counts' r' left)) et
    ∙ ap (λ x. (text ++ written_if told pending step) ++ rest_lines x
    (steps_told names from (number + 1) counts' r' left)) eo
    ∙ ap (λ x. (text ++ written_if told pending step) ++ rest_lines (open_if told pending step)
    (steps_told names from (number + 1) x r' left)) ec
    ∙ ap (λ x. (text ++ written_if told pending step) ++ rest_lines (open_if told pending step)
    (steps_told names from (number + 1) (counted counts t) x left)) er
    ∙ one_more told pending step text (steps_told names from (number + 1) (counted counts t) (after_step names r t)
    left)
    ∙ ap (λ x. text ++ rest_lines pending ((if x then step ∷ [] else []) ++
    steps_told names from (number + 1) (counted counts t) (after_step names r t) left)) b
    ∙ ap (rest_of names from number counts r text pending) (sym (drop_more ts i d within))
    ∙ h

-- where no steps are left
pub at_end : (names : Names) (from number i : ℕ) (counts : List ℕ) (r : Told) (text text' : Text)
    (pending : Option Fold) (ts : List ℕ) →
    length ts ≤ i →
    text' ≡ text ++ open_line pending → text' ≡ rest_of names from number counts r text pending (drop i ts)
at_end names from number i counts r text text' pending ts h e =
    e ∙ ap (λ l. text ++ l) (sym (last_line pending)) ∙ ap (rest_of names from number counts r text pending)
    (sym (drop_all i ts h))
  where
    last_line : (o : Option Fold) → rest_lines o [] ≡ open_line o
    last_line None = refl
    last_line (Some f) = append-nil (fold_line f)

-- ---- at the start

zero_of_each : (ts : List ThreadProgram) (t : ℕ) → get_or (map (λ x. 0) ts) t 0 ≤ 0
zero_of_each [] t = omega arith
zero_of_each (x ∷ xs) zero = omega arith
zero_of_each (x ∷ xs) (suc t) = zero_of_each xs t

pub none_at_first : (counts : List ℕ) (ts : List ThreadProgram) →
    counts ≡ map (λ x. 0) ts →
    (t : ℕ) →
    get_or counts t 0 ≤ 0
none_at_first counts ts is t = rw is (zero_of_each ts t)

pub at_start : (names : Names) (from : ℕ) (counts zeros : List ℕ) (r first : Told) (text : Text) (pending : Option Fold)
    (ts : List ℕ) →
    counts ≡ zeros → r ≡ first → text ≡ [] → pending ≡ None →
    rest_of names from 1 counts r text pending ts ≡ flat_map fold_line (folded (steps_told names from 1 zeros first ts))
at_start names from counts zeros r first text pending ts ec er et ep =
    ap (λ x. rest_of names from 1 x r text pending ts) ec
    ∙ ap (λ x. rest_of names from 1 zeros x text pending ts) er
    ∙ ap (λ x. rest_of names from 1 zeros first x pending ts) et
    ∙ ap (λ x. rest_of names from 1 zeros first [] x ts) ep
