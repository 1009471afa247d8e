-- The counts of the runs of seeds, part by part.
use Rattle.std.proofs.Common.{◌≡◌, ℕ, ◌+◌, ◌<◌, ◌≤◌, ◌^◌, ◌↔◌, zero, suc, List, [], ◌∷◌, ◌++◌, length, map, take}
use Rattle.std.proofs.Common.{get_or, inl, inr, ⊎_elim, Bool, false, IsTrue, true≢false, refl, ap, ap₂, sym, ◌∙◌, subst}
use Rattle.std.proofs.Common.{arith, append-nil, append_assoc, None}
use Rattle.std.specs.Prelude.{IfOk, Ok, Result}
use Rattle.std.specs.List.{AllZip, flat_map, range_with_len}
use Rattle.std.proofs.lemmas.List.{length-map, map-append, take_all, take_more}
use Rattle.std.proofs.lemmas.List.FromFn.{length-range_with_len}
use Rattle.std.proofs.lemmas.Bool.{cases_lt}
use Rattle.ls_batch.specs.Samples.{IsBadCount}
use Rattle.ls_batch.specs.declared.samples.Sampler.{Sampler}
use Rattle.ls_batch.specs.declared.counting.Counts.{Counts}
use Rattle.ls_batch.specs.Numbers.{Key}
use Rattle.ls_batch.specs.Counted.{AreCounts, both, count_at, counted, Run, run, runs_from}
use Rattle.ls_batch.specs.Tallies.{History}
use Rattle.ls_batch.proofs.Both.{counted_append, counted_more, one_run}

-- the run of one seed more
pub seed_counted : (h : ℕ → History) (seeds : List ℕ) (k : ℕ) (old new : Counts) →
    k < length seeds →
    AreCounts (map (λ s. run s (h s)) (take k seeds)) old
    → ((ks : Key) → count_at new ks ≡ both (count_at old ks)
    (one_run (run (get_or seeds k 0) (h (get_or seeds k 0))) ks))
    → AreCounts (map (λ s. run s (h s)) (take (k + 1) seeds)) new
seed_counted h seeds k old new lt so_far more = λ ks.
    let one = λ (s : ℕ). run s (h s) in
    let seed = get_or seeds k 0 in
    more ks ∙ ap (λ o. both o (one_run (one seed) ks)) (so_far ks) ∙
    sym (counted_more (map one (take k seeds)) (one seed) ks)
    ∙ ap (λ rs. counted rs ks) (sym (map-append one (take k seeds) (seed ∷ [])) ∙
    ap (map one) (sym (take_more seeds k 0 lt)))

-- the runs of all seeds
pub seeds_counted : (h : ℕ → History) (seeds : List ℕ) (k : ℕ) (c : Counts) →
    length seeds ≤ k →
    AreCounts (map (λ s. run s (h s)) (take k seeds)) c →
    AreCounts (map (λ s. run s (h s)) seeds) c
seeds_counted h seeds k c past so_far = subst (λ xs. AreCounts (map (λ s. run s (h s)) xs) c) (take_all k seeds past)
    so_far

-- the counts of a group of runs, where no memory was refused
abbrev pub IsPart : {E : Type 0} → List Run → Result Counts E → Type 0
IsPart group part = IfOk part (AreCounts group)

abbrev pub all_of : List (List Run) → List Run
all_of = flat_map (λ group. group)

all_more : (groups : List (List Run)) (group : List Run) → all_of (groups ++ group ∷ []) ≡ all_of groups ++ group
all_more [] group = append-nil group
all_more (g ∷ gs) group = ap (λ rs. g ++ rs) (all_more gs group) ∙ sym (append_assoc g (all_of gs) group)

pub zip_last : {A B : Type 0} (R : A → B → Type 0) (xs : List A) (ys : List B) (y : B) → AllZip R xs (ys ++ y ∷ [])
    → (front : List A) × (x : A) × (xs ≡ front ++ x ∷ []) × AllZip R front ys × R x y
zip_last R [] [] y h = absurd h
zip_last R [] (b ∷ ys) y h = absurd h
zip_last R (a ∷ []) [] y h = ([], a, refl, tt, h.0)
zip_last R (a ∷ b ∷ xs) [] y h = absurd h.1
zip_last R (a ∷ xs) (b ∷ ys) y h =
    let rest = zip_last R xs ys y h.1 in
    (a ∷ rest.0, rest.1, ap (λ l. a ∷ l) rest.2, (h.0, rest.3), rest.4)

-- the counts of the groups so far
abbrev pub AreSoFar : {E : Type 0} → List (Result Counts E) → Counts → Type 0
AreSoFar {E} parts all = (groups : List (List Run)) → AllZip (IsPart {E = E}) groups parts →
    AreCounts (all_of groups) all

pub none_so_far : (E : Type 0) (c : Counts) → ((ks : Key) → count_at c ks ≡ None) → AreSoFar {E = E} [] c
none_so_far E c h [] zip = h
none_so_far E c h (g ∷ gs) zip = absurd zip

pub one_so_far : {E : Type 0} (parts : List (Result Counts E)) (part : Result Counts E) (all one new : Counts) →
    AreSoFar parts all →
    part ≡ Ok one
    → ((ks : Key) → count_at new ks ≡ both (count_at all ks) (count_at one ks)) → AreSoFar (parts ++ part ∷ []) new
one_so_far {E} parts part all one new so_far is more groups zip = λ ks.
    let cut = zip_last (IsPart {E = E}) groups parts part zip in
    let own : AreCounts cut.1 one = subst (IsPart cut.1) is cut.4 in
    more ks ∙ ap₂ both (so_far cut.0 cut.3 ks) (own ks) ∙ sym (counted_append (all_of cut.0) cut.1 ks)
    ∙ ap (λ rs. counted rs ks) (sym (all_more cut.0 cut.1) ∙ ap all_of (sym cut.2))

-- groups of seeds as groups of runs
pub zip_runs : {E : Type 0} (h : ℕ → History) (groups : List (List ℕ)) (parts : List (Result Counts E)) →
    AllZip (λ group part. IfOk part (AreCounts (map (λ s. run s (h s)) group))) groups parts
    → AllZip (IsPart {E = E}) (map (map (λ s. run s (h s))) groups) parts
zip_runs h [] [] zip = tt
zip_runs h [] (p ∷ ps) zip = absurd zip
zip_runs h (g ∷ gs) [] zip = absurd zip
zip_runs h (g ∷ gs) (p ∷ ps) zip = (zip.0, zip_runs h gs ps zip.1)

pub all_runs : (h : ℕ → History) (groups : List (List ℕ)) →
    all_of (map (map (λ s. run s (h s))) groups) ≡ map (λ s. run s (h s)) (flat_map (λ group. group) groups)
all_runs h [] = refl
all_runs h (g ∷ gs) = ap (λ rs. map (λ s. run s (h s)) g ++ rs) (all_runs h gs) ∙
    sym (map-append (λ s. run s (h s)) g (flat_map (λ group. group) gs))

-- the runs of consecutive seeds
pub consecutive : (h : ℕ → History) (first k n : ℕ) →
    map (λ s. run s (h s)) (map (λ i. first + i) (range_with_len k n)) ≡ runs_from (first + k)
    (map (λ i. h (first + i)) (range_with_len k n))
consecutive h first k zero = refl
consecutive h first k (suc n) =
    let next : first + (k + 1) ≡ first + k + 1 = omega arith in
    ap (λ rs. run (first + k) (h (first + k)) ∷ rs) (consecutive h first (k + 1) n ∙
    ap (λ s. runs_from s (map (λ i. h (first + i)) (range_with_len (k + 1) n))) next)

pub from_first : (h : ℕ → History) (first count : ℕ) (seeds : List ℕ) →
    seeds ≡ map (λ i. first + i) (range_with_len 0 count)
    → map (λ s. run s (h s)) seeds ≡ runs_from first (map (λ i. h (first + i)) (range_with_len 0 count))
from_first h first count seeds is =
    let zero_more : first + 0 ≡ first = omega arith in
    ap (map (λ s. run s (h s))) is ∙ consecutive h first 0 count ∙
    ap (λ s. runs_from s (map (λ i. h (first + i)) (range_with_len 0 count))) zero_more

pub histories_len : (h : ℕ → History) (first count : ℕ) →
    length (map (λ i. h (first + i)) (range_with_len 0 count)) ≡ count
histories_len h first count = length-map (range_with_len 0 count) (λ i. h (first + i)) ∙ length-range_with_len 0 count

-- where the count isn't bad
pub within : (first count : ℕ) (d : Sampler) (b : Bool) →
    b ≡ false →
    (IsTrue b ↔ IsBadCount first count d) →
    (count ≤ 100000) × (first + count ≤ 2 ^ 64)
within first count d b good says =
    let bad : IsBadCount first count d → ⊥ = λ h. true≢false (sym (says.1 h) ∙ good) in (
      ⊎_elim (λ lt. absurd (bad (inr (inl lt)))) (λ le. le) (cases_lt 100000 count),
      ⊎_elim (λ lt. absurd (bad (inr (inr (inl lt))))) (λ le. le) (cases_lt (2 ^ 64) (first + count)),
    )
