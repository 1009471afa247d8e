-- Reports in the order of their first numbers.
use Rattle.std.proofs.Common.{◌≡◌, ◌<◌, ℕ, zero, suc, List, [], ◌∷◌, Err, ap, arith, get_or, length, map, refl, subst}
use Rattle.std.specs.Prelude.{All, IsPermutation, slice_index_or, Option}
use Rattle.std.specs.List.Sorted.{IsNonDecreasingBy}
use Rattle.std.proofs.lemmas.List.{length-map}
use Rattle.std.proofs.lemmas.List.Sorted.{All-permutation, IsPermutation-map, length_permutation}
use Rattle.ls_report.specs.Events.{Text}
use Rattle.ls_find_reports.specs.Reports.{AreFigures, Ends, Entry, Explains, Lists, Marked, plain_report, Report}
use Rattle.ls_find_reports.specs.Sums.{AddsTo, AreIn, from_of, NoReport, OutOfMemory}
use Rattle.ls_find_reports.specs.declared.fault.RangeFault.{RangeFault}
use Rattle.ls_find_reports.specs.declared.fault.RangeFault.TheVariants as faults
use Rattle.ls_find_reports.specs.declared.report.Report.{Report as CodeReport}

-- an element of a list that is made of another's
got : {A B : Type 0} (f : A → B) (xs : List A) (k : ℕ) (d : B) (e : A) → k < length xs → get_or (map f xs) k d ≡
    f (get_or xs k e)
got f [] k d e lt = absurd (omega (arith, lt))
got f (x ∷ xs) zero d e lt = refl
got f (x ∷ xs) (suc k) d e lt = got f xs k d e (omega (arith, lt))

rise_map : (xs : List CodeReport) → IsNonDecreasingBy (λ r. r.figures.from) xs →
    IsNonDecreasingBy from_of (map plain_report xs)
rise_map [] h = λ i j d le lt. absurd (omega (arith, lt))
rise_map (x ∷ xs) h = λ i j d le lt.
    let len = length-map (x ∷ xs) plain_report in
    let within : j < length (x ∷ xs) = omega (arith, len, lt) in
    let first : i < length (x ∷ xs) = omega (arith, within, le) in
    let a = ap from_of (got plain_report (x ∷ xs) i d x first) in
    let b = ap from_of (got plain_report (x ∷ xs) j d x within) in
    omega (arith, a, b, h i j x le within)

each_have : (r : Report) (rs : List Report) → AreFigures r.figures → All (λ s. AreFigures s.figures) rs →
    (k : ℕ) (d : Report) → k < length (r ∷ rs) → AreFigures (slice_index_or (r ∷ rs) k d).figures
each_have r rs is all zero d lt = is
each_have r rs is all (suc k) d lt = all k d (omega (arith, lt))

lists_have : (text : Text) (rs : List Report) → Lists text rs → All (λ r. AreFigures r.figures) rs
lists_have text rs Ends = λ k d lt. absurd (omega (arith, lt))
lists_have text rs (Marked after more l) = lists_have after more l
lists_have text rs (Entry s after rest is l) = each_have s rest is.figures (lists_have after rest l)

all_code : (xs : List CodeReport) → All (λ r. AreFigures r.figures) (map plain_report xs) →
    All (λ s. AreFigures s.figures) xs
all_code xs all = λ k d lt.
    let len = length-map xs plain_report in
    subst (λ (r : Report). AreFigures r.figures) (got plain_report xs k (plain_report d) d lt)
    (all k (plain_report d) (omega (arith, len, lt)))

-- those that are read, in order, are a first one and more
module _ (text : Text) (old new : List CodeReport) (lists : Lists text (map plain_report old))
    (permutes : IsPermutation old new)
    (rise : IsNonDecreasingBy (λ r. r.figures.from) new) (first : CodeReport) (more : List CodeReport)
    (is : new ≡ first ∷ more) where
  all_new : All (λ s. AreFigures s.figures) (first ∷ more)
  all_new = subst (All (λ s. AreFigures s.figures)) is
      (All-permutation (λ s. AreFigures s.figures) old new permutes
      (all_code old (lists_have text (map plain_report old) lists)))

  pub first_are : AreFigures first.figures
  first_are = all_new 0 first (omega arith)

  pub more_are : All (λ s. AreFigures s.figures) more
  more_are = λ k d lt. all_new (suc k) d (omega (arith, lt))

  pub are_in : AreIn text (plain_report first) (map plain_report more)
  are_in = record {
    read = map plain_report old;
    lists = lists;
    permutes = subst (λ xs. IsPermutation (map plain_report old) (map plain_report xs)) is
        (IsPermutation-map plain_report old new permutes);
    rise = rise_map (first ∷ more) (subst (IsNonDecreasingBy (λ r. r.figures.from)) is rise);
  }

nothing : (xs : List CodeReport) → length xs ≡ 0 → xs ≡ []
nothing [] e = refl
nothing (x ∷ xs) e = absurd (omega (arith, e))

pub none_in : (text : Text) (old new : List CodeReport) → Lists text (map plain_report old) → IsPermutation old new →
    new ≡ [] → Lists text []
none_in text old new lists permutes is =
    let len = length_permutation old new permutes in
    let none = ap length is in
    subst (λ xs. Lists text (map plain_report xs)) (nothing old (omega (arith, len, none))) lists

pub not_read : (wanted : Option ℕ) (text : Text) (f : RangeFault) → Explains text f → AddsTo wanted text (Err f)
not_read wanted text faults.Memory h = OutOfMemory
not_read wanted text (faults.BadReport at) h = NoReport at h
not_read wanted text faults.NotFollowing h = absurd h
not_read wanted text faults.OtherCount h = absurd h
