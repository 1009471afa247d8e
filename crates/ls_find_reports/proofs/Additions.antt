-- What is counted of two ranges, and of more.
use Rattle.std.proofs.Common.{◌≡◌, ◌∙◌, ◌+◌, ◌<◌, ◌≤◌, ◌^◌, ◌↔◌, ℕ, zero, suc, List, [], ◌∷◌, Option, Some, None, ap}
use Rattle.std.proofs.Common.{arith, drop, length, refl, sym, subst}
use Rattle.std.specs.Prelude.{option_map, slice_get}
use Rattle.ls_find_reports.specs.Reports.{AreFigures, Found, plain_found, plain_report, Report}
use Rattle.ls_find_reports.specs.declared.report.Found.{Found as CodeFound}
use Rattle.ls_find_reports.specs.declared.report.Report.{Report as CodeReport}
use Rattle.ls_find_reports.specs.Sums.{both, first_of, FollowFrom, Follows, joined, joined_by, sum_from, with_end}
use Rattle.ls_find_reports.specs.declared.figures.Figures.{Figures}

first_fits : (cut first next : ℕ) → first < 2 ^ 64 → next < 2 ^ 64 → first_of cut first next < 2 ^ 64
first_fits zero first next a b = b
first_fits (suc cut) first next a b = a

none_first : (cut first next : ℕ) → cut ≡ 0 → next ≡ 0 → first_of cut first next ≡ 0
none_first zero first next e f = f
none_first (suc cut) first next e f = absurd (omega (arith, e))

begin_first : (from cut first later cut' next : ℕ) → (0 < cut → from ≤ first) → (0 < cut' → later ≤ next) →
    from ≤ later → 0 < cut + cut' → from ≤ first_of cut first next
begin_first from zero first later cut' next a b order some = omega (arith, b (omega (arith, some)), order)
begin_first from (suc cut) first later cut' next a b order some = a (omega arith)

end_first : (to to' cut first cut' next : ℕ) → first + cut ≤ to + 1 → cut' + to + 1 ≤ to' + 1 → next + cut' ≤ to' + 1 →
    first_of cut first next + (cut + cut') ≤ to' + 1
end_first to to' zero first cut' next a few b = omega (arith, b)
end_first to to' (suc cut) first cut' next a few b = omega (arith, a, few)

-- of two ranges, one after the other
pub both_are : (f g : Figures) → AreFigures f → AreFigures g → g.from ≡ f.to + 1 → g.count ≡ f.count →
    AreFigures (both f g)
both_are f g a b next same = record {
  some = a.some;
  order = omega (arith, a.order, b.order, next);
  last = omega (arith, b.last, same);
  count = a.count;
  passed = omega (arith, a.passed, b.passed, next);
  first = first_fits f.cut f.first g.first a.first b.first;
  none = λ e. none_first f.cut f.first g.first (omega (arith, e)) (b.none (omega (arith, e)));
  begins = begin_first f.from f.cut f.first g.from g.cut g.first a.begins b.begins (omega (arith, a.order, next));
  ends = end_first f.to g.to f.cut f.first g.cut g.first a.ends (omega (arith, b.passed, next)) b.ends;
}

pub end_are : (f g : Figures) → AreFigures f → AreFigures g → g.from ≡ f.to + 1 → g.count ≡ f.count →
    AreFigures (with_end f g.to)
end_are f g a b next same = record {
  some = a.some;
  order = omega (arith, a.order, b.order, next);
  last = omega (arith, b.last, same);
  count = a.count;
  passed = omega (arith, a.passed, b.order, next);
  first = a.first;
  none = a.none;
  begins = a.begins;
  ends = omega (arith, a.ends, b.order, next);
}

pub joined_are : (found : Option Found) (f : Figures) (s : Report) → AreFigures f → AreFigures s.figures →
    s.figures.from ≡ f.to + 1 → s.figures.count ≡ f.count → AreFigures (joined_by found f s).figures
joined_are None f s a b next same = both_are f s.figures a b next same
joined_are (Some p) f s a b next same = end_are f s.figures a b next same

-- the reports of the code
abbrev the_report : Figures → Option Found → Report
the_report f found = record { figures = f; found = found }

pub none_joined : (r s : CodeReport) (g : Figures) → r.found ≡ None → g ≡ both r.figures s.figures →
    the_report g (option_map plain_found s.found) ≡ joined (plain_report r) (plain_report s)
none_joined r s g none e =
    (λ i. record { figures = e i; found = option_map plain_found s.found }) ∙
    ap (λ (o : Option CodeFound). joined_by (option_map plain_found o) r.figures (plain_report s)) (sym none)

pub some_joined : (r s : CodeReport) (p : CodeFound) → r.found ≡ Some p →
    the_report (with_end r.figures s.figures.to) (Some (plain_found p)) ≡
    joined (plain_report r) (plain_report s)
some_joined r s p some =
    ap (λ (o : Option CodeFound). joined_by (option_map plain_found o) r.figures (plain_report s)) (sym some)

-- they add up within 64 bits
pub doubles_fit : (f g : Figures) → AreFigures f → AreFigures g → g.from ≡ f.to + 1 → f.doubles + g.doubles < 2 ^ 64
doubles_fit f g a b next = omega (arith, a.passed, b.passed, a.some, b.last, b.count, next)

pub cuts_fit : (f g : Figures) → AreFigures f → AreFigures g → g.from ≡ f.to + 1 → f.cut + g.cut < 2 ^ 64
cuts_fit f g a b next = omega (arith, a.passed, b.passed, a.some, b.last, b.count, next)

-- ---- more ranges

joined_to : (found : Option Found) (f : Figures) (s : Report) → (joined_by found f s).figures.to ≡ s.figures.to
joined_to None f s = refl
joined_to (Some p) f s = refl

joined_count : (found : Option Found) (f : Figures) (s : Report) → (joined_by found f s).figures.count ≡ f.count
joined_count None f s = refl
joined_count (Some p) f s = refl

-- a range follows the sum of two if it follows the second
follow_joined : (r s : Report) (more : List Report) → Follows r s → FollowFrom s more → FollowFrom (joined r s) more
follow_joined r s [] first rest = tt
follow_joined r s (t ∷ more) first rest = (
  record {
    next = rest.0.next ∙ ap (λ n. n + 1) (sym (joined_to r.found r.figures s));
    count = rest.0.count ∙ first.count ∙ sym (joined_count r.found r.figures s);
  },
  rest.1,
)

follow_second : (r s : Report) (more : List Report) → Follows r s → FollowFrom (joined r s) more → FollowFrom s more
follow_second r s [] first rest = tt
follow_second r s (t ∷ more) first rest = (
  record {
    next = rest.0.next ∙ ap (λ n. n + 1) (joined_to r.found r.figures s);
    count = rest.0.count ∙ joined_count r.found r.figures s ∙ sym first.count;
  },
  rest.1,
)

-- the ranges after the first are added to it up to those that are left
pub record IsOnWay (first : Report) (more : List Report) (sum : Report) (left : List Report) : Type 0 where
  pub follow : FollowFrom first more ↔ FollowFrom sum left
  pub total : sum_from first more ≡ sum_from sum left

pub sets_out : (first : Report) (more : List Report) → IsOnWay first more first more
sets_out first more = record { follow = (λ f. f, λ f. f); total = refl }

pub one_on : (first : Report) (more : List Report) (sum s : Report) (left rest : List Report) →
    IsOnWay first more sum left → left ≡ s ∷ rest → Follows sum s → IsOnWay first more (joined sum s) rest
one_on first more sum s left rest way is follows =
    let at = subst (IsOnWay first more sum) is way in
    record {
      follow = (
        λ f. follow_joined sum s rest follows (at.follow.0 f).1,
        λ f. at.follow.1 (follows, follow_second sum s rest follows f),
      );
      total = at.total;
    }

pub apart : (first : Report) (more : List Report) (sum s : Report) (left rest : List Report) →
    IsOnWay first more sum left → left ≡ s ∷ rest → (Follows sum s → ⊥) → FollowFrom first more → ⊥
apart first more sum s left rest way is not f = not ((subst (IsOnWay first more sum) is way).follow.0 f).0

pub all_on : (first : Report) (more : List Report) (sum : Report) (left : List Report) → IsOnWay first more sum left →
    left ≡ [] → FollowFrom first more × (sum ≡ sum_from first more)
all_on first more sum left way is =
    let at = subst (IsOnWay first more sum) is way in
    (at.follow.1 tt, sym at.total)

-- ---- what is left of a list

some_is : {X : Type 0} {x y : X} → Some x ≡ Some y → x ≡ y
some_is e = cc

none_is : {X : Type 0} {y : X} → None ≡ Some y → ⊥
none_is e = cc

pub drop_one : {X : Type 0} (xs : List X) (n : ℕ) (x : X) → slice_get xs n ≡ Some x → drop n xs ≡ x ∷ drop (n + 1) xs
drop_one [] n x got = absurd (nothing n got)
  where
    nothing : (k : ℕ) → slice_get [] k ≡ Some x → ⊥
    nothing zero e = none_is e
    nothing (suc k) e = none_is e
drop_one (y ∷ xs) zero x got = ap (λ z. z ∷ xs) (some_is got)
drop_one (y ∷ xs) (suc n) x got =
    let e : suc (n + 1) ≡ suc n + 1 = omega arith in
    drop_one xs n x got ∙ ap (λ k. x ∷ drop k (y ∷ xs)) e

pub drop_past : {X : Type 0} (xs : List X) (n : ℕ) → length xs ≤ n → drop n xs ≡ []
drop_past [] zero past = refl
drop_past [] (suc n) past = refl
drop_past (x ∷ xs) zero past = absurd (omega (arith, past))
drop_past (x ∷ xs) (suc n) past = drop_past xs n (omega (arith, past))
