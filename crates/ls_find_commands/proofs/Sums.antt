-- Two searches, one after the other, are one.
use Rattle.std.proofs.Common.{◌≡◌, ◌∙◌, ◌⊎◌, inl, inr, ◌+◌, ◌<◌, ◌≤◌, ℕ, zero, suc, Bool, true, false, cond, List}
use Rattle.std.proofs.Common.{[], ◌∷◌, ◌++◌, Option, Some, None, Ok, length, ap, arith, sym, subst, refl}
use Rattle.std.specs.Prelude.{count_by, nat_lt, not, position, slice_get, string_bytes}
use Rattle.std.specs.List.{position_or_len}
use Rattle.std.proofs.lemmas.Bool.{ltb-false}
use Rattle.std.proofs.lemmas.Bool.Decides.{nat_tests}
use Rattle.std.proofs.lemmas.List.{length-append}
use Rattle.std.proofs.lemmas.List.Sums.{sum_by-append, sum_by-cons}
use Rattle.ls_family_search.specs.Judged.{IsPassed, Programs, StandsFrom, text_of}
use Rattle.ls_family_search.specs.Searched.{EndsSo, HaltsAt, PassesAt}
use Rattle.ls_family_search.specs.declared.judging.Halted.{Halted}
use Rattle.ls_family_search.specs.declared.judging.Passed.{Passed}
use Rattle.ls_family_search.specs.declared.judging.Passed.TheVariants as passed
use Rattle.ls_family_search.specs.declared.searching.Finding.{Finding}
use Rattle.ls_family_search.proofs.Outcomes.{each_of_both}
use Rattle.ls_find.specs.Family.{IsFound}
use Rattle.ls_find.specs.Found.{IsCut, IsSound, IsWhy}
use Rattle.ls_find.specs.declared.explorer.Why.{Why}
use Rattle.ls_find.specs.declared.explorer.Why.TheVariants as whys
use Rattle.ls_find.specs.declared.sought.Sought.{Sought}
use Rattle.ls_find_reports.specs.Reports.{Report, report_text}
use Rattle.ls_find_reports.specs.Sums.{both, first_of, joined}
use Rattle.ls_find_reports.specs.Printing.{figures_of, is_cut, is_double, number_after}
use Rattle.ls_report.specs.Events.{Text}
use Rattle.ls_find_commands.specs.Found.{halted_answer, why_answer}
use Rattle.ls_find_commands.specs.Ranges.{AreOne, AreShown, found_of, halted_by, IsShown, passed_by, report_of, told}

-- ---- texts

why_text : (before to count : ℕ) (ps : List Passed) (program : Text) (w : Why) → IsShown w →
    why_answer (figures_of before to count ps) (before + length ps + 1) program w ≡
    Ok (report_text (record {
      figures = figures_of before to count ps;
      found = Some (told (before + length ps + 1) program w);
    }))
why_text before to count ps program (whys.Bad why note schedule) shown = refl
why_text before to count ps program (whys.NotCompiled fault) shown = absurd shown
why_text before to count ps program (whys.NotSpecified fault) shown = absurd shown

pub printed_by : (before to count : ℕ) (ps : List Passed) (halted : Option (Halted Why)) → AreShown halted →
    halted_answer before to count ps halted ≡
    Ok (report_text (record {
      figures = figures_of before to count ps;
      found = found_of (before + length ps + 1) halted;
    }))
printed_by before to count ps None shown = refl
printed_by before to count ps (Some h) shown = why_text before to count ps (string_bytes h.program) h.halt shown

-- ---- the first that is cut

both_less : (a b : ℕ) → nat_lt (1 + a) (suc b) ≡ nat_lt a b
both_less a b = by_tests (nat_lt (1 + a) (suc b)) (nat_lt a b) refl refl
  where
    by_tests : (t u : Bool) → nat_lt (1 + a) (suc b) ≡ t → nat_lt a b ≡ u → nat_lt (1 + a) (suc b) ≡ nat_lt a b
    by_tests true true p q = p ∙ sym q
    by_tests false false p q = p ∙ sym q
    by_tests true false p q = absurd (grind (arith, nat_tests))
    by_tests false true p q = absurd (grind (arith, nat_tests))

place_after : (before a b : ℕ) (t t' : Bool) → t ≡ t' →
    number_after before (cond t (Some (1 + a)) None) ≡ number_after (before + 1) (cond t' (Some a) None)
place_after before a b true true e = omega arith
place_after before a b false false e = refl
place_after before a b true false e = absurd cc
place_after before a b false true e = absurd cc

past_one : (before : ℕ) (x : Passed) (ys : List Passed) → is_cut x ≡ false →
    number_after before (position is_cut (x ∷ ys)) ≡ number_after (before + 1) (position is_cut ys)
past_one before x ys other =
    let far : position_or_len is_cut (x ∷ ys) ≡ 1 + position_or_len is_cut ys =
    ap (λ (t : Bool). cond (not t) (1 + position_or_len is_cut ys) 0) other in
    ap (λ n. number_after before (cond (nat_lt n (suc (length ys))) (Some n) None)) far ∙
    place_after before (position_or_len is_cut ys) (length ys) _ _ (both_less (position_or_len is_cut ys) (length ys))

always : (n : ℕ) → nat_lt 0 (suc n) ≡ true
always n = by_test (nat_lt 0 (suc n)) refl
  where
    by_test : (t : Bool) → nat_lt 0 (suc n) ≡ t → nat_lt 0 (suc n) ≡ true
    by_test true e = e
    by_test false e = absurd (omega (arith, ltb-false 0 (suc n) e))

at_once : (before : ℕ) (x : Passed) (ys : List Passed) → is_cut x ≡ true →
    number_after before (position is_cut (x ∷ ys)) ≡ number_after before (Some 0)
at_once before x ys this =
    let near : position_or_len is_cut (x ∷ ys) ≡ 0 =
    ap (λ (t : Bool). cond (not t) (1 + position_or_len is_cut ys) 0) this in
    ap (λ n. number_after before (cond (nat_lt n (suc (length ys))) (Some n) None)) near ∙
    ap (λ (t : Bool). number_after before (cond t (Some 0) None)) (always (length ys))

abbrev bit : Bool → ℕ
bit t = cond t 1 0

first_some : (n first next : ℕ) → 0 < n → first_of n first next ≡ first
first_some zero first next some = absurd (omega (arith, some))
first_some (suc n) first next some = refl

counted : (x : Passed) (ps : List Passed) → count_by is_cut (x ∷ ps) ≡ bit (is_cut x) + count_by is_cut ps
counted x ps = sum_by-cons (λ y. bit (is_cut y)) x ps

pub first_in_both : (before : ℕ) (ps qs : List Passed) →
    number_after before (position is_cut (ps ++ qs)) ≡
    first_of (count_by is_cut ps) (number_after before (position is_cut ps))
    (number_after (before + length ps) (position is_cut qs))
first_in_both before [] qs = let e : before ≡ before + 0 = omega arith in
    ap (λ n. number_after n (position is_cut qs)) e
first_in_both before (x ∷ ps) qs = by_test (is_cut x) refl (first_in_both (before + 1) ps qs)
  where
    by_test : (t : Bool) → is_cut x ≡ t →
        number_after (before + 1) (position is_cut (ps ++ qs)) ≡
        first_of (count_by is_cut ps) (number_after (before + 1) (position is_cut ps))
        (number_after (before + 1 + length ps) (position is_cut qs)) →
        number_after before (position is_cut (x ∷ (ps ++ qs))) ≡
        first_of (count_by is_cut (x ∷ ps)) (number_after before (position is_cut (x ∷ ps)))
        (number_after (before + suc (length ps)) (position is_cut qs))
    by_test true e more =
        let one : bit (is_cut x) ≡ 1 = ap bit e in
        let some : 0 < count_by is_cut (x ∷ ps) = omega (arith, one, counted x ps) in
        at_once before x (ps ++ qs) e ∙ sym (at_once before x ps e) ∙
        sym (first_some (count_by is_cut (x ∷ ps)) (number_after before (position is_cut (x ∷ ps)))
        (number_after (before + suc (length ps)) (position is_cut qs)) some)
    by_test false e more =
        let none : bit (is_cut x) ≡ 0 = ap bit e in
        let same : count_by is_cut ps ≡ count_by is_cut (x ∷ ps) = omega (arith, none, counted x ps) in
        let far : before + 1 + length ps ≡ before + suc (length ps) = omega arith in
        past_one before x (ps ++ qs) e ∙ more ∙
        (λ i. first_of (same i) (sym (past_one before x ps e) i) (number_after (far i) (position is_cut qs)))

-- ---- both reports

-- what is counted of both
figures_add : (before mid to count : ℕ) (ps qs : List Passed) → before + length ps ≡ mid →
    both (figures_of before mid count ps) (figures_of mid to count qs) ≡ figures_of before to count (ps ++ qs)
figures_add before mid to count ps qs is =
    let d : count_by is_double ps + count_by is_double qs ≡ count_by is_double (ps ++ qs) =
    sym (sum_by-append (λ x. cond (is_double x) 1 0) ps qs) in
    let c : count_by is_cut ps + count_by is_cut qs ≡ count_by is_cut (ps ++ qs) =
    sym (sum_by-append (λ x. cond (is_cut x) 1 0) ps qs) in
    let f : first_of (count_by is_cut ps) (number_after before (position is_cut ps))
    (number_after mid (position is_cut qs)) ≡ number_after before (position is_cut (ps ++ qs)) =
    ap (λ n. first_of (count_by is_cut ps) (number_after before (position is_cut ps))
    (number_after n (position is_cut qs)))
    (sym is) ∙ sym (first_in_both before ps qs) in
    λ i. record { from = before + 1; to = to; count = count; doubles = d i; cut = c i; first = f i }

-- of the numbers up to one, so many passed, with an end
abbrev report : ℕ → ℕ → ℕ → List Passed → Option (Halted Why) → Report
report before to count ps halted =
    record { figures = figures_of before to count ps; found = found_of (before + length ps + 1) halted }

none_adds : (before mid to count : ℕ) (ps qs : List Passed) (halted : Option (Halted Why)) → before + length ps ≡ mid →
    joined (report before mid count ps None) (report mid to count qs halted) ≡ report before to count (ps ++ qs) halted
none_adds before mid to count ps qs halted is =
    let number : mid + length qs + 1 ≡ before + length (ps ++ qs) + 1 = omega (arith, is, length-append ps qs) in
    let figures = figures_add before mid to count ps qs is in
    λ i. record { figures = figures i; found = found_of (number i) halted }

some_adds : (before mid to count : ℕ) (ps qs : List Passed) (h : Halted Why) (halted : Option (Halted Why)) →
    joined (report before mid count ps (Some h)) (report mid to count qs halted) ≡ report before to count ps (Some h)
some_adds before mid to count ps qs h halted = refl

pub reports_add : (before mid to count : ℕ) (ps qs : List Passed) (h k : Option (Halted Why)) →
    (h ≡ None → before + length ps ≡ mid) →
    joined (report before mid count ps h) (report mid to count qs k) ≡
    report before to count (passed_by h ps qs) (halted_by h k)
reports_add before mid to count ps qs None k is = none_adds before mid to count ps qs k (is refl)
reports_add before mid to count ps qs (Some h) k is = some_adds before mid to count ps qs h k

-- ---- both searches

-- what is passed so in a range is passed so in one that begins before it
from_before : (sought : Sought) (states : ℕ) (reference : Option Text) (classes : Text) (p : Programs)
    (from mid n : ℕ) (said : Passed) →
    from ≤ mid →
    PassesAt p (IsSound sought reference classes) (IsCut sought states reference classes) mid n said →
    PassesAt p (IsSound sought reference classes) (IsCut sought states reference classes) from n said
from_before sought states reference classes p from mid n said before (plan, there, is) = (plan, there, by_said said is)
  where
    known : StandsFrom p mid n plan ⊎ IsSound sought reference classes (text_of p plan) →
        StandsFrom p from n plan ⊎ IsSound sought reference classes (text_of p plan)
    known (inl s) =
        inl (record { number = s.number; first = omega (arith, s.first, before); before = s.before; there = s.there })
    known (inr good) = inr good

    by_said : (said : Passed) → IsPassed p (IsSound sought reference classes) (IsCut sought states reference classes)
        mid n plan said →
        IsPassed p (IsSound sought reference classes) (IsCut sought states reference classes) from n plan said
    by_said passed.Double double = record { follows = double.follows; known = known double.known }
    by_said passed.Good good = good
    by_said passed.Cut cut = cut

passed_all : (sought : Sought) (states : ℕ) (reference : Option Text) (classes : Text) (p : Programs) (from mid : ℕ)
    (ps qs : List Passed) →
    from + length ps ≡ mid →
    ((k : ℕ) (said : Passed) → slice_get ps k ≡ Some said →
    PassesAt p (IsSound sought reference classes) (IsCut sought states reference classes) from (from + k) said) →
    ((k : ℕ) (said : Passed) → slice_get qs k ≡ Some said →
    PassesAt p (IsSound sought reference classes) (IsCut sought states reference classes) mid (mid + k) said) →
    (k : ℕ) (said : Passed) → slice_get (ps ++ qs) k ≡ Some said →
    PassesAt p (IsSound sought reference classes) (IsCut sought states reference classes) from (from + k) said
passed_all sought states reference classes p from mid ps qs is first next =
    each_of_both (λ k said. PassesAt p (IsSound sought reference classes) (IsCut sought states reference classes) from
    (from + k) said) ps qs
    first
    (λ k said at. let e : mid + k ≡ from + (length ps + k) = omega (arith, is) in
    subst (λ n. PassesAt p (IsSound sought reference classes) (IsCut sought states reference classes) from n said) e
    (from_before sought states reference classes p from mid (mid + k) said (omega (arith, is)) (next k said at)))

ends_on : (sought : Sought) (reference : Option Text) (classes : Text) (p : Programs) (from mid to : ℕ)
    (ps qs : List Passed)
    (h : Option (Halted Why)) →
    from + length ps ≡ mid → EndsSo p (IsWhy sought reference classes) (mid + length qs) to h →
    EndsSo p (IsWhy sought reference classes) (from + length (ps ++ qs)) to h
ends_on sought reference classes p from mid to ps qs h is ends =
    let e : mid + length qs ≡ from + length (ps ++ qs) = omega (arith, is, length-append ps qs) in
    subst (λ n. EndsSo p (IsWhy sought reference classes) n to h) e ends

-- where the first search ends with no program
pub none_first : (sought : Sought) (states : ℕ) (reference : Option Text) (classes : Text) (p : Programs)
    (from mid to : ℕ) (f g all : Finding Why) →
    IsFound sought states reference classes p from mid f → IsFound sought states reference classes p mid to g →
    f.halted ≡ None →
    all.passed.items ≡ f.passed.items ++ g.passed.items → all.halted ≡ g.halted →
    IsFound sought states reference classes p from to all
none_first sought states reference classes p from mid to f g all first next none passed halted =
    let is : from + length f.passed.items ≡ mid =
    subst (EndsSo p (IsWhy sought reference classes) (from + length f.passed.items) mid) none first.ends in
    record {
      passed = subst (λ xs. (k : ℕ) (said : Passed) → slice_get xs k ≡ Some said →
          PassesAt p (IsSound sought reference classes) (IsCut sought states reference classes) from (from + k) said)
          (sym passed)
          (passed_all sought states reference classes p from mid f.passed.items g.passed.items is first.passed
          next.passed);
      ends = subst (λ (h : Option (Halted Why)). EndsSo p (IsWhy sought reference classes)
          (from + length all.passed.items) to h)
          (sym halted)
          (subst (λ xs. EndsSo p (IsWhy sought reference classes) (from + length xs) to g.halted) (sym passed)
          (ends_on sought reference classes p from mid to f.passed.items g.passed.items g.halted is next.ends));
    }

-- where it ends with one
some_first : (sought : Sought) (states : ℕ) (reference : Option Text) (classes : Text) (p : Programs)
    (from mid to : ℕ) (f all : Finding Why) (h : Halted Why) →
    IsFound sought states reference classes p from mid f → f.halted ≡ Some h → all.passed.items ≡ f.passed.items →
    all.halted ≡ Some h →
    IsFound sought states reference classes p from to all
some_first sought states reference classes p from mid to f all h first some passed halted =
    let halts : HaltsAt p (IsWhy sought reference classes) (from + length f.passed.items) h =
    subst (EndsSo p (IsWhy sought reference classes) (from + length f.passed.items) mid) some first.ends in
    record {
      passed = subst (λ xs. (k : ℕ) (said : Passed) → slice_get xs k ≡ Some said →
          PassesAt p (IsSound sought reference classes) (IsCut sought states reference classes) from (from + k) said)
          (sym passed)
          first.passed;
      ends = subst (λ (o : Option (Halted Why)). EndsSo p (IsWhy sought reference classes)
          (from + length all.passed.items) to o)
          (sym halted)
          (subst (λ xs. HaltsAt p (IsWhy sought reference classes) (from + length xs) h) (sym passed) halts);
    }

pub found_in_both : (sought : Sought) (states : ℕ) (reference : Option Text) (classes : Text) (p : Programs)
    (from mid to : ℕ) (f g all : Finding Why) →
    IsFound sought states reference classes p from mid f → IsFound sought states reference classes p mid to g →
    AreOne f g all →
    IsFound sought states reference classes p from to all
found_in_both sought states reference classes p from mid to f g all first next one = by_end f.halted refl
  where
    by_end : (h : Option (Halted Why)) → f.halted ≡ h → IsFound sought states reference classes p from to all
    by_end None e =
        none_first sought states reference classes p from mid to f g all first next e
        (one.passed ∙ ap (λ (o : Option (Halted Why)). passed_by o f.passed.items g.passed.items) e)
        (one.halted ∙ ap (λ (o : Option (Halted Why)). halted_by o g.halted) e)
    by_end (Some h) e =
        some_first sought states reference classes p from mid to f all h first e
        (one.passed ∙ ap (λ (o : Option (Halted Why)). passed_by o f.passed.items g.passed.items) e)
        (one.halted ∙ ap (λ (o : Option (Halted Why)). halted_by o g.halted) e)

pub sums_agree : (sought : Sought) (states : ℕ) (reference : Option Text) (classes : Text) (p : Programs)
    (from mid to count : ℕ) (f g all : Finding Why) →
    IsFound sought states reference classes p from mid f → AreOne f g all →
    joined (report_of from mid count f) (report_of mid to count g) ≡ report_of from to count all
sums_agree sought states reference classes p from mid to count f g all first one =
    reports_add from mid to count f.passed.items g.passed.items f.halted g.halted
    (λ none. subst (EndsSo p (IsWhy sought reference classes) (from + length f.passed.items) mid) none first.ends) ∙
    (λ i. report from to count (sym one.passed i) (sym one.halted i))
