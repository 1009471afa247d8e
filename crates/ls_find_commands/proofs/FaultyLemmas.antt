-- Where calls are looked for that have a fault when calls run one at a time.
use Rattle.std.proofs.Common.{◌≡◌, ◌∙◌, ◌⊎◌, ◌||◌, ◌+◌, ◌<◌, ◌≤◌, ℕ, true, false, List, Option, Some, None}
use Rattle.std.proofs.Common.{IfOk, Result, Ok, Err, ap, arith, inl, inr, length, refl, subst, sym}
use Rattle.std.specs.Prelude.{IfSome, position, slice_get}
use Rattle.std.specs.declared.alloc.AllocError.{AllocError}
use Rattle.ls_alone.specs.Alone.{first_fault, first_of, first_of_all, so_of}
use Rattle.ls_alone.specs.declared.telling.Fault.{Fault}
use Rattle.ls_alone.specs.declared.telling.Fault.TheVariants as faults
use Rattle.ls_alone.specs.declared.telling.Faulty.{Faulty}
use Rattle.ls_alone.specs.declared.telling.Tellings.{Tellings}
use Rattle.ls_alone.specs.declared.telling.Told.{Told}
use Rattle.ls_alone.specs.declared.telling.Told.TheVariants as told
use Rattle.ls_alone.specs.declared.telling.Wanted.{Wanted}
use Rattle.ls_alone.specs.declared.telling.Wanted.TheVariants as kinds
use Rattle.ls_families.specs.Families.{plans}
use Rattle.ls_family_search.specs.Judged.{Programs, Text}
use Rattle.ls_family_search.specs.Searched.{EndsSo}
use Rattle.ls_family_search.specs.declared.judging.Halted.{Halted}
use Rattle.ls_family_search.specs.declared.searching.Finding.{Finding}
use Rattle.ls_find.specs.Found.{IsCut, IsSound, IsWhy}
use Rattle.ls_find.specs.declared.explorer.Why.{Why}
use Rattle.ls_find.specs.declared.sought.Sought.{Sought}
use Rattle.ls_find_commands.specs.Faulty.{IsFaultyAt, IsFirstFaulty, IsFoundAmong, NoneIsFaulty}
use Rattle.ls_find_commands.specs.Faulty.{NoneIsSought, OneIsFaulty, or_faulty, searched_to}
use Rattle.ls_find_commands.specs.declared.faulty.FaultyProgram.{FaultyProgram}
use Rattle.ls_find_serial.specs.Lines.{has_some, has_wanted, is_so}
use Rattle.ls_find_serial.specs.Told.{AreToldOf}
use Rattle.ls_find_commands.proofs.Ranges.{got_within, last_within, next_under, none_past}

module _ (wanted : Wanted) (classes : Text) (p : Programs) (from last : ℕ) where
  -- the program that is found has one of the numbers
  pub number_within : (e : Option FaultyProgram) (f : FaultyProgram) → e ≡ Some f → from ≤ last →
      IsFirstFaulty wanted classes p from last e →
      (from ≤ f.number) × (f.number < last)
  number_within e f is order (NoneIsSought lax) = absurd (nothing is)
    where
      nothing : None ≡ Some f → ⊥
      nothing h = cc
  number_within e f is order (NoneIsFaulty told are none) = absurd (nothing is)
    where
      nothing : None ≡ Some f → ⊥
      nothing h = cc
  number_within e f is order (OneIsFaulty told at t x are place got at_number) =
      let same : x ≡ f = cc in
      let number = ap (λ (y : FaultyProgram). y.number) (sym same) ∙ at_number.number in
      let within = got_within told at t got in
      (omega (arith, number, within, are.many), omega (arith, number, within, are.many, order))

  -- so it is searched up to a number of the range
  pub searched_within : (to : ℕ) (e : Option FaultyProgram) → IsFirstFaulty wanted classes p from last e → from ≤ last →
      last ≤ to →
      (from ≤ searched_to e to) × (searched_to e to ≤ to)
  searched_within to None faulty order within = (omega (arith, order, within), omega arith)
  searched_within to (Some f) faulty order within =
      let number = number_within (Some f) f refl order faulty in (number.0, omega (arith, number.1, within))

-- how far what is found goes
module _ (wanted : Wanted) (sought : Sought) (states : ℕ) (reference : Option Text) (classes : Text) (p : Programs)
    (from to : ℕ) (g : Finding Why) (among : IsFoundAmong wanted sought states reference classes p from to g)
    (there : to ≤ length (plans p.family)) where
  pub found_last : from + length g.passed.items ≤ length (plans p.family)
  found_last =
      let up = searched_within wanted classes p from among.last to among.faulty among.first among.order
      among.within in
      let last = last_within p (IsSound sought reference classes) (IsCut sought states reference classes)
      (IsWhy sought reference classes) from (searched_to among.faulty to) among.searched.search
      among.searched.found
      (omega (arith, there, up.1)) in
      omega (arith, last, ap length among.searched.ends.passed)

  pub found_next : length (plans p.family) < 18446744073709551616 →
      IfSome g.halted (λ h. from + length g.passed.items + 1 < 18446744073709551616)
  found_next few =
      let f = among.searched.search in
      let ends = among.searched.ends in
      let next = next_under p (IsSound sought reference classes) (IsCut sought states reference classes)
      (IsWhy sought reference classes) from (searched_to among.faulty to) f among.searched.found few in
      subst (λ ps. IfSome g.halted (λ h. from + length ps + 1 < 18446744073709551616)) (sym ends.passed)
      (subst (λ o. IfSome o (λ h. from + length f.passed.items + 1 < 18446744073709551616)) (sym ends.halted)
      (by_end f.halted among.faulty among.first among.searched.found.ends next))
    where
      f : Finding Why
      f = among.searched.search

      by_end : (h : Option (Halted Why)) (x : Option FaultyProgram) →
          IsFirstFaulty wanted classes p from among.last x →
          EndsSo p (IsWhy sought reference classes) (from + length f.passed.items) (searched_to x to) h →
          IfSome h (λ h. from + length f.passed.items + 1 < 18446744073709551616) →
          IfSome (or_faulty h x) (λ h. from + length f.passed.items + 1 < 18446744073709551616)
      by_end (Some h) x first end next = next
      by_end None None first end next = tt
      by_end None (Some y) first end next =
          let number = number_within wanted classes p from among.last (Some y) y refl among.order first in
          omega (arith, end, number.1, among.within, there, few)

-- ---- the first fault of a program that has one

no_fault : (x : Fault × Faulty) → Some x ≡ None → ⊥
no_fault x is = cc

apart : false ≡ true → ⊥
apart h = cc

none_of_two : (a b : Option (Fault × Faulty)) → first_of a b ≡ None → (a ≡ None) × (b ≡ None)
none_of_two None b is = (refl, is)
none_of_two (Some x) b is = absurd (no_fault x is)

none_so : (fault : Fault) (t : Told) → so_of fault t ≡ None → is_so t ≡ false
none_so fault told.Never is = refl
none_so fault (told.So f) is = absurd (no_fault (fault, f) is)
none_so fault told.Unknown is = refl

has_first_of_all : (t : Tellings) → has_some t ≡ true → first_of_all t ≡ None → ⊥
has_first_of_all t has none =
    let throws = none_of_two (so_of faults.Throws t.throws) (first_of (so_of faults.Waits t.waits)
    (so_of faults.Turns t.turns)) none in
    let others = none_of_two (so_of faults.Waits t.waits) (so_of faults.Turns t.turns) throws.1 in
    let no_throw = none_so faults.Throws t.throws throws.0 in
    let no_wait = none_so faults.Waits t.waits others.0 in
    let no_turn = none_so faults.Turns t.turns others.1 in
    apart (sym (λ i. no_throw i || (no_wait i || no_turn i)) ∙ has)

has_first : (wanted : Wanted) (t : Tellings) → has_wanted wanted t ≡ true → first_fault wanted t ≡ None → ⊥
has_first kinds.Nothing t has none = apart has
has_first kinds.Waits t has none = apart (sym (none_so faults.Waits t.waits none) ∙ has)
has_first kinds.All t has none = has_first_of_all t has none

-- what is said of the first number of which a call is told to have a fault
pub found_faulty : (wanted : Wanted) (p : Programs) (from to at : ℕ) (ts : List Tellings) (t : Tellings)
    (r : Result (Option FaultyProgram) AllocError) →
    position (has_wanted wanted) ts ≡ Some at →
    slice_get ts at ≡ Some t →
    has_wanted wanted t ≡ true →
    from + at < length (plans p.family) →
    IfOk r (λ some. IfSome some (IsFaultyAt wanted p (from + at) t)) →
    IfOk r (λ some. some ≡ None → (first_fault wanted t ≡ None) ⊎ (slice_get (plans p.family) (from + at) ≡ None)) →
    IfOk r (λ some. (classes : Text) → AreToldOf classes p from to ts → IsFirstFaulty wanted classes p from to some)
found_faulty wanted p from to at ts t (Err e) place got has less some none = tt
found_faulty wanted p from to at ts t (Ok (Some f)) place got has less some none =
    λ classes told. OneIsFaulty ts at t f told place got some
found_faulty wanted p from to at ts t (Ok None) place got has less some none = absurd (by_why (none refl))
  where
    by_why : (first_fault wanted t ≡ None) ⊎ (slice_get (plans p.family) (from + at) ≡ None) → ⊥
    by_why (inl unfound) = has_first wanted t has unfound
    by_why (inr no_plan) = let past = none_past (plans p.family) (from + at) no_plan in omega (arith, less, past)
