-- The rows of chosen paths: one for each history that ends, and one for each from which none goes on.
use Rattle.std.proofs.Common.{◌≡◌, ◌⊎◌, inl, inr, [], ◌∷◌, ◌++◌, ℕ, ◌≤◌, Bool, true, false, not, List, length, Option}
use Rattle.std.proofs.Common.{Some, IsPermutation, refl, sym, ap, ◌∙◌, subst, arith}
use Rattle.std.specs.Prelude.{Contains, slice_get}
use Rattle.std.proofs.lemmas.List.Sorted.{Contains-permutation, IsPermutation-sym}
use Rattle.ls_events.specs.Beginnings.{IsBeginning}
use Rattle.ls_events.specs.declared.event.Event.{Event}
use Rattle.ls_code.specs.Machine.{Machine}
use Rattle.ls_history_numbers.specs.Choices.{AreThere, IsBegun, IsChosen, IsCovered, IsEnd as IsEndOf}
use Rattle.ls_history_numbers.specs.Numbers.{AreNumbered, IsOf, Keeps}
use Rattle.ls_history_numbers.specs.declared.numbering.Known.{Known}
use Rattle.ls_history_numbers.proofs.Lists.{below, pushed_where, some_is, there}
use Rattle.ls_explore.specs.Listed.{IsRowOf, TellListed}
use Rattle.ls_explore.specs.Rows.{AreApart, HasEnd, IsEnd, IsToldBy, StandAlone, Told, ending_of, ending_of_seen}
use Rattle.ls_explore.specs.Walks.{walked}
use Rattle.ls_explore.specs.declared.searching.Seen.{Seen}
use Rattle.ls_explore.proofs.Order.{apart_kept}

not_true : (b : Bool) → not b ≡ true → b ≡ false
not_true true e = cc
not_true false e = refl

end_acts : (acts stops : Bool) → acts ≡ false → IsEnd (ending_of_seen acts stops)
end_acts true stops e = absurd cc
end_acts false true e = tt
end_acts false false e = tt

of_same : (all : List Known) (n : ℕ) (g h : List Event) → IsOf all n g → IsOf all n h → g ≡ h
of_same all n g h (k, k_is, e) (l, l_is, f) =
    sym e ∙ ap (λ (x : Known). x.events.items) (some_is (sym k_is ∙ l_is)) ∙ f

-- a number keeps its history
pub of_kept : (old new : List Known) (n : ℕ) (h : List Event) → Keeps old new → IsOf old n h → IsOf new n h
of_kept old new n h keeps (k, is, e) = let l = keeps n k is in (l.0, l.1, l.2 ∙ e)

-- each path has the number of its history, and it is known of the first paths whether they end
pub record Numbered (most : ℕ) (root : Machine) (paths : List (List ℕ)) (seen : List Seen) (all : List Known)
    (numbers : List ℕ) (ends : List Bool) : Type 0 where
  pub numbered : AreNumbered all
  pub many : length numbers ≡ length paths
  pub each : (at n : ℕ) (path : List ℕ) → slice_get numbers at ≡ Some n → slice_get paths at ≡ Some path →
      IsOf all n (walked most root path).history
  pub many_ends : length ends ≡ length seen
  pub of_seen : (at : ℕ) (s : Seen) → slice_get seen at ≡ Some s → slice_get ends at ≡ Some (not s.acts)

-- the same, by lists that are lent
pub numbered_by : (most : ℕ) (root : Machine) (paths : List (List ℕ)) (seen lent_seen : List Seen) (all : List Known)
    (numbers : List ℕ) (ends : List Bool) (all' : List Known) (numbers' : List ℕ) (ends' : List Bool) →
    all' ≡ all → numbers' ≡ numbers → ends' ≡ ends → lent_seen ≡ seen → AreNumbered all →
    length numbers ≡ length paths →
    ((at n : ℕ) (path : List ℕ) → slice_get numbers at ≡ Some n → slice_get paths at ≡ Some path →
    IsOf all n (walked most root path).history) →
    length ends ≡ length lent_seen →
    ((at : ℕ) (s : Seen) → slice_get lent_seen at ≡ Some s → slice_get ends at ≡ Some (not s.acts)) →
    Numbered most root paths seen all' numbers' ends'
numbered_by most root paths seen lent_seen all numbers ends all' numbers' ends' lent_all lent_numbers lent_ends is_seen
    numbered many each many_ends of_seen =
    subst (λ (l : List Known). Numbered most root paths seen l numbers' ends') (sym lent_all)
    (subst (λ (l : List ℕ). Numbered most root paths seen all l ends') (sym lent_numbers)
    (subst (Numbered most root paths seen all numbers) (sym lent_ends)
    (subst (λ (l : List Seen). Numbered most root paths l all numbers ends) is_seen (record {
      numbered = numbered;
      many = many;
      each = each;
      many_ends = many_ends;
      of_seen = of_seen;
    }))))

module _ (most : ℕ) (root : Machine) (paths : List (List ℕ)) (seen : List Seen) (all : List Known) (numbers : List ℕ)
    (ends : List Bool) (told : Numbered most root paths seen all numbers ends) (few : length seen ≤ length paths) where
  -- the path and the number at a place
  path_at : (at n : ℕ) → slice_get numbers at ≡ Some n → (path : List ℕ) × (slice_get paths at ≡ Some path)
  path_at at n has = there paths at (omega (arith, below numbers at n has, told.many))

  number_at : (at : ℕ) (path : List ℕ) → slice_get paths at ≡ Some path → (n : ℕ) × (slice_get numbers at ≡ Some n)
  number_at at path here = there numbers at (omega (arith, below paths at path here, told.many))

  pub numbers_there : AreThere all numbers
  numbers_there at n has =
      let p = path_at at n has in
      let of = told.each at n p.0 has p.1 in
      below all n of.0 of.1

  pub ends_few : length ends ≤ length numbers
  ends_few = omega (arith, told.many_ends, told.many, few)

  -- the history of a row of the path has the number
  row_of_number : (at n : ℕ) (r : Told) → slice_get numbers at ≡ Some n → IsRowOf most root paths seen at r →
      IsOf all n r.history
  row_of_number at n r has row = subst (IsOf all n) (sym row.history) (told.each at n r.path has row.here)

  -- a row of a path that ends
  row_ends : (n at : ℕ) (r : Told) → IsEndOf numbers ends n at → IsRowOf most root paths seen at r → IsEnd r.ending
  row_ends n at r end row =
      let s = there seen at (omega (arith, below ends at true end.still, told.many_ends)) in
      let still : s.0.acts ≡ false = not_true s.0.acts (some_is (sym (told.of_seen at s.0 s.1) ∙ end.still)) in
      subst IsEnd (sym (row.ending ∙ ap ending_of s.1)) (end_acts s.0.acts s.0.stops still)

  -- paths whose rows have one history have one number
  pub one_number : (at n other m : ℕ) (r s : Told) → slice_get numbers at ≡ Some n → slice_get numbers other ≡ Some m →
      IsRowOf most root paths seen at r → IsRowOf most root paths seen other s → r.history ≡ s.history → n ≡ m
  one_number at n other m r s has other_has row other_row same =
      let f = row_of_number at n r has row in
      let g = row_of_number other m s other_has other_row in
      told.numbered.apart n m f.0 g.0 f.1 g.1 (f.2 ∙ same ∙ sym g.2)

  module _ (choices : List (Option ℕ)) (has : (n at : ℕ) → IsChosen choices n at → slice_get numbers at ≡ Some n)
      (ends_chosen : (n at : ℕ) → IsEndOf numbers ends n at →
      (first : ℕ) × IsChosen choices n first × IsEndOf numbers ends n first)
      (covers : (n at : ℕ) → slice_get numbers at ≡ Some n → IsCovered all choices n)
      (alone : (n at m other : ℕ) → IsChosen choices n at → (IsEndOf numbers ends n at → ⊥) →
      slice_get numbers other ≡ Some m → IsBegun all n m → n ≡ m) (rows : List Told)
      (own : (r : Told) → Contains rows r → (n : ℕ) × (at : ℕ) × IsChosen choices n at
      × IsRowOf most root paths seen at r)
      (made : (n at : ℕ) → IsChosen choices n at → (r : Told) × Contains rows r × IsRowOf most root paths seen at r)
      (apart : AreApart rows) where
    ended : (at : ℕ) (path : List ℕ) (s : Seen) → slice_get paths at ≡ Some path → slice_get seen at ≡ Some s →
        s.acts ≡ false → HasEnd rows (walked most root path).history
    ended at path s here s_is still =
        let n = number_at at path here in
        let of = told.each at n.0 path n.1 here in
        let x = ends_chosen n.0 at
        (record { has = n.1; still = told.of_seen at s s_is ∙ ap (λ b. Some (not b)) still }) in
        let m = made n.0 x.0 x.1 in
        record {
          row = m.0;
          there = m.1;
          same = of_same all n.0 m.0.history (walked most root path).history
              (row_of_number x.0 n.0 m.0 (has n.0 x.0 x.1) m.2) of;
          ends = row_ends n.0 x.0 m.0 x.2 m.2;
        }

    covered : (at : ℕ) (path : List ℕ) → slice_get paths at ≡ Some path →
        IsToldBy rows (walked most root path).history
    covered at path here =
        let n = number_at at path here in
        let of = told.each at n.0 path n.1 here in
        let c = covers n.0 at n.1 in
        let m = made c.number c.place c.chosen in
        let first : c.begun.first.events.items ≡ (walked most root path).history =
        of_same all n.0 c.begun.first.events.items (walked most root path).history
        (c.begun.first, c.begun.first_is, refl) of in
        let second : c.begun.second.events.items ≡ m.0.history =
        of_same all c.number c.begun.second.events.items m.0.history (c.begun.second, c.begun.second_is, refl)
        (row_of_number c.place c.number m.0 (has c.number c.place c.chosen) m.2) in
        record {
          row = m.0;
          there = m.1;
          begins = subst (λ h. IsBeginning h m.0.history) first
              (subst (IsBeginning c.begun.first.events.items) second c.begun.begins);
        }

    stand : StandAlone rows
    stand r s r_there s_there unended begins =
        let a = own r r_there in
        let b = own s s_there in
        let r_of = row_of_number a.1 a.0 r (has a.0 a.1 a.2) a.3 in
        let s_of = row_of_number b.1 b.0 s (has b.0 b.1 b.2) b.3 in
        let same : a.0 ≡ b.0 =
        alone a.0 a.1 b.0 b.1 a.2 (λ end. unended (row_ends a.0 a.1 r end a.3)) (has b.0 b.1 b.2) (record {
          first = r_of.0;
          first_is = r_of.1;
          second = s_of.0;
          second_is = s_of.1;
          begins = subst (λ h. IsBeginning h s_of.0.events.items) (sym r_of.2)
              (subst (IsBeginning r.history) (sym s_of.2) begins);
        }) in
        of_same all b.0 r.history s.history (subst (λ n. IsOf all n r.history) same r_of) s_of

    pub tell_listed : TellListed most root paths seen rows
    tell_listed = record {
      own = λ r c. let a = own r c in (a.1, a.3);
      ended = ended;
      covers = covered;
      alone = stand;
      apart = apart;
    }

-- ---- the same rows in another order

module _ (most : ℕ) (root : Machine) (paths : List (List ℕ)) (seen : List Seen) (old new : List Told)
    (order : IsPermutation old new) where
  still : (r : Told) → Contains old r → Contains new r
  still r c = Contains-permutation old new r order c

  was : (r : Told) → Contains new r → Contains old r
  was r c = Contains-permutation new old r (IsPermutation-sym old new order) c

  ended_still : (h : List Event) → HasEnd old h → HasEnd new h
  ended_still h e = record { row = e.row; there = still e.row e.there; same = e.same; ends = e.ends }

  begun_still : (h : List Event) → IsToldBy old h → IsToldBy new h
  begun_still h b = record { row = b.row; there = still b.row b.there; begins = b.begins }

  pub listed_sorted : TellListed most root paths seen old → TellListed most root paths seen new
  listed_sorted h = record {
    own = λ r c. h.own r (was r c);
    ended = λ at p s here known acts. ended_still (walked most root p).history (h.ended at p s here known acts);
    covers = λ at p here. begun_still (walked most root p).history (h.covers at p here);
    alone = λ r s c d unended begins. h.alone r s (was r c) (was s d) unended begins;
    apart = apart_kept old new order h.apart;
  }

-- ---- numbers one by one

pub numbered_more : (most : ℕ) (root : Machine) (paths : List (List ℕ)) (old new : List Known) (numbers more : List ℕ)
    (number : ℕ) →
    more ≡ numbers ++ number ∷ [] →
    Keeps old new →
    ((i n : ℕ) (path : List ℕ) → slice_get numbers i ≡ Some n → slice_get paths i ≡ Some path →
    IsOf old n (walked most root path).history) →
    ((path : List ℕ) → slice_get paths (length numbers) ≡ Some path → IsOf new number (walked most root path).history) →
    (i n : ℕ) (path : List ℕ) →
    slice_get more i ≡ Some n →
    slice_get paths i ≡ Some path →
    IsOf new n (walked most root path).history
numbered_more most root paths old new numbers more number is keeps before last i n path has here =
    by_place (pushed_where numbers number i n (ap (λ (l : List ℕ). slice_get l i) (sym is) ∙ has))
  where
    by_place : (slice_get numbers i ≡ Some n) ⊎ ((i ≡ length numbers) × (number ≡ n)) →
        IsOf new n (walked most root path).history
    by_place (inl e) = of_kept old new n (walked most root path).history keeps (before i n path e here)
    by_place (inr (e, same)) =
        subst (λ k. IsOf new k (walked most root path).history) same
        (last path (ap (slice_get paths) (sym e) ∙ here))

-- ---- ends one by one

-- whether no thread acts after it
abbrev pub IsEndAt : List Seen → ℕ → Bool → Type 0
IsEndAt seen i b = (s : Seen) × (slice_get seen i ≡ Some s) × (b ≡ not s.acts)
