-- Each history that a place has begins that of a chosen one, and none that doesn't end begins another.
use Rattle.std.proofs.Common.{◌≡◌, ◌⊎◌, inl, inr, ℕ, zero, suc, ◌+◌, ◌<◌, ◌≤◌, Bool, true, false, List, [], ◌∷◌, ◌++◌}
use Rattle.std.proofs.Common.{length}
use Rattle.std.proofs.Common.{Option, Some, None, refl, sym, ap, ◌∙◌, arith}
use Rattle.std.specs.Prelude.{slice_get}
use Rattle.std.proofs.lemmas.Bool.{cases_lt}
use Rattle.std.proofs.lemmas.List.{append_assoc, append-nil}
use Rattle.ls_events.specs.declared.event.Event.{Event}
use Rattle.ls_history_numbers.specs.declared.numbering.Known.{Known}
use Rattle.ls_history_numbers.specs.Chosen.{chosen}
use Rattle.ls_history_numbers.specs.Numbers.{AreNumbered, IsLonger}
use Rattle.ls_history_numbers.specs.Choices.{AreThere, Counts, IsBegun, IsChosen, IsCovered, IsEnd, TellBegun}
use Rattle.ls_history_numbers.specs.Choices.{TellChoices}
use Rattle.ls_history_numbers.specs.Choices.{TellFirsts, TellLasts}
use Rattle.ls_history_numbers.proofs.Lists.{below, some_is, there}

no_some : {A : Type 0} {x : A} → None ≡ Some x → ⊥
no_some e = cc

not_both : true ≡ false → ⊥
not_both e = cc

-- what is left of a list after a beginning: nothing, or it is left of the list without its last item
split : {A : Type 0} (h rest g : List A) (x : A) → h ++ rest ≡ g ++ x ∷ [] →
    (rest ≡ []) ⊎ ((r : List A) × (h ++ r ≡ g))
split [] rest g x e = inr (g, refl)
split (a ∷ h) rest [] x e =
    let none : h ++ rest ≡ [] = cc in
    inl (right_none h rest none)
  where
    right_none : {A : Type 0} (xs ys : List A) → xs ++ ys ≡ [] → ys ≡ []
    right_none [] ys e = e
    right_none (x ∷ xs) ys e = cc
split (a ∷ h) rest (b ∷ g) x e =
    let first : a ≡ b = cc in
    let less : h ++ rest ≡ g ++ x ∷ [] = cc in
    by_rest first (split h rest g x less)
  where
    by_rest : a ≡ b → (rest ≡ []) ⊎ ((r : List _) × (h ++ r ≡ g)) →
        (rest ≡ []) ⊎ ((r : List _) × ((a ∷ h) ++ r ≡ b ∷ g))
    by_rest first (inl none) = inl none
    by_rest first (inr (r, is)) = inr (r, ap (λ l. a ∷ l) is ∙ ap (λ z. z ∷ g) first)

module _ (all : List Known) (numbers : List ℕ) (ends : List Bool) (firsts lasts : List (Option ℕ)) (begun : List Bool)
    (choices : List (Option ℕ)) (numbered : AreNumbered all) (there_all : AreThere all numbers)
    (by_first : TellFirsts numbers ends firsts (length all) 0)
    (by_last : TellLasts numbers lasts (length all) (length numbers)) (goes : TellBegun all numbers begun 0)
    (told : TellChoices firsts lasts begun choices (length all)) where
  -- what is known of a number
  record Facts (n : ℕ) : Type 0 where
    first : Option ℕ
    first_is : slice_get firsts n ≡ Some first
    last : Option ℕ
    last_is : slice_get lasts n ≡ Some last
    goes_on : Bool
    goes_is : slice_get begun n ≡ Some goes_on
    choice : slice_get choices n ≡ Some (chosen first last goes_on)

  facts : (n : ℕ) → n < length all → Facts n
  facts n within =
      let f = there firsts n (omega (arith, within, by_first.many)) in
      let l = there lasts n (omega (arith, within, by_last.many)) in
      let b = there begun n (omega (arith, within, goes.many)) in
      record {
        first = f.0;
        first_is = f.1;
        last = l.0;
        last_is = l.1;
        goes_on = b.0;
        goes_is = b.1;
        choice = told.each n f.0 l.0 b.0 within f.1 l.1 b.1;
      }

  chosen_within : (n at : ℕ) → IsChosen choices n at → n < length all
  chosen_within n at e = let b = below choices n (Some at) e in omega (arith, b, told.many)

  -- ---- what was chosen has the number

  pub chosen_has : (n at : ℕ) → IsChosen choices n at → slice_get numbers at ≡ Some n
  chosen_has n at e =
      let f = facts n (chosen_within n at e) in
      by_first_of f.first f.last f.goes_on f.first_is f.last_is (some_is (sym f.choice ∙ e))
    where
      by_first_of : (first last : Option ℕ) (b : Bool) → slice_get firsts n ≡ Some first →
          slice_get lasts n ≡ Some last →
          chosen first last b ≡ Some at → slice_get numbers at ≡ Some n
      by_first_of (Some x) last b f_is l_is is =
          (by_first.each n at (f_is ∙ ap Some is)).has
      by_first_of None last true f_is l_is is = absurd (no_some is)
      by_first_of None last false f_is l_is is = by_last.each n at (l_is ∙ ap Some is)

  -- ---- what ends was chosen

  pub chosen_ends : (n at : ℕ) → IsEnd numbers ends n at →
      (first : ℕ) × IsChosen choices n first × IsEnd numbers ends n first
  chosen_ends n at end =
      let x = by_first.all n at (omega arith) end in
      let f = facts n (let b = below firsts n (Some x.0) x.1 in omega (arith, b, by_first.many)) in
      let first_so : f.first ≡ Some x.0 = some_is (sym f.first_is ∙ x.1) in
      (x.0, f.choice ∙ ap (λ o. Some (chosen o f.last f.goes_on)) first_so, by_first.each n x.0 x.1)

  -- ---- each is covered

  itself : (n : ℕ) → n < length all → IsBegun all n n
  itself n within =
      let k = there all n within in
      record {
        first = k.0;
        first_is = k.1;
        second = k.0;
        second_is = k.1;
        begins = ([], append-nil k.0.events.items);
      }

  longer_begun : (n m : ℕ) (k : Known) → slice_get all m ≡ Some k → 0 < m → k.before ≡ n → (x : ℕ) → IsBegun all m x →
      IsBegun all n x
  longer_begun n m k k_is later from x b =
      let l : IsLonger all m k = numbered.made m k k_is later in
      let same : k ≡ b.first = some_is (sym k_is ∙ b.first_is) in
      record {
        first = l.from;
        first_is = ap (slice_get all) (sym from) ∙ l.from_is;
        second = b.second;
        second_is = b.second_is;
        begins = (
          (l.last ∷ []) ++ b.begins.0,
          sym (append_assoc l.from.events.items (l.last ∷ []) b.begins.0)
              ∙ ap (λ h. h ++ b.begins.0) (sym l.is ∙ ap (λ (z : Known). z.events.items) same)
              ∙ b.begins.1,
        );
      }

  cover : (fuel n : ℕ) → length all ≤ n + fuel → n < length all → Counts numbers begun n → IsCovered all choices n
  cover zero n few within counts = absurd (omega (arith, few, within))
  cover (suc fuel) n few within counts =
      let f = facts n within in
      by_first_of (λ m few' within' c. cover fuel m few' within' c) f.first f.last f.goes_on f.first_is f.last_is
      f.goes_is f.choice counts
    where
      chosen_itself : (at : ℕ) → IsChosen choices n at → IsCovered all choices n
      chosen_itself at e = record { number = n; place = at; chosen = e; begun = itself n within }

      by_first_of : ((m : ℕ) → length all ≤ m + fuel → m < length all → Counts numbers begun m →
          IsCovered all choices m) →
          (first last : Option ℕ) (b : Bool) → slice_get firsts n ≡ Some first → slice_get lasts n ≡ Some last →
          slice_get begun n ≡ Some b → slice_get choices n ≡ Some (chosen first last b) → Counts numbers begun n →
          IsCovered all choices n
      by_first_of deeper (Some x) last b f_is l_is b_is choice c = chosen_itself x choice
      by_first_of deeper None last true f_is l_is b_is choice c =
          let g = goes.goes n b_is in
          let l : IsLonger all g.number g.longer = numbered.made g.number g.longer g.longer_is g.later in
          let more : n < g.number = omega (arith, l.earlier, g.from) in
          let rest = deeper g.number (omega (arith, few, more)) (below all g.number g.longer g.longer_is) g.counts in
          record {
            number = rest.number;
            place = rest.place;
            chosen = rest.chosen;
            begun = longer_begun n g.number g.longer g.longer_is g.later g.from rest.number rest.begun;
          }
      by_first_of deeper None last false f_is l_is b_is choice (inl (at, has)) =
          let x = by_last.all n at (below numbers at n has) has in
          chosen_itself x.0 (choice ∙ sym l_is ∙ x.1)
      by_first_of deeper None last false f_is l_is b_is choice (inr is_so) =
          absurd (not_both (some_is (sym is_so ∙ b_is)))

  pub covered : (n at : ℕ) → slice_get numbers at ≡ Some n → IsCovered all choices n
  covered n at has = cover (length all) n (omega arith) (there_all at n has) (inl (at, has))

  -- ---- what doesn't end is alone

  pub alone : (n at m other : ℕ) → IsChosen choices n at → (IsEnd numbers ends n at → ⊥) →
      slice_get numbers other ≡ Some m → IsBegun all n m → n ≡ m
  alone n at m other e unended has b = walk (suc m) m (omega arith) (inl (other, has)) b
    where
      none_goes : slice_get begun n ≡ Some true → ⊥
      none_goes is_so =
          let f = facts n (chosen_within n at e) in
          by_first_of f.first f.last f.goes_on f.first_is (some_is (sym f.goes_is ∙ is_so))
          (some_is (sym f.choice ∙ e))
        where
          by_first_of : (first last : Option ℕ) (b : Bool) → slice_get firsts n ≡ Some first → b ≡ true →
              chosen first last b ≡ Some at → ⊥
          by_first_of (Some x) last b f_is is ch = unended (by_first.each n at (f_is ∙ ap Some ch))
          by_first_of None last true f_is is ch = no_some ch
          by_first_of None last false f_is is ch = not_both (sym is)

      walk : (fuel x : ℕ) → x < fuel → Counts numbers begun x → IsBegun all n x → n ≡ x
      walk zero x less counts b = absurd (omega (arith, less))
      walk (suc fuel) x less counts b = by_place (λ y less' c b'. walk fuel y less' c b') (cases_lt 0 x)
        where
          by_split : ((y : ℕ) → y < fuel → Counts numbers begun y → IsBegun all n y → n ≡ y) → 0 < x →
              (l : IsLonger all x b.second) →
              (b.begins.0 ≡ []) ⊎ ((r : List Event) × (b.first.events.items ++ r ≡ l.from.events.items)) → n ≡ x
          by_split deeper later l (inl none) =
              numbered.apart n x b.first b.second b.first_is b.second_is
              (sym (append-nil b.first.events.items) ∙ ap (λ r. b.first.events.items ++ r) (sym none) ∙ b.begins.1)
          by_split deeper later l (inr (r, is)) =
              let goes_so : slice_get begun b.second.before ≡ Some true =
              goes.is x b.second b.second_is later (omega arith) counts in
              let n_is : n ≡ b.second.before =
              deeper b.second.before (omega (arith, l.earlier, less)) (inr goes_so) (record {
                first = b.first;
                first_is = b.first_is;
                second = l.from;
                second_is = l.from_is;
                begins = (r, is);
              }) in
              absurd (none_goes (ap (slice_get begun) n_is ∙ goes_so))

          left_none : {A : Type 0} (xs ys : List A) → xs ++ ys ≡ [] → xs ≡ []
          left_none [] ys e = refl
          left_none (z ∷ xs) ys e = cc

          by_place : ((y : ℕ) → y < fuel → Counts numbers begun y → IsBegun all n y → n ≡ y) → (0 < x) ⊎ (x ≤ 0) →
              n ≡ x
          by_place deeper (inl later) =
              let l : IsLonger all x b.second = numbered.made x b.second b.second_is later in
              by_split deeper later l
              (split b.first.events.items b.begins.0 l.from.events.items l.last (b.begins.1 ∙ l.is))
          by_place deeper (inr first) =
              let zero_is : x ≡ 0 = omega (arith, first) in
              let same : numbered.none.0 ≡ b.second =
              some_is (sym numbered.none.1 ∙ ap (slice_get all) (sym zero_is) ∙ b.second_is) in
              let empty : b.first.events.items ++ b.begins.0 ≡ [] =
              b.begins.1 ∙ ap (λ (z : Known). z.events.items) (sym same) ∙ numbered.none.2 in
              numbered.apart n x b.first b.second b.first_is b.second_is
              (left_none b.first.events.items b.begins.0 empty ∙ sym empty ∙ b.begins.1)
