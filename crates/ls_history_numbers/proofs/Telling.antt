-- Which place is the first that ends, and the last, of each number; and from which numbers histories go on.
use Rattle.std.proofs.Common.{◌≡◌, ◌⊎◌, inl, inr, ℕ, ◌+◌, ◌<◌, ◌≤◌, Bool, true, false, List, length, Option, Some, None}
use Rattle.std.proofs.Common.{refl}
use Rattle.std.proofs.Common.{sym, ap, ◌∙◌, subst, arith, [], ◌∷◌, ◌++◌, length-append}
use Rattle.std.specs.Prelude.{◌||◌, is_some, nat_eq, slice_get, slice_set}
use Rattle.std.proofs.lemmas.Bool.{cases_lt}
use Rattle.std.proofs.lemmas.Bool.Decides.{eqb_tells}
use Rattle.ls_history_numbers.specs.declared.numbering.Known.{Known}
use Rattle.ls_history_numbers.specs.Chosen.{chosen}
use Rattle.ls_history_numbers.specs.Choices.{Counts, GoesOn, IsEnd, TellBegun, TellChoices, TellFirsts, TellLasts}
use Rattle.ls_history_numbers.proofs.Lists.{below, length-set, pushed_last, pushed_left, set_other, set_same, some_is}
use Rattle.ls_history_numbers.proofs.Lists.{there}

-- ---- the first that ends

module _ (numbers : List ℕ) (ends : List Bool) (firsts : List (Option ℕ)) (count from at : ℕ)
    (h : TellFirsts numbers ends firsts count from) (from_is : from ≡ at + 1) where
  pub firsts_skip : (e : Bool) → slice_get ends at ≡ Some e → e ≡ false → TellFirsts numbers ends firsts count at
  firsts_skip e here isnt = record {
    many = h.many;
    each = h.each;
    all = λ n i after end. by_place n i end (cases_lt at i) after;
  }
    where
      by_place : (n i : ℕ) → IsEnd numbers ends n i → (at < i) ⊎ (i ≤ at) → at ≤ i →
          (first : ℕ) × (slice_get firsts n ≡ Some (Some first))
      by_place n i end (inl less) after = h.all n i (omega (arith, less, from_is)) end
      by_place n i end (inr past) after =
          let same : i ≡ at = omega (arith, past, after) in
          let is_so : Some e ≡ Some true = sym here ∙ ap (slice_get ends) (sym same) ∙ end.still in
          absurd (not_both (sym isnt ∙ some_is is_so))
        where
          not_both : false ≡ true → ⊥
          not_both x = cc

  pub firsts_set : (m : ℕ) → slice_get numbers at ≡ Some m → slice_get ends at ≡ Some true → m < count →
      TellFirsts numbers ends (slice_set firsts m (Some at)) count at
  firsts_set m has is_so within = record {
    many = length-set firsts m (Some at) ∙ h.many;
    each = λ n i e. each n i e (eqb_tells n m);
    all = λ n i after end. all n i after end (eqb_tells n m);
  }
    where
      here : slice_get (slice_set firsts m (Some at)) m ≡ Some (Some at)
      here = set_same firsts m (Some at) (omega (arith, within, h.many))

      each : (n i : ℕ) → slice_get (slice_set firsts m (Some at)) n ≡ Some (Some i) →
          ((nat_eq n m ≡ true) × (n ≡ m)) ⊎ ((nat_eq n m ≡ false) × (n ≡ m → ⊥)) → IsEnd numbers ends n i
      each n i e (inl (t, same)) =
          let i_is : at ≡ i =
          some_is (some_is (sym here ∙ ap (slice_get (slice_set firsts m (Some at))) (sym same) ∙ e)) in
          record {
            has = ap (slice_get numbers) (sym i_is) ∙ has ∙ ap Some (sym same);
            still = ap (slice_get ends) (sym i_is) ∙ is_so;
          }
      each n i e (inr (f, other)) = h.each n i (sym (set_other firsts m n (Some at) other) ∙ e)

      all : (n i : ℕ) → at ≤ i → IsEnd numbers ends n i →
          ((nat_eq n m ≡ true) × (n ≡ m)) ⊎ ((nat_eq n m ≡ false) × (n ≡ m → ⊥)) →
          (first : ℕ) × (slice_get (slice_set firsts m (Some at)) n ≡ Some (Some first))
      all n i after end (inl (t, same)) = (at, ap (slice_get (slice_set firsts m (Some at))) same ∙ here)
      all n i after end (inr (f, other)) = by_place (cases_lt at i)
        where
          by_place : (at < i) ⊎ (i ≤ at) →
              (first : ℕ) × (slice_get (slice_set firsts m (Some at)) n ≡ Some (Some first))
          by_place (inl less) =
              let x = h.all n i (omega (arith, less, from_is)) end in
              (x.0, set_other firsts m n (Some at) other ∙ x.1)
          by_place (inr past) =
              let same : i ≡ at = omega (arith, past, after) in
              absurd (other (some_is (sym end.has ∙ ap (slice_get numbers) same ∙ has)))

-- ---- the last

pub lasts_set : (numbers : List ℕ) (lasts : List (Option ℕ)) (count at m : ℕ) → TellLasts numbers lasts count at →
    slice_get numbers at ≡ Some m → m < count → TellLasts numbers (slice_set lasts m (Some at)) count (at + 1)
lasts_set numbers lasts count at m h has within = record {
  many = length-set lasts m (Some at) ∙ h.many;
  each = λ n i e. each n i e (eqb_tells n m);
  all = λ n i less is. all n i less is (eqb_tells n m);
}
  where
    here : slice_get (slice_set lasts m (Some at)) m ≡ Some (Some at)
    here = set_same lasts m (Some at) (omega (arith, within, h.many))

    each : (n i : ℕ) → slice_get (slice_set lasts m (Some at)) n ≡ Some (Some i) →
        ((nat_eq n m ≡ true) × (n ≡ m)) ⊎ ((nat_eq n m ≡ false) × (n ≡ m → ⊥)) → slice_get numbers i ≡ Some n
    each n i e (inl (t, same)) =
        let i_is : at ≡ i =
        some_is (some_is (sym here ∙ ap (slice_get (slice_set lasts m (Some at))) (sym same) ∙ e)) in
        ap (slice_get numbers) (sym i_is) ∙ has ∙ ap Some (sym same)
    each n i e (inr (f, other)) = h.each n i (sym (set_other lasts m n (Some at) other) ∙ e)

    all : (n i : ℕ) → i < at + 1 → slice_get numbers i ≡ Some n →
        ((nat_eq n m ≡ true) × (n ≡ m)) ⊎ ((nat_eq n m ≡ false) × (n ≡ m → ⊥)) →
        (last : ℕ) × (slice_get (slice_set lasts m (Some at)) n ≡ Some (Some last))
    all n i less is (inl (t, same)) = (at, ap (slice_get (slice_set lasts m (Some at))) same ∙ here)
    all n i less is (inr (f, other)) = by_place (cases_lt i at)
      where
        by_place : (i < at) ⊎ (at ≤ i) → (last : ℕ) × (slice_get (slice_set lasts m (Some at)) n ≡ Some (Some last))
        by_place (inl before) =
            let x = h.all n i before is in (x.0, set_other lasts m n (Some at) other ∙ x.1)
        by_place (inr past) =
            let same : i ≡ at = omega (arith, past, less) in
            absurd (other (some_is (sym is ∙ ap (slice_get numbers) same ∙ has)))

-- ---- from which histories go on

module _ (all : List Known) (numbers : List ℕ) (begun : List Bool) (from number : ℕ)
    (h : TellBegun all numbers begun from) (from_is : from ≡ number + 1) where
  pub begun_skip : (0 < number → Counts numbers begun number → ⊥) → TellBegun all numbers begun number
  begun_skip none = record {
    many = h.many;
    goes = h.goes;
    is = λ m k here later after counts. by_place m k here later after counts (cases_lt number m);
  }
    where
      by_place : (m : ℕ) (k : Known) → slice_get all m ≡ Some k → 0 < m → number ≤ m → Counts numbers begun m →
          (number < m) ⊎ (m ≤ number) → slice_get begun k.before ≡ Some true
      by_place m k here later after counts (inl less) = h.is m k here later (omega (arith, less, from_is)) counts
      by_place m k here later after counts (inr past) =
          let same : m ≡ number = omega (arith, past, after) in
          absurd (none (omega (arith, later, same)) (subst (Counts numbers begun) same counts))

  pub begun_set : (k : Known) → slice_get all number ≡ Some k → 0 < number → k.before < number →
      Counts numbers begun number → TellBegun all numbers (slice_set begun k.before true) number
  begun_set k k_is later earlier counts = record {
    many = length-set begun k.before true ∙ h.many;
    goes = λ n e. goes n e (eqb_tells n k.before);
    is = λ m l here after_first after c. by_place m l here after_first after c (cases_lt number m);
  }
    where
      new : List Bool
      new = slice_set begun k.before true

      here_new : slice_get (slice_set begun k.before true) k.before ≡ Some true
      here_new =
          set_same begun k.before true (let b = below all number k k_is in omega (arith, earlier, b, h.many))

      -- what is noted stays so
      still : (n : ℕ) → slice_get begun n ≡ Some true → slice_get (slice_set begun k.before true) n ≡ Some true
      still n e = by_place (eqb_tells n k.before)
        where
          by_place : ((nat_eq n k.before ≡ true) × (n ≡ k.before)) ⊎ ((nat_eq n k.before ≡ false) × (n ≡ k.before → ⊥))
              → slice_get (slice_set begun k.before true) n ≡ Some true
          by_place (inl (t, same)) = ap (slice_get (slice_set begun k.before true)) same ∙ here_new
          by_place (inr (f, other)) = set_other begun k.before n true other ∙ e

      counts_still : (n : ℕ) → Counts numbers begun n → Counts numbers (slice_set begun k.before true) n
      counts_still n (inl has) = inl has
      counts_still n (inr e) = inr (still n e)

      goes_still : (n : ℕ) → GoesOn all numbers begun n → GoesOn all numbers (slice_set begun k.before true) n
      goes_still n g = record {
        number = g.number;
        later = g.later;
        longer = g.longer;
        longer_is = g.longer_is;
        from = g.from;
        counts = counts_still g.number g.counts;
      }

      goes : (n : ℕ) → slice_get (slice_set begun k.before true) n ≡ Some true →
          ((nat_eq n k.before ≡ true) × (n ≡ k.before)) ⊎ ((nat_eq n k.before ≡ false) × (n ≡ k.before → ⊥)) →
          GoesOn all numbers (slice_set begun k.before true) n
      goes n e (inl (t, same)) = record {
        number = number;
        later = later;
        longer = k;
        longer_is = k_is;
        from = sym same;
        counts = counts_still number counts;
      }
      goes n e (inr (f, other)) = goes_still n (h.goes n (sym (set_other begun k.before n true other) ∙ e))

      counts_was : (m : ℕ) → number < m → Counts numbers (slice_set begun k.before true) m → Counts numbers begun m
      counts_was m less (inl has) = inl has
      counts_was m less (inr e) = inr (sym (set_other begun k.before m true other) ∙ e)
        where
          other : m ≡ k.before → ⊥
          other same = omega (arith, same, less, earlier)

      by_place : (m : ℕ) (l : Known) → slice_get all m ≡ Some l → 0 < m → number ≤ m →
          Counts numbers (slice_set begun k.before true) m → (number < m) ⊎ (m ≤ number) →
          slice_get (slice_set begun k.before true) l.before ≡ Some true
      by_place m l here after_first after c (inl less) =
          still l.before (h.is m l here after_first (omega (arith, less, from_is)) (counts_was m less c))
      by_place m l here after_first after c (inr past) =
          let same : m ≡ number = omega (arith, past, after) in
          let l_is : k ≡ l = some_is (sym k_is ∙ ap (slice_get all) (sym same) ∙ here) in
          ap (λ (x : Known). slice_get (slice_set begun k.before true) x.before) (sym l_is) ∙ here_new

-- ---- whether a number counts

no_true : false ≡ true → ⊥
no_true e = cc

by_last : (last : Option ℕ) (b : Bool) → (is_some last || b) ≡ true → ((x : ℕ) × (last ≡ Some x)) ⊎ (b ≡ true)
by_last (Some x) b e = inl (x, refl)
by_last None b e = inr e

or_true : (a b : Bool) → b ≡ true → (a || b) ≡ true
or_true true b e = refl
or_true false b e = e

module _ (numbers : List ℕ) (lasts : List (Option ℕ)) (begun : List Bool) (count number : ℕ)
    (told : TellLasts numbers lasts count (length numbers)) (in_lasts : number < length lasts)
    (in_begun : number < length begun) (result : Bool)
    (tells : (last : Option ℕ) (b : Bool) → slice_get lasts number ≡ Some last → slice_get begun number ≡ Some b →
    result ≡ (is_some last || b)) where
  pub counts_so : result ≡ true → Counts numbers begun number
  counts_so is =
      let l = there lasts number in_lasts in
      let b = there begun number in_begun in
      by_case l.0 b.0 l.1 b.1 (by_last l.0 b.0 (sym (tells l.0 b.0 l.1 b.1) ∙ is))
    where
      by_case : (last : Option ℕ) (b : Bool) → slice_get lasts number ≡ Some last → slice_get begun number ≡ Some b →
          ((x : ℕ) × (last ≡ Some x)) ⊎ (b ≡ true) → Counts numbers begun number
      by_case last b l_is b_is (inl (x, is)) = inl (x, told.each number x (l_is ∙ ap Some is))
      by_case last b l_is b_is (inr is) = inr (b_is ∙ ap Some is)

  pub counts_not : result ≡ false → Counts numbers begun number → ⊥
  counts_not is (inl (at, has)) =
      let l = told.all number at (below numbers at number has) has in
      let b = there begun number in_begun in
      no_true (sym is ∙ tells (Some l.0) b.0 l.1 b.1)
  counts_not is (inr e) =
      let l = there lasts number in_lasts in
      no_true (sym is ∙ tells l.0 true l.1 e ∙ or_true (is_some l.0) true refl)

-- ---- one number more

pub choices_more : (firsts lasts : List (Option ℕ)) (begun : List Bool) (choices choices' : List (Option ℕ)) (count : ℕ)
    (first last : Option ℕ) (b : Bool) → slice_get firsts count ≡ Some first → slice_get lasts count ≡ Some last →
    slice_get begun count ≡ Some b → choices' ≡ choices ++ chosen first last b ∷ [] →
    TellChoices firsts lasts begun choices count → TellChoices firsts lasts begun choices' (count + 1)
choices_more firsts lasts begun choices choices' count first last b f_is l_is b_is more h = record {
  many = omega (arith, ap length more, length-append choices (chosen first last b ∷ []), h.many);
  each = λ n f l g less f' l' g'. by_place n f l g less f' l' g' (cases_lt n count);
}
  where
    by_place : (n : ℕ) (f l : Option ℕ) (g : Bool) → n < count + 1 → slice_get firsts n ≡ Some f →
        slice_get lasts n ≡ Some l → slice_get begun n ≡ Some g → (n < count) ⊎ (count ≤ n) →
        slice_get choices' n ≡ Some (chosen f l g)
    by_place n f l g less f' l' g' (inl before) =
        ap (λ (cs : List (Option ℕ)). slice_get cs n) more
        ∙ pushed_left choices (chosen first last b) n (chosen f l g) (h.each n f l g before f' l' g')
    by_place n f l g less f' l' g' (inr past) =
        let same : n ≡ count = omega (arith, less, past) in
        let f_same : first ≡ f = some_is (sym f_is ∙ ap (slice_get firsts) (sym same) ∙ f') in
        let l_same : last ≡ l = some_is (sym l_is ∙ ap (slice_get lasts) (sym same) ∙ l') in
        let g_same : b ≡ g = some_is (sym b_is ∙ ap (slice_get begun) (sym same) ∙ g') in
        ap (slice_get choices') (same ∙ sym h.many)
        ∙ ap (λ (cs : List (Option ℕ)). slice_get cs (length choices)) more
        ∙ pushed_last choices (chosen first last b)
        ∙ (λ i. Some (chosen (f_same i) (l_same i) (g_same i)))
