-- A list of paths that is closed, thread by thread and path by path.
use Rattle.std.proofs.Common.{◌≡◌, ◌⊎◌, inl, inr, ℕ, zero, suc, ◌+◌, ◌<◌, ◌≤◌, List, [], ◌∷◌, ◌++◌, length, Some}
use Rattle.std.proofs.Common.{None, refl, sym, ap, ◌∙◌, subst, arith, slice_get, slice_index_or, length-append}
use Rattle.std.specs.Prelude.{Contains}
use Rattle.std.proofs.lemmas.Bool.{cases_lt}
use Rattle.std.proofs.lemmas.List.{map-append, length-map}
use Rattle.ls_code.specs.Machine.{Machine}
use Rattle.ls_preservation.proofs.Lists.{get_left, get_right, get_within, get_there, get_map, index_there}
use Rattle.ls_explore.specs.Bursts.{burst, IsClosed}
use Rattle.ls_explore.specs.Walks.{led_to, walked}
use Rattle.ls_explore.specs.Searches.{AllAct, Grows, IsClosedTo, IsSeen, IsSound, Leads}
use Rattle.ls_explore.specs.declared.searching.Seen.{Seen}
use Rattle.ls_explore.proofs.Along.{along_more}
use Rattle.ls_explore.specs.Bursts.{ActsAlong}

-- what stands at a place is there
pub there_at : {A : Type 0} (xs : List A) (k : ℕ) (x : A) → slice_get xs k ≡ Some x → Contains xs x
there_at xs k x e = (k, get_within xs k x e, index_there xs k x x e)

pub index_get : {A : Type 0} (xs : List A) (k : ℕ) (d x : A) →
    k < length xs →
    slice_index_or xs k d ≡ x →
    slice_get xs k ≡ Some x
index_get xs k d x lt e =
    let f = get_there xs k lt in
    f.1 ∙ ap Some (sym (index_there xs k f.0 d f.1) ∙ e)

pub there_left : {A : Type 0} (xs ys : List A) (x : A) → Contains xs x → Contains (xs ++ ys) x
there_left xs ys x h =
    let at : slice_get xs h.0 ≡ Some x = index_get xs h.0 x x h.1 h.2 in
    there_at (xs ++ ys) h.0 x (get_left xs ys h.0 h.1 ∙ at)

pub there_last : {A : Type 0} (xs : List A) (x : A) → Contains (xs ++ x ∷ []) x
there_last xs x = let zero_more : length xs ≡ length xs + 0 = omega arith in
    there_at (xs ++ x ∷ []) (length xs) x (get_right xs (x ∷ []) (length xs) 0 zero_more)

module _ (n threads : ℕ) (root : Machine) where
  -- more paths lead to more machines
  grows_there : (old new : List (List ℕ)) (m : Machine) →
      Grows old new →
      Contains (led_to n root old) m →
      Contains (led_to n root new) m
  grows_there old new m (inl e) h = subst (λ ps. Contains (led_to n root ps) m) (sym e) h
  grows_there old new m (inr (p, e)) h =
      let is : led_to n root new ≡ led_to n root old ++ led_to n root (p ∷ []) = ap (led_to n root) e ∙
      map-append (walked n root) old (p ∷ []) in
      subst (λ ms. Contains ms m) (sym is) (there_left (led_to n root old) (led_to n root (p ∷ [])) m h)

  pub leads_none : (paths : List (List ℕ)) (path : List ℕ) (t : ℕ) →
      burst n (walked n root path) t ≡ None →
      Leads n root paths path t
  leads_none paths path t e = λ m h. absurd cc

  pub leads_there : (paths : List (List ℕ)) (path : List ℕ) (t : ℕ) (m : Machine) →
      burst n (walked n root path) t ≡ Some m →
      Contains (led_to n root paths) m →
      Leads n root paths path t
  leads_there paths path t m e h = λ m' h'. subst (Contains (led_to n root paths)) (some_is (sym e ∙ h')) h
    where
      some_is : {A : Type 0} {x y : A} → Some x ≡ Some y → x ≡ y
      some_is h = cc

  pub leads_new : (old new : List (List ℕ)) (path : List ℕ) (t : ℕ) (m : Machine) (p : List ℕ) →
      burst n (walked n root path) t ≡ Some m →
      m ≡ walked n root p →
      new ≡ old ++ p ∷ [] →
      Leads n root new path t
  leads_new old new path t m p e is more =
      let at : led_to n root new ≡ led_to n root old ++ walked n root p ∷ [] = ap (led_to n root) more ∙
      map-append (walked n root) old (p ∷ []) in
      leads_there new path t m e
      (subst (λ ms. Contains ms m) (sym at) (subst (λ x. Contains (led_to n root old ++ walked n root p ∷ []) x)
      (sym is) (there_last (led_to n root old) (walked n root p))))

  -- a path that stood there stands there still
  same_path : (old new : List (List ℕ)) (j : ℕ) (p : List ℕ) →
      Grows old new →
      j < length old →
      slice_get new j ≡ Some p →
      slice_get old j ≡ Some p
  same_path old new j p (inl e) lt h = ap (λ ps. slice_get ps j) (sym e) ∙ h
  same_path old new j p (inr (q, e)) lt h = sym (get_left old (q ∷ []) j lt) ∙ ap (λ ps. slice_get ps j) (sym e) ∙ h

  pub grows_longer : (old new : List (List ℕ)) → Grows old new → length old ≤ length new
  grows_longer old new (inl e) = omega (arith, ap length e)
  grows_longer old new (inr (p, e)) = omega (arith, ap length e, length-append old (p ∷ []))

  pub closed_none : (paths : List (List ℕ)) → IsClosedTo n threads root paths 0 0
  closed_none paths = record { before = λ j u p lt. absurd (omega arith); here = λ u p lt. absurd (omega arith) }

  -- one more thread
  pub closed_thread : (old new : List (List ℕ)) (i t : ℕ) (path : List ℕ) →
      i < length old →
      slice_get old i ≡ Some path →
      IsClosedTo n threads root old i t →
      Grows old new →
      Leads n root new path t →
      IsClosedTo n threads root new i (t + 1)
  closed_thread old new i t path lt at h grows leads = record {
    before = λ j u p less in_threads there m e.
        grows_there old new m grows (h.before j u p less in_threads (same_path old new j p grows (omega arith) there) m
        e);
    here = λ u p less there. by_thread u p there (cases_lt u t) less;
  }
    where
      some_is : {A : Type 0} {x y : A} → Some x ≡ Some y → x ≡ y
      some_is h = cc

      by_thread : (u : ℕ) (p : List ℕ) → slice_get new i ≡ Some p → (u < t) ⊎ (t ≤ u) → u < t + 1 → Leads n root new p u
      by_thread u p there (inl less) all = λ m e. grows_there old new m grows
          (h.here u p less (same_path old new i p grows lt there) m e)
      by_thread u p there (inr more) all =
          let same : t ≡ u = omega arith in
          let is : path ≡ p = some_is (sym at ∙ same_path old new i p grows lt there) in
          subst (λ v. Leads n root new p v) same (subst (λ q. Leads n root new q t) is leads)

  -- one more path
  pub closed_path : (paths : List (List ℕ)) (i : ℕ) →
      IsClosedTo n threads root paths i threads →
      IsClosedTo n threads root paths (i + 1) 0
  closed_path paths i h = record {
    before = λ j u p less in_threads there. by_path j u p in_threads there (cases_lt j i) less;
    here = λ u p less. absurd (omega arith);
  }
    where
      by_path : (j u : ℕ) (p : List ℕ) →
          u < threads →
          slice_get paths j ≡ Some p →
          (j < i) ⊎ (i ≤ j) →
          j < i + 1 →
          Leads n root paths p u
      by_path j u p in_threads there (inl less) all = h.before j u p less in_threads there
      by_path j u p in_threads there (inr more) all =
          let same : j ≡ i = omega arith in
          h.here u p in_threads (ap (λ k. slice_get paths k) (sym same) ∙ there)

  -- all of them
  pub closed_all : (paths : List (List ℕ)) (i : ℕ) →
      length paths ≤ i →
      IsClosedTo n threads root paths i 0 →
      IsClosed n threads (led_to n root paths)
  closed_all paths i past h = record { more = λ m m' t there in_threads e. by_place m m' t there in_threads e }
    where
      by_place : (m m' : Machine) (t : ℕ) →
          Contains (led_to n root paths) m →
          t < threads →
          burst n m t ≡ Some m' →
          Contains (led_to n root paths) m'
      by_place m m' t there in_threads e =
          let within : there.0 < length paths = omega (arith, there.1, length-map paths (walked n root)) in
          let f = get_there paths there.0 within in
          let of_map : slice_get (led_to n root paths) there.0 ≡ Some (walked n root f.0) = get_map (walked n root)
          paths there.0 f.0 f.1 in
          let is : walked n root f.0 ≡ m = sym (index_there (led_to n root paths) there.0 (walked n root f.0) m of_map)
          ∙ there.2 in
          h.before there.0 t f.0 (omega arith) in_threads f.1 m' (ap (λ z. burst n z t) is ∙ e)

  -- the empty path leads to the root
  pub first_there : (paths : List (List ℕ)) →
      slice_get paths 0 ≡ Some [] →
      walked n root [] ≡ root →
      Contains (led_to n root paths) root
  first_there paths at none = there_at (led_to n root paths) 0 root
      (get_map (walked n root) paths 0 [] at ∙ ap Some none)

  -- the empty path alone has nothing to do
  pub acts_first : (paths : List (List ℕ)) → paths ≡ [] ∷ [] → walked n root [] ≡ root → AllAct n root paths
  acts_first paths e none j p there = by_place j p (ap (λ ps. slice_get ps j) (sym e) ∙ there)
    where
      some_is : {A : Type 0} {x y : A} → Some x ≡ Some y → x ≡ y
      some_is h = cc

      by_place : (j : ℕ) (p : List ℕ) → slice_get ([] ∷ []) j ≡ Some p → ActsAlong n root p (walked n root p)
      by_place zero p h = subst (λ q. ActsAlong n root q (walked n root q)) (some_is h) (sym none)
      by_place (suc j) p h = absurd cc

  -- one more path, which goes on from one of the others
  pub acts_more : (old new : List (List ℕ)) (i : ℕ) (path p : List ℕ) (t : ℕ) (m : Machine) →
      slice_get old i ≡ Some path →
      burst n (walked n root path) t ≡ Some m →
      p ≡ path ++ t ∷ [] →
      m ≡ walked n root p →
      new ≡ old ++ p ∷ [] →
      AllAct n root old →
      AllAct n root new
  acts_more old new i path p t m at e is leads more h j q there = by_place (cases_lt j (length old))
    where
      some_is : {A : Type 0} {x y : A} → Some x ≡ Some y → x ≡ y
      some_is h = cc

      by_place : (j < length old) ⊎ (length old ≤ j) → ActsAlong n root q (walked n root q)
      by_place (inl less) = h j q (sym (get_left old (p ∷ []) j less) ∙ ap (λ ps. slice_get ps j) (sym more) ∙ there)
      by_place (inr past) =
          let within : j < length (old ++ p ∷ []) = get_within (old ++ p ∷ []) j q
          (ap (λ ps. slice_get ps j) (sym more) ∙ there) in
          let zero_more : j ≡ length old + 0 = omega (arith, within, length-append old (p ∷ [])) in
          let same : p ≡ q = some_is (sym (get_right old (p ∷ []) j 0 zero_more) ∙ ap (λ ps. slice_get ps j) (sym more)
          ∙ there) in
          subst (λ r. ActsAlong n root r (walked n root r)) same
          (subst (λ r. ActsAlong n root p r) leads (subst (λ r. ActsAlong n root r m) (sym is)
          (along_more n root (walked n root path) m path t (h i path at) e)))

  pub acts_grown : (old new : List (List ℕ)) (i : ℕ) (path same : List ℕ) (t : ℕ) (m : Machine) →
      slice_get old i ≡ Some path →
      same ≡ path →
      burst n (walked n root path) t ≡ Some m →
      m ≡ walked n root (path ++ t ∷ []) →
      (new ≡ old) ⊎ (new ≡ old ++ (same ++ t ∷ []) ∷ []) →
      AllAct n root old →
      AllAct n root new
  acts_grown old new i path same t m at is e leads (inl stays) h = subst (AllAct n root) (sym stays) h
  acts_grown old new i path same t m at is e leads (inr more) h =
      acts_more old new i path (path ++ t ∷ []) t m at e refl leads (more ∙ ap (λ p. old ++ (p ++ t ∷ []) ∷ []) is) h

  first_stays : (old new : List (List ℕ)) → Grows old new → slice_get old 0 ≡ Some [] → slice_get new 0 ≡ Some []
  first_stays old new (inl e) h = ap (λ ps. slice_get ps 0) e ∙ h
  first_stays old new (inr (p, e)) h = ap (λ ps. slice_get ps 0) e ∙ get_left old (p ∷ []) 0 (get_within old 0 [] h) ∙ h

  -- what stands of a search stands with one path more
  pub sound_grown : (old new : List (List ℕ)) (seen : List Seen) →
      Grows old new →
      (AllAct n root old → AllAct n root new) →
      IsSound n threads root old seen →
      IsSound n threads root new seen
  sound_grown old new seen grows acts h = record {
    first = first_stays old new grows h.first;
    acts = acts h.acts;
    few = omega (arith, h.few, grows_longer old new grows);
    known = λ j p s there at. h.known j p s (same_path old new j p grows (omega (arith, h.few, get_within seen j s at))
        there) at;
  }

  -- and with what is seen after the next path
  pub sound_more : (paths : List (List ℕ)) (seen all : List Seen) (i : ℕ) (path : List ℕ) (s : Seen) →
      all ≡ seen ++ s ∷ [] →
      length seen ≡ i →
      slice_get paths i ≡ Some path →
      IsSound n threads root paths seen →
      IsSeen n threads (walked n root path) s →
      IsSound n threads root paths all
  sound_more paths seen all i path s more count here h last = record {
    first = h.first;
    acts = h.acts;
    few = omega (arith, ap length more, length-append seen (s ∷ []), get_within paths i path here);
    known = λ j p x there at. by_place j p x there (ap (λ l. slice_get l j) (sym more) ∙ at) (cases_lt j (length seen));
  }
    where
      some_is : {A : Type 0} {x y : A} → Some x ≡ Some y → x ≡ y
      some_is h = cc

      by_place : (j : ℕ) (p : List ℕ) (x : Seen) →
          slice_get paths j ≡ Some p →
          slice_get (seen ++ s ∷ []) j ≡ Some x →
          (j < length seen) ⊎ (length seen ≤ j) →
          IsSeen n threads (walked n root p) x
      by_place j p x there at (inl less) = h.known j p x there (sym (get_left seen (s ∷ []) j less) ∙ at)
      by_place j p x there at (inr past) =
          let within : j < length (seen ++ s ∷ []) = get_within (seen ++ s ∷ []) j x at in
          let zero_more : j ≡ length seen + 0 = omega (arith, within, length-append seen (s ∷ [])) in
          let is : s ≡ x = some_is (sym (get_right seen (s ∷ []) j 0 zero_more) ∙ at) in
          let same : i ≡ j = omega (arith, count, zero_more) in
          let on : path ≡ p = some_is (sym here ∙ ap (slice_get paths) same ∙ there) in
          subst (λ q. IsSeen n threads (walked n root q) x) on (subst (IsSeen n threads (walked n root path)) is last)

  -- a path stands where it stood
  pub grows_at : (old new : List (List ℕ)) (i : ℕ) → Grows old new → i < length old → slice_get new i ≡ slice_get old i
  grows_at old new i (inl e) lt = ap (λ ps. slice_get ps i) e
  grows_at old new i (inr (p, e)) lt = ap (λ ps. slice_get ps i) e ∙ get_left old (p ∷ []) i lt
