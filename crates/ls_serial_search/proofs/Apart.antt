-- Searched schedules, no two of which have one history.
use Rattle.std.proofs.Common.{◌≡◌, ◌⊎◌, inl, inr, ℕ, zero, suc, ◌+◌, ◌<◌, List, [], ◌∷◌, ◌++◌, Some, None}
use Rattle.std.proofs.Common.{Contains, length, replicate, slice_get, refl, sym, ap, ◌∙◌, subst, arith}
use Rattle.ls_events.specs.declared.event.Event.{Event}
use Rattle.ls_checked.specs.CheckedTree.{File}
use Rattle.ls_checked.specs.CheckedProgram.{Program}
use Rattle.ls_meaning.specs.Runs.{source_history}
use Rattle.ls_serial.proofs.Lists.{get_contains}
use Rattle.ls_serial_search.specs.Following.{called}
use Rattle.ls_serial_search.specs.Open.{HasEnded}
use Rattle.ls_serial_search.specs.Told.{AreMore}
use Rattle.ls_serial_search.specs.Tree.{IsChild, IsTree}

-- ---- places in lists

nothing : {A : Type 0} {x : A} → None ≡ Some x → ⊥
nothing h = cc

get_push : {A : Type 0} (a : List A) (z : A) (i : ℕ) (x : A) → slice_get (a ++ z ∷ []) i ≡ Some x →
    (slice_get a i ≡ Some x) ⊎ ((i ≡ length a) × (z ≡ x))
get_push [] z zero x e = inr (refl, cc)
get_push [] z (suc i) x e = absurd (nothing e)
get_push (y ∷ a) z zero x e = inl e
get_push (y ∷ a) z (suc i) x e = further (get_push a z i x e)
  where
    further : (slice_get a i ≡ Some x) ⊎ ((i ≡ length a) × (z ≡ x)) →
        (slice_get a i ≡ Some x) ⊎ ((suc i ≡ suc (length a)) × (z ≡ x))
    further (inl there) = inl there
    further (inr (at, is)) = inr (ap suc at, is)

get_kept : {A : Type 0} (a more : List A) (i : ℕ) (x : A) → slice_get a i ≡ Some x → slice_get (a ++ more) i ≡ Some x
get_kept [] more i x e = absurd (nothing e)
get_kept (y ∷ a) more zero x e = e
get_kept (y ∷ a) more (suc i) x e = get_kept a more i x e

-- ---- histories with two events more

none_is_no_more : (h : List Event) (c e : Event) → [] ≡ h ++ c ∷ e ∷ [] → ⊥
none_is_no_more [] c e is = cc
none_is_no_more (x ∷ h) c e is = cc

one_is_no_more : (h : List Event) (b c e : Event) → b ∷ [] ≡ h ++ c ∷ e ∷ [] → ⊥
one_is_no_more [] b c e is = cc
one_is_no_more (x ∷ h) b c e is = none_is_no_more h c e (cc)

same_two : (g h : List Event) (a b c e : Event) → g ++ a ∷ b ∷ [] ≡ h ++ c ∷ e ∷ [] → (g ≡ h) × (a ≡ c)
same_two [] [] a b c e is = (refl, cc)
same_two [] (y ∷ h) a b c e is = absurd (one_is_no_more h b c e (cc))
same_two (x ∷ g) [] a b c e is = absurd (one_is_no_more g e a b (cc))
same_two (x ∷ g) (y ∷ h) a b c e is = let r = same_two g h a b c e (cc) in (cc, r.1)

module _ (file : File) (program : Program) where
  abbrev h : List ℕ → List Event
  h s = source_history file program s

  -- the place of a schedule stays as more are added
  pub still_there : (a b : List (List ℕ)) (n : ℕ) (s : List ℕ) →
      (Contains a s → AreMore file program a b) → slice_get a n ≡ Some s → slice_get b n ≡ Some s
  still_there a b n s more at =
      let m = more (get_contains a n s at) in
      subst (λ l. slice_get l n ≡ Some s) m.is (get_kept a m.more n s at)

  pub tree_first : (known : List (List ℕ)) → known ≡ [] ∷ [] → IsTree file program known 0 0
  tree_first known is = record {
    each = λ i s there. inl (by_place i s (subst (λ l. slice_get l i ≡ Some s) is there));
    apart = λ i j s r at_s at_r same. omega (
      arith,
      at_zero i s (subst (λ l. slice_get l i ≡ Some s) is at_s),
      at_zero j r (subst (λ l. slice_get l j ≡ Some r) is at_r),
    );
  }
    where
      by_place : (i : ℕ) (s : List ℕ) → slice_get ([] ∷ []) i ≡ Some s → s ≡ []
      by_place zero s there = cc
      by_place (suc i) s there = absurd (nothing there)

      at_zero : (i : ℕ) (s : List ℕ) → slice_get ([] ∷ []) i ≡ Some s → i ≡ 0
      at_zero zero s there = refl
      at_zero (suc i) s there = absurd (nothing there)

  -- children by a later place and thread
  later : (known : List (List ℕ)) (n t m u : ℕ) (s : List ℕ) →
      ((at own : ℕ) → (at < n) ⊎ ((at ≡ n) × (own < t)) → (at < m) ⊎ ((at ≡ m) × (own < u))) →
      (s ≡ []) ⊎ IsChild file program known n t s →
      (s ≡ []) ⊎ IsChild file program known m u s
  later known n t m u s move (inl none) = inl none
  later known n t m u s move (inr c) = inr (record {
    at = c.at;
    parent = c.parent;
    there = c.there;
    own = c.own;
    before = move c.at c.own c.before;
    call = c.call;
    end = c.end;
    is = c.is;
  })

  next_thread : (n t at own : ℕ) → (at < n) ⊎ ((at ≡ n) × (own < t)) → (at < n) ⊎ ((at ≡ n) × (own < t + 1))
  next_thread n t at own (inl less) = inl less
  next_thread n t at own (inr (same, less)) = inr (same, omega arith)

  next_place : (n t at own : ℕ) → (at < n) ⊎ ((at ≡ n) × (own < t)) → (at < n + 1) ⊎ ((at ≡ n + 1) × (own < 0))
  next_place n t at own (inl less) = inl (omega arith)
  next_place n t at own (inr (same, less)) = inl (omega arith)

  -- a thread without a new call
  pub tree_same : (known : List (List ℕ)) (n t : ℕ) → IsTree file program known n t →
      IsTree file program known n (t + 1)
  tree_same known n t tree = record {
    each = λ i s there. later known n t n (t + 1) s (next_thread n t) (tree.each i s there);
    apart = tree.apart;
  }

  -- all threads of a schedule
  pub tree_next : (known : List (List ℕ)) (n t : ℕ) → IsTree file program known n t →
      IsTree file program known (n + 1) 0
  tree_next known n t tree = record {
    each = λ i s there. later known n t (n + 1) 0 s (next_place n t) (tree.each i s there);
    apart = tree.apart;
  }

  module _ (a : List (List ℕ)) (n t : ℕ) (s z : List ℕ) (tree : IsTree file program a n t)
      (at_s : slice_get a n ≡ Some s) (call : ℕ) (end : Event) (is : h z ≡ h s ++ called t call ∷ end ∷ []) where
    -- none of the schedules has the history of the new one
    fresh : (i : ℕ) (x : List ℕ) → slice_get a i ≡ Some x → h x ≡ h z → ⊥
    fresh i x there same = by_each (tree.each i x there)
      where
        by_each : (x ≡ []) ⊎ IsChild file program a n t x → ⊥
        by_each (inl none) = none_is_no_more (h s) (called t call) end (ap h (sym none) ∙ same ∙ is)
        by_each (inr c) = by_before c.before
          where
            two : (h c.parent ≡ h s) × (called c.own c.call ≡ called t call)
            two = same_two (h c.parent) (h s) (called c.own c.call) c.end (called t call) end
                (sym c.is ∙ same ∙ is)

            place : c.at ≡ n
            place = tree.apart c.at n c.parent s c.there at_s two.0

            thread : c.own ≡ t
            thread = ap (λ (e : Event). e.thread) two.1

            by_before : (c.at < n) ⊎ ((c.at ≡ n) × (c.own < t)) → ⊥
            by_before (inl less) = let e = place in omega (arith, e, less)
            by_before (inr (at, less)) = let e = thread in omega (arith, e, less)

    moved : (x : List ℕ) → (x ≡ []) ⊎ IsChild file program a n t x →
        (x ≡ []) ⊎ IsChild file program (a ++ z ∷ []) n (t + 1) x
    moved x (inl none) = inl none
    moved x (inr c) = inr (record {
      at = c.at;
      parent = c.parent;
      there = get_kept a (z ∷ []) c.at c.parent c.there;
      own = c.own;
      before = next_thread n t c.at c.own c.before;
      call = c.call;
      end = c.end;
      is = c.is;
    })

    own_child : IsChild file program (a ++ z ∷ []) n (t + 1) z
    own_child = record {
      at = n;
      parent = s;
      there = get_kept a (z ∷ []) n s at_s;
      own = t;
      before = inr (refl, omega arith);
      call = call;
      end = end;
      is = is;
    }

    one_more : IsTree file program (a ++ z ∷ []) n (t + 1)
    one_more = record {
      each = λ i x there. by_place x (get_push a z i x there);
      apart = λ i j x y at_x at_y same. by_places i j x y same (get_push a z i x at_x) (get_push a z j y at_y);
    }
      where
        by_place : {i : ℕ} (x : List ℕ) → (slice_get a i ≡ Some x) ⊎ ((i ≡ length a) × (z ≡ x)) →
            (x ≡ []) ⊎ IsChild file program (a ++ z ∷ []) n (t + 1) x
        by_place {i} x (inl there) = moved x (tree.each i x there)
        by_place x (inr (at, new)) = inr (subst (IsChild file program (a ++ z ∷ []) n (t + 1)) new own_child)

        by_places : (i j : ℕ) (x y : List ℕ) → h x ≡ h y → (slice_get a i ≡ Some x) ⊎ ((i ≡ length a) × (z ≡ x)) →
            (slice_get a j ≡ Some y) ⊎ ((j ≡ length a) × (z ≡ y)) →
            i ≡ j
        by_places i j x y same (inl there) (inl other) = tree.apart i j x y there other same
        by_places i j x y same (inl there) (inr (at, new)) = absurd (fresh i x there (same ∙ ap h (sym new)))
        by_places i j x y same (inr (at, new)) (inl other) = absurd (fresh j y other (sym same ∙ ap h (sym new)))
        by_places i j x y same (inr (at, new)) (inr (place, last)) = at ∙ sym place

  -- a thread with a new call
  pub tree_more : (a b : List (List ℕ)) (n t steps : ℕ) (s z : List ℕ) →
      IsTree file program a n t →
      slice_get a n ≡ Some s →
      HasEnded file program s t steps →
      z ≡ s ++ replicate steps t →
      b ≡ a ++ z ∷ [] →
      IsTree file program b n (t + 1)
  tree_more a b n t steps s z tree at_s ended is more =
      subst (λ l. IsTree file program l n (t + 1)) (sym more)
      (one_more a n t s z tree at_s ended.call ended.end (ap h is ∙ ended.is))
