-- Pairs after so many effects, each once.
use Rattle.std.proofs.Common.{◌≡◌, ◌⊎◌, inl, inr, ◌∙◌, ℕ, zero, suc, ◌+◌, ◌-◌, ◌<◌, ◌≤◌, Bool, true, false, not}
use Rattle.std.proofs.Common.{if◌then◌else◌, Option, None, Some, arith}
use Rattle.std.proofs.Common.{List, [], ◌∷◌, ◌++◌, Contains, length, drop, map, slice_get, slice_index_or, refl, sym}
use Rattle.std.proofs.Common.{ap, subst, append-nil, get_or, take}
use Rattle.std.proofs.lemmas.List.{drop_all, drop_more, map-append, take_all, take_more}
use Rattle.std.specs.List.{flat_map}
use Rattle.std.specs.declared.vec.Vec.{Vec}
use Rattle.std.specs.declared.alloc.Global.{Global}
use Rattle.ls_events.specs.declared.event.Event.{Event}
use Rattle.ls_serial.specs.Serial.{IsCall, IsEnd, is_called}
use Rattle.ls_linearizable.proofs.Same.{event_test}
use Rattle.ls_linearizable.proofs.There.{there_first, there_later}
use Rattle.ls_automaton.specs.declared.outcome.Outcome.{Outcome}
use Rattle.ls_automaton.specs.declared.pairs.Pair.{Pair}
use Rattle.ls_automaton.specs.Held.{AreAmong, AreSame, Held, ends, entry_at, further, has_taken, held_of, helds_of}
use Rattle.ls_automaton.specs.Held.{begins, is_noted, kept, may_take, moved, row_of, taking}
use Rattle.ls_automaton.specs.Layers.{IsLayered, nexts}
use Rattle.ls_automaton.proofs.Covering.{ends_open, ends_taken, enough, further_only, further_there, kept_only}
use Rattle.ls_automaton.proofs.Entries.{not_both, opens, opens_few, true_or_false}
use Rattle.ls_automaton.proofs.Judged.{in_flat, of_flat, only}
use Rattle.ls_automaton.proofs.Lists.{append_assoc, in_both, in_first, in_second}

-- ---- the same pairs

pub same_as : (a b : List Held) → a ≡ b → AreSame a b
same_as a b is = (λ p there. subst (λ l. Contains l p) is there, λ p there. subst (λ l. Contains l p) (sym is) there)

pub same_back : (a b : List Held) → AreSame a b → AreSame b a
same_back a b s = (s.1, s.0)

pub same_along : (a b c : List Held) → AreSame a b → AreSame b c → AreSame a c
same_along a b c s t = (λ p there. t.0 p (s.0 p there), λ p there. s.1 p (t.1 p there))

among_both : (a b c d : List Held) → AreAmong a b → AreAmong c d → AreAmong (a ++ c) (b ++ d)
among_both a b c d f g p there = by_side (in_both a c p there)
  where
    by_side : Contains a p ⊎ Contains c p → Contains (b ++ d) p
    by_side (inl l) = in_first b d p (f p l)
    by_side (inr r) = in_second b d p (g p r)

pub same_both : (a b c d : List Held) → AreSame a b → AreSame c d → AreSame (a ++ c) (b ++ d)
same_both a b c d s t = (among_both a b c d s.0 t.0, among_both b a d c s.1 t.1)

among_turned : (a b : List Held) → AreAmong (a ++ b) (b ++ a)
among_turned a b p there = by_side (in_both a b p there)
  where
    by_side : Contains a p ⊎ Contains b p → Contains (b ++ a) p
    by_side (inl l) = in_second b a p l
    by_side (inr r) = in_first b a p r

pub same_turned : (a b : List Held) → AreSame (a ++ b) (b ++ a)
same_turned a b = (among_turned a b, among_turned b a)

-- a pair that is there, once more
pub same_known : (a : List Held) (p : Held) → Contains a p → AreSame a (a ++ p ∷ [])
same_known a p there = (λ q inside. in_first a (p ∷ []) q inside, λ q inside. by_side q (in_both a (p ∷ []) q inside))
  where
    by_side : (q : Held) → Contains a q ⊎ Contains (p ∷ []) q → Contains a q
    by_side q (inl l) = l
    by_side q (inr r) = subst (Contains a) (only p q r) there

-- a pair more in the code
pub pushed_same : (old new : List Pair) (p : Pair) → new ≡ old ++ p ∷ [] →
    AreSame (helds_of new) (helds_of old ++ held_of p ∷ [])
pushed_same old new p is = same_as _ _ (ap helds_of is ∙ map-append held_of old (p ∷ []))

among_flat : (f : Held → List Held) (a b : List Held) → AreAmong a b → AreAmong (flat_map f a) (flat_map f b)
among_flat f a b s p there =
    let r = of_flat f a p there in in_flat f b r.0 p (s r.0 r.1) r.2

pub same_flat : (f : Held → List Held) (a b : List Held) → AreSame a b → AreSame (flat_map f a) (flat_map f b)
same_flat f a b s = (among_flat f a b s.0, among_flat f b a s.1)

pub flat_both : {A : Type 0} (f : A → List Held) (xs ys : List A) →
    flat_map f (xs ++ ys) ≡ flat_map f xs ++ flat_map f ys
flat_both f [] ys = refl
flat_both f (x ∷ xs) ys = ap (λ l. f x ++ l) (flat_both f xs ys)
    ∙ sym (append_assoc (f x) (flat_map f xs) (flat_map f ys))

pub flat_one : {A : Type 0} (f : A → List Held) (x : A) → flat_map f (x ∷ []) ≡ f x
flat_one f x = append-nil (f x)

-- ---- a list that is gone through

module _ {A : Type 0} (f : A → List Held) (xs : List A) where
  pub gone_first : (found : List Held) → AreSame (found ++ flat_map f (drop 0 xs)) (found ++ flat_map f xs)
  gone_first found = same_as _ _ (ap (λ l. found ++ flat_map f l) (none_dropped xs))
    where
      none_dropped : (l : List A) → drop 0 l ≡ l
      none_dropped [] = refl
      none_dropped (x ∷ l) = refl

  pub gone_more : (i : ℕ) (x : A) (old new all : List Held) → i < length xs → x ≡ slice_index_or xs i x →
      AreSame new (old ++ f x) → AreSame (old ++ flat_map f (drop i xs)) all →
      AreSame (new ++ flat_map f (drop (i + 1) xs)) all
  gone_more i x old new all less is one so =
      let rest = flat_map f (drop (i + 1) xs) in
      same_along (new ++ rest) ((old ++ f x) ++ rest) all
      (same_both new (old ++ f x) rest rest one (same_as rest rest refl))
      (same_along ((old ++ f x) ++ rest) (old ++ flat_map f (drop i xs)) all
      (same_as _ _ (append_assoc old (f x) rest
      ∙ ap (λ l. old ++ l) (ap (λ y. f y ++ rest) is ∙ sym (ap (flat_map f) (drop_more xs i x less))))) so)

  -- the same, for the element at the place
  pub gone_at : (i : ℕ) (d : A) (old new all : List Held) → i < length xs → AreSame new (old ++ f (get_or xs i d)) →
      AreSame (old ++ flat_map f (drop i xs)) all → AreSame (new ++ flat_map f (drop (i + 1) xs)) all
  gone_at i d old new all less one so =
      let rest = flat_map f (drop (i + 1) xs) in
      same_along (new ++ rest) ((old ++ f (get_or xs i d)) ++ rest) all
      (same_both new (old ++ f (get_or xs i d)) rest rest one (same_as rest rest refl))
      (same_along ((old ++ f (get_or xs i d)) ++ rest) (old ++ flat_map f (drop i xs)) all
      (same_as _ _ (append_assoc old (f (get_or xs i d)) rest
      ∙ ap (λ l. old ++ l) (sym (ap (flat_map f) (drop_more xs i d less))))) so)

  pub gone_all : (i : ℕ) (found all : List Held) → length xs ≤ i → AreSame (found ++ flat_map f (drop i xs)) all →
      AreSame found all
  gone_all i found all past so =
      same_along found (found ++ flat_map f (drop i xs)) all
      (same_as _ _ (sym (ap (λ l. found ++ flat_map f l) (drop_all i xs past) ∙ append-nil found))) so

-- those of pairs in the code
pub flat_held : (f : Held → List Held) (pairs : List Pair) → flat_map (λ (p : Pair). f (held_of p)) pairs
    ≡ flat_map f (helds_of pairs)
flat_held f [] = refl
flat_held f (p ∷ pairs) = ap (λ l. f (held_of p) ++ l) (flat_held f pairs)

-- ---- one effect more

module _ (rows : List (Vec Outcome Global)) (e : Event) where
  abbrev row_at : Held → List Outcome
  row_at p = row_of (slice_get rows p.state)

  -- what an outcome leads to, and what that leads to
  one_further : (k : ℕ) (p : Held) (o : Outcome) →
      flat_map (ends rows k e) (further (λ q. q ∷ []) p o) ≡ further (ends rows k e) p o
  one_further k p o = by_test (may_take p o)
    where
      by_test : (b : Bool) → flat_map (ends rows k e) (if b then taking p o ∷ [] else [])
          ≡ (if b then ends rows k e (taking p o) else [])
      by_test true = append-nil (ends rows k e (taking p o))
      by_test false = refl

  all_further : (k : ℕ) (p : Held) (row : List Outcome) →
      flat_map (ends rows k e) (flat_map (further (λ q. q ∷ []) p) row) ≡ flat_map (further (ends rows k e) p) row
  all_further k p [] = refl
  all_further k p (o ∷ row) =
      flat_both (ends rows k e) (further (λ q. q ∷ []) p o) (flat_map (further (λ q. q ∷ []) p) row)
      ∙ ap (λ l. l ++ flat_map (ends rows k e) (flat_map (further (λ q. q ∷ []) p) row)) (one_further k p o)
      ∙ ap (λ l. further (ends rows k e) p o ++ l) (all_further k p row)

  -- a pair in which the call has taken effect
  pub layered_taken : (p : Held) (next found found' : List Held) →
      has_taken (entry_at p.pending e.thread e.call) ≡ true → found' ≡ found ++ kept e p →
      IsLayered rows e (p ∷ []) next found next found'
  layered_taken p next found found' has is k =
      let more = flat_map (ends rows k e) next in
      let last = flat_map (ends rows (suc k) e) (p ∷ []) in
      same_along (found' ++ more) (found ++ (last ++ more)) (found ++ (more ++ last))
      (same_as _ _ (ap (λ l. l ++ more) is ∙ append_assoc found (kept e p) more
      ∙ ap (λ l. found ++ (l ++ more)) (sym (flat_one (ends rows (suc k) e) p ∙ ends_taken rows (suc k) e p has))))
      (same_both found found (last ++ more) (more ++ last) (same_as found found refl) (same_turned last more))

  -- and one in which it hasn't
  pub layered_open : (p : Held) (next next' found : List Held) →
      has_taken (entry_at p.pending e.thread e.call) ≡ false → AreSame next' (next ++ nexts rows p) →
      IsLayered rows e (p ∷ []) next found next' found
  layered_open p next next' found hasnt so k =
      let f = ends rows k e in
      same_both found found (flat_map f next') (flat_map f next ++ flat_map (ends rows (suc k) e) (p ∷ []))
      (same_as found found refl)
      (same_along (flat_map f next') (flat_map f (next ++ nexts rows p)) _
      (same_flat f next' (next ++ nexts rows p) so)
      (same_as _ _ (flat_both f next (nexts rows p)
      ∙ ap (λ l. flat_map f next ++ l) (all_further k p (row_at p)
      ∙ sym (flat_one (ends rows (suc k) e) p ∙ ends_open rows k e p hasnt)))))

  -- ---- a layer

  -- what was found so far of a layer's first pairs
  pub layered_first : (found : List Held) → IsLayered rows e [] [] found [] found
  layered_first found k = same_as _ _ refl

  pub layered_more : (layer next next' found found' all : List Held) (p : Held) →
      IsLayered rows e layer [] all next found → IsLayered rows e (p ∷ []) next found next' found' →
      IsLayered rows e (layer ++ p ∷ []) [] all next' found'
  layered_more layer next next' found found' all p so one k =
      let f = ends rows k e in
      let g = ends rows (suc k) e in
      same_along (found' ++ flat_map f next') (found ++ (flat_map f next ++ flat_map g (p ∷ []))) _ (one k)
      (same_along (found ++ (flat_map f next ++ flat_map g (p ∷ [])))
      ((all ++ flat_map g layer) ++ flat_map g (p ∷ [])) _
      (same_along (found ++ (flat_map f next ++ flat_map g (p ∷ [])))
      ((found ++ flat_map f next) ++ flat_map g (p ∷ [])) _
      (same_as _ _ (sym (append_assoc found (flat_map f next) (flat_map g (p ∷ [])))))
      (same_both (found ++ flat_map f next) (all ++ flat_map g layer) (flat_map g (p ∷ [])) (flat_map g (p ∷ []))
      (so k) (same_as _ _ refl)))
      (same_as _ _ (append_assoc all (flat_map g layer) (flat_map g (p ∷ []))
      ∙ ap (λ l. all ++ l) (sym (flat_both g layer (p ∷ []))))))

  pub layered_on : (pairs : List Pair) (i : ℕ) (x : Pair) (next next' found found' all : List Held) →
      i < length pairs → x ≡ get_or pairs i x → IsLayered rows e (helds_of (take i pairs)) [] all next found →
      IsLayered rows e (held_of x ∷ []) next found next' found' →
      IsLayered rows e (helds_of (take (i + 1) pairs)) [] all next' found'
  layered_on pairs i x next next' found found' all less is so one =
      subst (λ l. IsLayered rows e l [] all next' found')
      (sym (ap helds_of (take_more pairs i x less ∙ ap (λ y. take i pairs ++ y ∷ []) (sym is))
      ∙ map-append held_of (take i pairs) (x ∷ [])))
      (layered_more (helds_of (take i pairs)) next next' found found' all (held_of x) so one)

  pub layered_all : (pairs : List Pair) (i : ℕ) (next found all : List Held) → length pairs ≤ i →
      IsLayered rows e (helds_of (take i pairs)) [] all next found →
      IsLayered rows e (helds_of pairs) [] all next found
  layered_all pairs i next found all past so =
      subst (λ l. IsLayered rows e (helds_of l) [] all next found) (take_all i pairs past) so

  -- ---- layer by layer

  pub ends_more : (k n : ℕ) (layer next found found' all : List Held) → n ≡ suc k →
      AreSame (found ++ flat_map (ends rows n e) layer) all → IsLayered rows e layer [] found next found' →
      AreSame (found' ++ flat_map (ends rows k e) next) all
  ends_more k n layer next found found' all is so layered =
      same_along (found' ++ flat_map (ends rows k e) next) (found ++ flat_map (ends rows (suc k) e) layer) all
      (layered k) (subst (λ m. AreSame (found ++ flat_map (ends rows m e) layer) all) is so)

  -- ---- no more effects than are needed

  -- an end isn't noted before the call has taken effect
  not_noted : (o : Option Event) → IsEnd e → has_taken o ≡ false → is_noted e o ≡ true → ⊥
  not_noted None end hasnt noted = absurd cc
  not_noted (Some x) end hasnt noted =
      let same : e ≡ x = (event_test e x).0 noted in
      not_both (ap (λ (y : Event). not (is_called y.happening)) (sym same) ∙ ap not end) hasnt

  -- where so many effects lead, more lead too
  more_effects : (k : ℕ) (p r : Held) → IsEnd e → Contains (ends rows k e p) r → Contains (ends rows (suc k) e p) r
  more_effects zero p r end there = by_taken (true_or_false (has_taken (entry_at p.pending e.thread e.call)))
    where
      by_taken : (has_taken (entry_at p.pending e.thread e.call) ≡ true)
          ⊎ (has_taken (entry_at p.pending e.thread e.call) ≡ false) → Contains (ends rows 1 e p) r
      by_taken (inl has) = subst (λ l. Contains l r) (sym (ends_taken rows 1 e p has)) there
      by_taken (inr hasnt) =
          absurd (not_noted (entry_at p.pending e.thread e.call) end hasnt (kept_only e p r there).0)
  more_effects (suc j) p r end there =
      by_taken (more_effects j) (true_or_false (has_taken (entry_at p.pending e.thread e.call)))
    where
      by_taken : ((q s : Held) → IsEnd e → Contains (ends rows j e q) s → Contains (ends rows (suc j) e q) s) →
          (has_taken (entry_at p.pending e.thread e.call) ≡ true)
          ⊎ (has_taken (entry_at p.pending e.thread e.call) ≡ false) → Contains (ends rows (suc (suc j)) e p) r
      by_taken more (inl has) = subst (λ l. Contains l r)
          (ends_taken rows (suc j) e p has ∙ sym (ends_taken rows (suc (suc j)) e p has)) there
      by_taken more (inr hasnt) =
          let f = of_flat (further (ends rows j e) p) (row_at p) r
          (subst (λ l. Contains l r) (ends_open rows j e p hasnt) there) in
          let may = further_only rows (ends rows j e) p r f.0 f.2 in
          subst (λ l. Contains l r) (sym (ends_open rows (suc j) e p hasnt))
          (in_flat (further (ends rows (suc j) e) p) (row_at p) f.0 r f.1
          (further_there rows (ends rows (suc j) e) p r f.0 may.0 (more (taking p f.0) r end may.1)))

  effects_all : (n k m : ℕ) (p r : Held) → m ≡ k + n → IsEnd e → Contains (ends rows k e p) r →
      Contains (ends rows m e p) r
  effects_all zero k m p r is end there =
      let same : k ≡ m = omega (arith, is) in subst (λ j. Contains (ends rows j e p) r) same there
  effects_all (suc n) k m p r is end there =
      let same : suc (k + n) ≡ m = omega (arith, is) in
      subst (λ j. Contains (ends rows j e p) r) same
      (more_effects (k + n) p r end (effects_all n k (k + n) p r refl end there))

  -- more effects than calls are pending lead no further
  few_effects : (n k m : ℕ) (p r : Held) → m ≡ k + n → opens p.pending ≤ k → Contains (ends rows m e p) r →
      Contains (ends rows k e p) r
  few_effects zero k m p r is few there =
      let same : m ≡ k = omega (arith, is) in subst (λ j. Contains (ends rows j e p) r) same there
  few_effects (suc n) k m p r is few there =
      let same : m ≡ suc (k + n) = omega (arith, is) in
      few_effects n k (k + n) p r refl few (enough rows (k + n) e r p (omega (arith, few))
      (subst (λ j. Contains (ends rows j e p) r) same there))

  pub as_many_effects : (most : ℕ) (p : Held) → IsEnd e → length p.pending ≤ most →
      AreSame (ends rows (suc most) e p) (ends rows (length p.pending) e p)
  as_many_effects most p end le =
      let here : suc most ≡ length p.pending + (suc most - length p.pending) = omega (arith, le) in (
        λ r there. few_effects (suc most - length p.pending) (length p.pending) (suc most) p r here
            (opens_few p.pending) there,
        λ r there. effects_all (suc most - length p.pending) (length p.pending) (suc most) p r here end there,
      )

  pub all_effects : (most : ℕ) (pairs : List Held) → IsEnd e →
      ((p : Held) → Contains pairs p → length p.pending ≤ most) →
      AreSame (flat_map (ends rows (suc most) e) pairs) (flat_map (λ p. ends rows (length p.pending) e p) pairs)
  all_effects most [] end few = same_as [] [] refl
  all_effects most (p ∷ pairs) end few =
      same_both (ends rows (suc most) e p) (ends rows (length p.pending) e p) (flat_map (ends rows (suc most) e) pairs)
      (flat_map (λ q. ends rows (length q.pending) e q) pairs)
      (as_many_effects most p end (few p (there_first p pairs)))
      (all_effects most pairs end (λ q there. few q (there_later p q pairs there)))

  -- what an end makes of pairs
  pub moved_ends : (pairs : List Held) → IsEnd e →
      flat_map (moved rows e) pairs ≡ flat_map (λ p. ends rows (length p.pending) e p) pairs
  moved_ends [] end = refl
  moved_ends (p ∷ pairs) end =
      ap (λ b. (if b then begins e p else ends rows (length p.pending) e p) ++ flat_map (moved rows e) pairs) end
      ∙ ap (λ l. ends rows (length p.pending) e p ++ l) (moved_ends pairs end)

  -- and what a call makes of them
  pub moved_begins : (pairs : List Held) → IsCall e → flat_map (moved rows e) pairs ≡ flat_map (begins e) pairs
  moved_begins [] call = refl
  moved_begins (p ∷ pairs) call =
      ap (λ b. (if b then begins e p else ends rows (length p.pending) e p) ++ flat_map (moved rows e) pairs) call
      ∙ ap (λ l. begins e p ++ l) (moved_begins pairs call)

-- the most calls that are pending in the first pairs
pub most_more : (pairs : List Pair) (i most : ℕ) (d : Pair) → i < length pairs →
    ((p : Held) → Contains (helds_of (take i pairs)) p → length p.pending ≤ most) →
    length (get_or pairs i d).pending.items ≤ most →
    (p : Held) → Contains (helds_of (take (i + 1) pairs)) p → length p.pending ≤ most
most_more pairs i most d less before here p there =
    by_place (in_both (helds_of (take i pairs)) (held_of (get_or pairs i d) ∷ []) p
    (subst (λ l. Contains l p) (ap helds_of (take_more pairs i d less)
    ∙ map-append held_of (take i pairs) (get_or pairs i d ∷ [])) there))
  where
    by_place : Contains (helds_of (take i pairs)) p ⊎ Contains (held_of (get_or pairs i d) ∷ []) p →
        length p.pending ≤ most
    by_place (inl old) = before p old
    by_place (inr last) = subst (λ (q : Held). length q.pending ≤ most) (only (held_of (get_or pairs i d)) p last) here

pub most_all : (pairs : List Pair) (i most : ℕ) → length pairs ≤ i →
    ((p : Held) → Contains (helds_of (take i pairs)) p → length p.pending ≤ most) →
    (p : Held) → Contains (helds_of pairs) p → length p.pending ≤ most
most_all pairs i most past few p there =
    few p (subst (λ l. Contains (helds_of l) p) (sym (take_all i pairs past)) there)
