-- Layers of placed calls, one call more.
use Rattle.std.proofs.Common.{◌≡◌, ◌⊎◌, inl, inr, ℕ, ◌+◌, ◌≤◌, List, [], ◌∷◌, ◌++◌, Some, Contains, length}
use Rattle.std.proofs.Common.{slice_get, sym, subst}
use Rattle.std.specs.declared.vec.Vec.{Vec}
use Rattle.std.specs.declared.alloc.Global.{Global}
use Rattle.ls_events.specs.declared.event.Event.{Event}
use Rattle.ls_serial.proofs.Lists.{get_contains}
use Rattle.ls_linearizable.proofs.There.{there_cases, there_first, there_not}
use Rattle.ls_automaton.specs.declared.outcome.Outcome.{Outcome}
use Rattle.ls_automaton.proofs.Lists.{in_both, in_first, in_second}
use Rattle.ls_serial_orders.specs.declared.placing.Placed.{Placed}
use Rattle.ls_serial_orders.specs.Placing.{AreKept, ComesFrom, ComesOf, HasLike, IsAdded, IsNext, IsRowAdded, IsStep}
use Rattle.ls_serial_orders.specs.Placing.{IsTried, MayCome, row_after}
use Rattle.ls_serial_orders.proofs.Firsts.{AreFirst, first_all, first_more, first_none}

like_kept : (old new : List Placed) (state : ℕ) (ends : List Event) → AreKept old new → HasLike old state ends →
    HasLike new state ends
like_kept old new state ends kept l = record { placed = l.placed; there = kept l.placed l.there; like = l.like }

module _ (h : List Event) (p : Placed) where
  -- ---- one outcome

  pub added_none : (o : Outcome) (old : List Placed) → (MayCome h p.ends.items o.end → ⊥) → IsAdded h p o old old
  added_none o old none = record {
    kept = λ q there. there;
    came = λ q there. inl there;
    there = λ may. absurd (none may);
  }

  pub added_known : (o : Outcome) (old : List Placed) (q : Placed) → q.state ≡ o.after →
      q.ends.items ≡ p.ends.items ++ o.end ∷ [] → HasLike old q.state q.ends.items → IsAdded h p o old old
  added_known o old q state ends like = record {
    kept = λ r there. there;
    came = λ r there. inl there;
    there = λ may. subst (λ n. HasLike old n (p.ends.items ++ o.end ∷ [])) state
        (subst (HasLike old q.state) ends like);
  }

  pub added_new : (o : Outcome) (old new : List Placed) (q : Placed) → MayCome h p.ends.items o.end →
      q.state ≡ o.after → q.ends.items ≡ p.ends.items ++ o.end ∷ [] → new ≡ old ++ q ∷ [] → IsAdded h p o old new
  added_new o old new q may state ends is = record {
    kept = λ r there. subst (λ l. Contains l r) (sym is) (in_first old (q ∷ []) r there);
    came = λ r there. by_part r (in_both old (q ∷ []) r (subst (λ l. Contains l r) is there));
    there = λ again. record {
      placed = q;
      there = subst (λ l. Contains l q) (sym is) (in_second old (q ∷ []) q (there_first q []));
      like = record { leaves = state; among = λ e there. subst (λ l. Contains l e) (sym ends) there };
    };
  }
    where
      own : IsStep h p o q
      own = record { may = may; state = state; ends = ends }

      by_last : (r : Placed) → (q ≡ r) ⊎ Contains [] r → IsStep h p o r
      by_last r (inl same) = subst (IsStep h p o) same own
      by_last r (inr none) = absurd (there_not r none)

      by_part : (r : Placed) → Contains old r ⊎ Contains (q ∷ []) r → Contains old r ⊎ IsStep h p o r
      by_part r (inl there) = inl there
      by_part r (inr last) = inr (by_last r (there_cases q r [] last))

  -- ---- the outcomes of a state

  -- so many of them are tried
  pub record IsRowSoFar (row : List Outcome) (i : ℕ) (old new : List Placed) : Type 0 where
    pub kept : AreKept old new
    pub came : (q : Placed) → Contains new q → Contains old q ⊎ ComesOf h p row q
    pub there : AreFirst (IsTried h p new) row i

  pub row_none : (row : List Outcome) (old : List Placed) → IsRowSoFar row 0 old old
  row_none row old = record {
    kept = λ q there. there;
    came = λ q there. inl there;
    there = first_none (IsTried h p old) row;
  }

  pub row_more : (row : List Outcome) (i : ℕ) (o : Outcome) (old mid new : List Placed) →
      slice_get row i ≡ Some o → IsRowSoFar row i old mid → IsAdded h p o mid new → IsRowSoFar row (i + 1) old new
  row_more row i o old mid new at r a = record {
    kept = λ q there. a.kept q (r.kept q there);
    came = λ q there. by_place q (a.came q there);
    there = first_more (IsTried h p new) row i o at a.there
        (λ k x less there may. like_kept mid new x.after (p.ends.items ++ x.end ∷ []) a.kept
        (r.there k x less there may));
  }
    where
      by_place : (q : Placed) → Contains mid q ⊎ IsStep h p o q → Contains old q ⊎ ComesOf h p row q
      by_place q (inl there) = r.came q there
      by_place q (inr step) = inr (record { outcome = o; there = get_contains row i o at; step = step })

  pub row_all : (row : List Outcome) (i : ℕ) (old new : List Placed) → length row ≤ i → IsRowSoFar row i old new →
      IsRowAdded h p row old new
  row_all row i old new all r = record {
    kept = r.kept;
    came = r.came;
    there = λ o there. first_all (IsTried h p new) row i all r.there o there;
  }

-- ---- layers

module _ (rows : List (Vec Outcome Global)) (h : List Event) (layer : List Placed) where
  abbrev pub AreTried : List Placed → Placed → Type 0
  AreTried new p = (o : Outcome) → Contains (row_after rows p) o → IsTried h p new o

  -- so many of its calls are gone on from
  pub record IsNextSoFar (i : ℕ) (new : List Placed) : Type 0 where
    pub came : (q : Placed) → Contains new q → ComesFrom rows h layer q
    pub there : AreFirst (AreTried new) layer i

  pub next_none : (new : List Placed) → new ≡ [] → IsNextSoFar 0 new
  next_none new is = record {
    came = λ q there. absurd (there_not q (subst (λ l. Contains l q) is there));
    there = first_none (AreTried new) layer;
  }

  pub next_more : (i : ℕ) (p : Placed) (old new : List Placed) → slice_get layer i ≡ Some p → IsNextSoFar i old →
      IsRowAdded h p (row_after rows p) old new → IsNextSoFar (i + 1) new
  next_more i p old new at n r = record {
    came = λ q there. by_place q (r.came q there);
    there = first_more (AreTried new) layer i p at r.there
        (λ k x less there o inside may. like_kept old new o.after (x.ends.items ++ o.end ∷ []) r.kept
        (n.there k x less there o inside may));
  }
    where
      by_place : (q : Placed) → Contains old q ⊎ ComesOf h p (row_after rows p) q → ComesFrom rows h layer q
      by_place q (inl there) = n.came q there
      by_place q (inr comes) = record { placed = p; there = get_contains layer i p at; comes = comes }

  pub next_all : (i : ℕ) (new : List Placed) → length layer ≤ i → IsNextSoFar i new → IsNext rows h layer new
  next_all i new all n = record {
    came = n.came;
    there = λ p there. first_all (AreTried new) layer i all n.there p there;
  }
