-- What is told of calls, with one call more.
use Rattle.std.proofs.Common.{◌≡◌, ◌⊎◌, inl, inr, ◌+◌, ℕ, zero, suc, List, [], ◌∷◌, ◌++◌, Some}
use Rattle.std.proofs.Common.{refl, sym, ap}
use Rattle.std.proofs.Common.{◌∙◌, subst, append_assoc, append-nil, add-one}
use Rattle.std.specs.Prelude.{slice_get}
use Rattle.ls_graph.proofs.Lists.{some_is}
use Rattle.ls_progress_laws.specs.Progress.{Kind}
use Rattle.ls_progress.specs.Ends.{AreEnds, IsCallEnds, calls_to, keys}
use Rattle.ls_progress.specs.declared.judging.CallEnds.{CallEnds}

-- an item of a list with one more is one of the list, or the last
item_of : (calls : List CallEnds) (x c : CallEnds) (i : ℕ) → slice_get (calls ++ x ∷ []) i ≡ Some c →
    (slice_get calls i ≡ Some c) ⊎ (x ≡ c)
item_of [] x c zero e = inr (some_is e)
item_of [] x c (suc i) e = absurd (none e)
  where
    none : slice_get (x ∷ []) (suc i) ≡ Some c → ⊥
    none h = cc
item_of (y ∷ calls) x c zero e = inl e
item_of (y ∷ calls) x c (suc i) e = item_of calls x c i e

module _ (Bounded : Kind → ℕ → ℕ → Type 0) (Round Fairly ByLocks : Kind → ℕ → List ℕ → List ℕ → Type 0) where
  pub ends_more : (calls : List CallEnds) (x : CallEnds) → AreEnds Bounded Round Fairly ByLocks calls →
      IsCallEnds Bounded Round Fairly ByLocks x →
      AreEnds Bounded Round Fairly ByLocks (calls ++ x ∷ [])
  ends_more calls x are is i c here = by_item (item_of calls x c i here)
    where
      by_item : (slice_get calls i ≡ Some c) ⊎ (x ≡ c) → IsCallEnds Bounded Round Fairly ByLocks c
      by_item (inl there) = are i c there
      by_item (inr same) = subst (IsCallEnds Bounded Round Fairly ByLocks) same is

keys_more : (calls : List CallEnds) (x : CallEnds) → keys (calls ++ x ∷ []) ≡ keys calls ++ (x.thread, x.call) ∷ []
keys_more [] x = refl
keys_more (y ∷ calls) x = ap (λ l. (y.thread, y.call) ∷ l) (keys_more calls x)

to_more : (t n : ℕ) → calls_to t (n + 1) ≡ calls_to t n ++ (t, n + 1) ∷ []
to_more t n = ap (calls_to t) (add-one n)

pub listed_more : (calls : List CallEnds) (x : CallEnds) (before : List (ℕ × ℕ)) (t n : ℕ) → x.thread ≡ t →
    x.call ≡ n + 1 →
    keys calls ≡ before ++ calls_to t n →
    keys (calls ++ x ∷ []) ≡ before ++ calls_to t (n + 1)
listed_more calls x before t n thread call is =
    keys_more calls x
    ∙ ap (λ l. l ++ (x.thread, x.call) ∷ []) is
    ∙ ap (λ u. (before ++ calls_to t n) ++ (u, x.call) ∷ []) thread
    ∙ ap (λ k. (before ++ calls_to t n) ++ (t, k) ∷ []) call
    ∙ append_assoc before (calls_to t n) ((t, n + 1) ∷ [])
    ∙ ap (λ l. before ++ l) (sym (to_more t n))

-- ---- threads

pub listed_none : (calls : List (ℕ × ℕ)) → calls ≡ calls ++ []
listed_none calls = sym (append-nil calls)

-- the calls of one thread, and then those of the others
pub listed_on : (old mid new first rest : List (ℕ × ℕ)) → mid ≡ old ++ first → new ≡ mid ++ rest →
    new ≡ old ++ (first ++ rest)
listed_on old mid new first rest one more =
    more ∙ ap (λ l. l ++ rest) one ∙ append_assoc old first rest
