-- The next accesses of threads, one after another, and what meets among them.
use Rattle.std.proofs.Common.{◌≡◌, ◌⊎◌, inl, inr, ◌<◌, ◌≤◌, ◌+◌, ℕ, zero, suc, List, [], ◌∷◌, ◌++◌, Option, None, Some}
use Rattle.std.proofs.Common.{length, refl, sym, ap, ◌∙◌, subst, arith}
use Rattle.std.specs.Prelude.{slice_get, slice_index_or}
use Rattle.std.proofs.lemmas.Bool.{cases_lt}
use Rattle.std.proofs.lemmas.List.{length_push}
use Rattle.std.proofs.lemmas.Option.{get_or_from_slice_get, slice_get_past, slice_get_within}
use Rattle.ls_checked.specs.CheckedTree.{File}
use Rattle.ls_meaning.specs.Store.{Store}
use Rattle.ls_meaning.specs.declared.step.Did.{Did}
use Rattle.ls_meaning.specs.declared.step.Did.TheVariants as did
use Rattle.ls_search_laws.specs.Configuration.{Configuration, Stride, stride}
use Rattle.ls_transitions.specs.declared.moves.Move.{Move}
use Rattle.ls_transitions.specs.declared.moves.Move.TheVariants as moves
use Rattle.ls_transitions.specs.Tables.{Grows, Table}
use Rattle.ls_transitions.proofs.Keeping.{there}
use Rattle.ls_search.specs.declared.places.NumberedState.{NumberedState}
use Rattle.ls_search.specs.Places.{IsThere, configuration_of, no_store}
use Rattle.ls_search.specs.Strides.{IsStrideBy}
use Rattle.ls_search.proofs.Strides.{missing_stride, stays}
use Rattle.ls_race_laws.specs.declared.access.Access.{Access}
use Rattle.ls_race_laws.specs.declared.access.Kind.{Kind}
use Rattle.ls_race_laws.specs.Accesses.{Volatile}
use Rattle.ls_race_laws.specs.Meeting.{Meeting, access_by}
use Rattle.ls_races.specs.declared.meetings.Met.{Met}
use Rattle.ls_races.specs.Met.{AreNext, IsMet, IsNext, NoneMet}
use Rattle.ls_races.specs.Races.{IsUntold}
use Rattle.ls_races.specs.Moves.{access_in}

-- ---- a step's access, by its move

pub move_access : (volatile : Volatile) (t : Table) (c : Configuration) (works : List ℕ) (u : ℕ) (m : Move)
    (st : Stride) (s : Store) →
    IsStrideBy t c works u m st → access_by volatile s st.did ≡ access_in volatile s m
move_access volatile t c works u moves.Ended st s is = ap (λ (z : Stride). access_by volatile s z.did) is
move_access volatile t c works u moves.Trapped st s is = ap (λ (z : Stride). access_by volatile s z.did) is
move_access volatile t c works u moves.Waits st s is = ap (λ (z : Stride). access_by volatile s z.did) is
move_access volatile t c works u (moves.Acts step) st s is = ap (λ (z : Stride). access_by volatile s z.did) is.is

-- a store that has a number keeps it
pub store_kept : (t t' : Table) (n : ℕ) (x : Store) → Grows t t' → n < length t.stores →
    slice_get t'.stores n ≡ Some x →
    slice_index_or t.stores n no_store ≡ x
store_kept t t' n x grows within is =
    let at = there t.stores n within in
    get_or_from_slice_get t.stores n at.0 no_store at.1 ∙ some_is (sym (grows.stores n at.0 at.1) ∙ is)
  where
    some_is : {A : Type 0} {a b : A} → Some a ≡ Some b → a ≡ b
    some_is h = cc

-- while tables grow an access stays the same
pub access_kept : (volatile : Volatile) (t t' : Table) (p : NumberedState) (u : ℕ) → Grows t t' → IsThere t p →
    access_by volatile (configuration_of t' p).store (stride t'.file (configuration_of t' p) u).did ≡
    access_by volatile (configuration_of t p).store (stride t.file (configuration_of t p) u).did
access_kept volatile t t' p u grows is =
    ap (λ (k : Configuration). access_by volatile k.store (stride t'.file k u).did)
    (stays t t' p.store p.works.items grows is)
    ∙ ap (λ (f : File). access_by volatile (configuration_of t p).store (stride f (configuration_of t p) u).did)
    grows.file

-- ---- lists of next accesses

get_before : {A : Type 0} (xs ys : List A) (k : ℕ) (x : A) → slice_get xs k ≡ Some x → slice_get (xs ++ ys) k ≡ Some x
get_before [] ys k x h = cc
get_before (y ∷ xs) ys zero x h = h
get_before (y ∷ xs) ys (suc k) x h = get_before xs ys k x h

get_end : {A : Type 0} (xs : List A) (y : A) → slice_get (xs ++ y ∷ []) (length xs) ≡ Some y
get_end [] y = refl
get_end (x ∷ xs) y = get_end xs y

module _ (volatile : Volatile) (s : Store) (next : ℕ → Did) where
  pub next_none : AreNext volatile s next 0 []
  next_none = record { many = refl; each = λ u less. absurd (omega arith) }

  pub next_more : (n : ℕ) (accesses : List (Option Access)) (a : Option Access) →
      AreNext volatile s next n accesses → a ≡ access_by volatile s (next n) →
      AreNext volatile s next (n + 1) (accesses ++ a ∷ [])
  next_more n accesses a before is = record {
    many = length_push accesses a ∙ ap (λ k. k + 1) before.many;
    each = λ u less. by_place u less (cases_lt u n);
  }
    where
      by_place : (u : ℕ) → u < n + 1 → (u < n) ⊎ (n ≤ u) →
          slice_get (accesses ++ a ∷ []) u ≡ Some (access_by volatile s (next u))
      by_place u less (inl h) = get_before accesses (a ∷ []) u (access_by volatile s (next u)) (before.each u h)
      by_place u less (inr h) =
          let at : n ≡ u = omega arith in
          subst (λ k. slice_get (accesses ++ a ∷ []) k ≡ Some (access_by volatile s (next k))) at
          (subst (λ k. slice_get (accesses ++ a ∷ []) k ≡ Some (access_by volatile s (next n))) before.many
          (get_end accesses a ∙ ap Some is))

  module _ (threads : ℕ) (accesses : List (Option Access)) (are : AreNext volatile s next threads accesses) where
    not_idle : (u : ℕ) (a : Access) → access_by volatile s (next u) ≡ Some a → next u ≡ did.Idle → ⊥
    not_idle u a is idle = none_not (sym (ap (access_by volatile s) idle) ∙ is)
      where
        none_not : None ≡ Some a → ⊥
        none_not h = cc

    is_next : ((u : ℕ) → threads ≤ u → next u ≡ did.Idle) → (u : ℕ) (a : Access) →
        access_by volatile s (next u) ≡ Some a →
        IsNext accesses u a
    is_next past u a is = by_place (cases_lt u threads)
      where
        by_place : (u < threads) ⊎ (threads ≤ u) → IsNext accesses u a
        by_place (inl h) = are.each u h ∙ ap Some is
        by_place (inr h) = absurd (not_idle u a is (past u h))

    -- where none are in conflict, none meet
    pub none_meets : ((u : ℕ) → threads ≤ u → next u ≡ did.Idle) → (told : List Kind) → NoneMet accesses told →
        (on : Kind) →
        IsUntold told on →
        Meeting volatile s next on →
        ⊥
    none_meets past told none on untold m =
        none (record { one = m.one; other = m.other; on = on }) (record {
          apart = m.apart;
          first = m.first;
          second = m.second;
          first_is = is_next past m.one m.first m.first_is;
          second_is = is_next past m.other m.second m.second_is;
          conflict = m.conflict;
          kind = m.kind;
          untold = untold;
        })

    pub access_is : (u : ℕ) (a : Access) → IsNext accesses u a → access_by volatile s (next u) ≡ Some a
    access_is u a is =
        some_is (access_by volatile s (next u)) (Some a)
        (sym (are.each u (subst (λ n. u < n) are.many (slice_get_within accesses u (Some a) is))) ∙ is)
      where
        some_is : (o p : Option Access) → Some o ≡ Some p → o ≡ p
        some_is o p h = cc

    -- where two are in conflict, they meet
    pub met_is : (told : List Kind) (m : Met) → IsMet accesses told m → Meeting volatile s next m.on
    met_is told m is = record {
      one = m.one;
      other = m.other;
      apart = is.apart;
      first = is.first;
      second = is.second;
      first_is = access_is m.one is.first is.first_is;
      second_is = access_is m.other is.second is.second_is;
      conflict = is.conflict;
      kind = is.kind;
    }

-- a thread that has no work does nothing
pub past_idle : (t : Table) (p : NumberedState) (threads : ℕ) → length p.works.items ≡ threads → (u : ℕ) → threads ≤ u →
    (stride t.file (configuration_of t p) u).did ≡ did.Idle
past_idle t p threads width u past =
    let far : length p.works.items ≤ u = omega (arith, past, width) in
    ap (λ (z : Stride). z.did)
    (missing_stride t.file t p.store p.works.items u (slice_get_past p.works.items u far))
