-- What actions do commutes with renamings of references.
use Rattle.std.proofs.Common.{◌≡◌, ◌≢◌, ◌⊎◌, inl, inr, ℕ, zero, suc, ◌+◌, ◌-◌, Bool, true, false, cond, ◌&&◌}
use Rattle.std.proofs.Common.{List, [], ◌∷◌, ◌++◌, length, map, Option, Some, None, slice_get, slice_set, option_map}
use Rattle.std.proofs.Common.{refl, sym, ap, ◌∙◌, subst, arith, length-append, length-set}
use Rattle.std.specs.Prelude.{if◌then◌else◌, nat_eq, nat_lt, slice_index_or, unsigned_abs}
use Rattle.std.proofs.lemmas.Bool.{cases_eq}
use Rattle.std.proofs.lemmas.Bool.Decides.{nat_tests}
use Rattle.std.proofs.lemmas.List.{map-set}
use Rattle.ls_events.specs.declared.value.Value.{Value}
use Rattle.ls_events.specs.declared.value.Value.TheVariants.{Boolean, Reference}
use Rattle.ls_events.specs.declared.value.ValueType.{ValueType}
use Rattle.ls_events.specs.declared.value.ValueType.TheVariants as types
use Rattle.ls_events.specs.declared.action.Action.{Action}
use Rattle.ls_events.specs.declared.action.Action.TheVariants.{ReadField, WriteField, ReadItem, WriteItem, ReadName}
use Rattle.ls_events.specs.declared.action.Action.TheVariants.{WriteName, New, NewLock, NewMarkable, NewArray, Lock}
use Rattle.ls_events.specs.declared.action.Action.TheVariants.{Unlock, TryLock, IsHeld, LockMonitor, UnlockMonitor}
use Rattle.ls_events.specs.declared.action.Action.TheVariants.{ReadPair, SetPair, SwapPair, AttemptMark, Turn, Enter}
use Rattle.ls_events.specs.declared.action.Action.TheVariants.{Call, Return, Trap}
use Rattle.ls_events.specs.declared.action.Answer.{Answer}
use Rattle.ls_events.specs.declared.action.Answer.TheVariants.{Done, Gives}
use Rattle.ls_checked.specs.CheckedTree.{Class}
use Rattle.ls_meaning.specs.Values.{nothing, start_of, reference_of, mark_of}
use Rattle.ls_meaning.specs.Store.{Hold, Free, HeldBy, Thing, Object, LockOf, Markable, Array, Store, thing_at}
use Rattle.ls_meaning.specs.Store.{with_thing, with_new, new_number, with_name}
use Rattle.ls_meaning.specs.Effect.{Does, Change, Stays, Leaves, Holding, Awaits, Becomes, at_thing, change}
use Rattle.ls_meaning.specs.Effect.{effect, fields_in, in_range, making, most_holds, on_lock, on_monitor, put_back}
use Rattle.ls_meaning.specs.Effect.{same_mark}
use Rattle.ls_meaning.specs.Effect.{same_pair, size_of, with_hold, with_item, held_more, locking, trying, unlocking}
use Rattle.ls_meaning.specs.Effect.{asking_held}
use Rattle.ls_meaning.specs.Renamings.{IsRenaming, renamed, renamed_action, renamed_answer}
use Rattle.ls_meaning.proofs.Renames.{nothing_other, nat_other, reference_other, mark_other, slot_other}
use Rattle.ls_search_laws.specs.Renaming.{EffectRenames, IsRenamedEffect, IsRenamedStore, renamed_thing}

-- ---- things at numbers

get_same : {A : Type 0} (xs : List A) (k : ℕ) (x y : A) → slice_get xs k ≡ Some x →
    slice_get (slice_set xs k y) k ≡ Some y
get_same [] k x y h = absurd (none h)
  where
    none : None ≡ Some x → ⊥
    none e = cc
get_same (z ∷ xs) zero x y h = refl
get_same (z ∷ xs) (suc k) x y h = get_same xs k x y h

get_other : {A : Type 0} (xs : List A) (k j : ℕ) (y : A) → k ≢ j → slice_get (slice_set xs j y) k ≡ slice_get xs k
get_other [] k j y ne = refl
get_other (z ∷ xs) zero zero y ne = absurd (ne refl)
get_other (z ∷ xs) zero (suc j) y ne = refl
get_other (z ∷ xs) (suc k) zero y ne = refl
get_other (z ∷ xs) (suc k) (suc j) y ne = get_other xs k j y (λ e. ne (ap suc e))

get_last : {A : Type 0} (xs : List A) (y : A) → slice_get (xs ++ y ∷ []) (length xs) ≡ Some y
get_last [] y = refl
get_last (x ∷ xs) y = get_last xs y

get_not_last : {A : Type 0} (xs : List A) (k : ℕ) (y : A) → k ≢ length xs → slice_get (xs ++ y ∷ []) k ≡ slice_get xs k
get_not_last [] zero y ne = absurd (ne refl)
get_not_last [] (suc k) y ne = refl
get_not_last (x ∷ xs) zero y ne = refl
get_not_last (x ∷ xs) (suc k) y ne = get_not_last xs k y (λ e. ne (ap suc e))

at_zero : (s : Store) → thing_at s 0 ≡ None
at_zero s = refl

pub at_suc : (s : Store) (n : ℕ) → thing_at s (suc n) ≡ slice_get s.things n
at_suc s n =
    let z : nat_eq (suc n) 0 ≡ false = grind (arith, nat_tests) in
    let e : suc n - 1 ≡ n = omega arith in
    ap (λ b. if b then None else slice_get s.things (suc n - 1)) z ∙ ap (slice_get s.things) e

with_suc : (s : Store) (n : ℕ) (t : Thing) →
    with_thing s (suc n) t ≡ record { things = slice_set s.things n t; names = s.names }
with_suc s n t =
    let e : suc n - 1 ≡ n = omega arith in
    ap (λ i. record { things = slice_set s.things i t; names = s.names }) e

pub with_same : (s : Store) (o : ℕ) (x t : Thing) → thing_at s o ≡ Some x → thing_at (with_thing s o t) o ≡ Some t
with_same s zero x t h = absurd (none h)
  where
    none : None ≡ Some x → ⊥
    none e = cc
with_same s (suc n) x t h =
    ap (λ z. thing_at z (suc n)) (with_suc s n t)
    ∙ at_suc (record { things = slice_set s.things n t; names = s.names }) n
    ∙ get_same s.things n x t (sym (at_suc s n) ∙ h)

pub with_other : (s : Store) (o k : ℕ) (x t : Thing) →
    thing_at s o ≡ Some x →
    k ≢ o →
    thing_at (with_thing s o t) k ≡ thing_at s k
with_other s zero k x t h ne = absurd (none h)
  where
    none : None ≡ Some x → ⊥
    none e = cc
with_other s (suc n) zero x t h ne = refl
with_other s (suc n) (suc k) x t h ne =
    ap (λ z. thing_at z (suc k)) (with_suc s n t)
    ∙ at_suc (record { things = slice_set s.things n t; names = s.names }) k
    ∙ get_other s.things k n t (λ e. ne (ap suc e))
    ∙ sym (at_suc s k)

with_count : (s : Store) (o : ℕ) (t : Thing) → new_number (with_thing s o t) ≡ new_number s
with_count s o t = ap (λ n. n + 1) (length-set s.things (o - 1) t)

new_same : (s : Store) (t : Thing) → thing_at (with_new s t) (new_number s) ≡ Some t
new_same s t =
    let e : length s.things + 1 ≡ suc (length s.things) = omega arith in
    ap (thing_at (with_new s t)) e ∙ at_suc (with_new s t) (length s.things) ∙ get_last s.things t

pub new_other : (s : Store) (k : ℕ) (t : Thing) → k ≢ new_number s → thing_at (with_new s t) k ≡ thing_at s k
new_other s zero t ne = refl
new_other s (suc k) t ne =
    let d : k ≢ length s.things = λ e. ne (let f : length s.things + 1 ≡ suc (length s.things) = omega arith in
    ap suc e ∙ sym f) in
    at_suc (with_new s t) k ∙ get_not_last s.things k t d ∙ sym (at_suc s k)

new_count : (s : Store) (t : Thing) → new_number (with_new s t) ≡ new_number s + 1
new_count s t = ap (λ n. n + 1) (length-append s.things (t ∷ []))

module _ (names : ℕ → ℕ) (is : IsRenaming names) where
  -- ---- things

  abbrev others : List Value → List Value
  others vs = map (renamed names) vs

  abbrev other : Thing → Thing
  other t = renamed_thing names t

  abbrev renamed_change : Change → Change
  renamed_change Stays = Stays
  renamed_change (Leaves t answer) = Leaves (other t) (renamed_answer names answer)

  abbrev renamed_holding : Holding → Holding
  renamed_holding Awaits = Awaits
  renamed_holding (Becomes hold answer) = Becomes hold (renamed_answer names answer)

  -- what is done to a hold names no object
  abbrev IsPlain : Holding → Type 0
  IsPlain h = renamed_holding h ≡ h

  plain_cond : (b : Bool) (x y : Holding) → IsPlain x → IsPlain y → IsPlain (cond b x y)
  plain_cond true x y p q = p
  plain_cond false x y p q = q

  plain_more : (thread holds : ℕ) (answer : Answer Value) →
      renamed_answer names answer ≡ answer →
      IsPlain (held_more thread holds answer)
  plain_more thread holds answer e = plain_cond (nat_lt holds most_holds) _ _
      (ap (Becomes (HeldBy thread (holds + 1))) e) refl

  plain_locking : (thread : ℕ) (h : Hold) → IsPlain (locking thread h)
  plain_locking thread Free = refl
  plain_locking thread (HeldBy owner holds) =
      plain_cond (nat_eq owner thread) _ _ (plain_more thread holds Done refl) refl

  plain_trying : (thread : ℕ) (h : Hold) → IsPlain (trying thread h)
  plain_trying thread Free = refl
  plain_trying thread (HeldBy owner holds) =
      plain_cond (nat_eq owner thread) _ _ (plain_more thread holds (Gives (Boolean true)) refl) refl

  plain_unlocking : (thread : ℕ) (h : Hold) → IsPlain (unlocking thread h)
  plain_unlocking thread Free = refl
  plain_unlocking thread (HeldBy owner holds) = plain_cond (nat_eq owner thread) _ _ refl refl

  plain_asking : (thread : ℕ) (h : Hold) → IsPlain (asking_held thread h)
  plain_asking thread Free = refl
  plain_asking thread (HeldBy owner holds) = refl

  lock_other : (go : Hold → Holding) → ((h : Hold) → IsPlain (go h)) → (t : Thing) →
      on_lock go (other t) ≡ renamed_change (on_lock go t)
  lock_other go plain (LockOf hold) = by_holding (go hold) (plain hold)
    where
      by_holding : (g : Holding) → IsPlain g → with_hold LockOf g ≡ renamed_change (with_hold LockOf g)
      by_holding Awaits p = refl
      by_holding (Becomes h answer) p = ap (with_hold LockOf) (sym p)
  lock_other go plain (Object monitor fields) = refl
  lock_other go plain (Markable p) = refl
  lock_other go plain (Array size items) = refl

  monitor_other : (go : Hold → Holding) → ((h : Hold) → IsPlain (go h)) → (t : Thing) →
      on_monitor go (other t) ≡ renamed_change (on_monitor go t)
  monitor_other go plain (Object monitor fields) = by_holding (go monitor) (plain monitor)
    where
      by_holding : (g : Holding) → IsPlain g →
          with_hold (λ h. Object h (others fields)) g ≡ renamed_change (with_hold (λ h. Object h fields) g)
      by_holding Awaits p = refl
      by_holding (Becomes h answer) p = ap (with_hold (λ h. Object h (others fields))) (sym p)
  monitor_other go plain (LockOf hold) = refl
  monitor_other go plain (Markable p) = refl
  monitor_other go plain (Array size items) = refl

  -- a choice between two changes
  change_cond : (b b' : Bool) (x x' y y' : Change) →
      b' ≡ b →
      x' ≡ renamed_change x →
      y' ≡ renamed_change y →
      cond b' x' y' ≡ renamed_change (cond b x y)
  change_cond true b' x x' y y' e p q = ap (λ c. cond c x' y') e ∙ p
  change_cond false b' x x' y y' e p q = ap (λ c. cond c x' y') e ∙ q

  item_cond : (b : Bool) (v w : Value) → cond b (renamed names v) (renamed names w) ≡ renamed names (cond b v w)
  item_cond true v w = refl
  item_cond false v w = refl

  items_other : (items : ℕ → Value) (i : ℕ) (v : Value) →
      with_item (λ n. renamed names (items n)) i (renamed names v) ≡ (λ n. renamed names (with_item items i v n))
  items_other items i v k n = item_cond (nat_eq n i) v (items n) k

  pair_same : (p q : Value) → same_pair (renamed names p) (renamed names q) ≡ same_pair p q
  pair_same p q =
      ap (λ b. b && same_mark (mark_of (renamed names p)) (mark_of (renamed names q)))
      (ap (λ m. nat_eq m (reference_of (renamed names q))) (reference_other names is p)
      ∙ ap (nat_eq (names (reference_of p))) (reference_other names is q)
      ∙ nat_other names is (reference_of p) (reference_of q))
      ∙ ap (λ m. nat_eq (reference_of p) (reference_of q) && same_mark m (mark_of (renamed names q)))
      (mark_other names is p)
      ∙ ap (λ m. nat_eq (reference_of p) (reference_of q) && same_mark (mark_of p) m) (mark_other names is q)

  change_other : (thread : ℕ) (a : Action Value) (t : Thing) →
      change thread (renamed_action names a) (other t) ≡ renamed_change (change thread a t)
  change_other thread (ReadField o f) (Object monitor fields) =
      ap (λ v. Leaves (Object monitor (others fields)) (Gives v)) (slot_other names is fields f)
  change_other thread (ReadField o f) (LockOf hold) = refl
  change_other thread (ReadField o f) (Markable p) = refl
  change_other thread (ReadField o f) (Array size items) = refl
  change_other thread (WriteField o f v) (Object monitor fields) =
      ap (λ l. Leaves (Object monitor l) Done) (sym (map-set (renamed names) fields f v))
  change_other thread (WriteField o f v) (LockOf hold) = refl
  change_other thread (WriteField o f v) (Markable p) = refl
  change_other thread (WriteField o f v) (Array size items) = refl
  change_other thread (ReadItem o i) (Object monitor fields) = refl
  change_other thread (ReadItem o i) (LockOf hold) = refl
  change_other thread (ReadItem o i) (Markable p) = refl
  change_other thread (ReadItem o i) (Array size items) =
      change_cond (in_range i size) (in_range i size) _ _ _ _ refl refl refl
  change_other thread (WriteItem o i v) (Object monitor fields) = refl
  change_other thread (WriteItem o i v) (LockOf hold) = refl
  change_other thread (WriteItem o i v) (Markable p) = refl
  change_other thread (WriteItem o i v) (Array size items) =
      change_cond (in_range i size) (in_range i size) _ _ _ _ refl
      (ap (λ g. Leaves (Array size g) Done) (items_other items (unsigned_abs i) v)) refl
  change_other thread (Lock o) t = lock_other (locking thread) (plain_locking thread) t
  change_other thread (Unlock o) t = lock_other (unlocking thread) (plain_unlocking thread) t
  change_other thread (TryLock o) t = lock_other (trying thread) (plain_trying thread) t
  change_other thread (IsHeld o) t = lock_other (asking_held thread) (plain_asking thread) t
  change_other thread (LockMonitor o) t = monitor_other (locking thread) (plain_locking thread) t
  change_other thread (UnlockMonitor o) t = monitor_other (unlocking thread) (plain_unlocking thread) t
  change_other thread (ReadPair o) (Markable p) = refl
  change_other thread (ReadPair o) (Object monitor fields) = refl
  change_other thread (ReadPair o) (LockOf hold) = refl
  change_other thread (ReadPair o) (Array size items) = refl
  change_other thread (SetPair o v) (Markable p) = refl
  change_other thread (SetPair o v) (Object monitor fields) = refl
  change_other thread (SetPair o v) (LockOf hold) = refl
  change_other thread (SetPair o v) (Array size items) = refl
  change_other thread (SwapPair o p q) (Markable r) =
      change_cond (same_pair r p) (same_pair (renamed names r) (renamed names p)) _ _ _ _ (pair_same r p) refl refl
  change_other thread (SwapPair o p q) (Object monitor fields) = refl
  change_other thread (SwapPair o p q) (LockOf hold) = refl
  change_other thread (SwapPair o p q) (Array size items) = refl
  change_other thread (AttemptMark o r m) (Markable p) =
      change_cond (nat_eq (reference_of p) r) (nat_eq (reference_of (renamed names p)) (names r)) _ _ _ _
      (ap (λ n. nat_eq n (names r)) (reference_other names is p) ∙ nat_other names is (reference_of p) r) refl refl
  change_other thread (AttemptMark o r m) (Object monitor fields) = refl
  change_other thread (AttemptMark o r m) (LockOf hold) = refl
  change_other thread (AttemptMark o r m) (Array size items) = refl
  change_other thread (ReadName n) t = refl
  change_other thread (WriteName n v) t = refl
  change_other thread (New c) t = refl
  change_other thread NewLock t = refl
  change_other thread (NewMarkable p) t = refl
  change_other thread (NewArray n) t = refl
  change_other thread Turn t = refl
  change_other thread (Enter m) t = refl
  change_other thread (Call n) t = refl
  change_other thread (Return n v) t = refl
  change_other thread (Trap n kind) t = refl

  -- ---- stores

  module _ (s s' : Store) (r : IsRenamedStore names s s') where
    -- the same store, and an answer
    stays_other : (answer : Answer Value) → IsRenamedEffect names (Does s answer)
        (Does s' (renamed_answer names answer))
    stays_other answer = (s', refl, r)

    things_with : (o : ℕ) (x t : Thing) →
        thing_at s o ≡ Some x →
        (k : ℕ) →
        (k ≡ o) ⊎ (k ≢ o) →
        thing_at (with_thing s' (names o) (other t)) (names k) ≡ option_map (renamed_thing names)
        (thing_at (with_thing s o t) k)
    things_with o x t h k (inl same) =
        ap (λ n. thing_at (with_thing s' (names o) (other t)) (names n)) same
        ∙ with_same s' (names o) (other x) (other t) (r.things o ∙ ap (option_map (renamed_thing names)) h)
        ∙ ap (option_map (renamed_thing names))
        (sym (ap (thing_at (with_thing s o t)) same ∙ with_same s o x t h))
    things_with o x t h k (inr ne) =
        with_other s' (names o) (names k) (other x) (other t) (r.things o ∙ ap (option_map (renamed_thing names)) h)
        (λ e. ne (is.apart k o e))
        ∙ r.things k
        ∙ ap (option_map (renamed_thing names)) (sym (with_other s o k x t h ne))

    put_other : (o : ℕ) (x : Thing) →
        thing_at s o ≡ Some x →
        (c c' : Change) →
        c' ≡ renamed_change c →
        IsRenamedEffect names (put_back s o c) (put_back s' (names o) c')
    put_other o x h Stays c' e = ap (put_back s' (names o)) e
    put_other o x h (Leaves t answer) c' e = (
      with_thing s' (names o) (other t),
      ap (put_back s' (names o)) e,
      record {
        things = λ k. things_with o x t h k (cases_eq k o);
        new = λ i.
            ap (λ n. names (n + i)) (with_count s o t) ∙ r.new i
            ∙ ap (λ n. n + i) (sym (with_count s' (names o) (other t)));
        setup = r.setup;
      },
    )

    at_other : (o thread : ℕ) (a : Action Value) (x : Option Thing) →
        thing_at s o ≡ x →
        IsRenamedEffect names (at_thing s o x (change thread a))
        (at_thing s' (names o) (thing_at s' (names o)) (change thread (renamed_action names a)))
    at_other o thread a None h =
        subst (λ y. IsRenamedEffect names (Does s Done)
        (at_thing s' (names o) y (change thread (renamed_action names a))))
        (sym (r.things o ∙ ap (option_map (renamed_thing names)) h)) (stays_other Done)
    at_other o thread a (Some x) h =
        subst (λ y. IsRenamedEffect names (put_back s o (change thread a x))
        (at_thing s' (names o) y (change thread (renamed_action names a))))
        (sym (r.things o ∙ ap (option_map (renamed_thing names)) h))
        (put_other o x h (change thread a x) (change thread (renamed_action names a) (other x))
        (change_other thread a x))

    on_other : (o thread : ℕ) (a : Action Value) →
        IsRenamedEffect names (at_thing s o (thing_at s o) (change thread a))
        (at_thing s' (names o) (thing_at s' (names o)) (change thread (renamed_action names a)))
    on_other o thread a = at_other o thread a (thing_at s o) refl

    -- ---- makings

    new_names : names (new_number s) ≡ new_number s'
    new_names =
        let e : new_number s ≡ new_number s + 0 = omega arith in
        let f : new_number s' + 0 ≡ new_number s' = omega arith in
        ap names e ∙ r.new 0 ∙ f

    things_new : (t : Thing) (k : ℕ) →
        (k ≡ new_number s) ⊎ (k ≢ new_number s) →
        thing_at (with_new s' (other t)) (names k) ≡ option_map (renamed_thing names) (thing_at (with_new s t) k)
    things_new t k (inl same) =
        ap (thing_at (with_new s' (other t))) (ap names same ∙ new_names)
        ∙ new_same s' (other t)
        ∙ ap (option_map (renamed_thing names)) (sym (ap (thing_at (with_new s t)) same ∙ new_same s t))
    things_new t k (inr ne) =
        new_other s' (names k) (other t) (λ e. ne (is.apart k (new_number s) (e ∙ sym new_names)))
        ∙ r.things k
        ∙ ap (option_map (renamed_thing names)) (sym (new_other s k t ne))

    making_other : (t t' : Thing) → t' ≡ other t → IsRenamedEffect names (making s t) (making s' t')
    making_other t t' e = (
      with_new s' (other t),
      ap (making s') e ∙ ap (λ n. Does (with_new s' (other t)) (Gives (Reference n))) (sym new_names),
      record {
        things = λ k. things_new t k (cases_eq k (new_number s));
        new = λ i.
            let e : new_number s + 1 + i ≡ new_number s + (1 + i) = omega arith in
            let f : new_number s' + (1 + i) ≡ new_number s' + 1 + i = omega arith in
            ap (λ n. names (n + i)) (new_count s t) ∙ ap names e ∙ r.new (1 + i) ∙ f
            ∙ ap (λ n. n + i) (sym (new_count s' (other t)));
        setup = r.setup;
      },
    )

    start_other : (t : ValueType) → renamed names (start_of t) ≡ start_of t
    start_other types.Int = refl
    start_other types.Boolean = refl
    start_other types.BooleanArray = nothing_other names is
    start_other (types.Class c) = nothing_other names is
    start_other types.Lock = nothing_other names is
    start_other (types.Markable c) = nothing_other names is

    starts_other : (ts : List ValueType) → map start_of ts ≡ others (map start_of ts)
    starts_other [] = refl
    starts_other (t ∷ ts) = ap (λ v. v ∷ map start_of ts) (sym (start_other t)) ∙
        ap (λ vs. renamed names (start_of t) ∷ vs) (starts_other ts)

    fields_other : (c : Option Class) → fields_in c ≡ others (fields_in c)
    fields_other None = refl
    fields_other (Some c) = starts_other c.fields

    -- ---- each action

    effect_other : (classes : List Class) (thread : ℕ) (a : Action Value) →
        IsRenamedEffect names (effect classes s thread a) (effect classes s' thread (renamed_action names a))
    effect_other classes thread (ReadField o f) = on_other o thread (ReadField o f)
    effect_other classes thread (WriteField o f v) = on_other o thread (WriteField o f v)
    effect_other classes thread (ReadItem o i) = on_other o thread (ReadItem o i)
    effect_other classes thread (WriteItem o i v) = on_other o thread (WriteItem o i v)
    effect_other classes thread (Lock o) = on_other o thread (Lock o)
    effect_other classes thread (Unlock o) = on_other o thread (Unlock o)
    effect_other classes thread (TryLock o) = on_other o thread (TryLock o)
    effect_other classes thread (IsHeld o) = on_other o thread (IsHeld o)
    effect_other classes thread (LockMonitor o) = on_other o thread (LockMonitor o)
    effect_other classes thread (UnlockMonitor o) = on_other o thread (UnlockMonitor o)
    effect_other classes thread (ReadPair o) = on_other o thread (ReadPair o)
    effect_other classes thread (SetPair o v) = on_other o thread (SetPair o v)
    effect_other classes thread (SwapPair o p q) = on_other o thread (SwapPair o p q)
    effect_other classes thread (AttemptMark o ref m) = on_other o thread (AttemptMark o ref m)
    effect_other classes thread (ReadName n) = (
      s',
      ap (λ v. Does s' (Gives v))
          (ap (λ vs. slice_index_or vs n nothing) r.setup ∙ slot_other names is s.names n),
      r,
    )
    effect_other classes thread (WriteName n v) = (
      with_name s' n (renamed names v),
      refl,
      record {
        things = r.things;
        new = r.new;
        setup = ap (λ vs. slice_set vs n (renamed names v)) r.setup ∙ sym (map-set (renamed names) s.names n v);
      },
    )
    effect_other classes thread (New c) =
        making_other (Object Free (fields_in (slice_get classes c))) (Object Free (fields_in (slice_get classes c)))
        (ap (Object Free) (fields_other (slice_get classes c)))
    effect_other classes thread NewLock = making_other (LockOf Free) (LockOf Free) refl
    effect_other classes thread (NewMarkable p) = making_other (Markable p) (Markable (renamed names p)) refl
    effect_other classes thread (NewArray n) =
        making_other (Array (size_of n) (λ i. Boolean false)) (Array (size_of n) (λ i. Boolean false)) refl
    effect_other classes thread Turn = stays_other Done
    effect_other classes thread (Enter m) = stays_other Done
    effect_other classes thread (Call n) = stays_other Done
    effect_other classes thread (Return n v) = stays_other Done
    effect_other classes thread (Trap n kind) = stays_other Done

pub effect_renames : EffectRenames
effect_renames classes names is s s' r thread a = effect_other names is s s' r classes thread a
