-- An object whose lock is in a field, and what safe actions leave of it: no other thing names the object, its field
-- names the lock, and the lock is held as before.
use Rattle.std.proofs.Common.{◌≡◌, ◌≢◌, ◌⊎◌, inl, inr, ℕ, zero, suc, ◌+◌, Bool, true, false, cond, List, [], ◌∷◌, ◌++◌}
use Rattle.std.proofs.Common.{Option, Some, None, length, slice_set, refl, sym, ap, ◌∙◌, subst, arith, le_refl}
use Rattle.std.proofs.Common.{get_or-set_other}
use Rattle.std.specs.Prelude.{nat_eq, slice_get, slice_index_or, unsigned_abs}
use Rattle.std.proofs.lemmas.Bool.{cases_eq}
use Rattle.std.proofs.lemmas.Bool.Decides.{nat_tests}
use Rattle.ls_events.specs.declared.value.Value.{Value}
use Rattle.ls_events.specs.declared.value.Value.TheVariants.{Reference}
use Rattle.ls_events.specs.declared.action.Action.{Action}
use Rattle.ls_events.specs.declared.action.Action.TheVariants.{ReadField, WriteField, ReadItem, WriteItem, ReadName}
use Rattle.ls_events.specs.declared.action.Action.TheVariants.{WriteName, New, NewLock, NewMarkable, NewArray, Lock}
use Rattle.ls_events.specs.declared.action.Action.TheVariants.{Unlock, TryLock, IsHeld, LockMonitor, UnlockMonitor}
use Rattle.ls_events.specs.declared.action.Action.TheVariants.{ReadPair, SetPair, SwapPair, AttemptMark, Turn, Enter}
use Rattle.ls_events.specs.declared.action.Action.TheVariants.{Call, Return, Trap}
use Rattle.ls_events.specs.declared.action.Answer.{Answer}
use Rattle.ls_events.specs.declared.action.Answer.TheVariants.{Done, Gives}
use Rattle.ls_checked.specs.CheckedTree.{Class}
use Rattle.ls_meaning.specs.Values.{nothing, reference_of}
use Rattle.ls_meaning.specs.Store.{Hold, Free, HeldBy, Thing, Object, LockOf, Markable, Array, Store, thing_at}
use Rattle.ls_meaning.specs.Store.{with_thing, new_number, with_new}
use Rattle.ls_meaning.specs.Effect.{Waits, Does, Change, Stays, Leaves, at_thing, change, effect, fields_in, in_range}
use Rattle.ls_meaning.specs.Effect.{making, put_back, same_pair, with_item}
use Rattle.ls_search_laws.proofs.Stepping.{get_past}
use Rattle.ls_search_laws.proofs.Reading.{thing_same}
use Rattle.ls_search_laws.proofs.Renaming.{at_suc, new_other, with_other, with_same}
use Rattle.ls_one_at_a_time.specs.Clean.{AnswersOther, IsOther, IsSafe}
use Rattle.ls_one_at_a_time.proofs.Clean.{null_other, starts_other}

does_store : {s s' : Store} {x y : Answer Value} → Does s x ≡ Does s' y → s' ≡ s
does_store p = cc

does_answer : {s s' : Store} {x y : Answer Value} → Does s x ≡ Does s' y → y ≡ x
does_answer p = cc

waits_not : {s : Store} {x : Answer Value} → Waits ≡ Does s x → ⊥
waits_not p = cc

some_is : {x y : Thing} → Some x ≡ Some y → x ≡ y
some_is p = cc

none_not : {x : Thing} → None ≡ Some x → ⊥
none_not p = cc

get_last : {A : Type 0} (xs : List A) (y : A) → slice_get (xs ++ y ∷ []) (length xs) ≡ Some y
get_last [] y = refl
get_last (x ∷ xs) y = get_last xs y

module _ (o f : ℕ) (set : 0 ≢ o) where
  -- a thing that doesn't name the object
  abbrev pub IsCleanThing : Thing → Type 0
  IsCleanThing (Object monitor fields) = (i : ℕ) → IsOther o (slice_index_or fields i nothing)
  IsCleanThing (LockOf hold) = Unit {0}
  IsCleanThing (Markable p) = IsOther o p
  IsCleanThing (Array size items) = (i : ℕ) → IsOther o (items i)

  -- the object with its lock, which is held so
  pub record IsOurs (s : Store) (l : ℕ) (hold : Hold) : Type 0 where
    pub monitor : Hold
    pub fields : List Value
    pub object : thing_at s o ≡ Some (Object monitor fields)
    pub field : slice_index_or fields f nothing ≡ Reference l
    pub lock : thing_at s l ≡ Some (LockOf hold)
    pub clean : (n : ℕ) (t : Thing) → thing_at s n ≡ Some t → IsCleanThing t

  -- ---- what an action leaves of a thing

  abbrev KeepsShape : ℕ → Thing → Thing → Type 0
  KeepsShape n (Object monitor fields) t' = (fs : List Value) × (t' ≡ Object monitor fs) ×
      (n ≡ o → slice_index_or fs f nothing ≡ slice_index_or fields f nothing)
  KeepsShape n (LockOf hold) t' = t' ≡ LockOf hold
  KeepsShape n (Markable p) t' = Unit {0}
  KeepsShape n (Array size items) t' = Unit {0}

  abbrev Fine : ℕ → Thing → Change → Type 0
  Fine n x Stays = Unit {0}
  Fine n x (Leaves t' y) = IsCleanThing t' × AnswersOther o y × KeepsShape n x t'

  record IsFine (n : ℕ) (x : Thing) (c : Change) : Type 0 where
    is : Fine n x c

  same_shape : (n : ℕ) (x : Thing) → KeepsShape n x x
  same_shape n (Object monitor fields) = (fields, refl, λ e. refl)
  same_shape n (LockOf hold) = refl
  same_shape n (Markable p) = tt
  same_shape n (Array size items) = tt

  same_fine : (n : ℕ) (x : Thing) (y : Answer Value) → IsCleanThing x → AnswersOther o y → IsFine n x (Leaves x y)
  same_fine n x y c a = record { is = (c, a, same_shape n x) }

  null : (v : Value) → reference_of v ≡ 0 → IsOther o v
  null = null_other o f set

  either : (n : ℕ) (x : Thing) (b : Bool) (c d : Change) → IsFine n x c → IsFine n x d → IsFine n x (cond b c d)
  either n x true c d h k = h
  either n x false c d h k = k

  -- fields without the object stay so where another value is set
  pub assigned : (fs : List Value) (i : ℕ) (v : Value) → IsOther o v →
      ((j : ℕ) → IsOther o (slice_index_or fs j nothing)) → (j : ℕ) →
      IsOther o (slice_index_or (slice_set fs i v) j nothing)
  assigned fs i v h k j = by_number (cases_eq j i)
    where
      own : (xs : List Value) (m : ℕ) → IsOther o (slice_index_or xs m nothing) →
          IsOther o (slice_index_or (slice_set xs m v) m nothing)
      own [] m p = p
      own (x ∷ xs) zero p = h
      own (x ∷ xs) (suc m) p = own xs m p

      by_number : (j ≡ i) ⊎ (j ≢ i) → IsOther o (slice_index_or (slice_set fs i v) j nothing)
      by_number (inl e) = subst (λ m. IsOther o (slice_index_or (slice_set fs m v) j nothing)) e (own fs j (k j))
      by_number (inr ne) = subst (IsOther o) (sym (get_or-set_other fs i j v nothing ne)) (k j)

  with_fine : (items : ℕ → Value) (i : ℕ) (v : Value) → IsOther o v → ((j : ℕ) → IsOther o (items j)) → (j : ℕ) →
      IsOther o (with_item items i v j)
  with_fine items i v h k j = by_test (nat_eq j i)
    where
      by_test : (b : Bool) → IsOther o (cond b v (items j))
      by_test true = h
      by_test false = k j

  written : (fs : List Value) (n i : ℕ) (v : Value) → (n ≢ o) ⊎ (i ≢ f) → n ≡ o →
      slice_index_or (slice_set fs i v) f nothing ≡ slice_index_or fs f nothing
  written fs n i v (inl ne) e = absurd (ne e)
  written fs n i v (inr ne) e = get_or-set_other fs i f v nothing (λ p. ne (sym p))

  -- each safe action, on each thing
  reads_field : (t n i : ℕ) (x : Thing) → IsCleanThing x → IsFine n x (change t (ReadField n i) x)
  reads_field t n i (Object m fs) c = same_fine n (Object m fs) _ c (c i)
  reads_field t n i (LockOf h) c = same_fine n (LockOf h) Done c tt
  reads_field t n i (Markable p) c = same_fine n (Markable p) Done c tt
  reads_field t n i (Array size items) c = same_fine n (Array size items) Done c tt

  writes_field : (t n i : ℕ) (v : Value) → ((n ≢ o) ⊎ (i ≢ f)) → IsOther o v → (x : Thing) → IsCleanThing x →
      IsFine n x (change t (WriteField n i v) x)
  writes_field t n i v at h (Object m fs) c = record {
    is =
        (assigned fs i v h c, tt, (slice_set fs i v, refl, λ e. written fs n i v at e));
  }
  writes_field t n i v at h (LockOf hold) c = same_fine n (LockOf hold) Done c tt
  writes_field t n i v at h (Markable p) c = same_fine n (Markable p) Done c tt
  writes_field t n i v at h (Array size items) c = same_fine n (Array size items) Done c tt

  reads_item : (t n : ℕ) (a : Action Value) (i : _) → a ≡ ReadItem n i → (x : Thing) → IsCleanThing x →
      IsFine n x (change t (ReadItem n i) x)
  reads_item t n a i e (Object m fs) c = same_fine n (Object m fs) Done c tt
  reads_item t n a i e (LockOf h) c = same_fine n (LockOf h) Done c tt
  reads_item t n a i e (Markable p) c = same_fine n (Markable p) Done c tt
  reads_item t n a i e (Array size items) c = either n (Array size items) (in_range i size) _ _
      (same_fine n (Array size items) _ c (c (unsigned_abs i))) (same_fine n (Array size items) _ c tt)

  writes_item : (t n : ℕ) (a : Action Value) (i : _) (v : Value) → a ≡ WriteItem n i v → IsOther o v → (x : Thing) →
      IsCleanThing x → IsFine n x (change t (WriteItem n i v) x)
  writes_item t n a i v e h (Object m fs) c = same_fine n (Object m fs) Done c tt
  writes_item t n a i v e h (LockOf hold) c = same_fine n (LockOf hold) Done c tt
  writes_item t n a i v e h (Markable p) c = same_fine n (Markable p) Done c tt
  writes_item t n a i v e h (Array size items) c = either n (Array size items) (in_range i size) _ _
      (record { is = (with_fine items (unsigned_abs i) v h c, tt, tt) }) (same_fine n (Array size items) _ c tt)

  reads_pair : (t n : ℕ) (x : Thing) → IsCleanThing x → IsFine n x (change t (ReadPair n) x)
  reads_pair t n (Object m fs) c = same_fine n (Object m fs) Done c tt
  reads_pair t n (LockOf h) c = same_fine n (LockOf h) Done c tt
  reads_pair t n (Markable p) c = same_fine n (Markable p) _ c c
  reads_pair t n (Array size items) c = same_fine n (Array size items) Done c tt

  sets_pair : (t n : ℕ) (v : Value) → IsOther o v → (x : Thing) → IsCleanThing x → IsFine n x (change t (SetPair n v) x)
  sets_pair t n v h (Object m fs) c = same_fine n (Object m fs) Done c tt
  sets_pair t n v h (LockOf hold) c = same_fine n (LockOf hold) Done c tt
  sets_pair t n v h (Markable p) c = record { is = (h, tt, tt) }
  sets_pair t n v h (Array size items) c = same_fine n (Array size items) Done c tt

  swaps_pair : (t n : ℕ) (p q : Value) → IsOther o q → (x : Thing) → IsCleanThing x →
      IsFine n x (change t (SwapPair n p q) x)
  swaps_pair t n p q h (Object m fs) c = same_fine n (Object m fs) Done c tt
  swaps_pair t n p q h (LockOf hold) c = same_fine n (LockOf hold) Done c tt
  swaps_pair t n p q h (Markable r) c = either n (Markable r) (same_pair r p) _ _
      (record { is = (h, null _ refl, tt) }) (same_fine n (Markable r) _ c (null _ refl))
  swaps_pair t n p q h (Array size items) c = same_fine n (Array size items) Done c tt

  attempts : (t n r : ℕ) (b : Bool) → r ≢ o → (x : Thing) → IsCleanThing x →
      IsFine n x (change t (AttemptMark n r b) x)
  attempts t n r b ne (Object m fs) c = same_fine n (Object m fs) Done c tt
  attempts t n r b ne (LockOf hold) c = same_fine n (LockOf hold) Done c tt
  attempts t n r b ne (Markable p) c = either n (Markable p) (nat_eq (reference_of p) r) _ _
      (record { is = (record { is = ne }, null _ refl, tt) }) (same_fine n (Markable p) _ c (null _ refl))
  attempts t n r b ne (Array size items) c = same_fine n (Array size items) Done c tt

  -- ---- what is left of the store

  module _ (classes : List Class) (l : ℕ) (hold : Hold) where
    pub record IsLeft (s s' : Store) (y : Answer Value) : Type 0 where
      pub ours : IsOurs s' l hold
      pub answer : AnswersOther o y
      pub names : s'.names ≡ s.names

    on_fine : (s s' : Store) (n t : ℕ) (a : Action Value) (y : Answer Value) → IsOurs s l hold →
        ((x : Thing) → IsCleanThing x → IsFine n x (change t a x)) →
        at_thing s n (thing_at s n) (change t a) ≡ Does s' y → IsLeft s s' y
    on_fine s s' n t a y u fine e = by_thing (thing_at s n) refl e
      where
        by_object : (x t' : Thing) → thing_at s n ≡ Some x → KeepsShape n x t' → (o ≡ n) ⊎ (o ≢ n) →
            (fs : List Value) × (thing_at (with_thing s n t') o ≡ Some (Object u.monitor fs))
            × (slice_index_or fs f nothing ≡ Reference l)
        by_object x t' there shape (inl e) =
            let is : x ≡ Object u.monitor u.fields = some_is (sym there ∙ ap (thing_at s) (sym e) ∙ u.object) in
            let k : KeepsShape n (Object u.monitor u.fields) t' = subst (λ z. KeepsShape n z t') is shape in (
              k.0,
              ap (thing_at (with_thing s n t')) e ∙ with_same s n x t' there ∙ ap Some k.1,
              k.2 (sym e) ∙ u.field,
            )
        by_object x t' there shape (inr ne) =
            (u.fields, with_other s n o x t' there ne ∙ u.object, u.field)

        by_lock : (x t' : Thing) → thing_at s n ≡ Some x → KeepsShape n x t' → (l ≡ n) ⊎ (l ≢ n) →
            thing_at (with_thing s n t') l ≡ Some (LockOf hold)
        by_lock x t' there shape (inl e) =
            let is : x ≡ LockOf hold = some_is (sym there ∙ ap (thing_at s) (sym e) ∙ u.lock) in
            let k : KeepsShape n (LockOf hold) t' = subst (λ z. KeepsShape n z t') is shape in
            ap (thing_at (with_thing s n t')) e ∙ with_same s n x t' there ∙ ap Some k
        by_lock x t' there shape (inr ne) = with_other s n l x t' there ne ∙ u.lock

        by_clean : (x t' : Thing) → thing_at s n ≡ Some x → IsCleanThing t' → (k : ℕ) (z : Thing) →
            thing_at (with_thing s n t') k ≡ Some z → (k ≡ n) ⊎ (k ≢ n) → IsCleanThing z
        by_clean x t' there c k z at (inl e) = subst IsCleanThing
            (some_is (sym (with_same s n x t' there) ∙ ap (thing_at (with_thing s n t')) (sym e) ∙ at)) c
        by_clean x t' there c k z at (inr ne) = u.clean k z (sym (with_other s n k x t' there ne) ∙ at)

        left : (x t' : Thing) (answer : Answer Value) → thing_at s n ≡ Some x → IsFine n x (Leaves t' answer) →
            IsLeft s (with_thing s n t') answer
        left x t' answer there h =
            let b = by_object x t' there h.is.2 (cases_eq o n) in
            record {
              ours = record {
                monitor = u.monitor;
                fields = b.0;
                object = b.1;
                field = b.2;
                lock = by_lock x t' there h.is.2 (cases_eq l n);
                clean = λ k z at. by_clean x t' there h.is.0 k z at (cases_eq k n);
              };
              answer = h.is.1;
              names = refl;
            }

        by_change : (x : Thing) → thing_at s n ≡ Some x → (c : Change) → IsFine n x c → put_back s n c ≡ Does s' y →
            IsLeft s s' y
        by_change x there Stays h e = absurd (waits_not e)
        by_change x there (Leaves t' answer) h e = subst (λ z. IsLeft s z y) (sym (does_store e))
            (subst (IsLeft s (with_thing s n t')) (sym (does_answer e)) (left x t' answer there h))

        by_thing : (x : Option Thing) → thing_at s n ≡ x → at_thing s n x (change t a) ≡ Does s' y → IsLeft s s' y
        by_thing None there e = subst (λ z. IsLeft s z y) (sym (does_store e))
            (subst (IsLeft s s) (sym (does_answer e)) (record { ours = u; answer = tt; names = refl }))
        by_thing (Some x) there e = by_change x there (change t a x) (fine x (u.clean n x there)) e

    new_there : (s : Store) (t : Thing) → thing_at (with_new s t) (new_number s) ≡ Some t
    new_there s t =
        let e : length s.things + 1 ≡ suc (length s.things) = omega arith in
        ap (thing_at (with_new s t)) e ∙ at_suc (with_new s t) (length s.things) ∙ get_last s.things t

    no_thing : (s : Store) → thing_at s (new_number s) ≡ None
    no_thing s =
        let k : length s.things + 1 ≡ suc (length s.things) = omega arith in
        ap (thing_at s) k ∙ at_suc s (length s.things) ∙ get_past s.things (length s.things) (le_refl (length s.things))

    not_new : (s : Store) (n : ℕ) (t : Thing) → thing_at s n ≡ Some t → n ≢ new_number s
    not_new s n t there e = none_not (sym (no_thing s) ∙ ap (thing_at s) (sym e) ∙ there)

    new_fine : (s s' : Store) (x : Thing) (y : Answer Value) → IsOurs s l hold → IsCleanThing x →
        making s x ≡ Does s' y → IsLeft s s' y
    new_fine s s' x y u c e = subst (λ z. IsLeft s z y) (sym (does_store e))
        (subst (IsLeft s (with_new s x)) (sym (does_answer e)) (record {
          ours = record {
            monitor = u.monitor;
            fields = u.fields;
            object = new_other s o x (not_new s o _ u.object) ∙ u.object;
            field = u.field;
            lock = new_other s l x (not_new s l _ u.lock) ∙ u.lock;
            clean = λ k z at. by_number k z at (cases_eq k (new_number s));
          };
          answer = record { is = λ e. not_new s o _ u.object (sym e) };
          names = refl;
        }))
      where
        by_number : (k : ℕ) (z : Thing) → thing_at (with_new s x) k ≡ Some z →
            (k ≡ new_number s) ⊎ (k ≢ new_number s) → IsCleanThing z
        by_number k z at (inl e) = subst IsCleanThing
            (some_is (sym (new_there s x) ∙ ap (thing_at (with_new s x)) (sym e) ∙ at)) c
        by_number k z at (inr ne) = u.clean k z (sym (new_other s k x ne) ∙ at)

    same_left : (s s' : Store) (y : Answer Value) → IsOurs s l hold → Does s Done ≡ Does s' y → IsLeft s s' y
    same_left s s' y u e = subst (λ z. IsLeft s z y) (sym (does_store e))
        (subst (IsLeft s s) (sym (does_answer e)) (record { ours = u; answer = tt; names = refl }))

    pub fields_clean : (c : Option Class) (i : ℕ) → IsOther o (slice_index_or (fields_in c) i nothing)
    fields_clean None i = null nothing refl
    fields_clean (Some c) i = starts_other o f set c.fields i

    -- a safe action leaves it
    pub safe_left : (s s' : Store) (t : ℕ) (a : Action Value) (y : Answer Value) → IsOurs s l hold → IsSafe o f a →
        effect classes s t a ≡ Does s' y → IsLeft s s' y
    safe_left s s' t (ReadField n i) y u h e = on_fine s s' n t (ReadField n i) y u (reads_field t n i) e
    safe_left s s' t (WriteField n i v) y u h e = on_fine s s' n t (WriteField n i v) y u
        (writes_field t n i v h.0 h.1) e
    safe_left s s' t (ReadItem n i) y u h e = on_fine s s' n t (ReadItem n i) y u (reads_item t n _ i refl) e
    safe_left s s' t (WriteItem n i v) y u h e = on_fine s s' n t (WriteItem n i v) y u (writes_item t n _ i v refl h) e
    safe_left s s' t (Lock n) y u h e = absurd h
    safe_left s s' t (Unlock n) y u h e = absurd h
    safe_left s s' t (TryLock n) y u h e = absurd h
    safe_left s s' t (IsHeld n) y u h e = absurd h
    safe_left s s' t (LockMonitor n) y u h e = absurd h
    safe_left s s' t (UnlockMonitor n) y u h e = absurd h
    safe_left s s' t (ReadPair n) y u h e = on_fine s s' n t (ReadPair n) y u (reads_pair t n) e
    safe_left s s' t (SetPair n v) y u h e = on_fine s s' n t (SetPair n v) y u (sets_pair t n v h) e
    safe_left s s' t (SwapPair n p q) y u h e = on_fine s s' n t (SwapPair n p q) y u (swaps_pair t n p q h) e
    safe_left s s' t (AttemptMark n r b) y u h e = on_fine s s' n t (AttemptMark n r b) y u (attempts t n r b h) e
    safe_left s s' t (ReadName n) y u h e = absurd h
    safe_left s s' t (WriteName n w) y u h e = absurd h
    safe_left s s' t (New c) y u h e = new_fine s s' _ y u (fields_clean (slice_get classes c)) e
    safe_left s s' t NewLock y u h e = new_fine s s' _ y u tt e
    safe_left s s' t (NewMarkable p) y u h e = new_fine s s' _ y u h e
    safe_left s s' t (NewArray n) y u h e = new_fine s s' _ y u (λ i. null _ refl) e
    safe_left s s' t Turn y u h e = same_left s s' y u e
    safe_left s s' t (Enter m) y u h e = same_left s s' y u e
    safe_left s s' t (Call n) y u h e = absurd h
    safe_left s s' t (Return n w) y u h e = absurd h
    safe_left s s' t (Trap n kind) y u h e = absurd h

  -- ---- the lock's own actions

  -- the lock is held otherwise, and nothing else is changed
  pub record Turns (classes : List Class) (s : Store) (t : ℕ) (a : Action Value) (l : ℕ) (hold : Hold) : Type 0 where
    pub store : Store
    pub does : effect classes s t a ≡ Does store Done
    pub ours : IsOurs store l hold
    pub names : store.names ≡ s.names

  module _ (classes : List Class) (s : Store) (l t : ℕ) where
    object_not : {m h : Hold} {fs : List Value} → Some (Object m fs) ≡ Some (LockOf h) → ⊥
    object_not p = cc

    held_so : (old new : Hold) → IsOurs s l old → IsOurs (with_thing s l (LockOf new)) l new
    held_so old new u = record {
      monitor = u.monitor;
      fields = u.fields;
      object = with_other s l o _ _ u.lock (λ e. object_not (sym u.object ∙ ap (thing_at s) e ∙ u.lock)) ∙ u.object;
      field = u.field;
      lock = with_same s l _ _ u.lock;
      clean = λ k z at. by_number k z at (cases_eq k l);
    }
      where
        by_number : (k : ℕ) (z : Thing) → thing_at (with_thing s l (LockOf new)) k ≡ Some z → (k ≡ l) ⊎ (k ≢ l) →
            IsCleanThing z
        by_number k z at (inl e) = subst IsCleanThing
            (some_is (sym (with_same s l _ (LockOf new) u.lock) ∙ ap (thing_at (with_thing s l (LockOf new))) (sym e)
            ∙ at))
            tt
        by_number k z at (inr ne) = u.clean k z (sym (with_other s l k _ (LockOf new) u.lock ne) ∙ at)

    -- a lock that nobody holds is taken
    pub takes : IsOurs s l Free → Turns classes s t (Lock l) l (HeldBy t 1)
    takes u = record {
      store = with_thing s l (LockOf (HeldBy t 1));
      does = ap (λ x. at_thing s l x (change t (Lock l))) u.lock;
      ours = held_so Free (HeldBy t 1) u;
      names = refl;
    }

    pub frees : IsOurs s l (HeldBy t 1) → Turns classes s t (Unlock l) l Free
    frees u = record {
      store = with_thing s l (LockOf Free);
      does =
          let own : nat_eq t t ≡ true = grind (arith, nat_tests) in
          ap (λ x. at_thing s l x (change t (Unlock l))) u.lock
          ∙ rw own refl;
      ours = held_so (HeldBy t 1) Free u;
      names = refl;
    }

    pub waits : (u n : ℕ) → u ≢ t → IsOurs s l (HeldBy u n) → effect classes s t (Lock l) ≡ Waits
    waits u n ne h =
        let other : nat_eq u t ≡ false = grind (arith, nat_tests) in
        ap (λ x. at_thing s l x (change t (Lock l))) h.lock
        ∙ rw other refl

    -- the field gives the lock, whoever reads it
    pub gives_lock : (hold : Hold) → IsOurs s l hold → effect classes s t (ReadField o f) ≡ Does s (Gives (Reference l))
    gives_lock hold u =
        ap (λ x. at_thing s o x (change t (ReadField o f))) u.object
        ∙ ap (λ z. Does z (Gives (slice_index_or u.fields f nothing)))
        (thing_same s o (Object u.monitor u.fields) u.object)
        ∙ ap (λ v. Does s (Gives v)) u.field
