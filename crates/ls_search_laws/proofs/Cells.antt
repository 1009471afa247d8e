-- Reads of fields that no other thread writes.
use Rattle.std.proofs.Common.{◌≡◌, ◌≢◌, ◌⊎◌, inl, inr, ℕ, suc, ◌+◌, Bool, true, false, not, ◌&&◌, List}
use Rattle.std.proofs.Common.{Option, Some, None, length, slice_set, refl, sym, ap, ◌∙◌, subst, arith, le_refl}
use Rattle.std.proofs.Common.{get_or-set_other}
use Rattle.std.specs.Prelude.{nat_eq, slice_index_or}
use Rattle.std.proofs.lemmas.Bool.{cases_eq}
use Rattle.ls_events.specs.declared.value.Value.{Value}
use Rattle.ls_events.specs.declared.action.Action.{Action}
use Rattle.ls_events.specs.declared.action.Action.TheVariants.{ReadField, WriteField, ReadItem, WriteItem, ReadName}
use Rattle.ls_events.specs.declared.action.Action.TheVariants.{WriteName, New, NewLock, NewMarkable, NewArray, Lock}
use Rattle.ls_events.specs.declared.action.Action.TheVariants.{Unlock, TryLock, IsHeld, LockMonitor, UnlockMonitor}
use Rattle.ls_events.specs.declared.action.Action.TheVariants.{ReadPair, SetPair, SwapPair, AttemptMark, Turn, Enter}
use Rattle.ls_events.specs.declared.action.Action.TheVariants.{Call, Return, Trap}
use Rattle.ls_events.specs.declared.action.Answer.{Answer}
use Rattle.ls_events.specs.declared.action.Answer.TheVariants.{Done, Gives, Fails}
use Rattle.ls_checked.specs.CheckedTree.{Class}
use Rattle.ls_meaning.specs.Values.{nothing}
use Rattle.ls_meaning.specs.Store.{Hold, Thing, Object, LockOf, Markable, Array, Store, thing_at, with_thing}
use Rattle.ls_meaning.specs.Store.{new_number}
use Rattle.ls_meaning.specs.Effect.{Waits, Does, Change, Stays, Leaves, Holding, Awaits, Becomes, at_thing, change}
use Rattle.ls_meaning.specs.Effect.{effect, making, on_monitor, put_back, with_hold, locking, unlocking}
use Rattle.ls_meaning.specs.Renamings.{renamed_action, renamed_answer}
use Rattle.ls_search_laws.specs.AtOnce.{IsReading, ReadsSame}
use Rattle.ls_search_laws.specs.Cells.{AllCellsAreFair, Cells, IsIdentity, SparesField, TurnsAreFair, by_cells}
use Rattle.ls_search_laws.specs.Cells.{no_cells}
use Rattle.ls_search_laws.proofs.Stepping.{get_past}
use Rattle.ls_search_laws.proofs.Reading.{thing_same}
use Rattle.ls_search_laws.proofs.Renaming.{at_suc, new_other, with_other, with_same}

does_store : {s s' : Store} {x y : Answer Value} → Does s x ≡ Does s' y → s' ≡ s
does_store p = cc

waits_not : {s : Store} {x : Answer Value} → Waits ≡ Does s x → ⊥
waits_not p = cc

done_not : {s s' : Store} {v : Value} → Does s Done ≡ Does s' (Gives v) → ⊥
done_not p = cc

gives_is : {s s' : Store} {v w : Value} → Does s (Gives v) ≡ Does s' (Gives w) → v ≡ w
gives_is p = cc

some_is : {x y : Thing} → Some x ≡ Some y → x ≡ y
some_is p = cc

none_not : {x : Thing} → None ≡ Some x → ⊥
none_not p = cc

-- there is an object with this in the field
record HasField (s : Store) (o f : ℕ) (v : Value) : Type 0 where
  pub monitor : Hold
  pub fields : List Value
  pub there : thing_at s o ≡ Some (Object monitor fields)
  pub is : slice_index_or fields f nothing ≡ v

module _ (classes : List Class) (o f : ℕ) (v : Value) where
  -- a read that gives a value reads a field
  read_has : (s : Store) (u : ℕ) → effect classes s u (ReadField o f) ≡ Does s (Gives v) → HasField s o f v
  read_has s u e = by_thing (thing_at s o) refl e
    where
      by_thing : (t : Option Thing) →
          thing_at s o ≡ t →
          at_thing s o t (change u (ReadField o f)) ≡ Does s (Gives v) →
          HasField s o f v
      by_thing None there e = absurd (done_not e)
      by_thing (Some (Object monitor fields)) there e = record {
        monitor = monitor;
        fields = fields;
        there = there;
        is = gives_is e;
      }
      by_thing (Some (LockOf hold)) there e = absurd (done_not e)
      by_thing (Some (Markable p)) there e = absurd (done_not e)
      by_thing (Some (Array size items)) there e = absurd (done_not e)

  has_read : (s : Store) (u : ℕ) → HasField s o f v → effect classes s u (ReadField o f) ≡ Does s (Gives v)
  has_read s u h =
      ap (λ t. at_thing s o t (change u (ReadField o f))) h.there
      ∙ ap (λ z. Does z (Gives (slice_index_or h.fields f nothing)))
      (thing_same s o (Object h.monitor h.fields) h.there)
      ∙ ap (λ w. Does s (Gives w)) h.is

  -- what a change of the object leaves of the field
  record IsThere (t : Thing) : Type 0 where
    pub monitor : Hold
    pub fields : List Value
    pub object : t ≡ Object monitor fields
    pub is : slice_index_or fields f nothing ≡ v

  abbrev KeepsField : Change → Type 0
  KeepsField Stays = Unit {0}
  KeepsField (Leaves t answer) = IsThere t

  abbrev Kept : ℕ → Action Value → Type 0
  Kept t a = (monitor : Hold) (fields : List Value) → slice_index_or fields f nothing ≡ v →
      KeepsField (change t a (Object monitor fields))

  as_it_is : (monitor : Hold) (fields : List Value) →
      slice_index_or fields f nothing ≡ v →
      IsThere (Object monitor fields)
  as_it_is monitor fields e = record { monitor = monitor; fields = fields; object = refl; is = e }

  monitor_kept : (go : Hold → Holding) (monitor : Hold) (fields : List Value) →
      slice_index_or fields f nothing ≡ v →
      KeepsField (on_monitor go (Object monitor fields))
  monitor_kept go monitor fields e = by_holding (go monitor)
    where
      by_holding : (h : Holding) → KeepsField (with_hold (λ hold. Object hold fields) h)
      by_holding Awaits = tt
      by_holding (Becomes hold answer) = as_it_is hold fields e

  -- an action on a thing
  on_stays : (s s' : Store) (n t : ℕ) (a : Action Value) (y : Answer Value) →
      HasField s o f v →
      (n ≡ o → Kept t a) →
      at_thing s n (thing_at s n) (change t a) ≡ Does s' y →
      HasField s' o f v
  on_stays s s' n t a y h kept e = by_thing (thing_at s n) refl e
    where
      left : (x t' : Thing) →
          thing_at s n ≡ Some x →
          (n ≡ o → IsThere t') →
          (o ≡ n) ⊎ (o ≢ n) →
          HasField (with_thing s n t') o f v
      left x t' there same (inl e) =
          let i = same (sym e) in
          record {
            monitor = i.monitor;
            fields = i.fields;
            there = ap (thing_at (with_thing s n t')) e ∙ with_same s n x t' there ∙ ap Some i.object;
            is = i.is;
          }
      left x t' there same (inr ne) = record {
        monitor = h.monitor;
        fields = h.fields;
        there = with_other s n o x t' there ne ∙ h.there;
        is = h.is;
      }

      by_change : (x : Thing) →
          thing_at s n ≡ Some x →
          (c : Change) →
          (n ≡ o → KeepsField c) →
          put_back s n c ≡ Does s' y →
          HasField s' o f v
      by_change x there Stays same e = absurd (waits_not e)
      by_change x there (Leaves t' answer) same e = subst (λ z. HasField z o f v) (sym (does_store e))
          (left x t' there same (cases_eq o n))

      of_object : (x : Thing) → thing_at s n ≡ Some x → n ≡ o → KeepsField (change t a x)
      of_object x there e =
          let is : Object h.monitor h.fields ≡ x = some_is (sym h.there ∙ ap (thing_at s) (sym e) ∙ there) in
          subst (λ z. KeepsField (change t a z)) is (kept e h.monitor h.fields h.is)

      by_thing : (x : Option Thing) →
          thing_at s n ≡ x →
          at_thing s n x (change t a) ≡ Does s' y →
          HasField s' o f v
      by_thing None there e = subst (λ z. HasField z o f v) (sym (does_store e)) h
      by_thing (Some x) there e = by_change x there (change t a x) (of_object x there) e

  -- a making
  new_stays : (s s' : Store) (x : Thing) (y : Answer Value) →
      HasField s o f v →
      making s x ≡ Does s' y →
      HasField s' o f v
  new_stays s s' x y h e = subst (λ z. HasField z o f v) (sym (does_store e)) (record {
    monitor = h.monitor;
    fields = h.fields;
    there = new_other s o x not_new ∙ h.there;
    is = h.is;
  })
    where
      no_thing : thing_at s (new_number s) ≡ None
      no_thing =
          let k : length s.things + 1 ≡ suc (length s.things) = omega arith in
          ap (thing_at s) k ∙ at_suc s (length s.things) ∙ get_past s.things (length s.things)
          (le_refl (length s.things))

      not_new : o ≢ new_number s
      not_new k = none_not (sym no_thing ∙ ap (thing_at s) (sym k) ∙ h.there)

  same_stays : (s s' : Store) (x y : Answer Value) → HasField s o f v → Does s x ≡ Does s' y → HasField s' o f v
  same_stays s s' x y h e = subst (λ z. HasField z o f v) (sym (does_store e)) h

  written : (n g : ℕ) (w : Value) (monitor : Hold) (fields : List Value) →
      slice_index_or fields f nothing ≡ v →
      n ≡ o →
      (n ≢ o) ⊎ (g ≢ f) →
      IsThere (Object monitor (slice_set fields g w))
  written n g w monitor fields e same (inl ne) = absurd (ne same)
  written n g w monitor fields e same (inr ne) = record {
    monitor = monitor;
    fields = slice_set fields g w;
    object = refl;
    is = get_or-set_other fields g f w nothing (λ k. ne (sym k)) ∙ e;
  }

  -- an action that doesn't write the field leaves what is in it
  field_stays : (s s' : Store) (t : ℕ) (a : Action Value) (y : Answer Value) →
      HasField s o f v →
      SparesField a o f →
      effect classes s t a ≡ Does s' y →
      HasField s' o f v
  field_stays s s' t (ReadField n g) y h spares e = on_stays s s' n t (ReadField n g) y h (λ k m fs i.
      as_it_is m fs i) e
  field_stays s s' t (WriteField n g w) y h spares e =
      on_stays s s' n t (WriteField n g w) y h (λ k m fs i. written n g w m fs i k spares) e
  field_stays s s' t (ReadItem n i) y h spares e = on_stays s s' n t (ReadItem n i) y h (λ k m fs j. as_it_is m fs j) e
  field_stays s s' t (WriteItem n i w) y h spares e =
      on_stays s s' n t (WriteItem n i w) y h (λ k m fs j. as_it_is m fs j) e
  field_stays s s' t (Lock n) y h spares e = on_stays s s' n t (Lock n) y h (λ k m fs i. as_it_is m fs i) e
  field_stays s s' t (Unlock n) y h spares e = on_stays s s' n t (Unlock n) y h (λ k m fs i. as_it_is m fs i) e
  field_stays s s' t (TryLock n) y h spares e = on_stays s s' n t (TryLock n) y h (λ k m fs i. as_it_is m fs i) e
  field_stays s s' t (IsHeld n) y h spares e = on_stays s s' n t (IsHeld n) y h (λ k m fs i. as_it_is m fs i) e
  field_stays s s' t (LockMonitor n) y h spares e =
      on_stays s s' n t (LockMonitor n) y h (λ k m fs i. monitor_kept (locking t) m fs i) e
  field_stays s s' t (UnlockMonitor n) y h spares e =
      on_stays s s' n t (UnlockMonitor n) y h (λ k m fs i. monitor_kept (unlocking t) m fs i) e
  field_stays s s' t (ReadPair n) y h spares e = on_stays s s' n t (ReadPair n) y h (λ k m fs i. as_it_is m fs i) e
  field_stays s s' t (SetPair n w) y h spares e = on_stays s s' n t (SetPair n w) y h (λ k m fs i. as_it_is m fs i) e
  field_stays s s' t (SwapPair n p q) y h spares e =
      on_stays s s' n t (SwapPair n p q) y h (λ k m fs i. as_it_is m fs i) e
  field_stays s s' t (AttemptMark n r b) y h spares e =
      on_stays s s' n t (AttemptMark n r b) y h (λ k m fs i. as_it_is m fs i) e
  field_stays s s' t (ReadName n) y h spares e = same_stays s s' _ y h e
  field_stays s s' t (WriteName n w) y h spares e = subst (λ z. HasField z o f v) (sym (does_store e)) (record {
    monitor = h.monitor;
    fields = h.fields;
    there = h.there;
    is = h.is;
  })
  field_stays s s' t (New c) y h spares e = new_stays s s' _ y h e
  field_stays s s' t NewLock y h spares e = new_stays s s' _ y h e
  field_stays s s' t (NewMarkable p) y h spares e = new_stays s s' _ y h e
  field_stays s s' t (NewArray n) y h spares e = new_stays s s' _ y h e
  field_stays s s' t Turn y h spares e = same_stays s s' _ y h e
  field_stays s s' t (Enter m) y h spares e = same_stays s s' _ y h e
  field_stays s s' t (Call n) y h spares e = same_stays s s' _ y h e
  field_stays s s' t (Return n w) y h spares e = same_stays s s' _ y h e
  field_stays s s' t (Trap n kind) y h spares e = same_stays s s' _ y h e

-- ---- choices

false_not : false ≡ true → ⊥
false_not p = cc

and_right : (a b : Bool) → (a && b) ≡ true → b ≡ true
and_right true b e = e
and_right false b e = absurd (false_not e)

module _ (cells : Cells) where
  -- what is chosen only reads
  chosen_reads : (t : ℕ) (a : Action Value) (x : Answer Value) → by_cells cells t a x ≡ true → IsReading a
  chosen_reads t (ReadField o f) (Gives v) e = tt
  chosen_reads t (ReadField o f) Done e = tt
  chosen_reads t (ReadField o f) (Fails kind) e = tt
  chosen_reads t Turn x e = tt
  chosen_reads t (Enter m) x e = tt
  chosen_reads t _ x e = absurd (false_not e)

  -- the setup has none
  setup_none : (a : Action Value) (x : Answer Value) → by_cells cells 0 a x ≡ false
  setup_none (ReadField o f) (Gives v) = refl
  setup_none (ReadField o f) Done = refl
  setup_none (ReadField o f) (Fails kind) = refl
  setup_none Turn x = refl
  setup_none (Enter m) x = refl
  setup_none _ x = refl

  -- an action that spares what others read at once is unnoticed
  spared : (classes : List Class) (s s' : Store) (t u : ℕ) (b a : Action Value) (y x : Answer Value) →
      effect classes s t b ≡ Does s' y →
      ((o f : ℕ) → cells u o f ≡ true → SparesField b o f) →
      by_cells cells u a x ≡ true →
      ReadsSame classes u a x s s'
  spared classes s s' t u b (ReadField o f) y (Gives v) e spares chosen reads =
      has_read classes o f v s' u (field_stays classes o f v s s' t b y (read_has classes o f v s u reads)
      (spares o f (and_right (not (nat_eq u 0)) (cells u o f) chosen)) e)
  spared classes s s' t u b (ReadField o f) y Done e spares chosen reads = absurd (false_not chosen)
  spared classes s s' t u b (ReadField o f) y (Fails kind) e spares chosen reads = absurd (false_not chosen)
  spared classes s s' t u b Turn y x e spares chosen reads = ap (Does s') (answer_is reads)
    where
      answer_is : {z : Answer Value} → Does s z ≡ Does s x → z ≡ x
      answer_is p = cc
  spared classes s s' t u b (Enter m) y x e spares chosen reads = ap (Does s') (answer_is reads)
    where
      answer_is : {z : Answer Value} → Does s z ≡ Does s x → z ≡ x
      answer_is p = cc
  spared classes s s' t u b _ y x e spares chosen reads = absurd (false_not chosen)

-- what stays where each name stays
spares_same : (names : ℕ → ℕ) → IsIdentity names → (a : Action Value) (o f : ℕ) →
    SparesField a o f →
    SparesField (renamed_action names a) o f
spares_same names is (WriteField n g v) o f (inl ne) = inl (λ e. ne (sym (is n) ∙ e))
spares_same names is (WriteField n g v) o f (inr ne) = inr ne
spares_same names is _ o f h = tt

chosen_same : (cells : Cells) (names : ℕ → ℕ) → IsIdentity names → (t : ℕ) (a : Action Value) (x : Answer Value) →
    by_cells cells t a x ≡ true →
    by_cells cells t (renamed_action names a) (renamed_answer names x) ≡ true
chosen_same cells names is t (ReadField o f) (Gives v) e =
    ap (λ n. not (nat_eq t 0) && cells t n f) (is o) ∙ e
chosen_same cells names is t (ReadField o f) Done e = absurd (false_not e)
chosen_same cells names is t (ReadField o f) (Fails kind) e = absurd (false_not e)
chosen_same cells names is t Turn x e = e
chosen_same cells names is t (Enter m) x e = e
chosen_same cells names is t _ x e = absurd (false_not e)

pub cells_fair : AllCellsAreFair
cells_fair cells = record {
  fair = record {
    setup = setup_none cells;
    reading = chosen_reads cells;
    renamed = chosen_same cells;
  };
  unnoticed = λ file t b spares names is s s' y e u a x ne chosen.
      spared cells file.classes s s' t u (renamed_action names b) a y x e
      (λ o f read. spares_same names is b o f (spares u o f ne read)) chosen;
}

-- ---- turns and enterings

turn_same : (names : ℕ → ℕ) (t : ℕ) (a : Action Value) (x : Answer Value) →
    by_cells no_cells t a x ≡ true →
    by_cells no_cells t (renamed_action names a) (renamed_answer names x) ≡ true
turn_same names t (ReadField o f) (Gives v) e = absurd (false_not (and_right (not (nat_eq t 0)) false e))
turn_same names t (ReadField o f) Done e = absurd (false_not e)
turn_same names t (ReadField o f) (Fails kind) e = absurd (false_not e)
turn_same names t Turn x e = e
turn_same names t (Enter m) x e = e
turn_same names t _ x e = absurd (false_not e)

pub turns_fair : TurnsAreFair
turns_fair = record {
  fair = record {
    setup = setup_none no_cells;
    reading = chosen_reads no_cells;
    renamed = λ names is t a x e. turn_same names t a x e;
  };
  unnoticed = λ file t b names is s s' y e u a x ne chosen.
      spared no_cells file.classes s s' t u (renamed_action names b) a y x e (λ o f no. absurd (false_not no)) chosen;
}
