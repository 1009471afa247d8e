-- Where next actions conflict, the schedule with both of them after it has a race.
use Rattle.std.proofs.Common.{◌≡◌, ◌≢◌, ◌⊎◌, inl, inr, ℕ, ◌+◌, ◌<◌, Bool, Option, true, false, List, [], ◌∷◌, ◌++◌}
use Rattle.std.proofs.Common.{None, Some, length, slice_get, take, refl, sym, ap, ◌∙◌, subst, arith, append_assoc}
use Rattle.std.specs.Prelude.{if◌then◌else◌}
use Rattle.std.proofs.Math.Seq.{get_or-append_seam, take-append-add, take-append_seam}
use Rattle.std.proofs.lemmas.Option.{slice_get-get_or}
use Rattle.std.proofs.lemmas.List.{length-append, length_push}
use Rattle.ls_events.specs.declared.value.Value.{Value}
use Rattle.ls_events.specs.declared.action.Action.{Action}
use Rattle.ls_events.specs.declared.action.Action.TheVariants.{ReadField, WriteField, ReadItem, WriteItem, ReadName}
use Rattle.ls_events.specs.declared.action.Action.TheVariants.{WriteName, New, NewLock, NewMarkable, NewArray, Lock}
use Rattle.ls_events.specs.declared.action.Action.TheVariants.{Unlock, TryLock, IsHeld, LockMonitor, UnlockMonitor}
use Rattle.ls_events.specs.declared.action.Action.TheVariants.{ReadPair, SetPair, SwapPair, AttemptMark, Turn, Enter}
use Rattle.ls_events.specs.declared.action.Action.TheVariants.{Call, Return, Trap}
use Rattle.ls_events.specs.declared.action.Answer.{Answer}
use Rattle.ls_checked.specs.CheckedTree.{File}
use Rattle.ls_checked.specs.CheckedProgram.{Program}
use Rattle.ls_meaning.specs.declared.step.Did.{Did}
use Rattle.ls_meaning.specs.declared.step.Did.TheVariants as did
use Rattle.ls_meaning.specs.Runs.{State, answers_of, has_ended, source_run, step}
use Rattle.ls_meaning.specs.Still.{IsActing}
use Rattle.ls_meaning.specs.Effect.{Does, effect}
use Rattle.ls_meaning.specs.Store.{Thing, Object, LockOf, Markable, Array, Store, thing_at}
use Rattle.ls_meaning.specs.Threads.{next}
use Rattle.ls_search_laws.specs.Configuration.{Configuration, Stride, configuration_of, stride}
use Rattle.ls_search_laws.proofs.Covering.{setup_goes}
use Rattle.ls_search_laws.proofs.Renamed.{step_stride}
use Rattle.ls_search_laws.proofs.Stepping.{one_more}
use Rattle.ls_search_laws.proofs.Strides.{Acts, acts_of, other_goes, other_started, stride_by, told}
use Rattle.ls_search_laws.proofs.Telling.{long_of_all}
use Rattle.ls_race_laws.specs.declared.access.Access.{Access}
use Rattle.ls_race_laws.specs.declared.access.Kind.{Kind}
use Rattle.ls_race_laws.specs.Accesses.{Volatile, access_of, of_field, unless}
use Rattle.ls_race_laws.specs.Meeting.{MeetsAfter, access_by}
use Rattle.ls_race_laws.specs.Ordered.{At, HappensBefore, IsOrderedAtOnce, IsRace, MeetingsAreRaces, On, OrderedAlong}
use Rattle.ls_race_laws.specs.Ordered.{Field, Releases, acquires, if_volatile}
use Rattle.ls_race_laws.proofs.Quiet.{acts_if}
use Rattle.ls_race_laws.proofs.Setup.{only_setup}
use Rattle.ls_race_laws.proofs.Shapes.{IsAlike, IsDone, access_alike, access_done}

-- ---- places of lists

get_seam : (xs : List ℕ) (y : ℕ) (ys : List ℕ) → slice_get (xs ++ y ∷ ys) (length xs) ≡ Some y
get_seam xs y ys =
    let long = length-append xs (y ∷ ys) in
    let within : length xs < length (xs ++ y ∷ ys) = omega (arith, long) in
    slice_get-get_or (xs ++ y ∷ ys) (length xs) 0 within ∙ ap Some (get_or-append_seam xs y ys 0)

get_second : (xs : List ℕ) (y z : ℕ) → slice_get (xs ++ y ∷ z ∷ []) (length xs + 1) ≡ Some z
get_second xs y z =
    ap (λ l. slice_get l (length xs + 1)) (sym (append_assoc xs (y ∷ []) (z ∷ [])))
    ∙ ap (slice_get ((xs ++ y ∷ []) ++ z ∷ [])) (sym (length_push xs y))
    ∙ get_seam (xs ++ y ∷ []) z []

take_second : (xs : List ℕ) (y z : ℕ) → take (length xs + 1) (xs ++ y ∷ z ∷ []) ≡ xs ++ y ∷ []
take_second xs y z =
    ap (take (length xs + 1)) (sym (append_assoc xs (y ∷ []) (z ∷ [])))
    ∙ ap (λ n. take n ((xs ++ y ∷ []) ++ z ∷ [])) (sym (length_push xs y))
    ∙ take-append_seam (xs ++ y ∷ []) (z ∷ [])

some_is : (m n : ℕ) → Some m ≡ Some n → m ≡ n
some_is m n h = cc

action_is : (a b : Action Value) (x y : Answer Value) → did.Acted a x ≡ did.Acted b y → a ≡ b
action_is a b x y h = cc

not_some : (a : Access) → None ≡ Some a → ⊥
not_some a h = cc

not_on : (on : On) → None ≡ Some on → ⊥
not_on on h = cc

-- ---- an access releases nothing

by_flag : (b : Bool) (p q : Access) (on : On) (o f : ℕ) → unless b p ≡ Some q →
    (if b then Some (Field o f) else None) ≡ Some on → ⊥
by_flag true p q on o f e r = not_some q e
by_flag false p q on o f e r = not_on on r

no_field : (volatile : Volatile) (o f : ℕ) (w : Bool) (t : Option Thing) (p : Access) (on : On) →
    of_field volatile o f w t ≡ Some p → if_volatile volatile o f t ≡ Some on → ⊥
no_field volatile o f w None p on e r = not_some p e
no_field volatile o f w (Some (Object monitor fields)) p on e r = by_flag (volatile (length fields) f) _ p on o f e r
no_field volatile o f w (Some (LockOf hold)) p on e r = not_some p e
no_field volatile o f w (Some (Markable pair)) p on e r = not_some p e
no_field volatile o f w (Some (Array size items)) p on e r = not_some p e

no_release : (volatile : Volatile) (s : Store) (a : Action Value) (x : Answer Value) (p : Access) (on : On) →
    access_of volatile s a ≡ Some p → Releases volatile s a x on → ⊥
no_release volatile s (ReadField o f) x p on e r = r
no_release volatile s (WriteField o f v) x p on e r = no_field volatile o f true (thing_at s o) p on e r
no_release volatile s (ReadItem o i) x p on e r = r
no_release volatile s (WriteItem o i v) x p on e r = r
no_release volatile s (ReadName n) x p on e r = not_some p e
no_release volatile s (WriteName n v) x p on e r = not_some p e
no_release volatile s (New c) x p on e r = not_some p e
no_release volatile s NewLock x p on e r = not_some p e
no_release volatile s (NewMarkable v) x p on e r = not_some p e
no_release volatile s (NewArray n) x p on e r = not_some p e
no_release volatile s (Lock o) x p on e r = not_some p e
no_release volatile s (Unlock o) x p on e r = not_some p e
no_release volatile s (TryLock o) x p on e r = not_some p e
no_release volatile s (IsHeld o) x p on e r = not_some p e
no_release volatile s (LockMonitor o) x p on e r = not_some p e
no_release volatile s (UnlockMonitor o) x p on e r = not_some p e
no_release volatile s (ReadPair o) x p on e r = not_some p e
no_release volatile s (SetPair o v) x p on e r = not_some p e
no_release volatile s (SwapPair o v w) x p on e r = not_some p e
no_release volatile s (AttemptMark o q m) x p on e r = not_some p e
no_release volatile s Turn x p on e r = not_some p e
no_release volatile s (Enter m) x p on e r = not_some p e
no_release volatile s (Call n) x p on e r = not_some p e
no_release volatile s (Return n v) x p on e r = not_some p e
no_release volatile s (Trap n kind) x p on e r = not_some p e

-- ---- the order

module _ (volatile : Volatile) (file : File) (program : Program) (schedule : List ℕ) where
  later : (i : ℕ) (ks : List ℕ) (j : ℕ) → OrderedAlong volatile file program schedule i ks j → i < j
  later i [] j o = o.before
  later i (k ∷ ks) j o =
      let first = o.0.before in
      let rest = later k ks j o.1 in
      omega (arith, first, rest)

  -- of two neighbours nothing stands between
  next_at_once : (i : ℕ) → HappensBefore volatile file program schedule i (i + 1) →
      IsOrderedAtOnce volatile file program schedule i (i + 1)
  next_at_once i h = by_between h.between h.along
    where
      by_between : (ks : List ℕ) → OrderedAlong volatile file program schedule i ks (i + 1) →
          IsOrderedAtOnce volatile file program schedule i (i + 1)
      by_between [] o = o
      by_between (k ∷ ks) o =
          let first = o.0.before in
          let rest = later k ks (i + 1) o.1 in
          absurd (omega (arith, first, rest))

-- ---- the two steps

record IsBy (volatile : Volatile) (s : Store) (d : Did) (a : Access) : Type 0 where
  pub action : Action Value
  pub answer : Answer Value
  pub acts : d ≡ did.Acted action answer
  pub is : access_of volatile s action ≡ Some a

by_did : (volatile : Volatile) (s : Store) (d : Did) (a : Access) → access_by volatile s d ≡ Some a →
    IsBy volatile s d a
by_did volatile s (did.Acted action answer) a e = record { action = action; answer = answer; acts = refl; is = e }
by_did volatile s did.Waits a e = absurd (not_some a e)
by_did volatile s did.Idle a e = absurd (not_some a e)

module _ (volatile : Volatile) (file : File) (program : Program) (schedule : List ℕ) (on : Kind)
    (m : MeetsAfter volatile file program schedule on) where
  abbrev s : State
  s = source_run file program schedule

  abbrev both : List ℕ
  both = schedule ++ m.one ∷ m.other ∷ []

  abbrev i : ℕ
  i = length schedule

  -- the setup isn't one of them
  not_setup : (t u : ℕ) (a b : Access) → t ≢ u → access_by volatile s.store (step file program s t).did ≡ Some a →
      access_by volatile s.store (step file program s u).did ≡ Some b → t ≢ 0
  not_setup t u a b ne e f z =
      let at_zero : access_by volatile s.store (step file program s 0).did ≡ Some a =
      subst (λ n. access_by volatile s.store (step file program s n).did ≡ Some a) z e in
      let goes = setup_goes file program s (acts_if volatile s.store (step file program s 0).did a at_zero) in
      ne (z ∙ sym (only_setup volatile file program s u b goes f))

  nz : m.one ≢ 0
  nz = not_setup m.one m.other m.first m.second m.apart m.first_is m.second_is

  before_first : take i both ≡ schedule
  before_first = take-append_seam schedule (m.one ∷ m.other ∷ [])

  first_by : IsBy volatile s.store (step file program s m.one).did m.first
  first_by = by_did volatile s.store (step file program s m.one).did m.first m.first_is

  at_first : At volatile file program both i
  at_first = record {
    thread = m.one;
    here = get_seam schedule m.one (m.other ∷ []);
    action = first_by.action;
    answer = first_by.answer;
    acts = subst
        (λ l. (step file program (source_run file program l) m.one).did ≡ did.Acted first_by.action first_by.answer)
        (sym before_first) first_by.acts;
  }

  -- the configuration, and that after the first
  abbrev c : Configuration
  c = configuration_of file program s

  one_meets : access_by volatile c.store (stride file c m.one).did ≡ Some m.first
  one_meets =
      sym (ap (access_by volatile s.store) (step_stride file program s (long_of_all file program schedule) m.one).0)
      ∙ m.first_is

  other_meets : access_by volatile c.store (stride file c m.other).did ≡ Some m.second
  other_meets =
      sym (ap (access_by volatile s.store) (step_stride file program s (long_of_all file program schedule) m.other).0)
      ∙ m.second_is

  e : Acts file c m.one
  e = acts_of file c m.one (acts_if volatile c.store (stride file c m.one).did m.first one_meets)

  f : Acts file c m.other
  f = acts_of file c m.other (acts_if volatile c.store (stride file c m.other).did m.second other_meets)

  e_access : access_of volatile c.store e.action ≡ Some m.first
  e_access = sym (ap (λ (p : Stride). access_by volatile c.store p.did) (stride_by file c m.one e)) ∙ one_meets

  f_access : access_of volatile c.store f.action ≡ Some m.second
  f_access = sym (ap (λ (p : Stride). access_by volatile c.store p.did) (stride_by file c m.other f)) ∙ other_meets

  abbrev s1 : State
  s1 = source_run file program (schedule ++ m.one ∷ [])

  abbrev c1 : Configuration
  c1 = told c m.one e.store e.answer

  go : configuration_of file program s1 ≡ c1
  go =
      ap (configuration_of file program) (one_more file program schedule m.one).state
      ∙ (step_stride file program s (long_of_all file program schedule) m.one).1
      ∙ ap (λ (p : Stride). p.after) (stride_by file c m.one e)

  -- what the first does is done, and leaves shapes
  does_first : IsDone c.store (effect file.classes c.store m.one e.action)
  does_first = access_done file.classes volatile c.store e.action m.first e_access c.store m.one

  store_is : (y z : Store) (x w : Answer Value) → Does y x ≡ Does z w → y ≡ z
  store_is y z x w h = cc

  alike : (o : ℕ) → IsAlike (thing_at e.store o) (thing_at c.store o)
  alike o = subst (λ z. IsAlike (thing_at z o) (thing_at c.store o))
      (store_is does_first.store e.store does_first.answer e.answer (sym does_first.is ∙ e.does)) (does_first.alike o)

  does_second : IsDone e.store (effect file.classes e.store m.other f.action)
  does_second = access_done file.classes volatile c.store f.action m.second f_access e.store m.other

  -- the second does what it would have done
  f1 : Acts file c1 m.other
  f1 = record {
    starts = other_started file c m.other m.one e.store e.answer nz ∙ f.starts;
    action = f.action;
    sort = f.sort;
    goes = other_goes c m.one m.other e.store e.answer [] (λ z. m.apart (sym z)) ∙ f.goes;
    store = does_second.store;
    answer = does_second.answer;
    does = does_second.is;
  }

  second_acts : (step file program s1 m.other).did ≡ did.Acted f.action does_second.answer
  unfolding f1
  second_acts =
      (step_stride file program s1 (long_of_all file program (schedule ++ m.one ∷ [])) m.other).0
      ∙ ap (λ z. (stride file z m.other).did) go
      ∙ ap (λ (p : Stride). p.did) (stride_by file c1 m.other f1)

  second_access : access_of volatile s1.store f.action ≡ Some m.second
  second_access =
      ap (λ (z : Configuration). access_of volatile z.store f.action) go
      ∙ access_alike volatile c.store e.store alike f.action
      ∙ f_access

  before_second : take (i + 1) both ≡ schedule ++ m.one ∷ []
  before_second = take_second schedule m.one m.other

  at_second : At volatile file program both (i + 1)
  at_second = record {
    thread = m.other;
    here = get_second schedule m.one m.other;
    action = f.action;
    answer = does_second.answer;
    acts = subst
        (λ l. (step file program (source_run file program l) m.other).did ≡ did.Acted f.action does_second.answer)
        (sym before_second) second_acts;
  }

  free : HappensBefore volatile file program both i (i + 1) → ⊥
  free h = by_why o.why
    where
      o : IsOrderedAtOnce volatile file program both i (i + 1)
      o = next_at_once volatile file program both i h

      one_is : m.one ≡ o.one.thread
      one_is = some_is m.one o.one.thread (sym (get_seam schedule m.one (m.other ∷ [])) ∙ o.one.here)

      other_is : m.other ≡ o.other.thread
      other_is = some_is m.other o.other.thread (sym (get_second schedule m.one m.other) ∙ o.other.here)

      access : access_of volatile (source_run file program (take i both)).store o.one.action ≡ Some m.first
      access =
          sym (ap (access_by volatile (source_run file program (take i both)).store) o.one.acts)
          ∙ subst (λ n. access_by volatile (source_run file program (take i both)).store
          (step file program (source_run file program (take i both)) n).did ≡ Some m.first) one_is
          (subst (λ l. access_by volatile (source_run file program l).store
          (step file program (source_run file program l) m.one).did ≡ Some m.first) (sym before_first) m.first_is)

      by_why : (o.one.thread ≡ o.other.thread) ⊎ ((o.one.thread ≡ 0) ⊎
          ((on : On) × Releases volatile (source_run file program (take i both)).store o.one.action o.one.answer on
          × (acquires volatile (source_run file program (take (i + 1) both)).store o.other.action o.other.answer
          ≡ Some on))) → ⊥
      by_why (inl same) = m.apart (one_is ∙ same ∙ sym other_is)
      by_why (inr (inl z)) = nz (one_is ∙ z)
      by_why (inr (inr r)) =
          no_release volatile (source_run file program (take i both)).store o.one.action o.one.answer m.first r.0 access
          r.1

  race : IsRace volatile file program both i (i + 1)
  unfolding at_first at_second
  race = record {
    before = omega arith;
    one = at_first;
    other = at_second;
    apart = m.apart;
    first = m.first;
    second = m.second;
    first_is = subst (λ l. access_of volatile (source_run file program l).store first_by.action ≡ Some m.first)
        (sym before_first) first_by.is;
    second_is = subst (λ l. access_of volatile (source_run file program l).store f.action ≡ Some m.second)
        (sym before_second) second_access;
    conflict = m.conflict;
    free = free;
  }

pub meetings_are_races : MeetingsAreRaces
meetings_are_races volatile file program schedule on m = race volatile file program schedule on m
