-- The setup up to the first return: the making of the object, and what the setup asks for in it.
use Rattle.std.proofs.Common.{◌≡◌, ◌≢◌, ◌⊎◌, inl, inr, ℕ, zero, suc, ◌+◌, ◌<◌, false, List, []}
use Rattle.std.proofs.Common.{◌∷◌, ◌++◌, Some, None, length, refl, sym, ap, ◌∙◌, subst, arith}
use Rattle.std.proofs.Common.{append-nil, append_assoc, map}
use Rattle.std.specs.Prelude.{nat_eq, slice_get, slice_index_or}
use Rattle.std.proofs.lemmas.Bool.Decides.{nat_tests}
use Rattle.ls_events.specs.declared.kind.Kind.{Kind}
use Rattle.ls_events.specs.declared.value.Value.{Value}
use Rattle.ls_events.specs.declared.value.Value.TheVariants.{Reference}
use Rattle.ls_events.specs.declared.event.Event.{Event}
use Rattle.ls_events.specs.declared.action.Action.{Action}
use Rattle.ls_events.specs.declared.action.Action.TheVariants as act
use Rattle.ls_events.specs.declared.action.Answer.{Answer}
use Rattle.ls_events.specs.declared.action.Answer.TheVariants.{Done, Gives}
use Rattle.ls_checked.specs.CheckedTree.{File}
use Rattle.ls_checked.specs.CheckedProgram.{Program, ProgramCall, ThreadProgram, Making}
use Rattle.ls_meaning.specs.declared.sort.Sort.{Sort}
use Rattle.ls_meaning.specs.declared.sort.Sort.TheVariants.{NoValue}
use Rattle.ls_meaning.specs.Course.{Answers, Evaluated, Asks, Results, Throws, tell, with_value}
use Rattle.ls_meaning.specs.Expressions.{constructor_of}
use Rattle.ls_meaning.specs.Methods.{depth_limit, invoke}
use Rattle.ls_meaning.specs.Store.{Free, Object, Store, Thing, new_number, thing_at, with_name, with_new}
use Rattle.ls_meaning.specs.Effect.{Does, effect, fields_in}
use Rattle.ls_meaning.specs.Threads.{Next, Goes, Ended, Trapped, after_call, all_calls, calls_in, next, one_call}
use Rattle.ls_meaning.specs.Runs.{State, answers_of, start}
use Rattle.ls_search_laws.proofs.Renaming.{at_suc}
use Rattle.ls_serial.specs.Serial.{IsSerial}
use Rattle.ls_one_at_a_time.proofs.Onward.{GoesOn, IsCourse, Spent}
use Rattle.ls_one_at_a_time.proofs.Kit.{Kit}
use Rattle.ls_one_at_a_time.proofs.Standing.{AllGuarded, Reached, SetupEnded, called}

-- a course that throws
abbrev pub throws_value : Kind → Answers → Evaluated Value
throws_value k rest = Throws k rest

-- ---- a new object

get_last : {A : Type 0} (xs : List A) (y : A) → slice_get (xs ++ y ∷ []) (length xs) ≡ Some y
get_last [] y = refl
get_last (x ∷ xs) y = get_last xs y

-- a new thing has the next number
pub new_there : (s : Store) (t : Thing) → thing_at (with_new s t) (new_number s) ≡ Some t
new_there s t =
    let e : length s.things + 1 ≡ suc (length s.things) = omega arith in
    ap (thing_at (with_new s t)) e ∙ at_suc (with_new s t) (length s.things) ∙ get_last s.things t

-- a new number isn't that of null
pub not_null : (n : ℕ) → nat_eq (n + 1) 0 ≡ false
not_null n = grind (arith, nat_tests)

-- a course that has ended ends so with more answers
pub more_results : {A : Type 0} (f : Answers → Evaluated A) → ((y : Answer Value) → IsCourse y f) → (more q r : Answers)
    (v : A) → f q ≡ Results v r → f (q ++ more) ≡ Results v (r ++ more)
more_results f course [] q r v e = ap f (append-nil q) ∙ e ∙ ap (Results v) (sym (append-nil r))
more_results f course (y ∷ ys) q r v e =
    let g = subst (λ z. GoesOn y z (f (q ++ y ∷ []))) e ((course y).on q).is in
    ap f (sym (append_assoc q (y ∷ []) ys))
    ∙ more_results f course ys (q ++ y ∷ []) (r ++ y ∷ []) v g
    ∙ ap (Results v) (append_assoc r (y ∷ []) ys)

-- a course that has thrown throws so with more answers
pub more_throws : {A : Type 0} (f : Answers → Evaluated A) → ((y : Answer Value) → IsCourse y f) → (more q r : Answers)
    (k : Kind) → f q ≡ Throws k r → f (q ++ more) ≡ Throws k (r ++ more)
more_throws f course [] q r k e = ap f (append-nil q) ∙ e ∙ ap (Throws k) (sym (append-nil r))
more_throws f course (y ∷ ys) q r k e =
    let g = subst (λ z. GoesOn y z (f (q ++ y ∷ []))) e ((course y).on q).is in
    ap f (sym (append_assoc q (y ∷ []) ys))
    ∙ more_throws f course ys (q ++ y ∷ []) (r ++ y ∷ []) k g
    ∙ ap (Throws k) (append_assoc r (y ∷ []) ys)

-- at the start no thread has an answer
pub none_yet : (xs : List ThreadProgram) (k : ℕ) → slice_index_or {A = Answers} (map (λ t. []) xs) k [] ≡ []
none_yet [] k = refl
none_yet (x ∷ xs) zero = refl
none_yet (x ∷ xs) (suc k) = none_yet xs k

-- the object that the setup makes first, and the other calls
pub record IsMaking (file : File) (program : Program) : Type 0 where
  pub name : ℕ
  pub class : ℕ
  pub text : List ℕ
  pub values : List Value
  pub others : List ProgramCall
  pub setup : calls_in (slice_get program.threads 0) ≡ Making name class text values ∷ others
  pub known : name < length program.names

module _ (file : File) (program : Program) (x : IsMaking file program) where
  -- the constructor, on the new object
  abbrev pub making_of : ℕ → Answers → Evaluated Value
  making_of o = invoke file depth_limit (constructor_of file.classes x.class) (Reference o ∷ x.values)

  -- the object as it is made
  abbrev pub new_object : Thing
  new_object = Object Free (fields_in (slice_get file.classes x.class))

  -- the store before the object
  abbrev pub first_store : Store
  first_store = (start program).store

  -- how the constructor comes to a lock that nobody has
  pub record Maker : Type 1 where
    pub Made : Type 0
    pub kit : Made → Kit file program
    pub Builds : ℕ → Store → Answers → Type 0
    pub course : (o : ℕ) (y : Answer Value) → IsCourse y (making_of o)
    pub new : Builds (new_number first_store) (with_new first_store new_object) []
    pub goes : (o : ℕ) (s store : Store) (q : Answers) (a : Action Value) (sort : Sort) (y : Answer Value) →
        Builds o s q → making_of o q ≡ Asks a sort → effect file.classes s 0 a ≡ Does store y →
        Builds o store (q ++ y ∷ []) × (store.names ≡ s.names)
    pub ends : (o : ℕ) (s : Store) (q : Answers) (v : Value) → Builds o s q → making_of o q ≡ Results v [] →
        x.name < length s.names → (m : Made) × (kit m).Idle (with_name s x.name (Reference o))
    pub others : (m : Made) → AllGuarded file program (kit m) 2 x.others
    pub calls : (m : Made) (t : ℕ) → t ≢ 0 → AllGuarded file program (kit m) 1 (calls_in (slice_get program.threads t))

module _ (file : File) (program : Program) (x : IsMaking file program) (w : Maker file program x) where
  -- the call event of the making
  abbrev pub first : Event
  first = called 0 1

  -- the constructor on the new object
  abbrev pub making : ℕ → Answers → Evaluated Value
  making = making_of file program x

  -- ---- the course of the making

  abbrev pub rest_calls : Answers → Next
  rest_calls = all_calls file program 2 x.others

  abbrev pub setup_next : Answers → Next
  setup_next q = after_call 1 (one_call file program 1 (Making x.name x.class x.text x.values) q) rest_calls

  -- the setup asks for the making, and then for the other calls
  pub setup_is : (q : Answers) → next file program 0 q ≡ setup_next q
  setup_is q = ap (λ cs. all_calls file program 1 cs q) x.setup

  -- the answers up to the constructor, and then its own
  abbrev pub made : ℕ → Answers → Answers
  made o q = Done ∷ Gives (Reference o) ∷ q

  -- the name is written after the constructor
  abbrev pub writing : ℕ → Evaluated Value → Next
  writing o e = after_call 1 (with_value e (λ u rest.
      with_value (tell (act.WriteName x.name (Reference o)) rest) (λ u rest. Results None rest))) rest_calls

  -- after the object the setup asks what the constructor asks
  pub made_is : (o : ℕ) (q : Answers) → next file program 0 (made o q) ≡ writing o (making o q)
  made_is o q = setup_is (made o q)

  -- ---- states up to the object

  abbrev pub AreNames : State → Type 0
  AreNames s = s.store.names ≡ (start program).store.names

  -- the constructor runs
  pub record IsBuilding (s : State) (h : List Event) : Type 0 where
    pub object : ℕ
    pub q : Answers
    pub mine : answers_of s 0 ≡ made object q
    pub spent : Spent (making object q)
    pub builds : w.Builds object s.store q
    pub names : AreNames s
    pub told : h ≡ first ∷ []

  -- the object is made, and the making returns next
  pub record IsWritten (s : State) (h : List Event) : Type 0 where
    pub made : w.Made
    pub asks : next file program 0 (answers_of s 0) ≡ Goes (act.Return 1 None) NoValue
    pub on : (more : Answers) → next file program 0 (answers_of s 0 ++ Done ∷ more) ≡ rest_calls more
    pub free : (w.kit made).Idle s.store
    pub told : h ≡ first ∷ []

  -- nothing has happened
  pub record IsNew (s : State) (h : List Event) : Type 0 where
    pub mine : answers_of s 0 ≡ []
    pub store : s.store ≡ first_store file program x
    pub told : h ≡ []

  -- the making has begun
  pub record IsBegun (s : State) (h : List Event) : Type 0 where
    pub mine : answers_of s 0 ≡ Done ∷ []
    pub store : s.store ≡ first_store file program x
    pub told : h ≡ first ∷ []

  -- the setup is trapped
  pub record IsGone (s : State) (h : List Event) : Type 0 where
    pub asks : next file program 0 (answers_of s 0) ≡ Trapped
    pub serial : IsSerial h

  -- how far the making is
  abbrev pub IsStage : State → List Event → Type 0
  IsStage s h = IsNew s h ⊎ (IsBegun s h ⊎ (IsBuilding s h ⊎ (IsWritten s h ⊎ IsGone s h)))

  -- a state up to the making's return: no other thread has begun
  pub record IsEarly (s : State) (h : List Event) : Type 0 where
    pub reached : Reached file program s h
    pub count : length s.answers ≡ length program.threads
    pub fresh : (t : ℕ) → t ≢ 0 → answers_of s t ≡ []
    pub stage : IsStage s h

  -- ---- what the setup asks for

  -- a thread that asks for an action hasn't ended
  pub goes_not : {a : Action Value} {sort : Sort} → Goes a sort ≡ Ended → ⊥
  goes_not p = cc

  pub trapped_not : Trapped ≡ Ended → ⊥
  trapped_not p = cc

  pub asks_writing : (o : ℕ) (e : Evaluated Value) → Spent e → writing o e ≡ Ended → ⊥
  asks_writing o (Asks a sort) spent is = goes_not is
  asks_writing o (Results v rest) spent is =
      goes_not (sym (ap (λ r. writing o (Results v r)) spent.is) ∙ is)
  asks_writing o (Throws k rest) spent is =
      goes_not (sym (ap (λ r. writing o (Throws k r)) spent.is) ∙ is)

  -- no other thread has started
  pub stage_up : (s : State) (h : List Event) → IsStage s h → SetupEnded file program s → ⊥
  stage_up s h (inl n) e = goes_not (sym (ap (next file program 0) n.mine ∙ setup_is []) ∙ e)
  stage_up s h (inr (inl n)) e = goes_not (sym (ap (next file program 0) n.mine ∙ setup_is (Done ∷ [])) ∙ e)
  stage_up s h (inr (inr (inl n))) e = asks_writing n.object (making n.object n.q) n.spent
      (sym (ap (next file program 0) n.mine ∙ made_is n.object n.q) ∙ e)
  stage_up s h (inr (inr (inr (inl n)))) e = goes_not (sym n.asks ∙ e)
  stage_up s h (inr (inr (inr (inr n)))) e = trapped_not (sym n.asks ∙ e)
