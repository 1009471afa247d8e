-- What is left of a thread, and what can be shown of it step by step.
use Rattle.std.proofs.Common.{◌≡◌, ◌≢◌, ℕ, ◌≤◌, Bool, true, false, cond, [], ◌∷◌, length, Some, refl, sym, subst, arith}
use Rattle.std.proofs.lemmas.Grind.{common_steps}
use Rattle.std.specs.Prelude.{pos, nat_eq, slice_get}
use Rattle.ls_events.specs.declared.kind.Kind.{Kind}
use Rattle.ls_events.specs.declared.kind.Kind.TheVariants.{NullPointer}
use Rattle.ls_events.specs.declared.value.Value.{Value}
use Rattle.ls_events.specs.declared.value.ValueType.{ValueType}
use Rattle.ls_events.specs.declared.value.ValueType.TheVariants as types
use Rattle.ls_events.specs.declared.action.Action.{Action}
use Rattle.ls_events.specs.declared.action.Action.TheVariants.{ReadField, WriteField, ReadItem, WriteItem, New, NewLock}
use Rattle.ls_events.specs.declared.action.Action.TheVariants.{NewMarkable, NewArray, Lock, Unlock, TryLock, IsHeld}
use Rattle.ls_events.specs.declared.action.Action.TheVariants.{LockMonitor, UnlockMonitor, ReadPair, SetPair, SwapPair}
use Rattle.ls_events.specs.declared.action.Action.TheVariants.{AttemptMark, Turn, Enter}
use Rattle.ls_events.specs.declared.action.Answer.{Answer}
use Rattle.ls_events.specs.declared.action.Answer.TheVariants.{Done, Gives, Fails}
use Rattle.ls_checked.specs.CheckedTree.{File, Method}
use Rattle.ls_meaning.specs.declared.sort.Sort.{Sort}
use Rattle.ls_meaning.specs.declared.sort.Sort.TheVariants.{NoValue, ValueOf, NewOf, PairOf}
use Rattle.ls_meaning.specs.Values.{nothing}
use Rattle.ls_meaning.specs.Course.{Answers, Evaluated, Results, Throws, ask, tell, with_value, unless_null}
use Rattle.ls_meaning.specs.Threads.{Goes}
use Rattle.ls_meaning.proofs.Followers.{ends, ends_with}
use Rattle.ls_types_judgement.specs.Sorts.{HasType, HasSort}
use Rattle.ls_preservation.specs.Sorts.{HasSortBy, Suits, fields_of}
use Rattle.ls_soundness.proofs.Values.{Makes, sort_of_answer}

-- a reference that isn't null, of a type
abbrev pub IsThing : (ℕ → ValueType → Type 0) → ℕ → ValueType → Type 0
IsThing P n t = (n ≢ 0) × P n t

-- what a method's body asks for, on things and values of the right types
abbrev pub HasAction : (ℕ → ValueType → Type 0) → File → Action Value → Sort → Type 0
HasAction P file (ReadField n f) s = (c : ℕ) × (t : ValueType) × IsThing P n (types.Class c) ×
    (slice_get (fields_of file.classes c) f ≡ Some t) × (s ≡ ValueOf t)
HasAction P file (WriteField n f v) s = (c : ℕ) × (t : ValueType) × IsThing P n (types.Class c) ×
    (slice_get (fields_of file.classes c) f ≡ Some t) × HasType P v t × (s ≡ NoValue)
HasAction P file (ReadItem n i) s = IsThing P n types.BooleanArray × (s ≡ ValueOf types.Boolean)
HasAction P file (WriteItem n i v) s = IsThing P n types.BooleanArray × HasType P v types.Boolean × (s ≡ NoValue)
HasAction P file (New c) s = (n : ℕ) × (m : Method) × (slice_get file.methods n ≡ Some m) × (m.class ≡ c) ×
    (s ≡ NewOf (types.Class c))
HasAction P file NewLock s = s ≡ NewOf types.Lock
HasAction P file (NewMarkable v) s = (c : ℕ) × HasSortBy P v (PairOf c) × (s ≡ NewOf (types.Markable c))
HasAction P file (NewArray z) s = (n : ℕ) × (z ≡ pos n) × (s ≡ NewOf types.BooleanArray)
HasAction P file (Lock n) s = IsThing P n types.Lock × (s ≡ NoValue)
HasAction P file (Unlock n) s = IsThing P n types.Lock × (s ≡ NoValue)
HasAction P file (TryLock n) s = IsThing P n types.Lock × (s ≡ ValueOf types.Boolean)
HasAction P file (IsHeld n) s = IsThing P n types.Lock × (s ≡ ValueOf types.Boolean)
HasAction P file (LockMonitor n) s = (c : ℕ) × IsThing P n (types.Class c) × (s ≡ NoValue)
HasAction P file (UnlockMonitor n) s = (c : ℕ) × IsThing P n (types.Class c) × (s ≡ NoValue)
HasAction P file (ReadPair n) s = (c : ℕ) × IsThing P n (types.Markable c) × (s ≡ PairOf c)
HasAction P file (SetPair n v) s = (c : ℕ) × IsThing P n (types.Markable c) × HasSortBy P v (PairOf c) × (s ≡ NoValue)
HasAction P file (SwapPair n e d) s = (c : ℕ) × IsThing P n (types.Markable c) × HasSortBy P e (PairOf c) ×
    HasSortBy P d (PairOf c) × (s ≡ ValueOf types.Boolean)
HasAction P file (AttemptMark n r m) s = (c : ℕ) × IsThing P n (types.Markable c) × P r (types.Class c) ×
    (s ≡ ValueOf types.Boolean)
HasAction P file Turn s = s ≡ NoValue
HasAction P file (Enter m) s = s ≡ NoValue
HasAction P file _ s = ⊥

-- What can be shown of what is left, after given answers. It is the same for what is the same after answers that
-- aren't more. It can be shown if an action that fits is asked for. It can be shown after an answer that suits, if it
-- can be shown of the rest. Actions of the right types fit.
pub record Way (P : ℕ → ValueType → Type 0) (file : File) : Type 1 where
  pub Left : Type 0
  pub asks : Action Value → Sort → Left
  pub Shown : (Answers → Left) → Answers → Type 0
  pub Fits : Action Value → Sort → Type 0
  pub fits : (a : Action Value) (s : Sort) → HasAction P file a s → Fits a s
  pub same : (f g : Answers → Left) (had : Answers) →
      ((q : Answers) → length q ≤ length had → f q ≡ g q) →
      Shown g had →
      Shown f had
  pub at_end : (f : Answers → Left) (a : Action Value) (s : Sort) → f [] ≡ asks a s → Fits a s → Shown f []
  pub at_more : (f : Answers → Left) (a : Action Value) (s : Sort) (y : Answer Value) (rest : Answers) →
      f [] ≡ asks a s →
      Makes s →
      (Suits P (Goes a s) y → Shown (λ q. f (y ∷ q)) rest) →
      Shown f (y ∷ rest)

differ : (n : ℕ) → nat_eq n 0 ≡ false → n ≢ 0
differ n e z = grind (arith, common_steps, e, z)

module _ (P : ℕ → ValueType → Type 0) (file : File) (w : Way P file) where
  -- it can be shown after all answers
  pub record Sure (f : Answers → w.Left) : Type 0 where
    pub is : (had : Answers) → w.Shown f had

  -- it can be shown of what is the same after all answers
  pub sure_same : (f g : Answers → w.Left) → ((q : Answers) → f q ≡ g q) → Sure g → Sure f
  sure_same f g e s = record { is = λ had. w.same f g had (λ q l. e q) (s.is had) }

  -- an expression whose results have H
  pub record Good {A : Type 0} (H : A → Type 0) (x : Answers → Evaluated A) : Type 0 where
    pub good : (go : A → Answers → w.Left) (h : Kind → Answers → w.Left) →
        ((v : A) → H v → Sure (go v)) →
        ((k : Kind) → Sure (h k)) →
        Sure (λ q. ends w.asks (x q) go h)

  -- a result that has H
  pub results_good : {A : Type 0} (H : A → Type 0) (v : A) → H v → Good H (λ q. Results v q)
  results_good H v hv = record { good = λ go h kg kh. kg v hv }

  -- an exception
  pub throws_good : {A : Type 0} (H : A → Type 0) (k : Kind) → Good H (λ q. Throws k q)
  throws_good H k = record { good = λ go h kg kh. kh k }

  -- one expression, and then another with its result
  pub then_good : {A B : Type 0} (H : A → Type 0) (K : B → Type 0) (x : Answers → Evaluated A)
      (g : A → Answers → Evaluated B) →
      Good H x →
      ((v : A) → H v → Good K (λ q. g v q)) →
      Good K (λ q. with_value (x q) g)
  then_good H K x g a f = record {
    good = λ go h kg kh. sure_same _ _ (λ q. ends_with w.asks (x q) g go h)
        (a.good (λ v q. ends w.asks (g v q) go h) h (λ v hv. (f v hv).good go h kg kh) kh);
  }

  -- if H is enough for K, results that have H have K
  pub weaken : {A : Type 0} (H K : A → Type 0) (x : Answers → Evaluated A) → ((v : A) → H v → K v) → Good H x → Good K x
  weaken H K x f a = record { good = λ go h kg kh. a.good go h (λ v hv. kg v (f v hv)) kh }

  -- one action, and its answer
  pub ask_fits : (a : Action Value) (s : Sort) → Makes s → w.Fits a s → Good (HasSort P s) (λ q. ask a s q)
  ask_fits a s m has = record { good = λ go h kg kh. record { is = asked go h kg kh } }
    where
      asked : (go : Value → Answers → w.Left) (h : Kind → Answers → w.Left) →
          ((v : Value) → HasSort P s v → Sure (go v)) →
          ((k : Kind) → Sure (h k)) →
          (had : Answers) →
          w.Shown (λ q. ends w.asks (ask a s q) go h) had
      asked go h kg kh [] = w.at_end _ a s refl has
      asked go h kg kh (Done ∷ rest) = w.at_more _ a s Done rest refl m
          (λ e. (kg nothing (subst (λ r. HasSort P r nothing) (sym e) refl)).is rest)
      asked go h kg kh (Gives v ∷ rest) = w.at_more _ a s (Gives v) rest refl m
          (λ u. (kg v (sort_of_answer P v s m u)).is rest)
      asked go h kg kh (Fails k ∷ rest) = w.at_more _ a s (Fails k) rest refl m (λ u. (kh k).is rest)

  -- one action of the right types, and its answer
  pub ask_good : (a : Action Value) (s : Sort) → Makes s → HasAction P file a s → Good (HasSort P s) (λ q. ask a s q)
  ask_good a s m has = ask_fits a s m (w.fits a s has)

  -- an action that is always done
  pub tell_fits : (a : Action Value) → w.Fits a NoValue → Good (λ v. Unit {0}) (λ q. tell a q)
  tell_fits a has = record { good = λ go h kg kh. record { is = told go h kg } }
    where
      told : (go : Value → Answers → w.Left) (h : Kind → Answers → w.Left) →
          ((v : Value) → Unit {0} → Sure (go v)) →
          (had : Answers) →
          w.Shown (λ q. ends w.asks (tell a q) go h) had
      told go h kg [] = w.at_end _ a NoValue refl has
      told go h kg (y ∷ rest) = w.at_more _ a NoValue y rest refl tt (λ u. (kg nothing tt).is rest)

  -- one of two expressions, by a test
  pub either_good : {A : Type 0} (H : A → Type 0) (b : Bool) (x y : Answers → Evaluated A) →
      (b ≡ true → Good H x) →
      (b ≡ false → Good H y) →
      Good H (λ q. cond b (x q) (y q))
  either_good H true x y f g = f refl
  either_good H false x y f g = g refl

  -- an expression, unless a reference is null
  pub null_good : {A : Type 0} (H : A → Type 0) (n : ℕ) (x : Answers → Evaluated A) →
      (n ≢ 0 → Good H x) →
      Good H (λ q. unless_null n q (x q))
  null_good H n x a = either_good H (nat_eq n 0) (λ q. Throws NullPointer q) x (λ e. throws_good H NullPointer)
      (λ e. a (differ n e))

  -- the same under another name of the sort
  pub resort : (s r : Sort) (x : Answers → Evaluated Value) → s ≡ r → Good (HasSort P r) x → Good (HasSort P s) x
  resort s r x e a = subst (λ z. Good (HasSort P z) x) (sym e) a
