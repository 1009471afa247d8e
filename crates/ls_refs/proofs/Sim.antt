-- What goes on alike, and one lemma for each word of the courses.
use Rattle.std.proofs.Common.{◌≡◌, ◌≢◌, ℕ, ◌<◌, ◌≤◌, Bool, true, false, cond, List, [], ◌∷◌, length, refl, sym, ap, ◌∙◌}
use Rattle.std.proofs.Common.{subst, arith}
use Rattle.std.proofs.lemmas.Grind.{common_steps}
use Rattle.std.specs.Prelude.{slice_index, slice_set, nat_eq}
use Rattle.std.proofs.lemmas.List.{length-set, get_or-set_other}
use Rattle.ls_events.specs.declared.value.Value.{Value}
use Rattle.ls_events.specs.declared.value.ValueType.{ValueType}
use Rattle.ls_events.specs.declared.kind.Kind.{Kind}
use Rattle.ls_events.specs.declared.kind.Kind.TheVariants.{NullPointer}
use Rattle.ls_events.specs.declared.action.Action.{Action}
use Rattle.ls_events.specs.declared.action.Answer.TheVariants.{Done, Gives, Fails}
use Rattle.ls_meaning.specs.declared.sort.Sort.{Sort}
use Rattle.ls_meaning.specs.declared.sort.Sort.TheVariants.{NoValue}
use Rattle.ls_meaning.specs.Values.{nothing}
use Rattle.ls_meaning.specs.Course.{Answers, Evaluated, Asks, Results, Throws, ask, with_value, unless_null}
use Rattle.ls_meaning.proofs.Followers as followers
use Rattle.ls_lowered.specs.Course as low
use Rattle.ls_refs.specs.ValueWords.{value_word}
use Rattle.ls_types_judgement.specs.Sorts.{HasSort}
use Rattle.ls_refs.proofs.Values.{nothing_word}
use Rattle.ls_refs.specs.Laws.{action_word, answer_words, in_words, Suits, Suited}

-- the same for all lists that aren't longer
pub suited_eq : (P : ℕ → ValueType → Type 0) (f g : Answers → Evaluated Value) (qs : Answers) →
    ((q : Answers) → length q ≤ length qs → f q ≡ g q) →
    Suited P f qs →
    Suited P g qs
suited_eq P f g [] e s = tt
suited_eq P f g (x ∷ qs) e s = (
  subst (λ t. Suits P t x) (e [] (omega arith)) s.0,
  suited_eq P (λ q. f (x ∷ q)) (λ q. g (x ∷ q)) qs (λ q l. e (x ∷ q) (omega arith)) s.1,
)

-- what follows an expression, by its result or its throw
abbrev pub ends : {A : Type 0} →
    Evaluated A →
    (A → Answers → Evaluated Value) →
    (Kind → Answers → Evaluated Value) →
    Evaluated Value
ends x go h = followers.ends Asks x go h

-- how a course of words goes on: with a value, or with what is thrown
abbrev pub word_ends : {B : Type 0} →
    low.Course (low.Outcome B) →
    (B → List ℕ → low.Answers → low.Told) →
    (Kind → List ℕ → low.Answers → low.Told) →
    low.Told
word_ends (low.Asks action) go h = low.Asked action
word_ends (low.Ends (low.Results w) ls rest) go h = go w ls rest
word_ends (low.Ends (low.Throws kind) ls rest) go h = h kind ls rest
word_ends low.Stuck go h = low.Lost

pub ends_with : {A B : Type 0} (x : Evaluated A) (g : A → Answers → Evaluated B) (go : B → Answers → Evaluated Value)
    (h : Kind → Answers → Evaluated Value) →
    ends (with_value x g) go h ≡ ends x (λ v r. ends (g v r) go h) h
ends_with x g go h = followers.ends_with Asks x g go h

-- how one course after another goes on
pub ends_and : {A B : Type 0} (x : low.Course (low.Outcome A))
    (g : A → List ℕ → low.Answers → low.Course (low.Outcome B)) (go : B → List ℕ → low.Answers → low.Told)
    (h : Kind → List ℕ → low.Answers → low.Told) →
    word_ends (low.and_then x g) go h ≡ word_ends x (λ w l r. word_ends (g w l r) go h) h
ends_and (low.Asks a) g go h = refl
ends_and (low.Ends (low.Results w) ls rest) g go h = refl
ends_and (low.Ends (low.Throws k) ls rest) g go h = refl
ends_and low.Stuck g go h = refl

-- the locals below base are as they were
pub record Kept (base : ℕ) (old new : List ℕ) : Type 0 where
  pub long : length new ≡ length old
  pub at : (i : ℕ) → i < base → slice_index new i ≡ slice_index old i

-- words keep what they are
pub kept_refl : (base : ℕ) (ls : List ℕ) → Kept base ls ls
kept_refl base ls = record { long = refl; at = λ i a. refl }

-- what is kept twice is kept
pub kept_trans : (base : ℕ) (a b c : List ℕ) → Kept base a b → Kept base b c → Kept base a c
kept_trans base a b c x y = record { long = y.long ∙ x.long; at = λ i l. y.at i l ∙ x.at i l }

-- if more is kept, less is
pub kept_less : (base b1 : ℕ) (a b : List ℕ) → base ≤ b1 → Kept b1 a b → Kept base a b
kept_less base b1 a b le x = record { long = x.long; at = λ i l. x.at i (omega arith) }

-- a write at or after a place keeps what is before that place
pub kept_set : (base i w : ℕ) (ls : List ℕ) → base ≤ i → Kept base ls (slice_set ls i w)
kept_set base i w ls le = record {
  long = length-set ls i w;
  at = λ j l. get_or-set_other ls i j w 0 (λ e. omega arith);
}

pub differ : (n : ℕ) → nat_eq n 0 ≡ false → n ≢ 0
differ n e z = grind (arith, common_steps, e, z)

module _ (P : ℕ → ValueType → Type 0) where
  -- what is left of a thread, and what is left of its words
  pub record Sim (f : Answers → Evaluated Value) (f' : low.Answers → low.Told) : Type 0 where
    pub is : (qs : Answers) → Suited P f qs → f' (answer_words qs) ≡ in_words (f qs)

  -- equal courses are like each other in the same way
  pub sim_eq : (f g : Answers → Evaluated Value) (f' g' : low.Answers → low.Told) →
      ((q : Answers) → f q ≡ g q) →
      ((q : low.Answers) → f' q ≡ g' q) →
      Sim g g' →
      Sim f f'
  sim_eq f g f' g' e e' s = record {
    is = λ qs h. e' (answer_words qs) ∙ s.is qs (suited_eq P f g qs (λ q l. e q) h) ∙
        ap in_words (sym (e qs));
  }

  -- an expression and its words, with the locals old: results have H, and their words are W
  pub record Agrees {A B : Type 0} (H : A → Type 0) (W : A → B) (base : ℕ) (old : List ℕ) (x : Answers → Evaluated A)
      (x' : low.Answers → low.Course (low.Outcome B)) : Type 0 where
    pub sim : (go : A → Answers → Evaluated Value) (h : Kind → Answers → Evaluated Value)
        (go' : B → List ℕ → low.Answers → low.Told) (h' : Kind → List ℕ → low.Answers → low.Told) →
        ((v : A) (ls : List ℕ) → H v → Kept base old ls → Sim (go v) (go' (W v) ls)) →
        ((k : Kind) (ls : List ℕ) → Kept base old ls → Sim (h k) (h' k ls)) →
        Sim (λ q. ends (x q) go h) (λ q. word_ends (x' q) go' h')

  -- a value is like its word
  pub gets_agrees : {A B : Type 0} (H : A → Type 0) (W : A → B) (base : ℕ) (old : List ℕ) (v : A) (w : B) →
      H v →
      w ≡ W v →
      Agrees H W base old (λ q. Results v q) (λ q. low.Ends (low.Results w) old q)
  gets_agrees H W base old v w hv e = record {
    sim = λ go h go' h' kg kh.
        subst (λ u. Sim (go v) (go' u old)) (sym e) (kg v old hv (kept_refl base old));
  }

  -- a throw is like the same throw of words
  pub throws_agrees : {A B : Type 0} (H : A → Type 0) (W : A → B) (base : ℕ) (old : List ℕ) (k : Kind) →
      Agrees H W base old (λ q. Throws k q) (λ q. low.Ends (low.Throws k) old q)
  throws_agrees H W base old k = record { sim = λ go h go' h' kg kh. kh k old (kept_refl base old) }

  -- words that are kept can stand for those before
  pub moved : {A B : Type 0} (H : A → Type 0) (W : A → B) (base : ℕ) (old new : List ℕ) (x : Answers → Evaluated A)
      (x' : low.Answers → low.Course (low.Outcome B)) →
      Kept base old new →
      Agrees H W base new x x' →
      Agrees H W base old x x'
  moved H W base old new x x' k a = record {
    sim = λ go h go' h' kg kh.
        a.sim go h go' h' (λ v ls hv e. kg v ls hv (kept_trans base old new ls k e))
        (λ n ls e. kh n ls (kept_trans base old new ls k e));
  }

  -- if two expressions are like their words, so is one after the other
  pub then_agrees : {A B C D : Type 0} (H : A → Type 0) (W : A → B) (K : C → Type 0) (V : C → D) (base b1 b2 : ℕ)
      (old : List ℕ) (x : Answers → Evaluated A) (g : A → Answers → Evaluated C)
      (x' : low.Answers → low.Course (low.Outcome B)) (g' : B → List ℕ → low.Answers → low.Course (low.Outcome D)) →
      base ≤ b1 → base ≤ b2 → Agrees H W b1 old x x' →
      ((v : A) (ls : List ℕ) → H v → Kept b1 old ls → Agrees K V b2 ls (λ q. g v q) (λ q. g' (W v) ls q)) →
      Agrees K V base old (λ q. with_value (x q) g) (λ q. low.and_then (x' q) g')
  then_agrees H W K V base b1 b2 old x g x' g' le1 le2 a f = record {
    sim = λ go h go' h' kg kh.
        sim_eq _ _ _ _ (λ q. ends_with (x q) g go h) (λ q. ends_and (x' q) g' go' h')
        (a.sim (λ v q. ends (g v q) go h) h (λ w l q. word_ends (g' w l q) go' h') h'
        (λ v ls hv k. (f v ls hv k).sim go h go' h'
        (λ u l2 hu k2. kg u l2 hu (kept_trans base old ls l2 (kept_less base b1 old ls le1 k)
        (kept_less base b2 ls l2 le2 k2)))
        (λ n l2 k2. kh n l2 (kept_trans base old ls l2 (kept_less base b1 old ls le1 k)
        (kept_less base b2 ls l2 le2 k2))))
        (λ n ls k. kh n ls (kept_less base b1 old ls le1 k)));
  }

  -- two steps of the words in one
  pub flat : {A B C D : Type 0} (H : A → Type 0) (W : A → B) (base : ℕ) (old : List ℕ) (x : Answers → Evaluated A)
      (x' : low.Answers → low.Course (low.Outcome C)) (g' : C → List ℕ → low.Answers → low.Course (low.Outcome D))
      (k' : D → List ℕ → low.Answers → low.Course (low.Outcome B)) →
      Agrees H W base old x (λ q. low.and_then (x' q) (λ w l r. low.and_then (g' w l r) k')) →
      Agrees H W base old x (λ q. low.and_then (low.and_then (x' q) g') k')
  flat H W base old x x' g' k' a = record {
    sim = λ go h go' h' kg kh. sim_eq _ _ _ _ (λ q. refl) (λ q. eqs (x' q) go' h') (a.sim go h go' h' kg kh);
  }
    where
      eqs : (y : _) (go1 : _) (h1 : _) →
          word_ends (low.and_then (low.and_then y g') k') go1 h1 ≡ word_ends
          (low.and_then y (λ w l r. low.and_then (g' w l r) k')) go1 h1
      eqs (low.Asks a) go1 h1 = refl
      eqs (low.Ends (low.Results w) l r) go1 h1 = refl
      eqs (low.Ends (low.Throws k) l r) go1 h1 = refl
      eqs low.Stuck go1 h1 = refl

  -- one action, and what its answer becomes
  pub ask_agrees : (base : ℕ) (old : List ℕ) (a : Action Value) (s : Sort) (b : Action ℕ) →
      b ≡ action_word a →
      Agrees (HasSort P s) value_word base old (λ q. ask a s q) (λ q. low.ask b old q)
  ask_agrees base old a s b e = record { sim = λ go h go' h' kg kh. record { is = asked go h go' h' kg kh } }
    where
      asked : (go : Value → Answers → Evaluated Value) (h : Kind → Answers → Evaluated Value)
          (go' : ℕ → List ℕ → low.Answers → low.Told) (h' : Kind → List ℕ → low.Answers → low.Told) →
          ((v : Value) (ls : List ℕ) → HasSort P s v → Kept base old ls → Sim (go v) (go' (value_word v) ls)) →
          ((k : Kind) (ls : List ℕ) → Kept base old ls → Sim (h k) (h' k ls)) → (qs : Answers) →
          Suited P (λ q. ends (ask a s q) go h) qs → word_ends (low.ask b old (answer_words qs)) go' h' ≡ in_words
          (ends (ask a s qs) go h)
      asked go h go' h' kg kh [] u = ap low.Asked e
      asked go h go' h' kg kh (Done ∷ rest) u = (kg nothing old (subst (λ r. HasSort P r nothing) (sym u.0) refl)
          (kept_refl base old)).is rest u.1
      asked go h go' h' kg kh (Gives v ∷ rest) u = (kg v old u.0 (kept_refl base old)).is rest u.1
      asked go h go' h' kg kh (Fails k ∷ rest) u = (kh k old (kept_refl base old)).is rest u.1

  -- an action that gives no word
  pub perform_agrees : (base : ℕ) (old : List ℕ) (a : Action Value) (b : Action ℕ) →
      b ≡ action_word a →
      Agrees (HasSort P NoValue) value_word base old (λ q. ask a NoValue q) (λ q. low.perform b old q)
  perform_agrees base old a b e = record { sim = λ go h go' h' kg kh. record { is = asked go h go' h' kg kh } }
    where
      asked : (go : Value → Answers → Evaluated Value) (h : Kind → Answers → Evaluated Value)
          (go' : ℕ → List ℕ → low.Answers → low.Told) (h' : Kind → List ℕ → low.Answers → low.Told) →
          ((v : Value) (ls : List ℕ) → HasSort P NoValue v → Kept base old ls → Sim (go v) (go' (value_word v) ls)) →
          ((k : Kind) (ls : List ℕ) → Kept base old ls → Sim (h k) (h' k ls)) → (qs : Answers) →
          Suited P (λ q. ends (ask a NoValue q) go h) qs →
          word_ends (low.perform b old (answer_words qs)) go' h' ≡ in_words (ends (ask a NoValue qs) go h)
      asked go h go' h' kg kh [] u = ap low.Asked e
      asked go h go' h' kg kh (Done ∷ rest) u = (kg nothing old refl (kept_refl base old)).is rest u.1
      asked go h go' h' kg kh (Gives v ∷ rest) u = (subst (λ w. Sim (go v) (go' w old)) (nothing_word P v u.0)
          (kg v old u.0 (kept_refl base old))).is rest u.1
      asked go h go' h' kg kh (Fails k ∷ rest) u = (kh k old (kept_refl base old)).is rest u.1

  -- what throws if a reference is null is like its words
  pub null_agrees : {A B : Type 0} (H : A → Type 0) (W : A → B) (base : ℕ) (old : List ℕ) (n m : ℕ)
      (x : Answers → Evaluated A) (x' : low.Answers → low.Course (low.Outcome B)) →
      m ≡ n →
      Agrees H W base old x x' →
      Agrees H W base old (λ q. unless_null n q (x q)) (λ q. low.unless_null m old q (x' q))
  null_agrees H W base old n m x x' e a = subst (λ u. Agrees H W base old (λ q. unless_null n q (x q))
      (λ q. low.unless_null u old q (x' q))) (sym e) (by_case (nat_eq n 0))
    where
      by_case : (b : Bool) →
          Agrees H W base old (λ q. cond b (Throws NullPointer q) (x q))
          (λ q. cond b (low.Ends (low.Throws NullPointer) old q) (x' q))
      by_case true = throws_agrees H W base old NullPointer
      by_case false = a

  -- so is what throws then, and else goes on with one course more
  pub null_and : {A B C : Type 0} (H : A → Type 0) (W : A → B) (base : ℕ) (old : List ℕ) (n m : ℕ)
      (x : Answers → Evaluated A) (x' : low.Answers → low.Course (low.Outcome C))
      (k' : C → List ℕ → low.Answers → low.Course (low.Outcome B)) →
      m ≡ n →
      Agrees H W base old x (λ q. low.and_then (x' q) k') → Agrees H W base old (λ q. unless_null n q (x q))
      (λ q. low.and_then (low.unless_null m old q (x' q)) k')
  null_and H W base old n m x x' k' e a = subst (λ u. Agrees H W base old (λ q. unless_null n q (x q))
      (λ q. low.and_then (low.unless_null u old q (x' q)) k')) (sym e) (by_case (nat_eq n 0))
    where
      by_case : (b : Bool) →
          Agrees H W base old (λ q. cond b (Throws NullPointer q) (x q))
          (λ q. low.and_then (cond b (low.Ends (low.Throws NullPointer) old q) (x' q)) k')
      by_case true = throws_agrees H W base old NullPointer
      by_case false = a

  -- a new object isn't null
  pub not_null_agrees : {A B : Type 0} (H : A → Type 0) (W : A → B) (base : ℕ) (old : List ℕ) (m : ℕ)
      (x : Answers → Evaluated A) (x' : low.Answers → low.Course (low.Outcome B)) →
      m ≢ 0 →
      Agrees H W base old x x' →
      Agrees H W base old x (λ q. low.unless_null m old q (x' q))
  not_null_agrees H W base old m x x' ne a = by_case (nat_eq m 0) (λ e. ne (grind (arith, common_steps, e)))
    where
      by_case : (b : Bool) →
          (b ≡ true → ⊥) →
          Agrees H W base old x (λ q. cond b (low.Ends (low.Throws NullPointer) old q) (x' q))
      by_case true no_ = absurd (no_ refl)
      by_case false no_ = a

  -- what is known of a value may be less
  pub weaken : {A B : Type 0} (H K : A → Type 0) (W : A → B) (base : ℕ) (old : List ℕ) (x : Answers → Evaluated A)
      (x' : low.Answers → low.Course (low.Outcome B)) →
      ((v : A) → H v → K v) →
      Agrees H W base old x x' →
      Agrees K W base old x x'
  weaken H K W base old x x' f a = record {
    sim = λ go h go' h' kg kh.
        a.sim go h go' h' (λ v ls hv k. kg v ls (f v hv) k) kh;
  }

  pub resort : (s r : Sort) (base : ℕ) (old : List ℕ) (x : Answers → Evaluated Value)
      (x' : low.Answers → low.Course (low.Outcome ℕ)) →
      s ≡ r →
      Agrees (HasSort P r) value_word base old x x' →
      Agrees (HasSort P s) value_word base old x x'
  resort s r base old x x' e a = subst (λ z. Agrees (HasSort P z) value_word base old x x') (sym e) a
