-- Steps of configurations, and of two threads in either order.
use Rattle.std.proofs.Common.{◌≡◌, ◌≢◌, ◌⊎◌, inl, inr, ℕ, Bool, true, false, cond, [], ◌∷◌, refl, sym, ap, ◌∙◌, subst}
use Rattle.std.proofs.Common.{arith}
use Rattle.std.specs.Prelude.{if◌then◌else◌, nat_eq}
use Rattle.std.proofs.lemmas.Bool.{cases_eq}
use Rattle.std.proofs.lemmas.Bool.Decides.{nat_tests}
use Rattle.ls_events.specs.declared.value.Value.{Value}
use Rattle.ls_events.specs.declared.action.Action.{Action}
use Rattle.ls_events.specs.declared.action.Answer.{Answer}
use Rattle.ls_checked.specs.CheckedTree.{File}
use Rattle.ls_meaning.specs.declared.sort.Sort.{Sort}
use Rattle.ls_meaning.specs.declared.step.Did.TheVariants as did
use Rattle.ls_meaning.specs.Course.{Answers}
use Rattle.ls_meaning.specs.Store.{Store}
use Rattle.ls_meaning.specs.Effect.{Effect, Waits, Does, effect}
use Rattle.ls_meaning.specs.Threads.{Next, Goes, Ended, Trapped}
use Rattle.ls_meaning.specs.Runs.{has_ended}
use Rattle.ls_meaning.specs.Still.{IsActing}
use Rattle.ls_search_laws.specs.Configuration.{Configuration, Stride, idling, performing, stride, stride_of}
use Rattle.ls_search_laws.specs.Configuration.{with_answer}

abbrev pub started : Configuration → ℕ → Bool
started c t = if nat_eq t 0 then true else has_ended (c.continues 0 [])

-- the configuration after an action of a thread
abbrev pub told : Configuration → ℕ → Store → Answer Value → Configuration
told c t store answer = record { store = store; continues = with_answer c.continues t answer }

abbrev pub acted : Configuration → ℕ → Action Value → Store → Answer Value → Stride
acted c t action store answer = record { did = did.Acted action answer; after = told c t store answer }

choose : (b : Bool) (n m : Next) → b ≡ true → (if b then n else m) ≡ n
choose b n m e = ap (λ z. if z then n else m) e

refuse : (b : Bool) (n m : Next) → b ≡ false → (if b then n else m) ≡ m
refuse b n m e = ap (λ z. if z then n else m) e

pub own_goes : (c : Configuration) (t : ℕ) (store : Store) (x : Answer Value) (later : Answers) →
    (told c t store x).continues t later ≡ c.continues t (x ∷ later)
own_goes c t store x later =
    let z : nat_eq t t ≡ true = grind (arith, nat_tests) in
    choose (nat_eq t t) (c.continues t (x ∷ later)) (c.continues t later) z

pub other_goes : (c : Configuration) (t u : ℕ) (store : Store) (x : Answer Value) (later : Answers) →
    u ≢ t →
    (told c t store x).continues u later ≡ c.continues u later
other_goes c t u store x later ne =
    let z : nat_eq u t ≡ false = grind (arith, nat_tests, ne) in
    refuse (nat_eq u t) (c.continues t (x ∷ later)) (c.continues u later) z

module _ (file : File) where
  -- a thread acts: why, and what it does
  pub record Acts (c : Configuration) (t : ℕ) : Type 0 where
    pub starts : started c t ≡ true
    pub action : Action Value
    pub sort : Sort
    pub goes : c.continues t [] ≡ Goes action sort
    pub store : Store
    pub answer : Answer Value
    pub does : effect file.classes c.store t action ≡ Does store answer

  by_effect : (c : Configuration) (t : ℕ) →
      started c t ≡ true →
      (a : Action Value) (sort : Sort) →
      c.continues t [] ≡ Goes a sort →
      (e : Effect) →
      effect file.classes c.store t a ≡ e →
      IsActing (performing c t a e).did →
      Acts c t
  by_effect c t starts a sort goes Waits does acts = absurd acts
  by_effect c t starts a sort goes (Does store answer) does acts = record {
    starts = starts;
    action = a;
    sort = sort;
    goes = goes;
    store = store;
    answer = answer;
    does = does;
  }

  by_next : (c : Configuration) (t : ℕ) →
      started c t ≡ true →
      (n : Next) →
      c.continues t [] ≡ n →
      IsActing (stride_of file c t n).did →
      Acts c t
  by_next c t starts (Goes a sort) goes acts = by_effect c t starts a sort goes
      (effect file.classes c.store t a) refl acts
  by_next c t starts Ended goes acts = absurd acts
  by_next c t starts Trapped goes acts = absurd acts

  by_started : (c : Configuration) (t : ℕ) (b : Bool) →
      started c t ≡ b →
      IsActing (cond b (stride_of file c t (c.continues t [])) (idling c)).did →
      Acts c t
  by_started c t true starts acts = by_next c t starts (c.continues t []) refl acts
  by_started c t false starts acts = absurd acts

  pub acts_of : (c : Configuration) (t : ℕ) → IsActing (stride file c t).did → Acts c t
  acts_of c t acts = by_started c t (started c t) refl acts

  -- so it is the step
  pub stride_by : (c : Configuration) (t : ℕ) (e : Acts c t) → stride file c t ≡ acted c t e.action e.store e.answer
  stride_by c t e =
      ap (λ b. cond b (stride_of file c t (c.continues t [])) (idling c)) e.starts
      ∙ ap (stride_of file c t) e.goes
      ∙ ap (performing c t e.action) e.does

  pub other_started : (c : Configuration) (t u : ℕ) (store : Store) (x : Answer Value) →
      u ≢ 0 →
      started (told c u store x) t ≡ started c t
  other_started c t u store x ne = ap (λ n. if nat_eq t 0 then true else has_ended n)
      (other_goes c u 0 store x [] (λ e. ne (sym e)))

  -- a thread that acts does the same after an answer of another that leaves the store as it is
  abbrev pub acts_after : (c : Configuration) (t u : ℕ) (x : Answer Value) →
      t ≢ u →
      u ≢ 0 →
      Acts c t →
      Acts (told c u c.store x) t
  acts_after c t u x ne nz e = record {
    starts = other_started c t u c.store x nz ∙ e.starts;
    action = e.action;
    sort = e.sort;
    goes = other_goes c u t c.store x [] ne ∙ e.goes;
    store = e.store;
    answer = e.answer;
    does = e.does;
  }

  abbrev pub acts_before : (c : Configuration) (t u : ℕ) (x : Answer Value) →
      t ≢ u →
      u ≢ 0 →
      Acts (told c u c.store x) t →
      Acts c t
  acts_before c t u x ne nz e = record {
    starts = sym (other_started c t u c.store x nz) ∙ e.starts;
    action = e.action;
    sort = e.sort;
    goes = sym (other_goes c u t c.store x [] ne) ∙ e.goes;
    store = e.store;
    answer = e.answer;
    does = e.does;
  }

  -- where the setup acts, no other thread has started
  pub not_zero : (c : Configuration) (t u : ℕ) → Acts c t → Acts c u → u ≢ 0 → t ≢ 0
  not_zero c t u e f nz z =
      let first : c.continues 0 [] ≡ Goes e.action e.sort =
      subst (λ n. c.continues n [] ≡ Goes e.action e.sort) z e.goes in
      let k : nat_eq u 0 ≡ false = grind (arith, nat_tests, nz) in
      let ended : has_ended (c.continues 0 []) ≡ true =
      sym (ap (λ b. if b then true else has_ended (c.continues 0 [])) k) ∙ f.starts in
      not_both (sym (ap has_ended first) ∙ ended)
    where
      not_both : false ≡ true → ⊥
      not_both h = cc

  -- a thread that reads does the same after a step of another, where it reads the same
  abbrev pub reads_after : (c : Configuration) (t u : ℕ) (e : Acts c t) (f : Acts c u) →
      t ≢ u →
      u ≢ 0 →
      effect file.classes e.store u f.action ≡ Does e.store f.answer →
      Acts (told c t e.store e.answer) u
  reads_after c t u e f ne nz same = record {
    starts = other_started c u t e.store e.answer (not_zero c t u e f nz) ∙ f.starts;
    action = f.action;
    sort = f.sort;
    goes = other_goes c t u e.store e.answer [] (λ z. ne (sym z)) ∙ f.goes;
    store = e.store;
    answer = f.answer;
    does = same;
  }

-- both orders lead to one configuration
last_goes : (c : Configuration) (t u : ℕ) (store : Store) (x y : Answer Value) →
    t ≢ u →
    (v : ℕ) (later : Answers) →
    (v ≡ u) ⊎ (v ≢ u) →
    (v ≡ t) ⊎ (v ≢ t) →
    (told (told c t store x) u store y).continues v later ≡ (told (told c u c.store y) t store x).continues v later
last_goes c t u store x y ne v later (inl same) is_t =
    subst (λ n. (told (told c t store x) u store y).continues n later ≡
    (told (told c u c.store y) t store x).continues n later) (sym same)
    (own_goes (told c t store x) u store y later
    ∙ other_goes c t u store x (y ∷ later) (λ e. ne (sym e))
    ∙ sym (own_goes c u c.store y later)
    ∙ sym (other_goes (told c u c.store y) t u store x later (λ e. ne (sym e))))
last_goes c t u store x y ne v later (inr not_u) (inl same) =
    subst (λ n. (told (told c t store x) u store y).continues n later ≡
    (told (told c u c.store y) t store x).continues n later) (sym same)
    (other_goes (told c t store x) u t store y later ne
    ∙ own_goes c t store x later
    ∙ sym (other_goes c u t c.store y (x ∷ later) ne)
    ∙ sym (own_goes (told c u c.store y) t store x later))
last_goes c t u store x y ne v later (inr not_u) (inr not_t) =
    other_goes (told c t store x) u v store y later not_u
    ∙ other_goes c t v store x later not_t
    ∙ sym (other_goes c u v c.store y later not_u)
    ∙ sym (other_goes (told c u c.store y) t v store x later not_t)

pub same_last : (c : Configuration) (t u : ℕ) (store : Store) (x y : Answer Value) →
    t ≢ u →
    told (told c t store x) u store y ≡ told (told c u c.store y) t store x
same_last c t u store x y ne i = record {
  store = store;
  continues = λ v later. last_goes c t u store x y ne v later (cases_eq v u) (cases_eq v t) i;
}
