-- A thread that runs alone: as far as it is followed it asks for actions that are done, until its call returns.
use Rattle.std.proofs.Common.{◌≡◌, ◌⊎◌, inl, inr, ◌∙◌, ℕ, zero, suc, List, [], ◌∷◌, Option, None}
use Rattle.ls_events.specs.declared.value.Value.{Value}
use Rattle.ls_events.specs.declared.action.Action.{Action}
use Rattle.ls_events.specs.declared.action.Action.TheVariants as act
use Rattle.ls_events.specs.declared.action.Answer.{Answer}
use Rattle.ls_events.specs.declared.action.Answer.TheVariants.{Done}
use Rattle.ls_meaning.specs.declared.sort.Sort.{Sort}
use Rattle.ls_meaning.specs.declared.sort.Sort.TheVariants.{NoValue}
use Rattle.ls_meaning.specs.Course.{Answers}
use Rattle.ls_meaning.specs.Store.{Store}
use Rattle.ls_meaning.specs.Effect.{Does, effect}
use Rattle.ls_meaning.specs.Threads.{Next, Goes}
use Rattle.ls_meaning.specs.Runs.{event_of}
use Rattle.ls_checked.specs.CheckedTree.{Class}

-- what a thread asks next, by the answers that are to come
abbrev pub Courses : Type 0
Courses = Answers → Next

-- thread t is in its call n, goes on so behind it, and Good is what is wanted of value and store
module _ (classes : List Class) (t n : ℕ) (behind : Courses) (Good : Option Value → Store → Type 0) where
  -- the call returns next
  pub record Returns (r : Courses) (s : Store) : Type 0 where
    pub value : Option Value
    pub asks : r [] ≡ Goes (act.Return n value) NoValue
    pub on : (q : Answers) → r (Done ∷ q) ≡ behind q
    pub good : Good value s

  -- one action that is no event
  pub record Acts (r : Courses) (s : Store) (later : Courses) (s' : Store) : Type 0 where
    pub action : Action Value
    pub sort : Sort
    pub answer : Answer Value
    pub asks : r [] ≡ Goes action sort
    pub does : effect classes s t action ≡ Does s' answer
    pub silent : (u : ℕ) → event_of u action ≡ None
    pub on : (q : Answers) → r (answer ∷ q) ≡ later q

  -- for so many steps the thread acts alone, or returns with a good value and store
  abbrev pub Safe : ℕ → Courses → Store → Type 0
  Safe zero r s = Unit {0}
  Safe (suc k) r s = Returns r s ⊎ ((later : Courses) × (s' : Store) × Acts r s later s' × Safe k later s')

  -- after an action it is followed one step less
  pub acting : (r later : Courses) (s s' : Store) → Acts r s later s' → ((k : ℕ) → Safe k later s') → (k : ℕ) →
      Safe k r s
  acting r later s s' a safe zero = tt
  acting r later s s' a safe (suc k) = inr (later, s', a, safe k)

  -- what returns is safe
  pub returning : (r : Courses) (s : Store) → Returns r s → (k : ℕ) → Safe k r s
  returning r s a zero = tt
  returning r s a (suc k) = inl a

  -- courses that are the same are as safe
  pub same_safe : (r r' : Courses) → ((q : Answers) → r q ≡ r' q) → (s : Store) → (k : ℕ) → Safe k r' s → Safe k r s
  same_safe r r' same s zero safe = tt
  same_safe r r' same s (suc k) (inl a) = inl (record {
    value = a.value;
    asks = same [] ∙ a.asks;
    on = λ q. same (Done ∷ q) ∙ a.on q;
    good = a.good;
  })
  same_safe r r' same s (suc k) (inr a) = inr (
    a.0,
    a.1,
    record {
      action = a.2.action;
      sort = a.2.sort;
      answer = a.2.answer;
      asks = same [] ∙ a.2.asks;
      does = a.2.does;
      silent = a.2.silent;
      on = λ q. same (a.2.answer ∷ q) ∙ a.2.on q;
    },
    a.3,
  )
