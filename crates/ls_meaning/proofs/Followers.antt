-- What follows an expression or a statement, by how it ends. All that is asked before then goes to one function.
use Rattle.std.proofs.Common.{◌≡◌, zero, suc, List, refl}
use Rattle.ls_events.specs.declared.kind.Kind.{Kind}
use Rattle.ls_events.specs.declared.value.Value.{Value}
use Rattle.ls_events.specs.declared.action.Action.{Action}
use Rattle.ls_meaning.specs.declared.sort.Sort.{Sort}
use Rattle.ls_meaning.specs.declared.completion.Completion.{Completion}
use Rattle.ls_meaning.specs.declared.completion.Completion.TheVariants.{Normal, Broke, Continued, Returned, Threw}
use Rattle.ls_meaning.specs.Course.{Answers, Evaluated, Asks, Results, Throws, with_value}
use Rattle.ls_meaning.specs.Statements.{Executed, AsksFor, Completes, on_value, then_do, finally_do, turn_back}
use Rattle.ls_meaning.specs.Statements.{after_body}

-- what follows an expression, by its result or its throw
abbrev pub ends : {A X : Type 0} →
    (Action Value → Sort → X) →
    Evaluated A →
    (A → Answers → X) →
    (Kind → Answers → X) →
    X
ends asks (Asks action sort) go h = asks action sort
ends asks (Results v rest) go h = go v rest
ends asks (Throws kind rest) go h = h kind rest

-- an expression and what follows it, grouped otherwise
pub ends_with : {A B X : Type 0} (asks : Action Value → Sort → X) (x : Evaluated A) (g : A → Answers → Evaluated B)
    (go : B → Answers → X) (h : Kind → Answers → X) →
    ends asks (with_value x g) go h ≡ ends asks x (λ v r. ends asks (g v r) go h) h
ends_with asks (Asks a s) g go h = refl
ends_with asks (Results v rest) g go h = refl
ends_with asks (Throws k rest) g go h = refl

-- what follows a statement, by its completion
abbrev pub Follower : Type 0 → Type 0
Follower X = Completion Value → List Value → Answers → X

-- an execution with what follows each completion
abbrev pub finish_by : {X : Type 0} → (Action Value → Sort → X) → Executed → Follower X → X
finish_by asks (AsksFor a s) g = asks a s
finish_by asks (Completes c ls rest) g = g c ls rest

module _ (X : Type 0) (asks : Action Value → Sort → X) where
  -- an expression, and then a statement
  pub value_by : (x : Evaluated Value) (ls : List Value) (k : Value → Answers → Executed) (g : Follower X) →
      finish_by asks (on_value x ls k) g ≡ ends asks x (λ v r. finish_by asks (k v r) g) (λ n r. g (Threw n) ls r)
  value_by (Asks a s) ls k g = refl
  value_by (Results v r) ls k g = refl
  value_by (Throws n r) ls k g = refl

  -- what follows, if a normal completion first goes on elsewhere
  abbrev pub on_normal : (List Value → Answers → Executed) → Follower X → Follower X
  on_normal b g Normal ls r = finish_by asks (b ls r) g
  on_normal b g (Broke n) ls r = g (Broke n) ls r
  on_normal b g (Continued n) ls r = g (Continued n) ls r
  on_normal b g (Returned v) ls r = g (Returned v) ls r
  on_normal b g (Threw n) ls r = g (Threw n) ls r

  -- a statement before others
  pub then_by : (x : Executed) (b : List Value → Answers → Executed) (g : Follower X) →
      finish_by asks (then_do x b) g ≡ finish_by asks x (on_normal b g)
  then_by (AsksFor a s) b g = refl
  then_by (Completes Normal ls r) b g = refl
  then_by (Completes (Broke n) ls r) b g = refl
  then_by (Completes (Continued n) ls r) b g = refl
  then_by (Completes (Returned n) ls r) b g = refl
  then_by (Completes (Threw n) ls r) b g = refl

  -- a try block and its finally block
  pub finally_by : (x : Executed) (b : List Value → Answers → Executed) (g : Follower X) →
      finish_by asks (finally_do x b) g ≡ finish_by asks x (λ c ls r.
      finish_by asks (then_do (b ls r) (λ ls r. Completes c ls r)) g)
  finally_by (AsksFor a s) b g = refl
  finally_by (Completes c ls r) b g = refl

  -- what follows the body of a loop
  abbrev pub on_body : (List Value → Answers → Executed) → Follower X → Follower X
  on_body b g Normal ls r = finish_by asks (turn_back b ls r) g
  on_body b g (Broke zero) ls r = g Normal ls r
  on_body b g (Broke (suc n)) ls r = g (Broke n) ls r
  on_body b g (Continued zero) ls r = finish_by asks (turn_back b ls r) g
  on_body b g (Continued (suc n)) ls r = g (Continued n) ls r
  on_body b g (Returned v) ls r = g (Returned v) ls r
  on_body b g (Threw n) ls r = g (Threw n) ls r

  -- the body of a loop
  pub body_by : (x : Executed) (b : List Value → Answers → Executed) (g : Follower X) →
      finish_by asks (after_body x b) g ≡ finish_by asks x (on_body b g)
  body_by (AsksFor a s) b g = refl
  body_by (Completes Normal ls r) b g = refl
  body_by (Completes (Broke zero) ls r) b g = refl
  body_by (Completes (Broke (suc n)) ls r) b g = refl
  body_by (Completes (Continued zero) ls r) b g = refl
  body_by (Completes (Continued (suc n)) ls r) b g = refl
  body_by (Completes (Returned n) ls r) b g = refl
  body_by (Completes (Threw n) ls r) b g = refl
