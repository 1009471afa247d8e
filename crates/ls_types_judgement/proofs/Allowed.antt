-- The rules of normal completion are closed under the ways that statements complete.
use Rattle.std.proofs.Common.{◌≡◌, ℕ, zero, suc, ◌+◌, refl, subst, arith, Bool, true, false, ◌&&◌, ◌||◌, nat_eq}
use Rattle.std.specs.Prelude.{if◌then◌else◌}
use Rattle.ls_events.specs.declared.value.Value.{Value}
use Rattle.ls_checked.specs.CheckedTree.{Expression, Statement, Block, If, While, Try, Statements, Then}
use Rattle.ls_meaning.specs.declared.completion.Completion.{Completion}
use Rattle.ls_meaning.specs.declared.completion.Completion.TheVariants.{Normal, Broke, Continued, Returned, Threw}
use Rattle.ls_types_judgement.specs.Completion.{is_true, breaks, any_breaks, can_complete, all_complete}
use Rattle.ls_types_judgement.specs.Ends.{allows, Allows}
use Rattle.ls_types_judgement.specs.CompletionLaws.{OnlyAsAllowed}
use Rattle.ls_types_judgement.specs.Ways.{Abrupt, AfterBody, Closed}
use Rattle.ls_types_judgement.proofs.Closed.{always}

abbrev allows_all : Statements → Completion Value → Bool
allows_all ss Normal = all_complete ss
allows_all ss (Broke n) = any_breaks n ss
allows_all ss (Continued n) = true
allows_all ss (Returned v) = true
allows_all ss (Threw kind) = true

abbrev AllowsAll : Statements → Completion Value → Type 0
AllowsAll ss c = allows_all ss c ≡ true

in_block : (ss : Statements) (c : Completion Value) → AllowsAll ss c → Allows (Block ss) c
in_block ss Normal h = h
in_block ss (Broke n) h = h
in_block ss (Continued n) h = refl
in_block ss (Returned v) h = refl
in_block ss (Threw kind) h = refl

left : (a b : Bool) → a ≡ true → (a || b) ≡ true
left true b h = refl
left false b h = cc h

right : (a b : Bool) → b ≡ true → (a || b) ≡ true
right true b h = refl
right false b h = h

both : (a b : Bool) → a ≡ true → b ≡ true → (a && b) ≡ true
both true b h k = k
both false b h k = cc h

unless_true : (b x : Bool) → b ≡ false → (if b then x else true) ≡ true
unless_true true x h = cc h
unless_true false x h = refl

by_break : (b x : Bool) → x ≡ true → (if b then x else true) ≡ true
by_break true x h = h
by_break false x h = refl

first_of_if : (e : Expression) (a b : Statement) (c : Completion Value) → Allows a c → Allows (If e a b) c
first_of_if e a b Normal h = left (can_complete a) (can_complete b) h
first_of_if e a b (Broke n) h = left (breaks n a) (breaks n b) h
first_of_if e a b (Continued n) h = refl
first_of_if e a b (Returned v) h = refl
first_of_if e a b (Threw kind) h = refl

second_of_if : (e : Expression) (a b : Statement) (c : Completion Value) → Allows b c → Allows (If e a b) c
second_of_if e a b Normal h = right (can_complete a) (can_complete b) h
second_of_if e a b (Broke n) h = right (breaks n a) (breaks n b) h
second_of_if e a b (Continued n) h = refl
second_of_if e a b (Returned v) h = refl
second_of_if e a b (Threw kind) h = refl

next : (n : ℕ) → suc n ≡ n + 1
next n = omega arith

of_loop : (e : Expression) (s : Statement) (c : Completion Value) → Allows s c → AfterBody (Allows (While e s)) c
of_loop e s Normal h = tt
of_loop e s (Broke zero) h = by_break (is_true e) (breaks 0 s) h
of_loop e s (Broke (suc n)) h = subst (λ (m : ℕ). breaks m s ≡ true) (next n) h
of_loop e s (Continued zero) h = tt
of_loop e s (Continued (suc n)) h = refl
of_loop e s (Returned v) h = refl
of_loop e s (Threw kind) h = refl

same : (n : ℕ) → nat_eq n n ≡ true
same n = grind arith

as_body : (b f : Statement) (c : Completion Value) → Allows b c → Allows f Normal → Allows (Try b f) c
as_body b f Normal h k = both (can_complete b) (can_complete f) h k
as_body b f (Broke n) h k = left (can_complete f && breaks n b) (breaks n f) (both (can_complete f) (breaks n b) k h)
as_body b f (Continued n) h k = refl
as_body b f (Returned v) h k = refl
as_body b f (Threw kind) h k = refl

as_finally : (b f : Statement) (c : Completion Value) → Abrupt c → Allows f c → Allows (Try b f) c
as_finally b f Normal a h = absurd a
as_finally b f (Broke n) a h = right (can_complete f && breaks n b) (breaks n f) h
as_finally b f (Continued n) a h = refl
as_finally b f (Returned v) a h = refl
as_finally b f (Threw kind) a h = refl

stopped : (s : Statement) (ss : Statements) (c : Completion Value) → Abrupt c → Allows s c → AllowsAll (Then s ss) c
stopped s ss Normal a h = absurd a
stopped s ss (Broke n) a h = left (breaks n s) (any_breaks n ss) h
stopped s ss (Continued n) a h = refl
stopped s ss (Returned v) a h = refl
stopped s ss (Threw kind) a h = refl

gone_on : (s : Statement) (ss : Statements) (c : Completion Value) →
    Allows s Normal →
    AllowsAll ss c →
    AllowsAll (Then s ss) c
gone_on s ss Normal h k = both (can_complete s) (all_complete ss) h k
gone_on s ss (Broke n) h k = right (breaks n s) (any_breaks n ss) k
gone_on s ss (Continued n) h k = refl
gone_on s ss (Returned v) h k = refl
gone_on s ss (Threw kind) h k = refl

allowed : Closed Allows AllowsAll
allowed = record {
  throws = λ s kind. refl;
  block = in_block;
  sets_slot = λ n e. refl;
  sets_field = λ e n v. refl;
  adds_field = λ e n v. refl;
  sets_item = λ a i v. refl;
  evaluates = λ e. refl;
  first = first_of_if;
  second = second_of_if;
  leaves = λ e s h. unless_true (is_true e) (breaks 0 s) h;
  body = of_loop;
  break = same;
  continue = λ n. refl;
  returns = refl;
  returns_value = λ e v. refl;
  tries = as_body;
  finishes = as_finally;
  done = refl;
  stops = stopped;
  goes_on = gone_on;
}

-- the law: statements complete only as the rules allow
pub only_as_allowed : OnlyAsAllowed
only_as_allowed = always Allows AllowsAll allowed

-- so the ways have a test that is closed under them, the rules themselves
pub rules_are_closed : Closed (λ s c. allows s c ≡ true) (λ ss c. allows_all ss c ≡ true) ×
    ((s : Statement) (ss : Statements) (n : ℕ) → allows_all ss (Broke n) ≡ true →
    allows_all (Then s ss) (Broke n) ≡ true)
rules_are_closed = (allowed, λ s ss n h. right (breaks n s) (any_breaks n ss) h)
