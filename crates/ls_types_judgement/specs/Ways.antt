-- The ways in which statements complete, as the rules of typing see them.
use Rattle.std.specs.Prelude.{ℕ, zero, suc, ◌≡◌, false, Some, None}
use Rattle.ls_events.specs.declared.kind.Kind.{Kind}
use Rattle.ls_events.specs.declared.value.Value.{Value}
use Rattle.ls_checked.specs.CheckedTree.{Expression, Statement, Block, SetSlot, SetField, AddField, SetItem, Evaluate}
use Rattle.ls_checked.specs.CheckedTree.{If, While, Break, Continue, ReturnNothing, ReturnValue, Try, Statements, Done}
use Rattle.ls_checked.specs.CheckedTree.{Then}
use Rattle.ls_meaning.specs.declared.completion.Completion.{Completion}
use Rattle.ls_meaning.specs.declared.completion.Completion.TheVariants.{Normal, Broke, Continued, Returned, Threw}
use Rattle.ls_types_judgement.specs.Completion.{is_true}

abbrev pub Abrupt : Completion Value → Type 0
Abrupt Normal = ⊥
Abrupt (Broke n) = Unit {0}
Abrupt (Continued n) = Unit {0}
Abrupt (Returned v) = Unit {0}
Abrupt (Threw kind) = Unit {0}

-- if a loop ends by a completion of its body: what that is to the loop (JLS 14.12.1, 14.15, 14.16)
abbrev pub AfterBody : (Completion Value → Type 0) → Completion Value → Type 0
AfterBody P Normal = Unit {0}
AfterBody P (Broke zero) = P Normal
AfterBody P (Broke (suc n)) = P (Broke n)
AfterBody P (Continued zero) = Unit {0}
AfterBody P (Continued (suc n)) = P (Continued n)
AfterBody P (Returned v) = P (Returned v)
AfterBody P (Threw kind) = P (Threw kind)

-- the ways in which statements complete, as far as a rule may see them; of a condition a rule sees whether it is
-- `true`
pub record Closed (P : Statement → Completion Value → Type 0) (Q : Statements → Completion Value → Type 0) : Type 0
  where
    pub throws : (s : Statement) (kind : Kind) → P s (Threw kind)
    pub block : (ss : Statements) (c : Completion Value) → Q ss c → P (Block ss) c
    pub sets_slot : (n : ℕ) (e : Expression) → P (SetSlot n e) Normal
    pub sets_field : (e : Expression) (n : ℕ) (v : Expression) → P (SetField e n v) Normal
    pub adds_field : (e : Expression) (n : ℕ) (v : Expression) → P (AddField e n v) Normal
    pub sets_item : (a i v : Expression) → P (SetItem a i v) Normal
    pub evaluates : (e : Expression) → P (Evaluate e) Normal
    pub first : (e : Expression) (a b : Statement) (c : Completion Value) → P a c → P (If e a b) c
    pub second : (e : Expression) (a b : Statement) (c : Completion Value) → P b c → P (If e a b) c
    pub leaves : (e : Expression) (s : Statement) → is_true e ≡ false → P (While e s) Normal
    pub body : (e : Expression) (s : Statement) (c : Completion Value) → P s c → AfterBody (P (While e s)) c
    pub break : (n : ℕ) → P (Break n) (Broke n)
    pub continue : (n : ℕ) → P (Continue n) (Continued n)
    pub returns : P ReturnNothing (Returned None)
    pub returns_value : (e : Expression) (v : Value) → P (ReturnValue e) (Returned (Some v))
    pub tries : (b f : Statement) (c : Completion Value) → P b c → P f Normal → P (Try b f) c
    pub finishes : (b f : Statement) (c : Completion Value) → Abrupt c → P f c → P (Try b f) c
    pub done : Q Done Normal
    pub stops : (s : Statement) (ss : Statements) (c : Completion Value) → Abrupt c → P s c → Q (Then s ss) c
    pub goes_on : (s : Statement) (ss : Statements) (c : Completion Value) → P s Normal → Q ss c → Q (Then s ss) c
