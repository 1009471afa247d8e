-- Jumps that have their loops stay in them.
use Rattle.std.proofs.Common.{ℕ, zero, suc, ◌+◌, ◌<◌, arith}
use Rattle.ls_events.specs.declared.value.Value.{Value}
use Rattle.ls_checked.specs.CheckedTree.{Expression, Statement, While, Statements}
use Rattle.ls_meaning.specs.declared.completion.Completion.{Completion}
use Rattle.ls_meaning.specs.declared.completion.Completion.TheVariants.{Normal, Broke, Continued, Returned, Threw}
use Rattle.ls_meaning.specs.Statements.{execute}
use Rattle.ls_types_judgement.specs.Leaving.{JumpsInLoops, JumpInLoops}
use Rattle.ls_types_judgement.specs.Ends.{IsIn}
use Rattle.ls_types_judgement.specs.CompletionLaws.{OnlyToItsLoops}
use Rattle.ls_types_judgement.specs.Ways.{AfterBody, Closed}
use Rattle.ls_types_judgement.proofs.Closed.{always, weaker}

abbrev Stays : Statement → Completion Value → Type 0
Stays s c = (n : ℕ) → JumpsInLoops n s → IsIn n c

abbrev AllStay : Statements → Completion Value → Type 0
AllStay ss c = (n : ℕ) → JumpInLoops n ss → IsIn n c

fewer : (m n : ℕ) → suc m < n + 1 → m < n
fewer m n h = omega (arith, h)

of_loop : (e : Expression) (s : Statement) (c : Completion Value) → Stays s c → AfterBody (Stays (While e s)) c
of_loop e s Normal h = tt
of_loop e s (Broke zero) h = λ n j. tt
of_loop e s (Broke (suc m)) h = λ n j. fewer m n (h (n + 1) j)
of_loop e s (Continued zero) h = tt
of_loop e s (Continued (suc m)) h = λ n j. fewer m n (h (n + 1) j)
of_loop e s (Returned v) h = λ n j. tt
of_loop e s (Threw kind) h = λ n j. tt

inside : Closed Stays AllStay
inside = record {
  throws = λ s kind n j. tt;
  block = λ ss c h. h;
  sets_slot = λ m e n j. tt;
  sets_field = λ e m v n j. tt;
  adds_field = λ e m v n j. tt;
  sets_item = λ a i v n j. tt;
  evaluates = λ e n j. tt;
  first = λ e a b c h n j. h n j.0;
  second = λ e a b c h n j. h n j.1;
  leaves = λ e s h n j. tt;
  body = of_loop;
  break = λ m n j. j;
  continue = λ m n j. j;
  returns = λ n j. tt;
  returns_value = λ e v n j. tt;
  tries = λ b f c h k n j. h n j.0;
  finishes = λ b f c a h n j. h n j.1;
  done = λ n j. tt;
  stops = λ s ss c a h n j. h n j.0;
  goes_on = λ s ss c h k n j. k n j.1;
}

-- the law: a statement jumps only to its own loops and to those around it
pub only_to_its_loops : OnlyToItsLoops
only_to_its_loops n s j classes calls ls answers =
    weaker (Stays s) (IsIn n) (execute classes calls s ls answers)
    (always Stays AllStay inside s classes calls ls answers) (λ c h. h n j)
