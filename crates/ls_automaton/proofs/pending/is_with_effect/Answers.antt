-- Why `is_with_effect` in src/pending.rt keeps its contract.

use Rattle.std.proofs.Common.{◌≡◌, ◌∙◌, arith, if◌then◌else◌, length, refl}
use Rattle.std.proofs.lemmas.List.{length-map}
use Rattle.ls_automaton.specs.Held.{is_at, taken}
use Rattle.ls_automaton.proofs.Lists.{first_same_all}
use Rattle.ls_automaton.proofs.pending.is_with_effect.Goals as goal

pub returns : goal.returns
returns c = (
  λ same. first_same_all (taken c.args.end.now c.args.pending.now) c.args.others.now c.loop-i.i
      (as_long ∙ c.if-pending-others.false) (omega (arith, as_long, c.loop-i-test.false)) c.loop-i.invariant,
  λ same. refl,
)
  where
    as_long : length (taken c.args.end.now c.args.pending.now) ≡ length c.args.pending.now
    as_long = length-map c.args.pending.now
        (λ x. if is_at c.args.end.now.thread c.args.end.now.call x then c.args.end.now else x)
