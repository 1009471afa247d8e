-- Why `choices_of` in src/choosing.rt keeps its contract and its loop `number`.

use Rattle.std.proofs.Common.{◌≡◌, ℕ, Bool, List, Option, ◌∷◌, [], ◌++◌, ap, ◌∙◌, subst, arith}
use Rattle.ls_history_numbers.specs.Choices.{TellChoices}
use Rattle.ls_history_numbers.proofs.Lists.{there}
use Rattle.ls_history_numbers.proofs.Telling.{choices_more}
use Rattle.ls_history_numbers.proofs.choosing.choices_of.Goals as goal

pub returns : goal.returns
returns c =
    let whole : c.loop-number.number ≡ c.args.count = omega arith in
    subst (TellChoices c.args.firsts.now c.args.lasts.now c.args.begun.now c.loop-number.choices.items) whole
    c.loop-number.invariant

pub loop-number-preserved : goal.loop-number-preserved
loop-number-preserved c =
    let firsts : List (Option ℕ) = c.args.firsts.now in
    let lasts : List (Option ℕ) = c.args.lasts.now in
    let begun : List Bool = c.args.begun.now in
    let n : ℕ = c.loop-number.number in
    let f = there firsts n (omega arith) in
    let l = there lasts n (omega arith) in
    let b = there begun n (omega arith) in
    choices_more firsts lasts begun c.loop-number.choices.items c.push.new.self.items n f.0 l.0 b.0 f.1 l.1 b.1
    (c.in_ok-push.ensures.items ∙ ap (λ o. c.loop-number.choices.items ++ o ∷ []) (c.choice_of.ensures f.0 l.0 b.0 f.1
    l.1 b.1)) c.loop-number.invariant
