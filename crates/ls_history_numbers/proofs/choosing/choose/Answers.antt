-- Why `choose` in src/choosing.rt keeps its clauses `chosen`, `ends`, `covers` and `alone`.

use Rattle.std.proofs.Common.{◌≡◌, ℕ, Bool, List, Option, length, subst}
use Rattle.std.proofs.lemmas.Result.{IfOk-weaker}
use Rattle.ls_history_numbers.specs.Choices.{TellChoices}
use Rattle.ls_history_numbers.proofs.Covering.{alone, chosen_ends, chosen_has, covered}
use Rattle.ls_history_numbers.proofs.choosing.choose.Goals as goal

-- the same of equal lists
told_so : (f f' l l' : List (Option ℕ)) (b b' : List Bool) (choices : List (Option ℕ)) (n : ℕ) → f' ≡ f → l' ≡ l →
    b' ≡ b → TellChoices f' l' b' choices n → TellChoices f l b choices n
told_so f f' l l' b b' choices n f_is l_is b_is told =
    subst (λ x. TellChoices x l b choices n) f_is
    (subst (λ x. TellChoices f' x b choices n) l_is (subst (λ x. TellChoices f' l' x choices n) b_is told))

pub returns-clause-chosen : goal.returns-clause-chosen
returns-clause-chosen c = IfOk-weaker c.choices_of.result _ _ (λ v told.
    chosen_has c.args.all.now c.args.numbers.now c.args.ends.now c.in_ok-firsts.firsts.items c.in_ok-lasts.lasts.items
    c.in_ok-begun.begun.items v.items c.requires.numbered c.requires.there c.in_ok-firsts.ensures
    c.in_ok-lasts.ensures c.in_ok-begun.ensures
    (told_so c.in_ok-firsts.firsts.items c.deref-2.result.now c.in_ok-lasts.lasts.items c.deref-3.result.now
    c.in_ok-begun.begun.items c.deref-4.result.now v.items (length c.args.all.now) c.deref-2.ensures.value
    c.deref-3.ensures.value c.deref-4.ensures.value told)) c.choices_of.ensures

pub returns-clause-ends : goal.returns-clause-ends
returns-clause-ends c = IfOk-weaker c.choices_of.result _ _ (λ v told.
    chosen_ends c.args.all.now c.args.numbers.now c.args.ends.now c.in_ok-firsts.firsts.items c.in_ok-lasts.lasts.items
    c.in_ok-begun.begun.items v.items c.requires.numbered c.requires.there c.in_ok-firsts.ensures
    c.in_ok-lasts.ensures c.in_ok-begun.ensures
    (told_so c.in_ok-firsts.firsts.items c.deref-2.result.now c.in_ok-lasts.lasts.items c.deref-3.result.now
    c.in_ok-begun.begun.items c.deref-4.result.now v.items (length c.args.all.now) c.deref-2.ensures.value
    c.deref-3.ensures.value c.deref-4.ensures.value told)) c.choices_of.ensures

pub returns-clause-covers : goal.returns-clause-covers
returns-clause-covers c = IfOk-weaker c.choices_of.result _ _ (λ v told.
    covered c.args.all.now c.args.numbers.now c.args.ends.now c.in_ok-firsts.firsts.items c.in_ok-lasts.lasts.items
    c.in_ok-begun.begun.items v.items c.requires.numbered c.requires.there c.in_ok-firsts.ensures
    c.in_ok-lasts.ensures c.in_ok-begun.ensures
    (told_so c.in_ok-firsts.firsts.items c.deref-2.result.now c.in_ok-lasts.lasts.items c.deref-3.result.now
    c.in_ok-begun.begun.items c.deref-4.result.now v.items (length c.args.all.now) c.deref-2.ensures.value
    c.deref-3.ensures.value c.deref-4.ensures.value told)) c.choices_of.ensures

pub returns-clause-alone : goal.returns-clause-alone
returns-clause-alone c = IfOk-weaker c.choices_of.result _ _ (λ v told.
    alone c.args.all.now c.args.numbers.now c.args.ends.now c.in_ok-firsts.firsts.items c.in_ok-lasts.lasts.items
    c.in_ok-begun.begun.items v.items c.requires.numbered c.requires.there c.in_ok-firsts.ensures
    c.in_ok-lasts.ensures c.in_ok-begun.ensures
    (told_so c.in_ok-firsts.firsts.items c.deref-2.result.now c.in_ok-lasts.lasts.items c.deref-3.result.now
    c.in_ok-begun.begun.items c.deref-4.result.now v.items (length c.args.all.now) c.deref-2.ensures.value
    c.deref-3.ensures.value c.deref-4.ensures.value told)) c.choices_of.ensures
