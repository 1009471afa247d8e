-- Why `entry_gives` in src/giving.rt keeps its clauses.

use Rattle.std.proofs.Common.{◌≡◌, ◌∙◌, ◌⊎◌, false, inl, subst, sym, true}
use Rattle.std.specs.Prelude.{IfSome}
use Rattle.std.proofs.lemmas.Result.{IfOk-weaker}
use Rattle.ls_find_commands.specs.Entries.{CompilesNot, IsEntry}
use Rattle.ls_find_commands.specs.Giving.{Gives}
use Rattle.ls_find_commands.proofs.giving.entry_gives.Goals as goal

pub returns-in-Some-clause-none : goal.returns-in-Some-clause-none
returns-in-Some-clause-none c =
    let entry = subst (λ o. IfSome o (IsEntry c.args.classes.now c.args.making.now c.args.calls.now)) c.in-Some.is
    c.in_ok-image.ensures.some in
    IfOk-weaker c.setup_gives.result _ (λ some. some ≡ false →
    Gives false c.args.classes.now c.args.making.now c.args.calls.now)
    (λ gives is none. (c.in-Some.image, entry, sym is ∙ none)) c.setup_gives.ensures

pub returns-in-Some-clause-one : goal.returns-in-Some-clause-one
returns-in-Some-clause-one c =
    let entry = subst (λ o. IfSome o (IsEntry c.args.classes.now c.args.making.now c.args.calls.now)) c.in-Some.is
    c.in_ok-image.ensures.some in
    IfOk-weaker c.setup_gives.result _ (λ some. some ≡ true →
    Gives true c.args.classes.now c.args.making.now c.args.calls.now ⊎
    CompilesNot c.args.classes.now c.args.making.now c.args.calls.now)
    (λ gives is one. inl (c.in-Some.image, entry, sym is ∙ one)) c.setup_gives.ensures
