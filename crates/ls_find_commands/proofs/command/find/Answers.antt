-- Why `find` in src/command.rt keeps its clause `gives`.

use Rattle.std.proofs.Common.{◌≡◌, false, subst}
use Rattle.std.specs.Prelude.{IfSome, None, option_map, string_bytes}
use Rattle.std.proofs.lemmas.Result.{err_from_is_err_and}
use Rattle.ls_explore.specs.Faults.{AreBadStates}
use Rattle.ls_family_search.specs.Judged.{Programs}
use Rattle.ls_faults.proofs.Answering.{wider}
use Rattle.ls_items.specs.Cutting.{plain_text}
use Rattle.ls_find_commands.specs.Found.{Among, AreAllNumbers, AtOnce, FindsIn, FindsTo, IsWhole}
use Rattle.ls_find_commands.specs.Found.{NoStates, NotAny}
use Rattle.ls_find_commands.proofs.Refusals.{refused}
use Rattle.ls_find_commands.proofs.Ranges.{not_both}
use Rattle.ls_find_commands.proofs.command.find.Goals as goal

pub returns-then-are_bad_states-clause-gives : goal.returns-then-are_bad_states-clause-gives
returns-then-are_bad_states-clause-gives g c = NoStates (c.are_bad_states.ensures.0 c.if-are_bad_states.true)

pub returns-in-Some-clause-gives : goal.returns-in-Some-clause-gives
returns-in-Some-clause-gives g c =
    let good : ¬ AreBadStates c.args.range.states =
    λ bad. not_both (c.are_bad_states.ensures.1 bad) c.if-are_bad_states.false in
    let menu = option_map plain_text c.args.texts.menu in
    let classes = c.args.texts.classes.now in
    AtOnce (string_bytes c.in-Some.text) good
    (subst (λ o. IfSome o (λ text. AreAllNumbers c.args.range)) c.in-Some.is c.in_ok-text.ensures.numbers)
    (subst (λ o. IfSome o (λ text. c.args.range.races ≡ false)) c.in-Some.is c.in_ok-text.ensures.calls)
    (subst (λ o. IfSome o (λ text. c.args.range.strict ≡ false)) c.in-Some.is c.in_ok-text.ensures.lax)
    (subst (λ o. IfSome o (λ text. option_map plain_text c.args.texts.reference ≡ None)) c.in-Some.is
    c.in_ok-text.ensures.own)
    (subst (λ o. IfSome o (λ text. IsWhole c.args.choosing c.args.range.sought classes menu (string_bytes text)))
    c.in-Some.is c.in_ok-text.ensures.text)

pub returns-in_err-made-clause-gives : goal.returns-in_err-made-clause-gives
returns-in_err-made-clause-gives g c =
    let good : ¬ AreBadStates c.args.range.states =
    λ bad. not_both (c.are_bad_states.ensures.1 bad) c.if-are_bad_states.false in
    let menu = option_map plain_text c.args.texts.menu in
    let p = err_from_is_err_and c.from_residual-in_err-made.result c.from_residual-in_err-made.ensures.1 in
    let reference = option_map plain_text c.args.texts.reference in
    rw (p.1, p.2) (refused (FindsTo c.args.choosing c.args.range reference c.args.texts.classes.now menu)
    c.args.choosing reference c.args.texts.classes.now menu c.in_err-made.field-0.0
    (NotAny c.in_err-made.field-0.0 good) c.in_err-made.ensures.refused)

pub returns-clause-gives : goal.returns-clause-gives
returns-clause-gives g c =
    let good : ¬ AreBadStates c.args.range.states =
    λ bad. not_both (c.are_bad_states.ensures.1 bad) c.if-are_bad_states.false in
    let classes = c.args.texts.classes.now in
    let reference = option_map plain_text c.args.texts.reference in
    wider (FindsIn reference classes c.programs-programs.result c.args.range)
    (FindsTo c.args.choosing c.args.range reference classes (option_map plain_text c.args.texts.menu)) c.found_in.result
    (λ a h. Among c.in_ok-made.made a good c.in_ok-made.ensures.programs
    (subst (λ (p : Programs). FindsIn reference classes p c.args.range a) c.programs-programs.ensures h))
    c.found_in.ensures.gives
