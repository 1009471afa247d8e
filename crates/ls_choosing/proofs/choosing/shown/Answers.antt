-- Why `shown` in src/choosing.rt keeps its contract.

use Rattle.std.proofs.Common.{subst}
use Rattle.std.specs.Prelude.{IfSome, string_bytes}
use Rattle.ls_labels.specs.Names.{names_of}
use Rattle.ls_page.specs.ChoicesData.{IsData, reference_of}
use Rattle.ls_page.specs.Setup.{IsSetup}
use Rattle.ls_choosing.specs.Chosen.{AreBadStates, Endless, NoStates, Shown, wanted_of}
use Rattle.ls_choosing.proofs.ChosenLemmas.{above_none, not_both}
use Rattle.ls_choosing.proofs.choosing.shown.Goals as goal

pub returns-then-are_bad_states : goal.returns-then-are_bad_states
returns-then-are_bad_states c = NoStates (c.are_bad_states.ensures.0 c.if-are_bad_states.true)

pub returns-in_ok-page-in-Some : goal.returns-in_ok-page-in-Some
returns-in_ok-page-in-Some c =
    let names = names_of c.args.names in
    let w = wanted_of c.args.wanted in
    let good : ¬ AreBadStates w.states =
    λ bad. not_both (c.are_bad_states.ensures.1 bad) c.if-are_bad_states.false in
    let first = c.in-Some.first.items in
    let setup : IsSetup names first =
    subst (λ o. IfSome o (λ v. IsSetup names v.items)) c.in-Some.is c.in_ok-first.ensures.steps in
    Shown first (string_bytes c.in_ok-page-in-Some.page) good setup
    (subst
    (λ l. IsData names w.texts (reference_of c.args.reference) l w.states (string_bytes c.in_ok-page-in-Some.page))
    c.deref.ensures.value (c.in_ok-page-in-Some.ensures (above_none w.states good)))

pub returns-in-None : goal.returns-in-None
returns-in-None c =
    let w = wanted_of c.args.wanted in
    let good : ¬ AreBadStates w.states =
    λ bad. not_both (c.are_bad_states.ensures.1 bad) c.if-are_bad_states.false in
    Endless good (c.in_ok-first.ensures.long c.in-None.is)
