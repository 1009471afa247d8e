-- Why `observer_of` in src/watching.rt keeps its contract.

use Rattle.std.proofs.Common.{Option, None, Some, IfNone, IfSome}
use Rattle.ls_specification.specs.Specification.{spec_file, spec_program}
use Rattle.ls_source_judge.proofs.Verdicts.{bad_are_not, bad_not_judged, good_are, is_long}
use Rattle.ls_source_judge.proofs.watching.observer_of.Goals as goal

if_none : {X P Q : Type 0} (o : Option X) → (P → Q) → IfNone o P → IfNone o Q
if_none None f p = f p
if_none (Some x) f p = tt

if_some : {X : Type 0} {P Q : X → Type 0} (o : Option X) → ((x : X) → P x → Q x) → IfSome o P → IfSome o Q
if_some None f p = tt
if_some (Some x) f p = f x p

pub returns-clause-good : goal.returns-clause-good
returns-clause-good c =
    good_are c.in_ok-observer.observer (spec_file c.args.specification) (spec_program c.args.specification)
    c.args.bounds.steps c.args.table.goes_on
    c.args.table.rows.items c.in_ok-rows.rows.items c.in_ok-observer.ensures.rows
    c.in_ok-observer.ensures.first c.requires.outcomes c.in_ok-rows.ensures

pub returns-clause-bad : goal.returns-clause-bad
returns-clause-bad c =
    if_none c.doubt_of-doubt.result
    (bad_are_not c.in_ok-observer.observer (spec_file c.args.specification) (spec_program c.args.specification)
    c.args.bounds.steps c.args.table.goes_on
    c.args.table.rows.items c.in_ok-rows.rows.items c.in_ok-observer.ensures.rows
    c.in_ok-observer.ensures.first c.requires.outcomes c.in_ok-rows.ensures) c.doubt_of-doubt.ensures.none

pub returns-clause-unjudged : goal.returns-clause-unjudged
returns-clause-unjudged c =
    if_some c.doubt_of-doubt.result
    (λ d so. bad_not_judged c.in_ok-observer.observer (spec_file c.args.specification)
    (spec_program c.args.specification) c.args.bounds.steps c.args.table.goes_on
    c.args.table.rows.items c.in_ok-rows.rows.items c.in_ok-observer.ensures.rows
    c.in_ok-observer.ensures.first c.requires.outcomes
    c.in_ok-rows.ensures (c.requires.long so.1) d so.0)
    c.doubt_of-doubt.ensures.some

pub returns-clause-doubt : goal.returns-clause-doubt
returns-clause-doubt c =
    if_some c.doubt_of-doubt.result
    (λ d so. is_long (spec_file c.args.specification) (spec_program c.args.specification) c.args.bounds d so.0
    (c.requires.long so.1)) c.doubt_of-doubt.ensures.some
