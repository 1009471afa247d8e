-- Why `lead` in src/space.rt keeps its contract.
use Rattle.std.proofs.Common.{refl}
use Rattle.ls_search_laws.specs.Configuration.{Configuration}
use Rattle.ls_search.specs.Places.{configuration_of}
use Rattle.ls_transitions.specs.Seen.{table_of}
use Rattle.ls_progress.specs.Steps.{file_in, first_in, program_in}
use Rattle.ls_progress.proofs.KindLemmas.{ok_none, ok_some}
use Rattle.ls_progress.proofs.Repeating.{first_renames, rests_back, rests_so, steps_back, steps_so}
use Rattle.ls_progress.proofs.space.lead.Goals as goal

pub returns-then-begins_again-clause-rests : goal.returns-then-begins_again-clause-rests
returns-then-begins_again-clause-rests c =
    let s = c.args.space.now in
    let d : Configuration = configuration_of (table_of c.set_back.new.transitions) c.in_ok-back.back in
    ok_none c.lead_once.result _ _
    (rests_back (file_in s) s.again (first_in s) (configuration_of (table_of c.args.tables.now.transitions)
    c.args.place.now) d c.args.thread (c.if-begins_again.ensures.on refl) (c.if-begins_again.ensures.other refl)
    c.in_ok-back.ensures.back) c.lead_once.ensures.rests

pub returns-then-begins_again-clause-leads : goal.returns-then-begins_again-clause-leads
returns-then-begins_again-clause-leads c =
    let s = c.args.space.now in
    let d : Configuration = configuration_of (table_of c.set_back.new.transitions) c.in_ok-back.back in
    ok_some c.lead_once.result _ _
    (λ k. steps_back (file_in s) s.again (first_in s) (configuration_of (table_of c.args.tables.now.transitions)
    c.args.place.now) d c.args.thread (c.if-begins_again.ensures.on refl) (c.if-begins_again.ensures.other refl)
    c.in_ok-back.ensures.back (first_renames (file_in s) (program_in s) c.requires.placed.constants
    c.requires.root.constants) k.mark (configuration_of (table_of c.lead_once.new.tables.transitions) k.node.place))
    c.lead_once.ensures.leads

pub returns-clause-rests : goal.returns-clause-rests
returns-clause-rests c =
    let s = c.args.space.now in
    ok_none c.lead_once-2.result _ _
    (rests_so (file_in s) s.again (first_in s) (configuration_of (table_of c.args.tables.now.transitions)
    c.args.place.now) c.args.thread (c.if-begins_again.ensures.off refl)) c.lead_once-2.ensures.rests

pub returns-clause-leads : goal.returns-clause-leads
returns-clause-leads c =
    let s = c.args.space.now in
    ok_some c.lead_once-2.result _ _
    (λ k. steps_so (file_in s) s.again (first_in s) (configuration_of (table_of c.args.tables.now.transitions)
    c.args.place.now) c.args.thread (c.if-begins_again.ensures.off refl) (first_renames (file_in s) (program_in s)
    c.requires.placed.constants c.requires.root.constants) k.mark
    (configuration_of (table_of c.lead_once-2.new.tables.transitions) k.node.place)) c.lead_once-2.ensures.leads
