-- Why `met_after` in src/replaying.rt keeps its contract, and what it calls with.
use Rattle.std.proofs.Common.{map, sym, subst}
use Rattle.std.specs.Prelude.{IfSome}
use Rattle.ls_checked.specs.CheckedTree.{File}
use Rattle.ls_checked.specs.CheckedProgram.{Program}
use Rattle.ls_checked.specs.Plain.{plain_file}
use Rattle.ls_checked.specs.PlainProgram.{plain_program}
use Rattle.ls_transitions.specs.Seen.{table_of}
use Rattle.ls_races.specs.Met.{IsMet}
use Rattle.ls_races.specs.Sought.{IsMetAfter}
use Rattle.ls_races.specs.Volatile.{volatile_by}
use Rattle.ls_races.proofs.Replayed.{met_after, swapped_after}
use Rattle.ls_races.proofs.replaying.met_after.Goals as goal

pub returns-then-met-last_of : goal.returns-then-met-last_of
returns-then-met-last_of c = λ played.
    let file : File = plain_file c.args.scope.file.now in
    let program : Program = plain_program c.args.scope.program.now in
    let volatile = volatile_by (map (λ v. v.items) c.args.scope.classes.now) in
    let told = c.args.told.now in
    let steps = c.args.played.now.steps.items in
    let n = c.in_ok-transitions.ensures.at file program played in
    let is = subst (λ l. IsMet l told c.in-Some.met) c.deref.ensures.value
    (subst (λ o. IfSome o (IsMet c.deref.result.now told)) c.in-Some.is c.meeting_in.ensures.some) in
    subst (IsMetAfter volatile told file program steps) (sym c.swapped.ensures)
    (swapped_after volatile told file program steps c.in-Some.met
    (met_after volatile told file program steps (table_of c.in_ok-transitions.field-0.transitions)
    (record { store = c.in_ok-transitions.field-0.store; works = c.in_ok-transitions.field-0.works; noted = 0 }) _
    c.in_ok-accesses.accesses.items n.file_is n.state c.in_ok-accesses.ensures.next c.in-Some.met is))

pub returns : goal.returns
returns c = λ played.
    let file : File = plain_file c.args.scope.file.now in
    let program : Program = plain_program c.args.scope.program.now in
    let volatile = volatile_by (map (λ v. v.items) c.args.scope.classes.now) in
    let told = c.args.told.now in
    let steps = c.args.played.now.steps.items in
    let n = c.in_ok-transitions.ensures.at file program played in
    let is = subst (λ l. IsMet l told c.in-Some.met) c.deref.ensures.value
    (subst (λ o. IfSome o (IsMet c.deref.result.now told)) c.in-Some.is c.meeting_in.ensures.some) in
    met_after volatile told file program steps (table_of c.in_ok-transitions.field-0.transitions)
    (record { store = c.in_ok-transitions.field-0.store; works = c.in_ok-transitions.field-0.works; noted = 0 }) _
    c.in_ok-accesses.accesses.items n.file_is n.state c.in_ok-accesses.ensures.next c.in-Some.met is
