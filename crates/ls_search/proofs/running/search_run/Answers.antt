-- Why `search_run` in src/running.rt keeps its clauses `closes`, `all`, `bad`, `stuck`, `tried` and `cut`.

use Rattle.std.proofs.Common.{rules, ◌≡◌, ◌⊎◌, true, false, ℕ, Vec, Global, length, sym, ◌∙◌, subst, replicate}
use Rattle.std.specs.Prelude.{IfSome}
use Rattle.std.specs.List.{fold}
use Rattle.std.proofs.lemmas.List.{length-map}
use Rattle.ls_checked.specs.CheckedTree.{File}
use Rattle.ls_checked.specs.CheckedProgram.{Program}
use Rattle.ls_checked.specs.Plain.{plain_file}
use Rattle.ls_checked.specs.PlainProgram.{plain_program, plain_thread}
use Rattle.ls_search_laws.specs.Noticing.{Noticed, noticed_after, noticed_of}
use Rattle.ls_search.specs.Answers.{ClosesAll, IsStuck}
use Rattle.ls_search.specs.Closed.{HasClosed}
use Rattle.ls_search.specs.Graphs.{ActsAlong, HaveObjects, LeadsAlong, most_objects}
use Rattle.ls_search.specs.Tried.{HasTried}
use Rattle.ls_search.proofs.running.search_run.Goals as goal

pub returns-clause-closes : goal.returns-clause-closes
returns-clause-closes g c = λ complete.
    let file : File = plain_file c.args.file.now in
    let program : Program = plain_program c.args.program.now in
    let first = g.O.Observer.first c.args.observer.now in
    let next = g.O.Observer.next c.args.observer.now in
    let is_bad = g.O.Observer.bad c.args.observer.now in
    let stands = g.O.Observer.stands c.args.observer.now in
    let len_is : c.len.result ≡ length c.args.program.now.threads.items = search rules in
    subst (λ (n : ℕ). ClosesAll stands first next is_bad file program n
    (noticed_of first next file program (replicate c.in_ok-steps.field-0.steps 0)) c.in_ok-found.found.bad
    c.in_ok-found.found.stuck) (len_is ∙ sym (length-map c.args.program.now.threads.items plain_thread))
    (subst (λ (r : Noticed g.O.Observer.State). ClosesAll stands first next is_bad file program
    c.len.result r c.in_ok-found.found.bad c.in_ok-found.found.stuck)
    c.in_ok-steps.ensures.root (c.in_ok-found.ensures.closes complete))

pub returns-clause-all : goal.returns-clause-all
returns-clause-all g c = λ complete.
    let file : File = plain_file c.args.file.now in
    let program : Program = plain_program c.args.program.now in
    let first = g.O.Observer.first c.args.observer.now in
    let next = g.O.Observer.next c.args.observer.now in
    let len_is : c.len.result ≡ length c.args.program.now.threads.items = search rules in
    subst (λ (n : ℕ). HasClosed file n
    (noticed_of first next file program (replicate c.in_ok-steps.field-0.steps 0)).configuration
    c.in_ok-found.found.states) (len_is ∙ sym (length-map c.args.program.now.threads.items plain_thread))
    (subst (λ (r : Noticed g.O.Observer.State). HasClosed file c.len.result r.configuration c.in_ok-found.found.states)
    c.in_ok-steps.ensures.root (c.in_ok-found.ensures.all complete))

pub returns-clause-bad : goal.returns-clause-bad
returns-clause-bad g c =
    let file : File = plain_file c.args.file.now in
    let program : Program = plain_program c.args.program.now in
    let first = g.O.Observer.first c.args.observer.now in
    let next = g.O.Observer.next c.args.observer.now in
    let is_bad = g.O.Observer.bad c.args.observer.now in
    subst (λ (r : Noticed g.O.Observer.State). IfSome c.in_ok-found.found.bad (λ (path : Vec ℕ Global).
    is_bad (fold (noticed_after first next file program) r path.items).noted ≡ true)) c.in_ok-steps.ensures.root
    c.in_ok-found.ensures.bad

pub returns-clause-stuck : goal.returns-clause-stuck
returns-clause-stuck g c =
    let file : File = plain_file c.args.file.now in
    let program : Program = plain_program c.args.program.now in
    let first = g.O.Observer.first c.args.observer.now in
    let next = g.O.Observer.next c.args.observer.now in
    let is_bad = g.O.Observer.bad c.args.observer.now in
    subst (λ (r : Noticed g.O.Observer.State). IfSome c.in_ok-found.found.stuck (λ (path : Vec ℕ Global).
    IsStuck file (fold (noticed_after first next file program) r path.items).configuration)) c.in_ok-steps.ensures.root
    c.in_ok-found.ensures.stuck

pub returns-clause-tried : goal.returns-clause-tried
returns-clause-tried g c =
    let file : File = plain_file c.args.file.now in
    let program : Program = plain_program c.args.program.now in
    let first = g.O.Observer.first c.args.observer.now in
    let next = g.O.Observer.next c.args.observer.now in
    let states = c.in_ok-found.found.states in
    subst (λ (r : Noticed g.O.Observer.State). HasTried (ActsAlong first next file program r) states)
    c.in_ok-steps.ensures.root c.in_ok-found.ensures.tried

pub returns-clause-cut : goal.returns-clause-cut
returns-clause-cut g c =
    let file : File = plain_file c.args.file.now in
    let program : Program = plain_program c.args.program.now in
    let first = g.O.Observer.first c.args.observer.now in
    let next = g.O.Observer.next c.args.observer.now in
    let found = c.in_ok-found.found in
    subst (λ (r : Noticed g.O.Observer.State). found.complete ≡ false → (found.states ≡ c.args.limit) ⊎
    HaveObjects (ActsAlong first next file program r) (LeadsAlong first next file program r) found.states
    most_objects) c.in_ok-steps.ensures.root c.in_ok-found.ensures.cut
