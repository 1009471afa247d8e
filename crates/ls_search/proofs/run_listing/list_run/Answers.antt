-- Why `list_run` in src/run_listing.rt keeps its clauses `root`, `sound` and `expanded`.

use Rattle.std.proofs.Common.{rules, ◌≡◌, Some, length, sym, ap, ◌∙◌, subst}
use Rattle.std.proofs.lemmas.List.{length-map}
use Rattle.ls_checked.specs.CheckedTree.{File}
use Rattle.ls_checked.specs.CheckedProgram.{Program}
use Rattle.ls_checked.specs.Plain.{plain_file}
use Rattle.ls_checked.specs.PlainProgram.{plain_program, plain_thread}
use Rattle.ls_search_laws.specs.Noticing.{Noticed}
use Rattle.ls_search.specs.Searched.{AreExpanded}
use Rattle.ls_search.specs.SeenSearch.{IsSoundSearch, pairs_of}
use Rattle.ls_search.proofs.run_listing.list_run.Goals as goal

pub returns-clause-root : goal.returns-clause-root
returns-clause-root g c =
    c.in_ok-listing.ensures.root
    ∙ ap (λ (p : Noticed g.O.Observer.State). Some p) c.in_ok-steps.ensures.root

pub returns-clause-sound : goal.returns-clause-sound
returns-clause-sound g c =
    let file : File = plain_file c.args.file.now in
    let program : Program = plain_program c.args.program.now in
    let first = g.O.Observer.first c.args.observer.now in
    let next = g.O.Observer.next c.args.observer.now in
    let stands = g.O.Observer.stands c.args.observer.now in
    let len_is : c.len.result ≡ length c.args.program.now.threads.items = search rules in
    subst (λ n. IsSoundSearch first next stands file program n c.in_ok-listing.listing.search)
    (len_is ∙ sym (length-map c.args.program.now.threads.items plain_thread)) c.in_ok-listing.ensures.sound

pub returns-clause-expanded : goal.returns-clause-expanded
returns-clause-expanded g c =
    let file : File = plain_file c.args.file.now in
    let program : Program = plain_program c.args.program.now in
    let first = g.O.Observer.first c.args.observer.now in
    let next = g.O.Observer.next c.args.observer.now in
    let stands = g.O.Observer.stands c.args.observer.now in
    let len_is : c.len.result ≡ length c.args.program.now.threads.items = search rules in
    subst (λ n. AreExpanded first next file program (pairs_of first stands c.in_ok-listing.listing.search) n
    c.in_ok-listing.listing.search.seen.items)
    (len_is ∙ sym (length-map c.args.program.now.threads.items plain_thread)) c.in_ok-listing.ensures.expanded
