-- Why `verdict` in src/verdict.rt keeps its contract and what it calls with.

use Rattle.std.proofs.Common.{◌≡◌, ◌⊎◌, inl, inr, ◌++◌, Some, true, ℕ, Vec, Global, replicate}
use Rattle.std.specs.List.{fold}
use Rattle.ls_checked.specs.CheckedTree.{File}
use Rattle.ls_checked.specs.CheckedProgram.{Program}
use Rattle.ls_checked.specs.Plain.{plain_file}
use Rattle.ls_checked.specs.PlainProgram.{plain_program}
use Rattle.ls_meaning.specs.Runs.{source_history}
use Rattle.ls_search_laws.specs.Noticing.{noticed_after, noticed_of}
use Rattle.ls_search.specs.Answers.{IsStuck}
use Rattle.ls_search.proofs.Telling.{some_map}
use Rattle.ls_search.proofs.Trying.{objects_if, tried_if}
use Rattle.ls_search.specs.Graphs.{ActsAlong, HaveObjects, LeadsAlong, most_objects}
use Rattle.ls_search.specs.Nameless.{nameless_bad, nameless_next}
use Rattle.ls_search.specs.Verdicts.{ActsAfter, IsCut, LeavesStuck}
use Rattle.ls_search.proofs.Judging.{acts_of, all_good, bad_of, nameless_hides, never_stuck}
use Rattle.ls_search.proofs.Judging.{other_of, stuck_of}
use Rattle.ls_search.proofs.verdict.verdict.Goals as goal

pub search_run-requires-clause-hides : goal.search_run-requires-clause-hides
search_run-requires-clause-hides g c = nameless_hides (g.O.Observer.next c.args.observer.now)

pub returns-clause-good : goal.returns-clause-good
returns-clause-good g c = λ complete.
    let first = g.O.Observer.first c.args.observer.now in
    let next = g.O.Observer.next c.args.observer.now in
    let is_bad = g.O.Observer.bad c.args.observer.now in
    let stands = g.O.Observer.stands c.args.observer.now in
    let file : File = plain_file c.args.file.now in
    let program : Program = plain_program c.args.program.now in
    let k = c.in_ok-told.told.setup in
    all_good stands first next is_bad file program k c.in_ok-told.told.found.bad c.in_ok-told.told.found.stuck
    c.in_ok-told.ensures.up (c.in_ok-told.ensures.closes complete)

pub returns-clause-free : goal.returns-clause-free
returns-clause-free g c = λ complete.
    let first = g.O.Observer.first c.args.observer.now in
    let next = g.O.Observer.next c.args.observer.now in
    let is_bad = g.O.Observer.bad c.args.observer.now in
    let stands = g.O.Observer.stands c.args.observer.now in
    let file : File = plain_file c.args.file.now in
    let program : Program = plain_program c.args.program.now in
    let k = c.in_ok-told.told.setup in
    never_stuck stands first next is_bad file program k c.in_ok-told.told.found.bad c.in_ok-told.told.found.stuck
    c.in_ok-told.ensures.up (c.in_ok-told.ensures.closes complete)

pub returns-clause-bad : goal.returns-clause-bad
returns-clause-bad g c =
    let first = g.O.Observer.first c.args.observer.now in
    let next = g.O.Observer.next c.args.observer.now in
    let is_bad = g.O.Observer.bad c.args.observer.now in
    let file : File = plain_file c.args.file.now in
    let program : Program = plain_program c.args.program.now in
    let k = c.in_ok-told.told.setup in
    some_map
    (λ (path : Vec ℕ Global). nameless_bad is_bad (fold (noticed_after (Some first) (nameless_next next) file program)
    (noticed_of (Some first) (nameless_next next) file program (replicate k 0)) path.items).noted ≡ true)
    (λ (path : Vec ℕ Global). is_bad (fold next first (source_history file program (replicate k 0 ++ path.items))) ≡
    true)
    c.in_ok-told.told.found.bad (λ path e. bad_of first next file program k path.items is_bad e)
    c.in_ok-told.ensures.bad

pub returns-clause-stuck : goal.returns-clause-stuck
returns-clause-stuck g c =
    let first = g.O.Observer.first c.args.observer.now in
    let next = g.O.Observer.next c.args.observer.now in
    let is_bad = g.O.Observer.bad c.args.observer.now in
    let file : File = plain_file c.args.file.now in
    let program : Program = plain_program c.args.program.now in
    let k = c.in_ok-told.told.setup in
    some_map
    (λ (path : Vec ℕ Global). IsStuck file (fold (noticed_after (Some first) (nameless_next next) file program)
    (noticed_of (Some first) (nameless_next next) file program (replicate k 0)) path.items).configuration)
    (λ (path : Vec ℕ Global). LeavesStuck file program (replicate k 0 ++ path.items))
    c.in_ok-told.told.found.stuck (λ path h. stuck_of (Some first) (nameless_next next) file program k path.items h)
    c.in_ok-told.ensures.stuck

pub returns-clause-reached : goal.returns-clause-reached
returns-clause-reached g c =
    let first = g.O.Observer.first c.args.observer.now in
    let next = g.O.Observer.next c.args.observer.now in
    let file : File = plain_file c.args.file.now in
    let program : Program = plain_program c.args.program.now in
    let k = c.in_ok-told.told.setup in
    tried_if
    (ActsAlong (Some first) (nameless_next next) file program
    (noticed_of (Some first) (nameless_next next) file program (replicate k 0)))
    (ActsAfter file program k) c.in_ok-told.told.found.states
    (λ path u acts. acts_of (Some first) (nameless_next next) file program k path u acts) c.in_ok-told.ensures.tried

pub returns-clause-cut : goal.returns-clause-cut
returns-clause-cut g c = λ isnt.
    let first = g.O.Observer.first c.args.observer.now in
    let next = g.O.Observer.next c.args.observer.now in
    let file : File = plain_file c.args.file.now in
    let program : Program = plain_program c.args.program.now in
    let told = c.in_ok-told.told in
    let by_case : (told.found.states ≡ c.args.limit) ⊎
    HaveObjects (ActsAlong (Some first) (nameless_next next) file program
    (noticed_of (Some first) (nameless_next next) file program (replicate told.setup 0)))
    (LeadsAlong (Some first) (nameless_next next) file program
    (noticed_of (Some first) (nameless_next next) file program (replicate told.setup 0)))
    told.found.states most_objects → IsCut file program c.args.limit told.setup told.found.states = elim [
      | inl full ↦ inl full
      | inr more ↦ inr (objects_if _ _ _ _ told.found.states most_objects
          (λ path u acts. acts_of (Some first) (nameless_next next) file program told.setup path u acts)
          (λ path d. other_of (Some first) (nameless_next next) file program told.setup path d) more)
    ] in
    by_case (c.in_ok-told.ensures.cut isnt)
