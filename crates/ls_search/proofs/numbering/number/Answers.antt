-- Why `number` in src/numbering.rt keeps its clauses `there`, `file` and `same`.

use Rattle.std.proofs.Common.{◌≡◌, List, Some, length, map, ap, ◌∙◌, subst}
use Rattle.std.specs.Prelude.{slice_get}
use Rattle.ls_source_store.specs.SeenStore.{store_of}
use Rattle.ls_source.specs.Calls.{Thread}
use Rattle.ls_source.specs.SeenThread.{thread_of}
use Rattle.ls_transitions.specs.Tables.{Table}
use Rattle.ls_transitions.specs.Seen.{table_of}
use Rattle.ls_transitions.proofs.Keeping.{below}
use Rattle.ls_search.specs.Runs.{AreNumbered}
use Rattle.ls_search.proofs.Numbers.{numbered_there, stands_at}
use Rattle.ls_search.proofs.numbering.number.Goals as goal

pub returns-clause-there : goal.returns-clause-there
returns-clause-there c =
    let t0 : Table = table_of c.new-transitions.result in
    let t1 : Table = table_of c.store_number.new.self in
    let t2 : Table = table_of c.number_works.new.transitions in
    let threads : List Thread = map thread_of c.args.playing.now.threads.items in
    let numbered : AreNumbered t2 c.in_ok-works.works.items threads =
    subst (λ l. AreNumbered t2 c.in_ok-works.works.items (map thread_of l)) c.deref.ensures.value
    c.in_ok-works.ensures.numbers in
    let stored : slice_get t2.stores c.in_ok-store.store ≡ Some (store_of c.args.playing.now.store_and_events.store) =
    c.number_works.ensures.grows.stores c.in_ok-store.store (store_of c.args.playing.now.store_and_events.store)
    c.in_ok-store.ensures.number in
    numbered_there t2 c.in_ok-store.store c.in_ok-works.works.items threads
    (below t2.stores c.in_ok-store.store (store_of c.args.playing.now.store_and_events.store) stored) numbered

pub returns-clause-file : goal.returns-clause-file
returns-clause-file c =
    c.number_works.ensures.grows.file ∙ c.store_number.ensures.grows.file ∙
    ap (λ (t : Table). t.file) c.new-transitions.ensures

pub returns-clause-same : goal.returns-clause-same
returns-clause-same c = λ p stands.
    let t0 : Table = table_of c.new-transitions.result in
    let t1 : Table = table_of c.store_number.new.self in
    let t2 : Table = table_of c.number_works.new.transitions in
    let threads : List Thread = map thread_of c.args.playing.now.threads.items in
    let numbered : AreNumbered t2 c.in_ok-works.works.items threads =
    subst (λ l. AreNumbered t2 c.in_ok-works.works.items (map thread_of l)) c.deref.ensures.value
    c.in_ok-works.ensures.numbers in
    let stored : slice_get t2.stores c.in_ok-store.store ≡ Some (store_of c.args.playing.now.store_and_events.store) =
    c.number_works.ensures.grows.stores c.in_ok-store.store (store_of c.args.playing.now.store_and_events.store)
    c.in_ok-store.ensures.number in
    let file_is = c.number_works.ensures.grows.file ∙ c.store_number.ensures.grows.file ∙
    ap (λ (t : Table). t.file) c.new-transitions.ensures in
    let program_is = c.number_works.ensures.grows.program ∙ c.store_number.ensures.grows.program ∙
    ap (λ (t : Table). t.program) c.new-transitions.ensures in
    let width : length c.in_ok-works.works.items ≡ length c.args.playing.now.threads.items =
    c.in_ok-works.ensures.width ∙ ap length c.deref.ensures.value in
    stands_at c.args.playing.now t2 c.in_ok-store.store c.in_ok-works.works.items numbered width stored file_is
    program_is p stands
