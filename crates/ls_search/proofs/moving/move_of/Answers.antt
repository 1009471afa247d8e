-- Why `move_of` in src/moving.rt keeps its clause `stride`.

use Rattle.std.proofs.Common.{◌≡◌, Some, sym, ap, ◌∙◌}
use Rattle.std.specs.Prelude.{slice_get}
use Rattle.std.proofs.lemmas.Result.{IfOk-weaker}
use Rattle.ls_search_laws.specs.Configuration.{Configuration, stride}
use Rattle.ls_transitions.specs.Moves.{IsMove}
use Rattle.ls_transitions.specs.Tables.{Table}
use Rattle.ls_transitions.specs.Seen.{table_of}
use Rattle.ls_search.specs.Places.{configuration_of}
use Rattle.ls_search.specs.Strides.{IsStrideBy}
use Rattle.ls_search.proofs.Strides.{stride_by}
use Rattle.ls_search.proofs.moving.move_of.Goals as goal

pub returns-clause-stride : goal.returns-clause-stride
returns-clause-stride c =
    let old : Table = table_of c.args.transitions.now in
    let new : Table = table_of c.next.new.self in
    let at : Configuration = configuration_of old c.args.place.now in
    let here : slice_get c.args.place.now.works.items c.args.thread ≡ Some c.in-Some.work =
    ap (λ l. slice_get l c.args.thread) (sym c.deref.ensures.value) ∙ sym c.in-Some.ensures in
    IfOk-weaker c.next.result
    (λ m. IsMove new c.args.thread c.args.place.now.store c.in-Some.work m)
    (λ m. IsStrideBy new at c.args.place.now.works.items c.args.thread m (stride old.file at c.args.thread))
    (λ m. stride_by old new c.args.thread c.args.place.now.store c.args.place.now.works.items c.in-Some.work m
    c.next.ensures.grows c.requires.there here c.requires.started)
    c.next.ensures.made
