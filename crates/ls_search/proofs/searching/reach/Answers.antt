-- Why `reach` in src/searching.rt keeps its contract and what it calls with.

use Rattle.std.proofs.Common.{inl, inr, arith, ◌≡◌, ◌+◌, List, length, map, Some, refl, sym, ap, ◌∙◌, subst}
use Rattle.std.specs.Prelude.{slice_get}
use Rattle.ls_checked.specs.Plain.{plain_file}
use Rattle.ls_checked.specs.PlainProgram.{plain_program}
use Rattle.ls_meaning.specs.Constants.{FileHasConstants}
use Rattle.ls_search_laws.specs.Configuration.{stride}
use Rattle.ls_search_laws.specs.Noticing.{noticed_after}
use Rattle.ls_transitions.specs.Tables.{Table}
use Rattle.ls_transitions.specs.Seen.{table_of}
use Rattle.ls_search.specs.declared.places.Node.{Node}
use Rattle.ls_search.specs.declared.places.NumberedState.{NumberedState}
use Rattle.ls_search.specs.Found.{Pushed}
use Rattle.ls_search.specs.Listed.{FoundBy}
use Rattle.ls_search.specs.Places.{configuration_of}
use Rattle.ls_search.specs.Strides.{ActsBy}
use Rattle.ls_search.specs.Searched.{Reaches, noticed_at}
use Rattle.ls_search.proofs.Counting.{all_there}
use Rattle.ls_search.proofs.Looking.{acts_reached, keeps_reached, sound_reached}
use Rattle.ls_search.proofs.searching.reach.Goals as goal

pub go_on-requires-clause-acts : goal.go_on-requires-clause-acts
go_on-requires-clause-acts g c =
    let t : Table = table_of c.args.search.now.transitions in
    let n : Node = c.place_at-place.ensures.0 in
    let here : slice_get c.args.search.now.found.nodes.items c.args.at ≡ Some n =
    ap (λ l. slice_get l c.args.at) (sym c.deref.ensures.value) ∙ c.place_at-place.ensures.1 in
    subst (λ (p : NumberedState). ActsBy t p.works.items c.args.thread c.args.step.now
    (stride t.file (configuration_of t p) c.args.thread)) (sym c.place_at-place.ensures.2) (c.requires.acts n here)

pub go_on-requires-clause-constants : goal.go_on-requires-clause-constants
go_on-requires-clause-constants g c = subst FileHasConstants (sym c.requires.sound.file_is) c.requires.sound.constants

pub keep-requires-clause-known : goal.keep-requires-clause-known
keep-requires-clause-known g c =
    all_there (g.O.Observer.first c.args.ground.now.observer.now) (g.O.Observer.next c.args.ground.now.observer.now)
    (plain_file c.args.ground.now.file.now) (plain_program c.args.ground.now.program.now)
    c.args.ground.now.threads (table_of c.args.search.now.transitions) (table_of c.go_on.new.transitions)
    (map (g.O.Observer.stands c.args.ground.now.observer.now) c.args.search.now.pool.values.items)
    c.args.search.now.found.nodes.items c.requires.sound c.go_on.ensures.grows

pub keep-requires-clause-new : goal.keep-requires-clause-new
keep-requires-clause-new g c = c.in_ok-after.ensures.node.numbers

pub returns-clause-sound : goal.returns-clause-sound
returns-clause-sound g c =
    let t : Table = table_of c.args.search.now.transitions in
    let t' : Table = table_of c.go_on.new.transitions in
    let first = g.O.Observer.first c.args.ground.now.observer.now in
    let next = g.O.Observer.next c.args.ground.now.observer.now in
    let stands = g.O.Observer.stands c.args.ground.now.observer.now in
    let states : List g.O.Observer.State = map stands c.args.search.now.pool.values.items in
    let states' : List g.O.Observer.State = map stands c.go_on.new.pool.values.items in
    let n : Node = c.place_at-place.ensures.0 in
    let here : slice_get c.args.search.now.found.nodes.items c.args.at ≡ Some n =
    ap (λ l. slice_get l c.args.at) (sym c.deref.ensures.value) ∙ c.place_at-place.ensures.1 in
    let q : NumberedState = c.in_ok-after.after.place in
    let reaches = subst (λ (p : NumberedState). Reaches t.file
    (noticed_after first next t.file t.program (noticed_at first t states p) c.args.thread)
    (noticed_at first t' states' q) c.args.thread c.in_ok-after.after.steps) c.place_at-place.ensures.2
    c.in_ok-after.ensures.reaches in
    sound_reached first next (plain_file c.args.ground.now.file.now) (plain_program c.args.ground.now.program.now)
    c.args.ground.now.threads t t' states states' c.args.search.now.found.nodes.items c.keep.new.self.nodes.items
    c.requires.sound c.go_on.ensures.grows c.go_on.ensures.keeps c.args.at n here c.args.thread c.args.step.now
    (c.requires.acts n here) q c.in_ok-after.after.steps t.program reaches
    (length c.place_at-place.result.now.works.items)
    (ap (λ (p : NumberedState). length p.works.items) c.place_at-place.ensures.2) c.in_ok-after.ensures.node (record {
      place =
          q;
      before = c.args.at;
      thread = c.args.thread;
      steps = c.in_ok-after.after.steps + 1;
    })
    c.in_ok-kept.ensures.pushed refl refl refl refl

pub returns-clause-keeps : goal.returns-clause-keeps
returns-clause-keeps g c =
    let t : Table = table_of c.args.search.now.transitions in
    let t' : Table = table_of c.go_on.new.transitions in
    let first = g.O.Observer.first c.args.ground.now.observer.now in
    let next = g.O.Observer.next c.args.ground.now.observer.now in
    let stands = g.O.Observer.stands c.args.ground.now.observer.now in
    let states : List g.O.Observer.State = map stands c.args.search.now.pool.values.items in
    let states' : List g.O.Observer.State = map stands c.go_on.new.pool.values.items in
    let n : Node = c.place_at-place.ensures.0 in
    let here : slice_get c.args.search.now.found.nodes.items c.args.at ≡ Some n =
    ap (λ l. slice_get l c.args.at) (sym c.deref.ensures.value) ∙ c.place_at-place.ensures.1 in
    let q : NumberedState = c.in_ok-after.after.place in
    let reaches = subst (λ (p : NumberedState). Reaches t.file
    (noticed_after first next t.file t.program (noticed_at first t states p) c.args.thread)
    (noticed_at first t' states' q) c.args.thread c.in_ok-after.after.steps) c.place_at-place.ensures.2
    c.in_ok-after.ensures.reaches in
    keeps_reached first next (plain_file c.args.ground.now.file.now) (plain_program c.args.ground.now.program.now)
    c.args.ground.now.threads t t' states states' c.args.search.now.found.nodes.items c.keep.new.self.nodes.items
    c.requires.sound c.go_on.ensures.grows c.go_on.ensures.keeps c.args.at n here c.args.thread c.args.step.now
    (c.requires.acts n here) q c.in_ok-after.after.steps t.program reaches
    (length c.place_at-place.result.now.works.items)
    (ap (λ (p : NumberedState). length p.works.items) c.place_at-place.ensures.2) c.in_ok-after.ensures.node (record {
      place =
          q;
      before = c.args.at;
      thread = c.args.thread;
      steps = c.in_ok-after.after.steps + 1;
    })
    c.in_ok-kept.ensures.pushed refl refl refl refl

pub returns-clause-reached : goal.returns-clause-reached
returns-clause-reached g c = λ kept.
    let t : Table = table_of c.args.search.now.transitions in
    let t' : Table = table_of c.go_on.new.transitions in
    let first = g.O.Observer.first c.args.ground.now.observer.now in
    let next = g.O.Observer.next c.args.ground.now.observer.now in
    let stands = g.O.Observer.stands c.args.ground.now.observer.now in
    let states : List g.O.Observer.State = map stands c.args.search.now.pool.values.items in
    let states' : List g.O.Observer.State = map stands c.go_on.new.pool.values.items in
    let n : Node = c.place_at-place.ensures.0 in
    let here : slice_get c.args.search.now.found.nodes.items c.args.at ≡ Some n =
    ap (λ l. slice_get l c.args.at) (sym c.deref.ensures.value) ∙ c.place_at-place.ensures.1 in
    let q : NumberedState = c.in_ok-after.after.place in
    let reaches = subst (λ (p : NumberedState). Reaches t.file
    (noticed_after first next t.file t.program (noticed_at first t states p) c.args.thread)
    (noticed_at first t' states' q) c.args.thread c.in_ok-after.after.steps) c.place_at-place.ensures.2
    c.in_ok-after.ensures.reaches in
    acts_reached first next (plain_file c.args.ground.now.file.now) (plain_program c.args.ground.now.program.now)
    c.args.ground.now.threads t t' states states' c.args.search.now.found.nodes.items c.keep.new.self.nodes.items
    c.requires.sound c.go_on.ensures.grows c.go_on.ensures.keeps c.args.at n here c.args.thread c.args.step.now
    (c.requires.acts n here) q c.in_ok-after.after.steps t.program reaches
    (length c.place_at-place.result.now.works.items)
    (ap (λ (p : NumberedState). length p.works.items) c.place_at-place.ensures.2) c.in_ok-after.ensures.node (record {
      place =
          q;
      before = c.args.at;
      thread = c.args.thread;
      steps = c.in_ok-after.after.steps + 1;
    })
    c.in_ok-kept.ensures.pushed refl refl refl refl
    (c.in_ok-kept.ensures.there kept)

pub returns-clause-found : goal.returns-clause-found
returns-clause-found g c =
    let old : List Node = c.args.search.now.found.nodes.items in
    let new : List Node = c.keep.new.self.nodes.items in
    let node : Node = record {
      place = c.in_ok-after.after.place;
      before = c.args.at;
      thread = c.args.thread;
      steps = c.in_ok-after.after.steps + 1;
    } in
    let by_pushed : Pushed old new node → FoundBy old new c.args.at c.args.thread c.args.ground.now.most = elim [
      | inl same ↦ inl same
      | inr more ↦ inr (node, more, refl, refl, omega arith, omega (arith, c.in_ok-after.ensures.few))
    ] in
    by_pushed c.in_ok-kept.ensures.pushed
