-- Why `look` in src/searching.rt keeps its contract and what it calls with.

use Rattle.std.proofs.Common.{◌≡◌, List, map, Some, [], sym, ap, ◌∙◌, subst}
use Rattle.std.specs.Prelude.{slice_get}
use Rattle.ls_checked.specs.Plain.{plain_file}
use Rattle.ls_checked.specs.PlainProgram.{plain_program}
use Rattle.ls_meaning.specs.Runs.{has_ended}
use Rattle.ls_search_laws.specs.Configuration.{stride}
use Rattle.ls_transitions.specs.declared.moves.Move.{Move}
use Rattle.ls_transitions.specs.declared.moves.Move.TheVariants as moves
use Rattle.ls_transitions.specs.Tables.{Table}
use Rattle.ls_transitions.specs.Seen.{table_of}
use Rattle.ls_search.specs.declared.places.Node.{Node}
use Rattle.ls_search.specs.declared.places.NumberedState.{NumberedState}
use Rattle.ls_search.specs.Places.{configuration_of}
use Rattle.ls_search.specs.Strides.{HasStarted, IsStrideBy}
use Rattle.ls_search.specs.Searched.{noticed_at}
use Rattle.ls_search.specs.SeenSearch.{pairs_of}
use Rattle.ls_search.proofs.Pairs.{map_there}
use Rattle.ls_search.proofs.Sights.{acts_then, here_then, idle_then, keeps_since, keeps_then, sound_then}
use Rattle.ls_search.proofs.Sights.{started_then, waits_then}
use Rattle.ls_search.proofs.searching.look.Goals as goal

pub step_from-requires-clause-ended : goal.step_from-requires-clause-ended
step_from-requires-clause-ended g c =
    let t : Table = table_of c.args.search.now.transitions in
    let first = g.O.Observer.first c.args.ground.now.observer.now in
    let next = g.O.Observer.next c.args.ground.now.observer.now in
    let states : List g.O.Observer.State =
    map (g.O.Observer.stands c.args.ground.now.observer.now) c.args.search.now.pool.values.items in
    let nodes : List Node = c.args.search.now.found.nodes.items in
    let n : Node = c.place_at-place.ensures.0 in
    let here : slice_get nodes c.args.at ≡ Some n =
    ap (λ l. slice_get l c.args.at) (sym c.deref.ensures.value) ∙ c.place_at-place.ensures.1 in
    subst (λ (p : NumberedState). c.args.ended ≡ has_ended ((configuration_of t p).continues 0 [])) (sym
    c.place_at-place.ensures.2)
    (c.requires.ended (noticed_at first t states n.place)
    (map_there (λ (m : Node). noticed_at first t states m.place) nodes c.args.at n here))

pub reach-requires-clause-sound : goal.reach-requires-clause-sound
reach-requires-clause-sound g c =
    let t : Table = table_of c.args.search.now.transitions in
    let first = g.O.Observer.first c.args.ground.now.observer.now in
    let next = g.O.Observer.next c.args.ground.now.observer.now in
    let states : List g.O.Observer.State =
    map (g.O.Observer.stands c.args.ground.now.observer.now) c.args.search.now.pool.values.items in
    let nodes : List Node = c.args.search.now.found.nodes.items in
    let n : Node = c.place_at-place.ensures.0 in
    let here : slice_get nodes c.args.at ≡ Some n =
    ap (λ l. slice_get l c.args.at) (sym c.deref.ensures.value) ∙ c.place_at-place.ensures.1 in
    let t' : Table = table_of c.step_from.new.transitions in
    sound_then first next (plain_file c.args.ground.now.file.now) (plain_program c.args.ground.now.program.now)
    c.args.ground.now.threads t t' states nodes c.requires.sound c.step_from.ensures.grows

pub reach-requires-clause-started : goal.reach-requires-clause-started
reach-requires-clause-started g c =
    let t : Table = table_of c.args.search.now.transitions in
    let first = g.O.Observer.first c.args.ground.now.observer.now in
    let next = g.O.Observer.next c.args.ground.now.observer.now in
    let states : List g.O.Observer.State =
    map (g.O.Observer.stands c.args.ground.now.observer.now) c.args.search.now.pool.values.items in
    let nodes : List Node = c.args.search.now.found.nodes.items in
    let n : Node = c.place_at-place.ensures.0 in
    let here : slice_get nodes c.args.at ≡ Some n =
    ap (λ l. slice_get l c.args.at) (sym c.deref.ensures.value) ∙ c.place_at-place.ensures.1 in
    let t' : Table = table_of c.step_from.new.transitions in
    started_then first next (plain_file c.args.ground.now.file.now) (plain_program c.args.ground.now.program.now)
    c.args.ground.now.threads t t' states nodes c.requires.sound c.step_from.ensures.grows c.args.at n here
    c.args.thread
    (subst (λ (p : NumberedState). HasStarted (configuration_of t p) c.args.thread) c.place_at-place.ensures.2
    (c.in_ok-made.ensures.started c.in-Acts.step c.in-Acts.is))

pub reach-requires-clause-acts : goal.reach-requires-clause-acts
reach-requires-clause-acts g c =
    let t : Table = table_of c.args.search.now.transitions in
    let first = g.O.Observer.first c.args.ground.now.observer.now in
    let next = g.O.Observer.next c.args.ground.now.observer.now in
    let states : List g.O.Observer.State =
    map (g.O.Observer.stands c.args.ground.now.observer.now) c.args.search.now.pool.values.items in
    let nodes : List Node = c.args.search.now.found.nodes.items in
    let n : Node = c.place_at-place.ensures.0 in
    let here : slice_get nodes c.args.at ≡ Some n =
    ap (λ l. slice_get l c.args.at) (sym c.deref.ensures.value) ∙ c.place_at-place.ensures.1 in
    let t' : Table = table_of c.step_from.new.transitions in
    let by : (m : Move) → c.in_ok-made.made ≡ m →
    IsStrideBy t' (configuration_of t n.place) n.place.works.items c.args.thread m
    (stride t.file (configuration_of t n.place) c.args.thread) = λ m is.
    subst (λ (p : NumberedState). IsStrideBy t' (configuration_of t p) p.works.items c.args.thread m
    (stride t.file (configuration_of t p) c.args.thread)) c.place_at-place.ensures.2
    (subst (λ (k : Move). IsStrideBy t' (configuration_of t c.place_at-place.result.now)
    c.place_at-place.result.now.works.items c.args.thread k
    (stride t.file (configuration_of t c.place_at-place.result.now) c.args.thread)) is c.in_ok-made.ensures.stride) in
    acts_then first next (plain_file c.args.ground.now.file.now) (plain_program c.args.ground.now.program.now)
    c.args.ground.now.threads t t' states nodes c.requires.sound c.step_from.ensures.grows c.args.at n here
    c.args.thread
    c.in-Acts.step (by (moves.Acts c.in-Acts.step) c.in-Acts.is)

pub returns-then-not-kept-clause-keeps : goal.returns-then-not-kept-clause-keeps
returns-then-not-kept-clause-keeps g c =
    let t : Table = table_of c.args.search.now.transitions in
    let first = g.O.Observer.first c.args.ground.now.observer.now in
    let next = g.O.Observer.next c.args.ground.now.observer.now in
    let states : List g.O.Observer.State =
    map (g.O.Observer.stands c.args.ground.now.observer.now) c.args.search.now.pool.values.items in
    let nodes : List Node = c.args.search.now.found.nodes.items in
    let n : Node = c.place_at-place.ensures.0 in
    let here : slice_get nodes c.args.at ≡ Some n =
    ap (λ l. slice_get l c.args.at) (sym c.deref.ensures.value) ∙ c.place_at-place.ensures.1 in
    let t' : Table = table_of c.step_from.new.transitions in
    keeps_since first next (plain_file c.args.ground.now.file.now) (plain_program c.args.ground.now.program.now)
    c.args.ground.now.threads t t' states nodes c.requires.sound c.step_from.ensures.grows
    (pairs_of first (g.O.Observer.stands c.args.ground.now.observer.now) c.reach.new.search)
    c.in_ok-kept-in-Acts.ensures.keeps

pub returns-else-not-kept-clause-keeps : goal.returns-else-not-kept-clause-keeps
returns-else-not-kept-clause-keeps g c =
    let t : Table = table_of c.args.search.now.transitions in
    let first = g.O.Observer.first c.args.ground.now.observer.now in
    let next = g.O.Observer.next c.args.ground.now.observer.now in
    let states : List g.O.Observer.State =
    map (g.O.Observer.stands c.args.ground.now.observer.now) c.args.search.now.pool.values.items in
    let nodes : List Node = c.args.search.now.found.nodes.items in
    let n : Node = c.place_at-place.ensures.0 in
    let here : slice_get nodes c.args.at ≡ Some n =
    ap (λ l. slice_get l c.args.at) (sym c.deref.ensures.value) ∙ c.place_at-place.ensures.1 in
    let t' : Table = table_of c.step_from.new.transitions in
    keeps_since first next (plain_file c.args.ground.now.file.now) (plain_program c.args.ground.now.program.now)
    c.args.ground.now.threads t t' states nodes c.requires.sound c.step_from.ensures.grows
    (pairs_of first (g.O.Observer.stands c.args.ground.now.observer.now) c.reach.new.search)
    c.in_ok-kept-in-Acts.ensures.keeps

pub returns-else-not-kept-clause-looked : goal.returns-else-not-kept-clause-looked
returns-else-not-kept-clause-looked g c = λ p p_here.
    let t : Table = table_of c.args.search.now.transitions in
    let first = g.O.Observer.first c.args.ground.now.observer.now in
    let next = g.O.Observer.next c.args.ground.now.observer.now in
    let states : List g.O.Observer.State =
    map (g.O.Observer.stands c.args.ground.now.observer.now) c.args.search.now.pool.values.items in
    let nodes : List Node = c.args.search.now.found.nodes.items in
    let n : Node = c.place_at-place.ensures.0 in
    let here : slice_get nodes c.args.at ≡ Some n =
    ap (λ l. slice_get l c.args.at) (sym c.deref.ensures.value) ∙ c.place_at-place.ensures.1 in
    let t' : Table = table_of c.step_from.new.transitions in
    c.in_ok-kept-in-Acts.ensures.reached c.if-not-kept.false p
    (here_then first next (plain_file c.args.ground.now.file.now) (plain_program c.args.ground.now.program.now)
    c.args.ground.now.threads t t' states nodes c.requires.sound c.step_from.ensures.grows c.args.at p p_here)

pub returns-in-Ended-clause-sound : goal.returns-in-Ended-clause-sound
returns-in-Ended-clause-sound g c =
    let t : Table = table_of c.args.search.now.transitions in
    let first = g.O.Observer.first c.args.ground.now.observer.now in
    let next = g.O.Observer.next c.args.ground.now.observer.now in
    let states : List g.O.Observer.State =
    map (g.O.Observer.stands c.args.ground.now.observer.now) c.args.search.now.pool.values.items in
    let nodes : List Node = c.args.search.now.found.nodes.items in
    let n : Node = c.place_at-place.ensures.0 in
    let here : slice_get nodes c.args.at ≡ Some n =
    ap (λ l. slice_get l c.args.at) (sym c.deref.ensures.value) ∙ c.place_at-place.ensures.1 in
    let t' : Table = table_of c.step_from.new.transitions in
    sound_then first next (plain_file c.args.ground.now.file.now) (plain_program c.args.ground.now.program.now)
    c.args.ground.now.threads t t' states nodes c.requires.sound c.step_from.ensures.grows

pub returns-in-Ended-clause-keeps : goal.returns-in-Ended-clause-keeps
returns-in-Ended-clause-keeps g c =
    let t : Table = table_of c.args.search.now.transitions in
    let first = g.O.Observer.first c.args.ground.now.observer.now in
    let next = g.O.Observer.next c.args.ground.now.observer.now in
    let states : List g.O.Observer.State =
    map (g.O.Observer.stands c.args.ground.now.observer.now) c.args.search.now.pool.values.items in
    let nodes : List Node = c.args.search.now.found.nodes.items in
    let n : Node = c.place_at-place.ensures.0 in
    let here : slice_get nodes c.args.at ≡ Some n =
    ap (λ l. slice_get l c.args.at) (sym c.deref.ensures.value) ∙ c.place_at-place.ensures.1 in
    let t' : Table = table_of c.step_from.new.transitions in
    keeps_then first next (plain_file c.args.ground.now.file.now) (plain_program c.args.ground.now.program.now)
    c.args.ground.now.threads t t' states nodes c.requires.sound c.step_from.ensures.grows

pub returns-in-Ended-clause-looked : goal.returns-in-Ended-clause-looked
returns-in-Ended-clause-looked g c = λ p p_here.
    let t : Table = table_of c.args.search.now.transitions in
    let first = g.O.Observer.first c.args.ground.now.observer.now in
    let next = g.O.Observer.next c.args.ground.now.observer.now in
    let states : List g.O.Observer.State =
    map (g.O.Observer.stands c.args.ground.now.observer.now) c.args.search.now.pool.values.items in
    let nodes : List Node = c.args.search.now.found.nodes.items in
    let n : Node = c.place_at-place.ensures.0 in
    let here : slice_get nodes c.args.at ≡ Some n =
    ap (λ l. slice_get l c.args.at) (sym c.deref.ensures.value) ∙ c.place_at-place.ensures.1 in
    let t' : Table = table_of c.step_from.new.transitions in
    let by : (m : Move) → c.in_ok-made.made ≡ m →
    IsStrideBy t' (configuration_of t n.place) n.place.works.items c.args.thread m
    (stride t.file (configuration_of t n.place) c.args.thread) = λ m is.
    subst (λ (p : NumberedState). IsStrideBy t' (configuration_of t p) p.works.items c.args.thread m
    (stride t.file (configuration_of t p) c.args.thread)) c.place_at-place.ensures.2
    (subst (λ (k : Move). IsStrideBy t' (configuration_of t c.place_at-place.result.now)
    c.place_at-place.result.now.works.items c.args.thread k
    (stride t.file (configuration_of t c.place_at-place.result.now) c.args.thread)) is c.in_ok-made.ensures.stride) in
    idle_then first next (plain_file c.args.ground.now.file.now) (plain_program c.args.ground.now.program.now)
    c.args.ground.now.threads t t' states nodes c.requires.sound c.step_from.ensures.grows c.args.at n here
    c.args.thread
    (by moves.Ended c.in-Ended.is) p p_here

pub returns-in-Trapped-clause-sound : goal.returns-in-Trapped-clause-sound
returns-in-Trapped-clause-sound g c =
    let t : Table = table_of c.args.search.now.transitions in
    let first = g.O.Observer.first c.args.ground.now.observer.now in
    let next = g.O.Observer.next c.args.ground.now.observer.now in
    let states : List g.O.Observer.State =
    map (g.O.Observer.stands c.args.ground.now.observer.now) c.args.search.now.pool.values.items in
    let nodes : List Node = c.args.search.now.found.nodes.items in
    let n : Node = c.place_at-place.ensures.0 in
    let here : slice_get nodes c.args.at ≡ Some n =
    ap (λ l. slice_get l c.args.at) (sym c.deref.ensures.value) ∙ c.place_at-place.ensures.1 in
    let t' : Table = table_of c.step_from.new.transitions in
    sound_then first next (plain_file c.args.ground.now.file.now) (plain_program c.args.ground.now.program.now)
    c.args.ground.now.threads t t' states nodes c.requires.sound c.step_from.ensures.grows

pub returns-in-Trapped-clause-keeps : goal.returns-in-Trapped-clause-keeps
returns-in-Trapped-clause-keeps g c =
    let t : Table = table_of c.args.search.now.transitions in
    let first = g.O.Observer.first c.args.ground.now.observer.now in
    let next = g.O.Observer.next c.args.ground.now.observer.now in
    let states : List g.O.Observer.State =
    map (g.O.Observer.stands c.args.ground.now.observer.now) c.args.search.now.pool.values.items in
    let nodes : List Node = c.args.search.now.found.nodes.items in
    let n : Node = c.place_at-place.ensures.0 in
    let here : slice_get nodes c.args.at ≡ Some n =
    ap (λ l. slice_get l c.args.at) (sym c.deref.ensures.value) ∙ c.place_at-place.ensures.1 in
    let t' : Table = table_of c.step_from.new.transitions in
    keeps_then first next (plain_file c.args.ground.now.file.now) (plain_program c.args.ground.now.program.now)
    c.args.ground.now.threads t t' states nodes c.requires.sound c.step_from.ensures.grows

pub returns-in-Trapped-clause-looked : goal.returns-in-Trapped-clause-looked
returns-in-Trapped-clause-looked g c = λ p p_here.
    let t : Table = table_of c.args.search.now.transitions in
    let first = g.O.Observer.first c.args.ground.now.observer.now in
    let next = g.O.Observer.next c.args.ground.now.observer.now in
    let states : List g.O.Observer.State =
    map (g.O.Observer.stands c.args.ground.now.observer.now) c.args.search.now.pool.values.items in
    let nodes : List Node = c.args.search.now.found.nodes.items in
    let n : Node = c.place_at-place.ensures.0 in
    let here : slice_get nodes c.args.at ≡ Some n =
    ap (λ l. slice_get l c.args.at) (sym c.deref.ensures.value) ∙ c.place_at-place.ensures.1 in
    let t' : Table = table_of c.step_from.new.transitions in
    let by : (m : Move) → c.in_ok-made.made ≡ m →
    IsStrideBy t' (configuration_of t n.place) n.place.works.items c.args.thread m
    (stride t.file (configuration_of t n.place) c.args.thread) = λ m is.
    subst (λ (p : NumberedState). IsStrideBy t' (configuration_of t p) p.works.items c.args.thread m
    (stride t.file (configuration_of t p) c.args.thread)) c.place_at-place.ensures.2
    (subst (λ (k : Move). IsStrideBy t' (configuration_of t c.place_at-place.result.now)
    c.place_at-place.result.now.works.items c.args.thread k
    (stride t.file (configuration_of t c.place_at-place.result.now) c.args.thread)) is c.in_ok-made.ensures.stride) in
    idle_then first next (plain_file c.args.ground.now.file.now) (plain_program c.args.ground.now.program.now)
    c.args.ground.now.threads t t' states nodes c.requires.sound c.step_from.ensures.grows c.args.at n here
    c.args.thread
    (by moves.Trapped c.in-Trapped.is) p p_here

pub returns-in-Waits-clause-sound : goal.returns-in-Waits-clause-sound
returns-in-Waits-clause-sound g c =
    let t : Table = table_of c.args.search.now.transitions in
    let first = g.O.Observer.first c.args.ground.now.observer.now in
    let next = g.O.Observer.next c.args.ground.now.observer.now in
    let states : List g.O.Observer.State =
    map (g.O.Observer.stands c.args.ground.now.observer.now) c.args.search.now.pool.values.items in
    let nodes : List Node = c.args.search.now.found.nodes.items in
    let n : Node = c.place_at-place.ensures.0 in
    let here : slice_get nodes c.args.at ≡ Some n =
    ap (λ l. slice_get l c.args.at) (sym c.deref.ensures.value) ∙ c.place_at-place.ensures.1 in
    let t' : Table = table_of c.step_from.new.transitions in
    sound_then first next (plain_file c.args.ground.now.file.now) (plain_program c.args.ground.now.program.now)
    c.args.ground.now.threads t t' states nodes c.requires.sound c.step_from.ensures.grows

pub returns-in-Waits-clause-keeps : goal.returns-in-Waits-clause-keeps
returns-in-Waits-clause-keeps g c =
    let t : Table = table_of c.args.search.now.transitions in
    let first = g.O.Observer.first c.args.ground.now.observer.now in
    let next = g.O.Observer.next c.args.ground.now.observer.now in
    let states : List g.O.Observer.State =
    map (g.O.Observer.stands c.args.ground.now.observer.now) c.args.search.now.pool.values.items in
    let nodes : List Node = c.args.search.now.found.nodes.items in
    let n : Node = c.place_at-place.ensures.0 in
    let here : slice_get nodes c.args.at ≡ Some n =
    ap (λ l. slice_get l c.args.at) (sym c.deref.ensures.value) ∙ c.place_at-place.ensures.1 in
    let t' : Table = table_of c.step_from.new.transitions in
    keeps_then first next (plain_file c.args.ground.now.file.now) (plain_program c.args.ground.now.program.now)
    c.args.ground.now.threads t t' states nodes c.requires.sound c.step_from.ensures.grows

pub returns-in-Waits-clause-looked : goal.returns-in-Waits-clause-looked
returns-in-Waits-clause-looked g c = λ p p_here.
    let t : Table = table_of c.args.search.now.transitions in
    let first = g.O.Observer.first c.args.ground.now.observer.now in
    let next = g.O.Observer.next c.args.ground.now.observer.now in
    let states : List g.O.Observer.State =
    map (g.O.Observer.stands c.args.ground.now.observer.now) c.args.search.now.pool.values.items in
    let nodes : List Node = c.args.search.now.found.nodes.items in
    let n : Node = c.place_at-place.ensures.0 in
    let here : slice_get nodes c.args.at ≡ Some n =
    ap (λ l. slice_get l c.args.at) (sym c.deref.ensures.value) ∙ c.place_at-place.ensures.1 in
    let t' : Table = table_of c.step_from.new.transitions in
    let by : (m : Move) → c.in_ok-made.made ≡ m →
    IsStrideBy t' (configuration_of t n.place) n.place.works.items c.args.thread m
    (stride t.file (configuration_of t n.place) c.args.thread) = λ m is.
    subst (λ (p : NumberedState). IsStrideBy t' (configuration_of t p) p.works.items c.args.thread m
    (stride t.file (configuration_of t p) c.args.thread)) c.place_at-place.ensures.2
    (subst (λ (k : Move). IsStrideBy t' (configuration_of t c.place_at-place.result.now)
    c.place_at-place.result.now.works.items c.args.thread k
    (stride t.file (configuration_of t c.place_at-place.result.now) c.args.thread)) is c.in_ok-made.ensures.stride) in
    waits_then first next (plain_file c.args.ground.now.file.now) (plain_program c.args.ground.now.program.now)
    c.args.ground.now.threads t t' states nodes c.requires.sound c.step_from.ensures.grows c.args.at n here
    c.args.thread
    (by moves.Waits c.in-Waits.is) p p_here
