-- Why `expand` in src/listing.rt keeps its contract, its loop and what it calls with.

use Rattle.std.proofs.Common.{◌≡◌, ◌<◌, ◌≤◌, List, length, map, Some, [], refl, sym, ap, ◌∙◌, arith, false}
use Rattle.std.specs.Prelude.{slice_get}
use Rattle.ls_checked.specs.CheckedTree.{File}
use Rattle.ls_checked.specs.CheckedProgram.{Program}
use Rattle.ls_checked.specs.Plain.{plain_file}
use Rattle.ls_checked.specs.PlainProgram.{plain_program}
use Rattle.ls_meaning.specs.Runs.{has_ended}
use Rattle.ls_search_laws.specs.Noticing.{Noticed}
use Rattle.ls_transitions.specs.Tables.{Table, Keeps}
use Rattle.ls_transitions.specs.Seen.{table_of}
use Rattle.ls_transitions.proofs.Keeping.{there}
use Rattle.ls_search.specs.declared.places.Node.{Node}
use Rattle.ls_search.specs.declared.places.NumberedState.{NumberedState}
use Rattle.ls_search.specs.Places.{configuration_of}
use Rattle.ls_search.specs.declared.places.Looked.{Looked}
use Rattle.ls_search.specs.Listed.{FoundAs, paths_of}
use Rattle.ls_search.specs.Searched.{IsLooked, noticed_at, pairs_at}
use Rattle.ls_search.specs.SeenSearch.{pairs_of}
use Rattle.ls_search.proofs.Expanding.{expanded_cut, expanded_end, here_more, longer, pairs_length, same_there}
use Rattle.ls_search.proofs.Pairs.{keeps_both}
use Rattle.ls_search.proofs.Sights.{keeps_then, pair_here, sound_then}
use Rattle.ls_search.proofs.Sounding.{expanded_none}
use Rattle.ls_graph.proofs.Growing.{none_then, of_some}
use Rattle.ls_search.proofs.Stepping.{distinct_looked, steps_looked, steps_stay}
use Rattle.ls_search.proofs.Apart.{distinct_path}
use Rattle.ls_search.proofs.listing.expand.Goals as goal

some_is : {A : Type 0} {x y : A} → Some x ≡ Some y → x ≡ y
some_is h = cc

pub loop-thread-init : goal.loop-thread-init
loop-thread-init g c =
    let t : Table = table_of c.args.search.now.transitions in
    let first = g.O.Observer.first c.args.ground.now.observer.now in
    let next = g.O.Observer.next c.args.ground.now.observer.now in
    let stands = g.O.Observer.stands c.args.ground.now.observer.now in
    let states : List g.O.Observer.State = map stands c.args.search.now.pool.values.items in
    let nodes : List Node = c.args.search.now.found.nodes.items in
    let file : File = plain_file c.args.ground.now.file.now in
    let program : Program = plain_program c.args.ground.now.program.now in
    let old : List (Noticed g.O.Observer.State) = pairs_of first stands c.args.search.now in
    let within : c.args.at < length old = omega (arith, c.requires.at, pairs_length first t states nodes) in
    let t' : Table = table_of c.has_setup_ended.new.transitions in
    let n : Node = c.place_at-place.ensures.0 in
    let here : slice_get nodes c.args.at ≡ Some n =
    ap (λ l. slice_get l c.args.at) (sym c.deref.ensures.value) ∙ c.place_at-place.ensures.1 in
    record {
      sound = sound_then first next file program c.args.ground.now.threads t t' states nodes c.requires.sound
          c.has_setup_ended.ensures.grows;
      keeps = keeps_then first next file program c.args.ground.now.threads t t' states nodes c.requires.sound
          c.has_setup_ended.ensures.grows;
      here = λ p e. expanded_none first next file program (pairs_at first t' states nodes) p
          (record { acts = false; waits = false }) refl refl;
      ended_is = λ p e.
          let same : noticed_at first t states n.place ≡ p =
          some_is (sym (pair_here first next file program c.args.ground.now.threads t t' states nodes c.requires.sound
          c.has_setup_ended.ensures.grows c.args.at n here 0) ∙ e) in
          c.in_ok-ended.ensures.ended
          ∙ ap (λ (q : NumberedState). has_ended ((configuration_of t q).continues 0 [])) c.place_at-place.ensures.2
          ∙ ap (λ (q : Noticed g.O.Observer.State). has_ended (q.configuration.continues 0 [])) same;
      steps = steps_stay file old (pairs_at first t' states nodes)
          (keeps_then first next file program c.args.ground.now.threads t t' states nodes c.requires.sound
          c.has_setup_ended.ensures.grows) nodes nodes c.requires.steps refl;
      distinct = c.requires.distinct;
      few = λ h. h;
      seen_same = refl;
      within = c.requires.at;
    }

pub look-requires-clause-ended : goal.look-requires-clause-ended
look-requires-clause-ended g c = λ p e.
    let t : Table = table_of c.args.search.now.transitions in
    let first = g.O.Observer.first c.args.ground.now.observer.now in
    let next = g.O.Observer.next c.args.ground.now.observer.now in
    let stands = g.O.Observer.stands c.args.ground.now.observer.now in
    let states : List g.O.Observer.State = map stands c.args.search.now.pool.values.items in
    let nodes : List Node = c.args.search.now.found.nodes.items in
    let file : File = plain_file c.args.ground.now.file.now in
    let program : Program = plain_program c.args.ground.now.program.now in
    let old : List (Noticed g.O.Observer.State) = pairs_of first stands c.args.search.now in
    let within : c.args.at < length old = omega (arith, c.requires.at, pairs_length first t states nodes) in
    c.loop-thread.invariant.ended_is p
    (same_there old (pairs_of first stands c.loop-thread.search) c.args.at p c.loop-thread.invariant.keeps within e)

pub returns-in_default-clause-expanded : goal.returns-in_default-clause-expanded
returns-in_default-clause-expanded g c =
    let t : Table = table_of c.args.search.now.transitions in
    let first = g.O.Observer.first c.args.ground.now.observer.now in
    let next = g.O.Observer.next c.args.ground.now.observer.now in
    let stands = g.O.Observer.stands c.args.ground.now.observer.now in
    let states : List g.O.Observer.State = map stands c.args.search.now.pool.values.items in
    let nodes : List Node = c.args.search.now.found.nodes.items in
    let file : File = plain_file c.args.ground.now.file.now in
    let program : Program = plain_program c.args.ground.now.program.now in
    let old : List (Noticed g.O.Observer.State) = pairs_of first stands c.args.search.now in
    let within : c.args.at < length old = omega (arith, c.requires.at, pairs_length first t states nodes) in
    let mid : List (Noticed g.O.Observer.State) = pairs_of first stands c.loop-thread.search in
    let new : List (Noticed g.O.Observer.State) = pairs_of first stands c.look.new.search in
    expanded_cut first next file program c.args.ground.now.threads c.args.at old new
    (keeps_both old mid new c.loop-thread.invariant.keeps c.in_ok-looked.ensures.keeps) within
    c.args.search.now.seen.items c.look.new.search.seen.items c.requires.count
    (c.look.ensures.seen ∙ c.loop-thread.invariant.seen_same) c.requires.expanded

pub returns-in_default-clause-within : goal.returns-in_default-clause-within
returns-in_default-clause-within g c =
    let t : Table = table_of c.args.search.now.transitions in
    let first = g.O.Observer.first c.args.ground.now.observer.now in
    let next = g.O.Observer.next c.args.ground.now.observer.now in
    let stands = g.O.Observer.stands c.args.ground.now.observer.now in
    let states : List g.O.Observer.State = map stands c.args.search.now.pool.values.items in
    let nodes : List Node = c.args.search.now.found.nodes.items in
    let file : File = plain_file c.args.ground.now.file.now in
    let program : Program = plain_program c.args.ground.now.program.now in
    let old : List (Noticed g.O.Observer.State) = pairs_of first stands c.args.search.now in
    let within : c.args.at < length old = omega (arith, c.requires.at, pairs_length first t states nodes) in
    let mid : List (Noticed g.O.Observer.State) = pairs_of first stands c.loop-thread.search in
    let new : List (Noticed g.O.Observer.State) = pairs_of first stands c.look.new.search in
    let more : length nodes ≤ length c.look.new.search.found.nodes.items =
    longer first t (table_of c.look.new.search.transitions) states
    (map stands c.look.new.search.pool.values.items) nodes c.look.new.search.found.nodes.items
    (keeps_both old mid new c.loop-thread.invariant.keeps c.in_ok-looked.ensures.keeps) in
    omega (
      arith,
      more,
      c.requires.at,
      c.requires.count,
      ap length (c.look.ensures.seen ∙
          c.loop-thread.invariant.seen_same),
    )

pub loop-thread-preserved : goal.loop-thread-preserved
loop-thread-preserved g c =
    let t : Table = table_of c.args.search.now.transitions in
    let first = g.O.Observer.first c.args.ground.now.observer.now in
    let next = g.O.Observer.next c.args.ground.now.observer.now in
    let stands = g.O.Observer.stands c.args.ground.now.observer.now in
    let states : List g.O.Observer.State = map stands c.args.search.now.pool.values.items in
    let nodes : List Node = c.args.search.now.found.nodes.items in
    let file : File = plain_file c.args.ground.now.file.now in
    let program : Program = plain_program c.args.ground.now.program.now in
    let old : List (Noticed g.O.Observer.State) = pairs_of first stands c.args.search.now in
    let within : c.args.at < length old = omega (arith, c.requires.at, pairs_length first t states nodes) in
    let mid : List (Noticed g.O.Observer.State) = pairs_of first stands c.loop-thread.search in
    let new : List (Noticed g.O.Observer.State) = pairs_of first stands c.look.new.search in
    let inv = c.loop-thread.invariant in
    let keeps : Keeps mid new = c.in_ok-looked.ensures.keeps in
    let mid_within : c.args.at < length mid =
    omega (
      arith,
      inv.within,
      pairs_length first (table_of c.loop-thread.search.transitions)
          (map stands c.loop-thread.search.pool.values.items) c.loop-thread.search.found.nodes.items,
    ) in
    let more : length c.loop-thread.search.found.nodes.items ≤ length c.look.new.search.found.nodes.items =
    longer first (table_of c.loop-thread.search.transitions) (table_of c.look.new.search.transitions)
    (map stands c.loop-thread.search.pool.values.items) (map stands c.look.new.search.pool.values.items)
    c.loop-thread.search.found.nodes.items c.look.new.search.found.nodes.items keeps in
    let p = there mid c.args.at mid_within in
    let l : Looked = c.in-Some.looked in
    let found : FoundAs c.loop-thread.search.found.nodes.items c.look.new.search.found.nodes.items c.args.at
    c.loop-thread.thread c.args.ground.now.most l =
    of_some (λ k. FoundAs c.loop-thread.search.found.nodes.items c.look.new.search.found.nodes.items c.args.at
    c.loop-thread.thread c.args.ground.now.most k) c.in_ok-looked.field-0 l c.in-Some.is
    c.in_ok-looked.ensures.found in
    let seen_so : IsLooked first next file program new p.0 c.loop-thread.thread l =
    of_some (λ k. (q : Noticed g.O.Observer.State) → slice_get mid c.args.at ≡ Some q →
    IsLooked first next file program new q c.loop-thread.thread k) c.in_ok-looked.field-0 l c.in-Some.is
    c.in_ok-looked.ensures.looked p.0 p.1 in
    record {
      steps = steps_looked file mid new keeps c.loop-thread.search.found.nodes.items
          c.look.new.search.found.nodes.items inv.steps c.args.at c.loop-thread.thread p.0 inv.within p.1 first next
          program c.args.ground.now.most l c.requires.most seen_so found;
      distinct = distinct_looked c.loop-thread.search.found.nodes.items c.look.new.search.found.nodes.items c.args.at
          c.loop-thread.thread inv.within inv.distinct c.args.ground.now.most l found;
      sound = c.in_ok-looked.ensures.sound;
      keeps = keeps_both old mid new inv.keeps keeps;
      here = λ p e.
          here_more first next file program c.args.ground.now.threads c.args.at mid new keeps mid_within
          c.loop-thread.thread p c.loop-thread.seen c.seen_with-seen.result c.in_ok-looked.field-0 c.in-Some.looked
          (inv.here p e) c.in-Some.is c.in_ok-looked.ensures.looked (inv.keeps c.args.at p e) c.seen_with-seen.ensures;
      ended_is = inv.ended_is;
      few = λ h. c.in_ok-looked.ensures.few (inv.few h);
      seen_same = c.look.ensures.seen ∙ inv.seen_same;
      within = omega (arith, inv.within, more);
    }

pub returns-clause-expanded : goal.returns-clause-expanded
returns-clause-expanded g c =
    let t : Table = table_of c.args.search.now.transitions in
    let first = g.O.Observer.first c.args.ground.now.observer.now in
    let next = g.O.Observer.next c.args.ground.now.observer.now in
    let stands = g.O.Observer.stands c.args.ground.now.observer.now in
    let states : List g.O.Observer.State = map stands c.args.search.now.pool.values.items in
    let nodes : List Node = c.args.search.now.found.nodes.items in
    let file : File = plain_file c.args.ground.now.file.now in
    let program : Program = plain_program c.args.ground.now.program.now in
    let old : List (Noticed g.O.Observer.State) = pairs_of first stands c.args.search.now in
    let within : c.args.at < length old = omega (arith, c.requires.at, pairs_length first t states nodes) in
    let mid : List (Noticed g.O.Observer.State) = pairs_of first stands c.loop-thread.search in
    let inv = c.loop-thread.invariant in
    expanded_end first next file program c.args.ground.now.threads c.args.at old mid inv.keeps within
    c.args.search.now.seen.items c.loop-thread.search.seen.items c.requires.count inv.seen_same c.requires.expanded
    c.loop-thread.thread c.loop-thread.seen c.push.new.self.items c.in_ok-push.ensures.items (omega arith) inv.here

pub returns-clause-distinct : goal.returns-clause-distinct
returns-clause-distinct g c = λ done.
    distinct_path (paths_of c.loop-thread.search.found.nodes.items) c.args.at c.loop-thread.thread
    c.loop-thread.invariant.distinct

pub returns-in_default-clause-steps : goal.returns-in_default-clause-steps
returns-in_default-clause-steps g c =
    let first = g.O.Observer.first c.args.ground.now.observer.now in
    let stands = g.O.Observer.stands c.args.ground.now.observer.now in
    let file : File = plain_file c.args.ground.now.file.now in
    let mid : List (Noticed g.O.Observer.State) = pairs_of first stands c.loop-thread.search in
    let new : List (Noticed g.O.Observer.State) = pairs_of first stands c.look.new.search in
    steps_stay file mid new c.in_ok-looked.ensures.keeps c.loop-thread.search.found.nodes.items
    c.look.new.search.found.nodes.items c.loop-thread.invariant.steps
    (none_then c.in_ok-looked.field-0 c.in_default.not-Some c.in_ok-looked.ensures.same)
