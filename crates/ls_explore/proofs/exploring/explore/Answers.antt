-- Why `explore` in src/exploring.rt keeps its contract and what it calls with.

use Rattle.std.proofs.Common.{◌≡◌, ◌∙◌, false, ℕ, List, length, sym, ap, subst, arith}
use Rattle.std.specs.Prelude.{All, Contains}
use Rattle.ls_code.specs.Machine.{Machine}
use Rattle.ls_explore.specs.Bursts.{IsClosed}
use Rattle.ls_explore.specs.declared.searching.Seen.{Seen}
use Rattle.ls_explore.specs.Searches.{AreSaved, IsSound, paths_of}
use Rattle.ls_explore.specs.Walks.{led_to, root_of}
use Rattle.ls_explore.proofs.Closing.{first_there}
use Rattle.ls_explore.proofs.Loops.{root_same}
use Rattle.ls_explore.proofs.Paths.{length-paths}
use Rattle.ls_explore.proofs.Telling.{tells_acts, tells_all, tells_ends, tells_fits, tells_full, tells_narrow}
use Rattle.ls_explore.proofs.Telling.{tells_over, tells_seen, tells_states, tells_truth, tells_whole}
use Rattle.ls_explore.proofs.Walks.{walked_none}
use Rattle.ls_explore.proofs.exploring.explore.Goals as goal

-- the machine after the setup, before and after the search
module _ (m m' : Machine) (setup : List ℕ) (code : m'.code ≡ m.code) (cells : m'.cells.limit ≡ m.cells.limit) where
  pub closed_there : (n threads : ℕ) (paths : List (List ℕ)) →
      IsClosed n threads (led_to n (root_of m setup) paths) →
      IsClosed n threads (led_to n (root_of m' setup) paths)
  closed_there n threads paths h = subst (λ r. IsClosed n threads (led_to n r paths))
      (sym (root_same m m' setup code cells)) h

  pub sound_there : (n threads : ℕ) (paths : List (List ℕ)) (seen : List Seen) →
      IsSound n threads (root_of m setup) paths seen →
      IsSound n threads (root_of m' setup) paths seen
  sound_there n threads paths seen h = subst (λ r. IsSound n threads r paths seen)
      (sym (root_same m m' setup code cells)) h

pub tell-requires-clause-few : goal.tell-requires-clause-few
tell-requires-clause-few g c =
    omega (arith, c.in_ok-found.ensures.sound.few, length-paths c.in_ok-found.found.paths.items)

pub tell-requires-clause-saves : goal.tell-requires-clause-saves
tell-requires-clause-saves g c =
    subst (λ r. AreSaved c.most_steps.result r (paths_of c.in_ok-found.found.paths.items)
    c.in_ok-found.found.saved.items)
    (sym (root_same c.in_ok-walker.walker c.search_with.new.walker c.args.setup.now c.search_with.ensures.code
    c.search_with.ensures.cells)) c.in_ok-found.ensures.saves

pub returns-clause-told : goal.returns-clause-told
returns-clause-told g c =
    let setup : List ℕ = c.args.setup.now in
    let n : ℕ = c.most_steps.result in
    let threads : ℕ = c.args.extent.threads in
    let root : Machine = root_of c.search_with.new.walker setup in
    let paths : List (List ℕ) = paths_of c.in_ok-found.found.paths.items in
    let seen : List Seen = c.in_ok-found.found.seen.items in
    let er = root_same c.in_ok-walker.walker c.search_with.new.walker setup c.search_with.ensures.code
    c.search_with.ensures.cells ∙
    ap (λ (m : Machine). root_of m setup) c.in_ok-walker.ensures.loaded in
    let sound = sound_there c.in_ok-walker.walker c.search_with.new.walker setup c.search_with.ensures.code
    c.search_with.ensures.cells
    n threads paths seen c.in_ok-found.ensures.sound in
    tells_truth c.args.code.now c.args.cells setup threads n root
    c.most_steps.ensures er paths seen sound
    c.in_ok-rows.rows.items c.in_ok-rows.ensures.told

pub returns-clause-acts : goal.returns-clause-acts
returns-clause-acts g c =
    let setup : List ℕ = c.args.setup.now in
    let n : ℕ = c.most_steps.result in
    let threads : ℕ = c.args.extent.threads in
    let root : Machine = root_of c.search_with.new.walker setup in
    let paths : List (List ℕ) = paths_of c.in_ok-found.found.paths.items in
    let seen : List Seen = c.in_ok-found.found.seen.items in
    let er = root_same c.in_ok-walker.walker c.search_with.new.walker setup c.search_with.ensures.code
    c.search_with.ensures.cells ∙
    ap (λ (m : Machine). root_of m setup) c.in_ok-walker.ensures.loaded in
    let sound = sound_there c.in_ok-walker.walker c.search_with.new.walker setup c.search_with.ensures.code
    c.search_with.ensures.cells
    n threads paths seen c.in_ok-found.ensures.sound in
    tells_acts c.args.code.now c.args.cells setup threads n root
    c.most_steps.ensures er paths seen sound
    c.in_ok-rows.rows.items c.in_ok-rows.ensures.told

pub returns-clause-over : goal.returns-clause-over
returns-clause-over g c =
    let setup : List ℕ = c.args.setup.now in
    let n : ℕ = c.most_steps.result in
    let threads : ℕ = c.args.extent.threads in
    let root : Machine = root_of c.search_with.new.walker setup in
    let paths : List (List ℕ) = paths_of c.in_ok-found.found.paths.items in
    let seen : List Seen = c.in_ok-found.found.seen.items in
    let er = root_same c.in_ok-walker.walker c.search_with.new.walker setup c.search_with.ensures.code
    c.search_with.ensures.cells ∙
    ap (λ (m : Machine). root_of m setup) c.in_ok-walker.ensures.loaded in
    let sound = sound_there c.in_ok-walker.walker c.search_with.new.walker setup c.search_with.ensures.code
    c.search_with.ensures.cells
    n threads paths seen c.in_ok-found.ensures.sound in
    tells_over c.args.code.now c.args.cells setup threads n root
    c.most_steps.ensures er paths seen sound
    c.in_ok-rows.rows.items c.in_ok-rows.ensures.told

pub returns-clause-fits : goal.returns-clause-fits
returns-clause-fits g c =
    let setup : List ℕ = c.args.setup.now in
    let n : ℕ = c.most_steps.result in
    let threads : ℕ = c.args.extent.threads in
    let root : Machine = root_of c.search_with.new.walker setup in
    let paths : List (List ℕ) = paths_of c.in_ok-found.found.paths.items in
    let seen : List Seen = c.in_ok-found.found.seen.items in
    let er = root_same c.in_ok-walker.walker c.search_with.new.walker setup c.search_with.ensures.code
    c.search_with.ensures.cells ∙
    ap (λ (m : Machine). root_of m setup) c.in_ok-walker.ensures.loaded in
    let sound = sound_there c.in_ok-walker.walker c.search_with.new.walker setup c.search_with.ensures.code
    c.search_with.ensures.cells
    n threads paths seen c.in_ok-found.ensures.sound in
    tells_fits c.args.code.now c.args.cells setup threads n root
    c.most_steps.ensures er paths seen sound
    c.in_ok-rows.rows.items c.in_ok-rows.ensures.told

pub returns-clause-full : goal.returns-clause-full
returns-clause-full g c =
    let setup : List ℕ = c.args.setup.now in
    let n : ℕ = c.most_steps.result in
    let threads : ℕ = c.args.extent.threads in
    let root : Machine = root_of c.search_with.new.walker setup in
    let paths : List (List ℕ) = paths_of c.in_ok-found.found.paths.items in
    let seen : List Seen = c.in_ok-found.found.seen.items in
    let er = root_same c.in_ok-walker.walker c.search_with.new.walker setup c.search_with.ensures.code
    c.search_with.ensures.cells ∙
    ap (λ (m : Machine). root_of m setup) c.in_ok-walker.ensures.loaded in
    let sound = sound_there c.in_ok-walker.walker c.search_with.new.walker setup c.search_with.ensures.code
    c.search_with.ensures.cells
    n threads paths seen c.in_ok-found.ensures.sound in
    tells_full c.args.code.now c.args.cells setup threads n root
    c.most_steps.ensures er paths seen sound
    c.in_ok-rows.rows.items c.in_ok-rows.ensures.told

pub returns-clause-narrow : goal.returns-clause-narrow
returns-clause-narrow g c = λ no.
    let setup : List ℕ = c.args.setup.now in
    let n : ℕ = c.most_steps.result in
    let threads : ℕ = c.args.extent.threads in
    let root : Machine = root_of c.search_with.new.walker setup in
    let paths : List (List ℕ) = paths_of c.in_ok-found.found.paths.items in
    let seen : List Seen = c.in_ok-found.found.seen.items in
    let er = root_same c.in_ok-walker.walker c.search_with.new.walker setup c.search_with.ensures.code
    c.search_with.ensures.cells ∙
    ap (λ (m : Machine). root_of m setup) c.in_ok-walker.ensures.loaded in
    let sound = sound_there c.in_ok-walker.walker c.search_with.new.walker setup c.search_with.ensures.code
    c.search_with.ensures.cells
    n threads paths seen c.in_ok-found.ensures.sound in
    let some = c.are_roomy.ensures.some no in
    tells_narrow c.args.code.now c.args.cells setup threads n root
    c.most_steps.ensures er paths seen sound some.0
    (subst (λ (l : List Seen). Contains l some.0) c.as_slice.ensures.value some.1) some.2

pub returns-clause-seen : goal.returns-clause-seen
returns-clause-seen g c = λ yes.
    let setup : List ℕ = c.args.setup.now in
    let n : ℕ = c.most_steps.result in
    let threads : ℕ = c.args.extent.threads in
    let root : Machine = root_of c.search_with.new.walker setup in
    let paths : List (List ℕ) = paths_of c.in_ok-found.found.paths.items in
    let seen : List Seen = c.in_ok-found.found.seen.items in
    let er = root_same c.in_ok-walker.walker c.search_with.new.walker setup c.search_with.ensures.code
    c.search_with.ensures.cells ∙
    ap (λ (m : Machine). root_of m setup) c.in_ok-walker.ensures.loaded in
    let sound = sound_there c.in_ok-walker.walker c.search_with.new.walker setup c.search_with.ensures.code
    c.search_with.ensures.cells
    n threads paths seen c.in_ok-found.ensures.sound in
    tells_seen c.args.code.now c.args.cells setup threads n root
    c.most_steps.ensures er paths seen sound
    c.in_ok-rows.rows.items c.in_ok-rows.ensures.told
    (c.in_ok-found.ensures.count yes)

pub returns-clause-tells : goal.returns-clause-tells
returns-clause-tells g c = λ yes.
    let setup : List ℕ = c.args.setup.now in
    let n : ℕ = c.most_steps.result in
    let threads : ℕ = c.args.extent.threads in
    let root : Machine = root_of c.search_with.new.walker setup in
    let paths : List (List ℕ) = paths_of c.in_ok-found.found.paths.items in
    let seen : List Seen = c.in_ok-found.found.seen.items in
    let er = root_same c.in_ok-walker.walker c.search_with.new.walker setup c.search_with.ensures.code
    c.search_with.ensures.cells ∙
    ap (λ (m : Machine). root_of m setup) c.in_ok-walker.ensures.loaded in
    let sound = sound_there c.in_ok-walker.walker c.search_with.new.walker setup c.search_with.ensures.code
    c.search_with.ensures.cells
    n threads paths seen c.in_ok-found.ensures.sound in
    let closed = closed_there c.in_ok-walker.walker c.search_with.new.walker setup c.search_with.ensures.code
    c.search_with.ensures.cells n threads paths (c.in_ok-found.ensures.closed yes) in
    let first : Contains (led_to n root paths) root = first_there n threads root paths sound.first
    (walked_none n root) in
    tells_all c.args.code.now c.args.cells setup threads n root
    c.most_steps.ensures er paths seen sound
    c.in_ok-rows.rows.items c.in_ok-rows.ensures.told
    (c.in_ok-found.ensures.count yes) first closed

pub returns-clause-ends : goal.returns-clause-ends
returns-clause-ends g c = λ yes.
    let setup : List ℕ = c.args.setup.now in
    let n : ℕ = c.most_steps.result in
    let threads : ℕ = c.args.extent.threads in
    let root : Machine = root_of c.search_with.new.walker setup in
    let paths : List (List ℕ) = paths_of c.in_ok-found.found.paths.items in
    let seen : List Seen = c.in_ok-found.found.seen.items in
    let er = root_same c.in_ok-walker.walker c.search_with.new.walker setup c.search_with.ensures.code
    c.search_with.ensures.cells ∙
    ap (λ (m : Machine). root_of m setup) c.in_ok-walker.ensures.loaded in
    let sound = sound_there c.in_ok-walker.walker c.search_with.new.walker setup c.search_with.ensures.code
    c.search_with.ensures.cells
    n threads paths seen c.in_ok-found.ensures.sound in
    let closed = closed_there c.in_ok-walker.walker c.search_with.new.walker setup c.search_with.ensures.code
    c.search_with.ensures.cells n threads paths (c.in_ok-found.ensures.closed yes) in
    let first : Contains (led_to n root paths) root = first_there n threads root paths sound.first
    (walked_none n root) in
    tells_ends c.args.code.now c.args.cells setup threads n root
    c.most_steps.ensures er paths seen sound
    c.in_ok-rows.rows.items c.in_ok-rows.ensures.told
    (c.in_ok-found.ensures.count yes) first closed

pub returns-clause-whole : goal.returns-clause-whole
returns-clause-whole g c = λ yes room.
    let setup : List ℕ = c.args.setup.now in
    let n : ℕ = c.most_steps.result in
    let threads : ℕ = c.args.extent.threads in
    let root : Machine = root_of c.search_with.new.walker setup in
    let paths : List (List ℕ) = paths_of c.in_ok-found.found.paths.items in
    let seen : List Seen = c.in_ok-found.found.seen.items in
    let er = root_same c.in_ok-walker.walker c.search_with.new.walker setup c.search_with.ensures.code
    c.search_with.ensures.cells ∙
    ap (λ (m : Machine). root_of m setup) c.in_ok-walker.ensures.loaded in
    let sound = sound_there c.in_ok-walker.walker c.search_with.new.walker setup c.search_with.ensures.code
    c.search_with.ensures.cells
    n threads paths seen c.in_ok-found.ensures.sound in
    let closed = closed_there c.in_ok-walker.walker c.search_with.new.walker setup c.search_with.ensures.code
    c.search_with.ensures.cells n threads paths (c.in_ok-found.ensures.closed yes) in
    let first : Contains (led_to n root paths) root = first_there n threads root paths sound.first
    (walked_none n root) in
    tells_whole c.args.code.now c.args.cells setup threads n root
    c.most_steps.ensures er paths seen sound
    c.in_ok-rows.rows.items c.in_ok-rows.ensures.told
    (c.in_ok-found.ensures.count yes) first closed
    (subst (λ s. All (λ (x : Seen). x.stops ≡ false) s) c.as_slice.ensures.value (c.are_roomy.ensures.all room))

pub returns-clause-found : goal.returns-clause-found
returns-clause-found g c =
    let setup : List ℕ = c.args.setup.now in
    let n : ℕ = c.most_steps.result in
    let threads : ℕ = c.args.extent.threads in
    let root : Machine = root_of c.search_with.new.walker setup in
    let paths : List (List ℕ) = paths_of c.in_ok-found.found.paths.items in
    let seen : List Seen = c.in_ok-found.found.seen.items in
    let er = root_same c.in_ok-walker.walker c.search_with.new.walker setup c.search_with.ensures.code
    c.search_with.ensures.cells ∙
    ap (λ (m : Machine). root_of m setup) c.in_ok-walker.ensures.loaded in
    let sound = sound_there c.in_ok-walker.walker c.search_with.new.walker setup c.search_with.ensures.code
    c.search_with.ensures.cells
    n threads paths seen c.in_ok-found.ensures.sound in
    let count : length paths ≡ length c.in_ok-found.found.paths.items = length-paths c.in_ok-found.found.paths.items in
    let many : length paths ≡ c.len.result = omega (arith, count) in
    tells_states c.args.code.now c.args.cells setup threads n root
    c.most_steps.ensures er paths seen sound
    c.in_ok-rows.rows.items c.in_ok-rows.ensures.told c.len.result many
    c.in_ok-found.ensures.once

pub returns-clause-alone : goal.returns-clause-alone
returns-clause-alone g c = c.in_ok-rows.ensures.told.alone

pub returns-clause-apart : goal.returns-clause-apart
returns-clause-apart g c = c.in_ok-rows.ensures.told.apart
