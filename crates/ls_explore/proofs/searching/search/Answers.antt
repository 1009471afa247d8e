-- Why `search` in src/searching.rt keeps its clause `few` and what `close` requires.

use Rattle.std.proofs.Common.{ℕ, List, [], ◌∷◌, arith, length, map, sym, ap, ◌∙◌}
use Rattle.ls_code.specs.Machine.{Machine}
use Rattle.ls_machine.specs.Saved.{standing}
use Rattle.ls_explore.specs.Searches.{paths_of}
use Rattle.ls_explore.specs.Walks.{root_of, walked}
use Rattle.ls_explore.proofs.Distinct.{distinct_first}
use Rattle.ls_explore.proofs.Loops.{root_same, sound_first}
use Rattle.ls_explore.proofs.Paths.{length-paths}
use Rattle.ls_explore.proofs.Walks.{walked_none}
use Rattle.ls_explore.proofs.searching.search.Goals as goal

pub close-requires-clause-sound : goal.close-requires-clause-sound
close-requires-clause-sound g c =
    sound_first c.args.ground.now.most c.args.ground.now.threads (root_of c.args.walker.now c.args.ground.now.setup.now)
    (paths_of c.in_ok-nodes.nodes.paths.items) c.in_ok-nodes.nodes.seen.items c.in_ok-nodes.ensures.paths
    c.in_ok-nodes.ensures.seen

pub close-requires-clause-saves : goal.close-requires-clause-saves
close-requires-clause-saves g c =
    let most : ℕ = c.args.ground.now.most in
    let setup : List ℕ = c.args.ground.now.setup.now in
    let same = root_same c.args.walker.now c.args.other.now setup (sym c.requires.code) (sym c.requires.cells) in
    c.in_ok-nodes.ensures.saved
    ∙ ap (λ (m : Machine). standing m ∷ [])
    (c.go_back.ensures.at ∙ same ∙ sym (walked_none most (root_of c.args.walker.now setup)))
    ∙ sym (ap (map (λ (path : List ℕ). standing (walked most (root_of c.args.walker.now setup) path)))
    c.in_ok-nodes.ensures.paths)

pub close-requires-clause-distinct : goal.close-requires-clause-distinct
close-requires-clause-distinct g c =
    distinct_first (paths_of c.in_ok-nodes.nodes.paths.items) c.in_ok-nodes.ensures.paths

pub returns-clause-few : goal.returns-clause-few
returns-clause-few g c = λ some.
    c.in_ok-complete.ensures.few (omega (
      arith,
      some,
      length-paths c.in_ok-nodes.nodes.paths.items,
      ap length c.in_ok-nodes.ensures.paths,
    ))
