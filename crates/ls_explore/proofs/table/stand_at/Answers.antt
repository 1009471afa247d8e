-- Why `stand_at` in src/table.rt keeps its clause `at` and what `index` and `stand` require.

use Rattle.std.proofs.Common.{◌≡◌, ◌∙◌, List, ℕ, Some, sym, ap, arith, slice_get}
use Rattle.ls_explore.specs.Searches.{paths_of}
use Rattle.ls_explore.specs.Walks.{root_of, walked}
use Rattle.ls_explore.proofs.Paths.{path_is}
use Rattle.ls_explore.proofs.Saving.{saved_there, saves_within}
use Rattle.ls_explore.proofs.table.stand_at.Goals as goal

some_is : {A : Type 0} {x y : A} → Some x ≡ Some y → x ≡ y
some_is h = cc

pub index-requires : goal.index-requires
index-requires c =
    let within = saves_within c.args.ground.now.most (root_of c.args.walker.now c.args.ground.now.setup.now)
    c.args.found.now.paths.items c.args.found.now.saved.items c.args.at c.requires.saves c.requires.at in
    omega (arith, within, c.args.found.now.saved.ok.0)

pub stand-requires : goal.stand-requires
stand-requires c =
    let path : List ℕ = c.new.result in
    let here : slice_get (paths_of c.args.found.now.paths.items) c.args.at ≡ Some path =
    path_is c.args.found.now.paths.items c.as_slice.result.now c.args.at path c.requires.at c.as_slice.ensures.value
    c.new.ensures in
    saved_there c.args.ground.now.most (root_of c.args.walker.now c.args.ground.now.setup.now)
    c.args.found.now.paths.items c.args.found.now.saved.items c.args.at path c.index.result.now c.requires.saves
    c.requires.at here c.index.ensures

pub returns-clause-at : goal.returns-clause-at
returns-clause-at c = λ p there.
    let path : List ℕ = c.new.result in
    let here : slice_get (paths_of c.args.found.now.paths.items) c.args.at ≡ Some path =
    path_is c.args.found.now.paths.items c.as_slice.result.now c.args.at path c.requires.at c.as_slice.ensures.value
    c.new.ensures in
    c.stand.ensures.at
    ∙ ap (walked c.args.ground.now.most (root_of c.args.walker.now c.args.ground.now.setup.now))
    (some_is (sym here ∙ there))
