-- Why `row_at` in src/table.rt keeps its clause `row`.

use Rattle.std.proofs.Common.{◌≡◌, ◌∙◌, List, ℕ, Some, sym, ap, slice_get}
use Rattle.ls_code.specs.Machine.{Machine}
use Rattle.ls_explore.specs.Rows.{Told, ending_of}
use Rattle.ls_explore.specs.Searches.{paths_of}
use Rattle.ls_explore.specs.Walks.{root_of, walked}
use Rattle.ls_explore.proofs.Paths.{path_is}
use Rattle.ls_explore.proofs.table.row_at.Goals as goal

pub returns-clause-row : goal.returns-clause-row
returns-clause-row c =
    let most : ℕ = c.args.ground.now.most in
    let root : Machine = root_of c.args.walker.now c.args.ground.now.setup.now in
    let paths : List (List ℕ) = paths_of c.args.found.now.paths.items in
    let row : Told = c.in_ok-row.row in
    let path : List ℕ = c.new.result in
    let here : slice_get paths c.args.at ≡ Some path =
    path_is c.args.found.now.paths.items c.as_slice.result.now c.args.at path c.requires.at c.as_slice.ensures.value
    c.new.ensures in
    let is : row.path ≡ path =
    ap (λ (r : Told). r.path) c.in_ok-row.ensures ∙ c.as_slice-2.ensures.value ∙ c.in_ok-path.ensures in
    record {
      here = here ∙ ap Some (sym is);
      history =
          ap (λ (r : Told). r.history) c.in_ok-row.ensures
          ∙ c.history.ensures
          ∙ ap (λ (m : Machine). m.history) (c.stand_at.ensures.at path here)
          ∙ ap (λ p. (walked most root p).history) (sym is);
      ending = ap (λ (r : Told). r.ending) c.in_ok-row.ensures ∙ c.ending_of-ending.ensures ∙
          ap ending_of c.seen_at.ensures;
    }
