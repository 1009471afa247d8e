-- Why `stand` in src/walking.rt keeps its clauses `at`, `code` and `cells`.

use Rattle.std.proofs.Common.{ℕ, List, sym, ap, ◌∙◌}
use Rattle.ls_code.specs.Code.{Code}
use Rattle.ls_code.specs.Machine.{Machine, loaded}
use Rattle.ls_machine.proofs.Back.{runs_keep}
use Rattle.ls_explore.specs.Walks.{root_of, walked}
use Rattle.ls_explore.proofs.Loops.{root_same}
use Rattle.ls_explore.proofs.Saving.{stood}
use Rattle.ls_explore.proofs.Walks.{walked_keeps}
use Rattle.ls_explore.proofs.walking.stand.Goals as goal

pub returns-then-set_as-clause-at : goal.returns-then-set_as-clause-at
returns-then-set_as-clause-at c =
    let old : Machine = c.args.machine.now in
    let setup : List ℕ = c.args.ground.now.setup.now in
    let code = (walked_keeps runs_keep c.args.ground.now.most (root_of old setup) c.args.place.now.path).0 ∙
    (runs_keep (loaded old.code old.cells.limit) setup).0 in
    stood old c.set_as.new.self (walked c.args.ground.now.most (root_of old setup) c.args.place.now.path)
    c.args.place.now.saved.now (c.set_as.ensures.same c.if-set_as.true) c.requires (sym code)

pub returns-clause-at : goal.returns-clause-at
returns-clause-at c =
    let most : ℕ = c.args.ground.now.most in
    let path : List ℕ = c.args.place.now.path in
    c.walk.ensures ∙ ap (λ m. walked most m path) c.go_back.ensures.at
    ∙ ap (λ r. walked most r path)
    (root_same c.args.machine.now c.set_as.new.self c.args.ground.now.setup.now c.set_as.ensures.code
    c.set_as.ensures.cells)

pub returns-clause-code : goal.returns-clause-code
returns-clause-code c =
    let code : Machine → Code = λ m. m.code in
    ap code c.walk.ensures
    ∙ (walked_keeps runs_keep c.args.ground.now.most c.go_back.new.machine c.args.place.now.path).0
    ∙ c.go_back.ensures.code ∙ c.set_as.ensures.code

pub returns-clause-cells : goal.returns-clause-cells
returns-clause-cells c =
    ap (λ (m : Machine). m.cells.limit) c.walk.ensures
    ∙ (walked_keeps runs_keep c.args.ground.now.most c.go_back.new.machine c.args.place.now.path).1
    ∙ c.go_back.ensures.cells ∙ c.set_as.ensures.cells
