-- Why `look` in src/searching.rt keeps its contract and what it calls with.

use Rattle.std.proofs.Common.{◌≡◌, ℕ, ◌++◌, List, [], ◌∷◌, get_or, Some, sym, ap, ◌∙◌, subst, arith, slice_get}
use Rattle.ls_code.specs.Machine.{Machine, loaded}
use Rattle.ls_machine.proofs.Back.{runs_keep}
use Rattle.ls_preservation.specs.Acting.{first_did}
use Rattle.ls_preservation.proofs.Lists.{index_there}
use Rattle.ls_explore.specs.declared.links.Link.{Link}
use Rattle.ls_explore.specs.Walks.{root_of, walked}
use Rattle.ls_explore.specs.Searches.{Leads, paths_of}
use Rattle.ls_explore.proofs.Closing.{acts_grown, leads_new, leads_none, leads_there}
use Rattle.ls_explore.proofs.Distinct.{distinct_grown, distinct_same}
use Rattle.ls_explore.proofs.Paths.{path_is}
use Rattle.ls_explore.proofs.Saving.{saved_there, saves_within, there_saved}
use Rattle.ls_explore.proofs.Walks.{walked_keeps}
use Rattle.ls_explore.proofs.searching.look.Goals as goal

-- the path at a place, twice told
at_place : (paths : List Link) (at : ℕ) (path : List ℕ) →
    slice_get (paths_of paths) at ≡ Some path →
    get_or (paths_of paths) at [] ≡ path
at_place paths at path here = index_there (paths_of paths) at path [] here

pub returns-then-not-has_acted-clause-leads : goal.returns-then-not-has_acted-clause-leads
returns-then-not-has_acted-clause-leads c =
    let root : Machine = root_of c.args.walker.now c.args.ground.now.setup.now in
    let path : List ℕ = c.new.result in
    let old : List (List ℕ) = paths_of c.args.nodes.now.paths.items in
    let here : slice_get old c.args.at ≡ Some path =
    path_is c.args.nodes.now.paths.items c.as_slice.result.now c.args.at path c.requires.at c.as_slice.ensures.value
    c.new.ensures in
    subst (λ p. Leads c.args.ground.now.most root old p c.args.thread)
    (sym (at_place c.args.nodes.now.paths.items c.args.at path here))
    (leads_none c.args.ground.now.most 0 root old path c.args.thread
    (c.see-did.ensures.none (sym c.has_acted.ensures ∙ c.if-not-has_acted.true)))

pub returns-then-not-has_acted-clause-did : goal.returns-then-not-has_acted-clause-did
returns-then-not-has_acted-clause-did c =
    let root : Machine = root_of c.args.walker.now c.args.ground.now.setup.now in
    let path : List ℕ = c.new.result in
    let here : slice_get (paths_of c.args.nodes.now.paths.items) c.args.at ≡ Some path =
    path_is c.args.nodes.now.paths.items c.as_slice.result.now c.args.at path c.requires.at c.as_slice.ensures.value
    c.new.ensures in
    c.see-did.ensures.did ∙ ap (λ p. first_did c.args.ground.now.most (walked c.args.ground.now.most root p)
    c.args.thread) (sym (at_place c.args.nodes.now.paths.items c.args.at path here))

pub index-requires : goal.index-requires
index-requires c =
    let within = saves_within c.args.ground.now.most (root_of c.args.walker.now c.args.ground.now.setup.now)
    c.args.nodes.now.paths.items c.args.nodes.now.saved.items c.args.at c.requires.saves c.requires.at in
    omega (arith, within, c.args.nodes.now.saved.ok.0)

pub see-did-requires-clause-saves : goal.see-did-requires-clause-saves
see-did-requires-clause-saves c =
    let path : List ℕ = c.new.result in
    let here : slice_get (paths_of c.args.nodes.now.paths.items) c.args.at ≡ Some path =
    path_is c.args.nodes.now.paths.items c.as_slice.result.now c.args.at path c.requires.at c.as_slice.ensures.value
    c.new.ensures in
    saved_there c.args.ground.now.most (root_of c.args.walker.now c.args.ground.now.setup.now)
    c.args.nodes.now.paths.items c.args.nodes.now.saved.items c.args.at path c.index.result.now c.requires.saves
    c.requires.at here c.index.ensures

pub returns-then-has-clause-leads : goal.returns-then-has-clause-leads
returns-then-has-clause-leads c =
    let most : ℕ = c.args.ground.now.most in
    let setup : List ℕ = c.args.ground.now.setup.now in
    let walker : Machine = c.args.walker.now in
    let root : Machine = root_of walker setup in
    let path : List ℕ = c.new.result in
    let old : List (List ℕ) = paths_of c.args.nodes.now.paths.items in
    let here : slice_get old c.args.at ≡ Some path =
    path_is c.args.nodes.now.paths.items c.as_slice.result.now c.args.at path c.requires.at c.as_slice.ensures.value
    c.new.ensures in
    let acted = sym c.has_acted.ensures ∙ c.if-not-has_acted.false in
    let code : (p : List ℕ) → (walked most root p).code ≡ c.see-did.new.machine.code = λ p.
    (walked_keeps runs_keep most root p).0 ∙ (runs_keep (loaded walker.code walker.cells.limit) setup).0 ∙
    sym c.see-did.ensures.code in
    subst (λ p. Leads most root old p c.args.thread) (sym (at_place c.args.nodes.now.paths.items c.args.at path here))
    (leads_there most 0 root old path c.args.thread c.see-did.new.machine (c.see-did.ensures.acts acted)
    (there_saved most root old c.args.nodes.now.saved.items c.see-did.new.machine code c.requires.saves
    (c.has.ensures c.if-has.true)))

pub returns-then-has-clause-did : goal.returns-then-has-clause-did
returns-then-has-clause-did c =
    let root : Machine = root_of c.args.walker.now c.args.ground.now.setup.now in
    let path : List ℕ = c.new.result in
    let here : slice_get (paths_of c.args.nodes.now.paths.items) c.args.at ≡ Some path =
    path_is c.args.nodes.now.paths.items c.as_slice.result.now c.args.at path c.requires.at c.as_slice.ensures.value
    c.new.ensures in
    c.see-did.ensures.did ∙ ap (λ p. first_did c.args.ground.now.most (walked c.args.ground.now.most root p)
    c.args.thread) (sym (at_place c.args.nodes.now.paths.items c.args.at path here))

pub returns-clause-leads : goal.returns-clause-leads
returns-clause-leads c =
    let most : ℕ = c.args.ground.now.most in
    let root : Machine = root_of c.args.walker.now c.args.ground.now.setup.now in
    let path : List ℕ = c.new.result in
    let old : List (List ℕ) = paths_of c.args.nodes.now.paths.items in
    let new : List (List ℕ) = paths_of c.keep.new.self.paths.items in
    let here : slice_get old c.args.at ≡ Some path =
    path_is c.args.nodes.now.paths.items c.as_slice.result.now c.args.at path c.requires.at c.as_slice.ensures.value
    c.new.ensures in
    let is : get_or old c.args.at [] ≡ path = at_place c.args.nodes.now.paths.items c.args.at path here in
    let acted = sym c.has_acted.ensures ∙ c.if-not-has_acted.false in
    subst (λ p. Leads most root new p c.args.thread) (sym is)
    (leads_new most 0 root old new path c.args.thread c.see-did.new.machine (path ++ c.args.thread ∷ [])
    (c.see-did.ensures.acts acted) (c.see-did.ensures.at acted)
    (c.in_ok-keep.ensures.kept c.if-not-branch.false ∙ ap (λ p. old ++ (p ++ c.args.thread ∷ []) ∷ []) is))

pub returns-clause-acts : goal.returns-clause-acts
returns-clause-acts c =
    let most : ℕ = c.args.ground.now.most in
    let root : Machine = root_of c.args.walker.now c.args.ground.now.setup.now in
    let path : List ℕ = c.new.result in
    let old : List (List ℕ) = paths_of c.args.nodes.now.paths.items in
    let new : List (List ℕ) = paths_of c.keep.new.self.paths.items in
    let here : slice_get old c.args.at ≡ Some path =
    path_is c.args.nodes.now.paths.items c.as_slice.result.now c.args.at path c.requires.at c.as_slice.ensures.value
    c.new.ensures in
    let acted = sym c.has_acted.ensures ∙ c.if-not-has_acted.false in
    acts_grown most 0 root old new c.args.at path (get_or old c.args.at []) c.args.thread c.see-did.new.machine here
    (at_place c.args.nodes.now.paths.items c.args.at path here) (c.see-did.ensures.acts acted)
    (c.see-did.ensures.at acted) c.in_ok-keep.ensures.grown

pub returns-clause-did : goal.returns-clause-did
returns-clause-did c =
    let root : Machine = root_of c.args.walker.now c.args.ground.now.setup.now in
    let path : List ℕ = c.new.result in
    let here : slice_get (paths_of c.args.nodes.now.paths.items) c.args.at ≡ Some path =
    path_is c.args.nodes.now.paths.items c.as_slice.result.now c.args.at path c.requires.at c.as_slice.ensures.value
    c.new.ensures in
    c.see-did.ensures.did ∙ ap (λ p. first_did c.args.ground.now.most (walked c.args.ground.now.most root p)
    c.args.thread) (sym (at_place c.args.nodes.now.paths.items c.args.at path here))

pub returns-clause-saves : goal.returns-clause-saves
returns-clause-saves c =
    let most : ℕ = c.args.ground.now.most in
    let root : Machine = root_of c.args.walker.now c.args.ground.now.setup.now in
    let path : List ℕ = c.new.result in
    let here : slice_get (paths_of c.args.nodes.now.paths.items) c.args.at ≡ Some path =
    path_is c.args.nodes.now.paths.items c.as_slice.result.now c.args.at path c.requires.at c.as_slice.ensures.value
    c.new.ensures in
    let is = at_place c.args.nodes.now.paths.items c.args.at path here in
    let acted = sym c.has_acted.ensures ∙ c.if-not-has_acted.false in
    c.in_ok-keep.ensures.saved most root (c.see-did.ensures.at acted ∙
    ap (λ p. walked most root (p ++ c.args.thread ∷ [])) (sym is)) c.requires.saves

pub returns-then-not-has_acted-clause-distinct : goal.returns-then-not-has_acted-clause-distinct
returns-then-not-has_acted-clause-distinct c = distinct_same (paths_of c.args.nodes.now.paths.items) c.args.at
    c.args.thread

pub returns-then-has-clause-distinct : goal.returns-then-has-clause-distinct
returns-then-has-clause-distinct c = distinct_same (paths_of c.args.nodes.now.paths.items) c.args.at c.args.thread

pub returns-then-not-branch-clause-distinct : goal.returns-then-not-branch-clause-distinct
returns-then-not-branch-clause-distinct c =
    let path : List ℕ = c.new.result in
    let here : slice_get (paths_of c.args.nodes.now.paths.items) c.args.at ≡ Some path =
    path_is c.args.nodes.now.paths.items c.as_slice.result.now c.args.at path c.requires.at c.as_slice.ensures.value
    c.new.ensures in
    distinct_grown (paths_of c.args.nodes.now.paths.items) (paths_of c.keep.new.self.paths.items) c.args.at
    c.args.thread (get_or (paths_of c.args.nodes.now.paths.items) c.args.at [])
    (here ∙ ap Some (sym (at_place c.args.nodes.now.paths.items c.args.at path here))) c.in_ok-keep.ensures.grown

pub returns-clause-distinct : goal.returns-clause-distinct
returns-clause-distinct c =
    let path : List ℕ = c.new.result in
    let here : slice_get (paths_of c.args.nodes.now.paths.items) c.args.at ≡ Some path =
    path_is c.args.nodes.now.paths.items c.as_slice.result.now c.args.at path c.requires.at c.as_slice.ensures.value
    c.new.ensures in
    distinct_grown (paths_of c.args.nodes.now.paths.items) (paths_of c.keep.new.self.paths.items) c.args.at
    c.args.thread (get_or (paths_of c.args.nodes.now.paths.items) c.args.at [])
    (here ∙ ap Some (sym (at_place c.args.nodes.now.paths.items c.args.at path here))) c.in_ok-keep.ensures.grown
