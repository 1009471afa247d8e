-- Why `Nodes::keep` in src/searching.rt keeps its clauses `kept`, `grown` and `saved`.

use Rattle.std.proofs.Common.{◌≡◌, inr, ℕ, List, [], ◌∷◌, ◌++◌, get_or, ap, ◌∙◌}
use Rattle.ls_machine.specs.Saved.{standing}
use Rattle.ls_explore.specs.Searches.{paths_of}
use Rattle.ls_explore.proofs.Paths.{paths_more}
use Rattle.ls_explore.proofs.Saving.{saved_more}
use Rattle.ls_explore.proofs.searching.Nodes.keep.Goals as goal

pub returns-clause-kept : goal.returns-clause-kept
returns-clause-kept c = λ yes. paths_more c.args.self.now.paths.items c.push.new.self.items c.new-link.result c.args.at
    c.args.thread c.in_ok-push.ensures.items c.new-link.ensures c.requires

pub returns-clause-grown : goal.returns-clause-grown
returns-clause-grown c = inr (paths_more c.args.self.now.paths.items c.push.new.self.items c.new-link.result c.args.at
    c.args.thread c.in_ok-push.ensures.items c.new-link.ensures c.requires)

pub returns-clause-saved : goal.returns-clause-saved
returns-clause-saved c = λ n root is are.
    let old = c.args.self.now.paths.items in
    let p : List ℕ = get_or (paths_of old) c.args.at [] ++ c.args.thread ∷ [] in
    let more : paths_of c.push.new.self.items ≡ paths_of old ++ p ∷ [] =
    paths_more old c.push.new.self.items c.new-link.result c.args.at c.args.thread c.in_ok-push.ensures.items
    c.new-link.ensures c.requires in
    saved_more n root (paths_of old) (paths_of c.push.new.self.items) c.args.self.now.saved.items
    c.push-2.new.self.items p c.in_ok-saved.saved are more c.in_ok-push-2.ensures.items
    (c.in_ok-saved.ensures ∙ ap standing is)
