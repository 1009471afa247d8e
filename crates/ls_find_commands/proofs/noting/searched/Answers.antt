-- Why `searched` in src/noting.rt keeps its clause `watched`.

use Rattle.std.proofs.Common.{◌≡◌, refl, rules, subst, sym}
use Rattle.ls_find_commands.proofs.noting.searched.Goals as goal

moved : {X : Type 0} (R : X → Type 0) (b b' : X) → b' ≡ b → R b → R b'
moved R b b' e r = subst R (sym e) r

pub returns-clause-watched : goal.returns-clause-watched
returns-clause-watched g c = λ start since.
    let then = c.new-noting.result in
    let told = c.search.ensures.watched then (λ s h. h, refl) in
    let now = c.search.new.watch in
    let name = told.1 in
    moved (g.W.Watch.Since start) now.watch.now _ (search rules)
    (told.0 start (subst (g.W.Watch.Since start) (sym c.new-noting.ensures.same) since))
