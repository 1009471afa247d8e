-- What the loop of `push_declared` in src/flags.rt keeps.
use Rattle.std.proofs.Common.{◌≡◌, ◌++◌, ◌∷◌, [], drop, map}
use Rattle.ls_tree.specs.Views.{bare_declarator}
use Rattle.ls_races.proofs.flags.push_declared.Given as goal

abbrev pub invariant-loop-more : goal.invariant-loop-more
invariant-loop-more l =
    l.flags.items ++ map (λ more. l.flag) (map bare_declarator (drop l._more-index l.declaration.more.items)) ≡
    (l.fn.flags.items ++ l.flag ∷ []) ++ map (λ more. l.flag) (map bare_declarator l.declaration.more.items)
