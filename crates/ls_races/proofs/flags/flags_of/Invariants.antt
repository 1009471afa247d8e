-- What the loop `class` of `flags_of` in src/flags.rt keeps.
use Rattle.std.proofs.Common.{◌≡◌, ◌++◌, drop, map}
use Rattle.ls_tree.specs.Views.{bare_class}
use Rattle.ls_races.specs.Flags.{flags_of}
use Rattle.ls_races.proofs.flags.flags_of.Given as goal

abbrev pub invariant-loop-class : goal.invariant-loop-class
invariant-loop-class l =
    map (λ f. f.items) l.flags.items ++ flags_of (map bare_class (drop l.class-index l.classes)) ≡
    flags_of (map bare_class l.classes)
