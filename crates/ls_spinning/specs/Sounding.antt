-- Steps that come to an event.
use Rattle.std.specs.Prelude.{◌≡◌, ◌⊎◌, ℕ, List, [], ◌∷◌}
use Rattle.ls_checked.specs.CheckedTree.{File}
use Rattle.ls_search_laws.specs.Configuration.{Configuration, stride}
use Rattle.ls_search_laws.specs.Stepping.{events_of}

-- one of these threads' steps, one after another, has an event
abbrev pub Sounds : File → List ℕ → Configuration → Type 0
Sounds file [] c = ⊥
Sounds file (u ∷ path) c = (events_of u (stride file c u).did ≡ [] → ⊥) ⊎ Sounds file path (stride file c u).after
