-- Paths as links.
use Rattle.std.specs.Prelude.{ℕ, List, [], ◌∷◌, ◌++◌, Option, None, Some, slice_get}
use Rattle.std.specs.List.{fold}
use Rattle.ls_explore.specs.declared.links.Link.{Link}

-- a path and one more thread, or the empty path where there is none
abbrev pub longer : Option (List ℕ) → ℕ → List ℕ
longer None thread = []
longer (Some path) thread = path ++ thread ∷ []

-- these paths, and that of a link behind them: the path at the link's place and its thread
abbrev pub linked : List (List ℕ) → Link → List (List ℕ)
linked paths link = paths ++ longer (slice_get paths link.before) link.thread ∷ []

-- the paths of links, one after another
unfoldable pub paths_of : List Link → List (List ℕ)
paths_of links = fold linked [] links
