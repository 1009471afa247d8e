-- Values by name, of each name the first: what an index map of names holds, and what a name finds there.
use Rattle.std.specs.Global.{Global}
use Rattle.std.specs.Prelude.{List, [], ◌∷◌, ◌++◌, map, Option, None, Some, String, string_bytes, bytes_eq}
use Rattle.std.specs.Prelude.{if◌then◌else◌, is_some}
use Rattle.indexmap.specs.IndexMap.{IndexMap}
use Rattle.ls_types_elaboration.specs.Trees.{Text}

abbrev pub entries_of : {V S : Type 0} → IndexMap (String Global) V S → List (Text × V)
entries_of m = map (λ e. (string_bytes e.0, e.1)) m.entries

abbrev pub value_named : {V : Type 0} → List (Text × V) → Text → Option V
value_named [] name = None
value_named (e ∷ es) name = if bytes_eq e.0 name then Some e.1 else value_named es name

-- a name that has a value keeps it
abbrev pub with_first : {V : Type 0} → List (Text × V) → Text → V → List (Text × V)
with_first es name v = if is_some (value_named es name) then es else es ++ (name, v) ∷ []
