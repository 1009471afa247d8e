-- The methods of a class by name: what a name finds there.
use Rattle.std.specs.Global.{Global}
use Rattle.std.specs.Borrow.{Bor}
use Rattle.std.specs.Prelude.{◌≡◌, ℕ, List, Option, None, Some, option_map, slice_get, String}
use Rattle.indexmap.specs.IndexMap.{IndexMap}
use Rattle.ls_types_elaboration.specs.Trees.{Text}
use Rattle.ls_types_elaboration.specs.Known as known
use Rattle.ls_types_elaboration.specs.Tables.{method_sign_of}
use Rattle.ls_types_elaboration.specs.declared.known.MethodSign.{MethodSign}
use Rattle.ls_types_reading.specs.ByName.{entries_of, value_named}

abbrev pub sign_seen : Bor MethodSign → known.MethodSign
sign_seen m = method_sign_of m.now

abbrev pub finds : {S : Type 0} → IndexMap (String Global) (Bor MethodSign) S → Text → Option known.MethodSign
finds methods name = option_map sign_seen (value_named (entries_of methods) name)

-- what a class declares
abbrev pub declares : known.ClassSign → Text → Option known.MethodSign
declares c name = known.method_named c.methods name

abbrev pub finds_in : {S : Type 0} →
    Option (IndexMap (String Global) (Bor MethodSign) S) →
    Text →
    Option known.MethodSign
finds_in None name = None
finds_in (Some methods) name = finds methods name

-- in the tables of all classes, a name finds what it finds in the classes
abbrev pub Finds : {S : Type 0} → List (IndexMap (String Global) (Bor MethodSign) S) → List known.ClassSign → Type 0
Finds tables classes = (c : ℕ) (name : Text)
    → finds_in (slice_get tables c) name ≡ known.method_named (known.methods_in (slice_get classes c)) name
