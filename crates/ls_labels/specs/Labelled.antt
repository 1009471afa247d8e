-- Objects in words, by their labels.
use Rattle.std.specs.Prelude.{ℕ, [], ◌∷◌, ◌++◌, Option, nat_eq, codes, if◌then◌else◌}
use Rattle.std.specs.Fmt.{decimal}
use Rattle.std.specs.Option.{option_map_or}
use Rattle.ls_report.specs.Events.{Text}
use Rattle.ls_labels.specs.declared.label.Label.{Label}
use Rattle.ls_labels.specs.Names.{Names}
use Rattle.ls_labels.specs.Objects.{label_text}
use Rattle.ls_labels.specs.Words.{field_of}

-- an object with this label, or with none
abbrev pub labelled_text : Names → Option Label → ℕ → Text
labelled_text names label o =
    if nat_eq o 0 then codes "null" else option_map_or (label_text names) label [] ++ (35 ∷ decimal o)

-- a field of an object with this label
abbrev pub labelled_field : Names → Option Label → ℕ → ℕ → Text
labelled_field names label o field = labelled_text names label o ++ (46 ∷ option_map_or (field_of names field) label [])
