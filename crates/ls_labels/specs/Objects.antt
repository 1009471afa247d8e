-- Objects and values in words.
use Rattle.std.specs.Prelude.{ℕ, List, [], ◌∷◌, ◌++◌, nat_eq, codes, if◌then◌else◌}
use Rattle.std.specs.Fmt.{decimal, signed_decimal}
use Rattle.std.specs.Option.{option_map_or}
use Rattle.ls_events.specs.declared.value.Value.{Value}
use Rattle.ls_events.specs.declared.value.Value.TheVariants as values
use Rattle.ls_report.specs.Events.{Text}
use Rattle.ls_report.specs.Lines.{boolean_text}
use Rattle.ls_labels.specs.declared.label.Label.{Label}
use Rattle.ls_labels.specs.declared.label.Label.TheVariants as labels
use Rattle.ls_labels.specs.Labels.{label_at}
use Rattle.ls_labels.specs.Names.{Names, class_name}

-- an object's class or type
abbrev pub label_text : Names → Label → Text
label_text names (labels.Class class) = class_name names class
label_text names labels.Lock = codes "ReentrantLock"
label_text names labels.Markable = codes "AtomicMarkableReference"
label_text names labels.Array = codes "boolean[]"

-- as `Node#3`
abbrev pub object_text : Names → List Label → ℕ → Text
object_text names ls o =
    if nat_eq o 0
    then codes "null"
    else option_map_or (label_text names) (label_at ls o) [] ++ (35 ∷ decimal o)

-- as `5`, `true`, `Node#3`, `(Node#4, false)`
abbrev pub value_text : Names → List Label → Value → Text
value_text names ls (values.Int n) = signed_decimal n
value_text names ls (values.Boolean b) = boolean_text b
value_text names ls (values.Reference o) = object_text names ls o
value_text names ls (values.Pair o mark) = 40 ∷ (object_text names ls o ++
    (codes ", " ++ (boolean_text mark ++ 41 ∷ [])))
