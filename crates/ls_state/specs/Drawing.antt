-- The store as a graph in the language of Graphviz: a record for each object, and an arrow for each reference.
use Rattle.std.specs.Prelude.{ℕ, ◌==◌, Bool, List, [], ◌++◌, codes, if◌then◌else◌}
use Rattle.std.specs.Fmt.{decimal}
use Rattle.ls_events.specs.declared.value.Value.{Value}
use Rattle.ls_checked.specs.CheckedProgram.{SetupName}
use Rattle.ls_meaning.specs.Values.{reference_of, mark_of}
use Rattle.ls_meaning.specs.Store.{Store, Hold, Free, HeldBy, Thing, Object, LockOf, Markable, Array, name_at}
use Rattle.ls_report.specs.Events.{Text}
use Rattle.ls_report.specs.Lines.{boolean_text}
use Rattle.ls_labels.specs.declared.label.Label.{Label}
use Rattle.ls_labels.specs.Names.{Names}
use Rattle.ls_labels.specs.Objects.{object_text, value_text}
use Rattle.ls_state.specs.Parts.{numbered, array_text}
use Rattle.ls_state.specs.Objects.{held_text, field_name_of}
use Rattle.ls_state.specs.Scene.{Scene, scene_of}

-- object 3 is the node `o3`, and setup name 0 the node `n0`
abbrev pub object_node : ℕ → Text
object_node o = codes "o" ++ decimal o

abbrev pub name_node : ℕ → Text
name_node n = codes "n" ++ decimal n

-- a label in quotes, which ends its node
abbrev pub label_text : Text → Text
label_text text = codes ", label=\"" ++ (text ++ codes "\"];\n")

-- a row of a record: a port for a reference, as `|<f1> next`; a text for all else, as `|item = 5` and `|next = null`
abbrev pub row_text : Names → List Label → Text → ℕ → Value → Text
row_text names ls name port v =
    if reference_of v == 0
    then codes "|" ++ (name ++ (codes " = " ++ value_text names ls v))
    else codes "|<f" ++ (decimal port ++ (codes "> " ++ name))

abbrev pub field_row : Names → List Label → ℕ → ℕ → Value → Text
field_row names ls o field v = row_text names ls (field_name_of names ls o field) field v

-- what a markable refers to
abbrev pub reference_row : ℕ → Text
reference_row target = if target == 0 then codes "|reference = null" else codes "|<f0> reference"

-- the monitor that a thread owns
abbrev pub monitor_row : Names → Hold → Text
monitor_row names Free = []
monitor_row names (HeldBy owner holds) = codes "|monitor " ++ held_text names.program owner holds

-- the rows under an object's name
abbrev pub rows_text : Names → List Label → ℕ → Thing → Text
rows_text names ls o (Object monitor fields) = numbered (field_row names ls o) 0 fields ++ monitor_row names monitor
rows_text names ls o (LockOf Free) = codes "|free"
rows_text names ls o (LockOf (HeldBy owner holds)) = codes "|" ++ held_text names.program owner holds
rows_text names ls o (Markable pair) =
    codes "|mark = " ++ (boolean_text (mark_of pair) ++ reference_row (reference_of pair))
rows_text names ls o (Array size items) = codes "|" ++ array_text size items

-- a lock that a thread owns is filled; so is an object whose monitor a thread owns
abbrev pub fill_text : Thing → Text
fill_text (LockOf (HeldBy owner holds)) = codes ", style=filled, fillcolor=lightgray"
fill_text (Object (HeldBy owner holds) fields) = codes ", style=filled, fillcolor=lightgray"
fill_text _ = []

abbrev pub head_text : ℕ → Text → Text
head_text o fill = object_node o ++ (codes " [shape=record" ++ fill)

-- as `o3 [shape=record, label="Node#3|item = 5|<f1> next"];`
abbrev pub node_text : Names → List Label → ℕ → Thing → Text
node_text names ls o t = head_text o (fill_text t) ++ label_text (object_text names ls o ++ rows_text names ls o t)

-- an arrow to an object, as `o3:f1 -> o4;`; null has none
abbrev pub arrow_text : Text → Text → ℕ → Text
arrow_text from style target =
    if target == 0 then [] else from ++ (codes " -> " ++ (object_node target ++ (style ++ codes ";\n")))

-- from a port of an object
abbrev pub port_arrow : ℕ → ℕ → Text → ℕ → Text
port_arrow o port style target = arrow_text (object_node o ++ (codes ":f" ++ decimal port)) style target

abbrev pub field_arrow : ℕ → ℕ → Value → Text
field_arrow o field v = port_arrow o field [] (reference_of v)

-- the style of an arrow for a reference with a mark
abbrev pub mark_style : Bool → Text
mark_style mark = if mark then codes " [style=dashed, color=red, label=marked]" else []

abbrev pub arrows_text : ℕ → Thing → Text
arrows_text o (Object monitor fields) = numbered (field_arrow o) 0 fields
arrows_text o (Markable pair) = port_arrow o 0 (mark_style (mark_of pair)) (reference_of pair)
arrows_text o _ = []

abbrev pub drawn_thing : Names → List Label → ℕ → Thing → Text
drawn_thing names ls o t = node_text names ls o t ++ arrows_text o t

abbrev pub null_text : ℕ → Text
null_text target = if target == 0 then codes " = null" else []

-- a setup name, as `n0 [shape=plaintext, label="l"];` and `n0 -> o1;`, or `n0 [shape=plaintext, label="l = null"];`
abbrev pub drawn_name_of : ℕ → Text → ℕ → Text
drawn_name_of n name target =
    name_node n ++ (codes " [shape=plaintext" ++ (label_text (name ++ null_text target)
    ++ arrow_text (name_node n) [] target))

abbrev pub drawn_name : Store → ℕ → SetupName → Text
drawn_name s n name = drawn_name_of n name.name (reference_of (name_at s n))

abbrev pub graph_of : Names → Scene → Text
graph_of names scene =
    codes "digraph state {\nrankdir=LR;\n"
    ++ (numbered (drawn_thing names scene.labels) 1 scene.state.store.things
    ++ (numbered (drawn_name scene.state.store) 0 names.program.names ++ codes "}\n"))

-- the objects and the setup names after a schedule
abbrev pub drawing_text : Names → List ℕ → Text
drawing_text names schedule = graph_of names (scene_of names schedule)
