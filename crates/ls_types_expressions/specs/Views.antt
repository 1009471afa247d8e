-- What contracts see of sites and left sides.
use Rattle.std.specs.Prelude.{List, map, Result}
use Rattle.ls_checked.specs.Plain.{plain}
use Rattle.ls_types_elaboration.specs.declared.rule.Broken.{Broken}
use Rattle.ls_types_expressions.specs.declared.site.Site.{Site}
use Rattle.ls_types_expressions.specs.declared.assignments.Place.{Place}
use Rattle.ls_types_expressions.specs.declared.assignments.Place.TheVariants as places
use Rattle.ls_types_expressions.specs.declared.assignments.Variable.{Variable}
use Rattle.ls_types_expressions.specs.declared.simple_values.Counter.{Counter}
use Rattle.ls_types_expressions.specs.declared.simple_values.Counter.TheVariants as counters
use Rattle.ls_types_elaboration.specs.Elaborated.{Elaborated}
use Rattle.ls_types_elaboration.specs.Known as known
use Rattle.ls_types_elaboration.specs.TypedStatements as typing
use Rattle.ls_types_elaboration.specs.Tables.{local_of}
use Rattle.ls_types_elaboration.specs.Answers.{seen}

-- the locals in scope
abbrev pub locals_of : Site → List known.Local
locals_of s = map local_of s.locals.now

abbrev pub place_of : Place → typing.Place
place_of (places.Slot n) = typing.AtSlot n
place_of (places.Field e f) = typing.AtField (plain e) f
place_of (places.Item a i) = typing.AtItem (plain a) (plain i)

abbrev pub variable_of : Variable → typing.Variable
variable_of v = record { place = place_of v.place; type = v.value_type }

abbrev pub plain_variable : Result Variable Broken → Elaborated typing.Variable
plain_variable r = seen variable_of r

abbrev pub counter_of : Counter → typing.Counter
counter_of (counters.Slot n) = typing.OfSlot n
counter_of (counters.Field target field) = typing.OfField (plain target) field

abbrev pub plain_counter : Result Counter Broken → Elaborated typing.Counter
plain_counter r = seen counter_of r
