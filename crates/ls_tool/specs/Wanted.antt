-- Which parts a command reads, in words.
use Rattle.std.specs.Prelude.{codes, if◌then◌else◌}
use Rattle.ls_report.specs.Events.{Text}
use Rattle.ls_command_line.specs.declared.words.CommandLine.{CommandLine}
use Rattle.ls_command_line.specs.declared.words.Request.{Request}
use Rattle.ls_command_line.specs.declared.words.Request.TheVariants as requests

abbrev pub two_parts : Text
two_parts = codes "two parts, class text and thread program"

abbrev pub wanted_parts : Request → Text
wanted_parts requests.Check = codes "two parts, history and order"
wanted_parts requests.Order = codes "one part, a history; or three, class text, thread program and history"
wanted_parts (requests.Find seeking) = codes "one part, a class text; or two, class text and menu"
wanted_parts requests.Compile = two_parts
wanted_parts (requests.Live cells limit) = two_parts
wanted_parts (requests.Batch seed count steps switch cells judge) = two_parts
wanted_parts (requests.Sample seed steps switch cells) = two_parts
wanted_parts (requests.Explore cells states illegal first order progress) = two_parts
wanted_parts (requests.Verdict states mixed) = two_parts
wanted_parts (requests.Races states mixed) = two_parts
wanted_parts (requests.Ends states mixed again) = two_parts
wanted_parts (requests.Page paging) =
    codes "two to four parts, class text, thread program, schedule and an order"
wanted_parts requests.Java = codes "one part, a Java file"
wanted_parts requests.Aim = codes "three parts, class text, thread program and targets"
wanted_parts other = codes "three parts, class text, thread program and schedule"

-- by a reference, which is the last part
abbrev pub wanted_by_reference : Request → Text
wanted_by_reference requests.Order = codes "four parts, class text, thread program, history and reference"
wanted_by_reference (requests.Find seeking) =
    codes "two parts, class text and reference; or three, class text, menu and reference"
wanted_by_reference (requests.Page paging) =
    codes "three parts, class text, thread program and reference; or four, with a schedule before the reference"
wanted_by_reference other = codes "three parts, class text, thread program and reference"

abbrev pub wanted_of : CommandLine → Text
wanted_of l = if l.spec then wanted_by_reference l.request else wanted_parts l.request
